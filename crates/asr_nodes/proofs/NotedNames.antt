-- Names that are put into sets, and sets of names that are put under tables.
use Rattle.std.proofs.Common.{◌≡◌, ℕ, Bool, true, false, ◌&&◌, ◌||◌, ◌==◌, cond, List, [], ◌∷◌, map, Option, Some, None, Vec, Global, Result, Ok, Err, OnOk, OnErr, refl, sym, ap, subst, ◌∙◌, arith}
use Rattle.std.specs.BTreeMap.{is_at}
use Rattle.std.specs.BTreeSet.{insert_key}
use Rattle.std.specs.Cmp.Lexicographic.{slice_cmp}
use Rattle.std.specs.List.{list_any}
use Rattle.std.specs.Map.{lookup, set_value}
use Rattle.std.specs.Ordering.{is_eq, match_ordering, nat_cmp}
use Rattle.std.specs.declared.cmp.Ordering.{Ordering}
use Rattle.std.specs.declared.cmp.Ordering.TheVariants.{Less, Equal, Greater}
use Rattle.std.specs.Str.{bytes_eq}
use Rattle.std.proofs.lemmas.Map.Lookups.{exact_bytes}
use Rattle.std.proofs.lemmas.Bool.Decides.{nat_tests}
use Rattle.std.proofs.lemmas.Map.Text.{is_eq-slice_cmp}
use Rattle.std.proofs.lemmas.Map.Steps.{set_value_same}
use Rattle.std.specs.Cmp.{unsigned_tied}
use Rattle.lf_base.specs.declared.fault.Memory.{Memory}
use Rattle.lf_base.specs.declared.id.TableId.{TableId}
use Rattle.asr_nodes.specs.Noted.{Noted, Adds, Notes, is_among, is_noted, names_noted}

abbrev Key : Type 0
Key = Vec ℕ Global

abbrev names : List Key → List (List ℕ)
names = map (λ key. key.items)

abbrev order : Key → Key → Ordering
order x y = slice_cmp nat_cmp x.items y.items

-- What is looked up by its bytes, is looked for among the names.
pub among_is : (name : List ℕ) (keys : List Key) → list_any (is_at (λ key. slice_cmp nat_cmp name key.items)) keys ≡ is_among name (names keys)
among_is name [] = refl
among_is name (key ∷ keys) = λ i. is_eq-slice_cmp name key.items i || among_is name keys i

twice : (a b : Bool) → (a || b) ≡ (a || (a || b))
twice true b = refl
twice false b = refl

second : (a b c : Bool) → (a || (b || c)) ≡ (b || (a || c))
second true true c = refl
second true false c = refl
second false b c = refl

abbrev Among : List ℕ → Key → List Key → Type 0
Among name key keys = is_among name (names (insert_key order keys key)) ≡ (bytes_eq name key.items || is_among name (names keys))

among_next : (name : List ℕ) (key first : Key) (keys : List Key) (o : Ordering) → order key first ≡ o → Among name key keys
    → is_among name (names (match_ordering o (key ∷ first ∷ keys) (first ∷ keys) (first ∷ insert_key order keys key))) ≡ (bytes_eq name key.items || (bytes_eq name first.items || is_among name (names keys)))
among_next name key first keys Less e more = refl
among_next name key first keys Equal e more = twice (bytes_eq name first.items) (is_among name (names keys)) ∙ ap (λ x. bytes_eq name x || (bytes_eq name first.items || is_among name (names keys))) (sym (exact_bytes key.items first.items e))
among_next name key first keys Greater e more = ap (λ r. bytes_eq name first.items || r) more ∙ second (bytes_eq name first.items) (bytes_eq name key.items) (is_among name (names keys))

among_more : (name : List ℕ) (key : Key) (keys : List Key) → Among name key keys
among_more name key [] = refl
among_more name key (first ∷ keys) = among_next name key first keys (order key first) refl (among_more name key keys)

pub added : (key : Key) (old new : List Key) (was : List (List ℕ)) → names old ≡ was → new ≡ insert_key order old key → Adds key.items was (names new)
added key old new was o e = record { among = λ n. ap (λ ks. is_among n (names ks)) e ∙ among_more n key old ∙ ap (λ ns. bytes_eq n key.items || is_among n ns) o }

-- The names of a table are what is looked up under its number.
abbrev found : Option (List (List ℕ)) → List (List ℕ)
found None = []
found (Some it) = it

found_cond : (b : Bool) (it : List (List ℕ)) (more : Option (List (List ℕ))) → found (cond b (Some it) more) ≡ cond b it (found more)
found_cond true it more = refl
found_cond false it more = refl

names_are : (t : ℕ) (noted : Noted) → names_noted t noted ≡ found (lookup (is_at (nat_cmp t)) noted)
names_are t [] = refl
names_are t (e ∷ es) =
    (λ i. cond (sym (unsigned_tied t e.0) i) e.1 (names_are t es i))
    ∙ sym (found_cond (is_eq (nat_cmp t e.0)) e.1 (lookup (is_at (nat_cmp t)) es))

pub noted_at : (t : ℕ) (noted : Noted) (o : Option (List (List ℕ))) → o ≡ lookup (is_at (nat_cmp t)) noted → names_noted t noted ≡ found o
noted_at t noted o e = names_are t noted ∙ ap found (sym e)

pub noted_none : (t : ℕ) (noted : Noted) → None ≡ lookup (is_at (nat_cmp t)) noted → names_noted t noted ≡ []
noted_none t noted e = noted_at t noted None e

abbrev HasNow : (t : TableId) (old new : Noted) → List (List ℕ) → Type 0
HasNow t old new names = (q : ℕ) → lookup (is_at (nat_cmp q)) new ≡ cond (is_at (nat_cmp t.0) q) (Some names) (lookup (is_at (nat_cmp q)) old)

equal : (x y : ℕ) → (x == y) ≡ true → x ≡ y
equal x y e = grind (arith, nat_tests)

names_of : (t : TableId) (old new : Noted) (names : List (List ℕ)) → HasNow t old new names → (u : TableId) → names_noted u.0 new ≡ cond (t.0 == u.0) names (names_noted u.0 old)
names_of t old new names has u =
    names_are u.0 new
    ∙ ap found (has u.0)
    ∙ found_cond (is_at (nat_cmp t.0) u.0) names (lookup (is_at (nat_cmp u.0)) old)
    ∙ (λ i. cond (unsigned_tied t.0 u.0 i) names (sym (names_are u.0 old) i))

notes_at : (t : TableId) (name : List ℕ) (old : Noted) (names : List (List ℕ)) → Adds name (names_noted t.0 old) names → (u : TableId) (n : List ℕ) (b : Bool) → (t.0 == u.0) ≡ b
    → is_among n (cond b names (names_noted u.0 old)) ≡ ((b && bytes_eq n name) || is_noted u n old)
notes_at t name old names adds u n false e = refl
notes_at t name old names adds u n true e = adds.among n ∙ ap (λ v. bytes_eq n name || is_among n (names_noted v old)) (equal t.0 u.0 e)

-- One table has other names, and all others those that they had.
notes : (t : TableId) (name : List ℕ) (old new : Noted) (names : List (List ℕ)) → Adds name (names_noted t.0 old) names → HasNow t old new names → Notes t name old new
notes t name old new names adds has = record { noted = λ u n. ap (is_among n) (names_of t old new names has u) ∙ notes_at t name old names adds u n (t.0 == u.0) refl }

pub first_notes : (t : TableId) (name : List ℕ) (old new : Noted) (was names : List (List ℕ)) → names_noted t.0 old ≡ [] → was ≡ [] → Adds name was names → HasNow t old new names → Notes t name old new
first_notes t name old new was names none is adds has = notes t name old new names (subst (λ ns. Adds name ns names) (is ∙ sym none) adds) has

pub some_notes : (r : Result (Unit {0}) Memory) (t : TableId) (name : List ℕ) (old new : Noted) (was names : List (List ℕ)) → Some was ≡ lookup (is_at (nat_cmp t.0)) old → OnOk r (Adds name was names) → HasNow t old new names → OnOk r (Notes t name old new)
some_notes (Ok _) t name old new was names at adds has = notes t name old new names (subst (λ ns. Adds name ns names) (sym (noted_at t.0 old (Some was) at)) adds) has
some_notes (Err fault) t name old new was names at adds has = tt

-- names that are as they were, written back
pub same_entries : (r : Result (Unit {0}) Memory) (t : ℕ) (old new : Noted) (was names : List (List ℕ)) → Some was ≡ lookup (is_at (nat_cmp t)) old → OnErr r (names ≡ was) → new ≡ set_value (is_at (nat_cmp t)) old names → OnErr r (new ≡ old)
same_entries (Ok _) t old new was names at same is = tt
same_entries (Err fault) t old new was names at same is = is ∙ ap (set_value (is_at (nat_cmp t)) old) same ∙ set_value_same (is_at (nat_cmp t)) old was (sym at)

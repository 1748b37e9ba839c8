-- What a target has after an assignment is of its type.
use Rattle.std.proofs.Common.{◌≡◌, ℕ, zero, suc, ◌+◌, ◌-◌, ◌≤◌, min, Bool, true, false, refl, ◌∙◌, ap, subst, arith, nat_le, if◌then◌else◌, List, [], ◌∷◌, ◌++◌, length, replicate, length-append, length-take, append_assoc, Ok}
use Rattle.std.proofs.lemmas.List.{length-replicate}
use Rattle.lf_base.specs.declared.trap.Trap.TheVariants.{LengthLimit}
use Rattle.type_rules.specs.Values.{Scalar, Integer, Logical, Characters, Evaluation, Gives, Traps, NoRule, fitted, is_kind, is_constant, constant_of}
use Rattle.type_rules.specs.Characters.{in_length, padded}
use Rattle.type_rules.specs.Store.{Single}
use Rattle.type_rules.specs.Shapes.{Definitions, IsValue, scalar_type}
use Rattle.type_rules.specs.Assignment.{of_length, assigned_scalar}
use Rattle.type_rules.proofs.Judging.{type_of_scalar}
use Rattle.type_rules.proofs.Reductions.{Good, good_fitted}
use Rattle.type_rules.specs.declared.ty.Elem.{Elem}
use Rattle.type_rules.specs.declared.ty.Elem.TheVariants as elem
use Rattle.type_rules.specs.declared.ty.Len.{Len}
use Rattle.type_rules.specs.declared.ty.Len.TheVariants as len
use Rattle.std.proofs.lemmas.Bool.{and_parts, and_from}
use Rattle.std.proofs.lemmas.Bool.Decides.{Decides-eqb}
use Rattle.lf_base.specs.declared.trap.Trap.TheVariants.{ShapeMismatch}
use Rattle.type_rules.specs.Values.{and_then}
use Rattle.type_rules.specs.Store.{Value, Array, Record, Values, none, more, size_of, same_numbers}
use Rattle.type_rules.specs.Shapes.{shape_of, shapes_of, is_of, are_of, is_array, is_element, are_extents, count_shapes}
use Rattle.std.proofs.Common.{◌==◌, ◌&&◌, sym}
use Rattle.type_rules.specs.Arrays.{single}
use Rattle.type_rules.specs.Assignment.{assigned_record, assigned_part, assigned_each, copies, spread, in_extents, assigned, from_extents, IsIntrinsic}
use Rattle.type_rules.specs.declared.ty.Ty.{Ty}
use Rattle.type_rules.specs.declared.ty.Dim.{Dim}
use Rattle.type_rules.proofs.Disjoint.{numbers_equal}
use Rattle.type_rules.proofs.Judging.{scalar_of_type}
use Rattle.type_rules.proofs.Arrayed.{Plain, array_of}
use Rattle.type_rules.proofs.Reductions.{Closed}

abbrev pub blanks : ℕ → List ℕ
blanks n = replicate n 32

abbrev blank : List ℕ
blank = 32 ∷ []

in_length_long : (n : ℕ) (text : List ℕ) → length (in_length n text) ≡ n
in_length_long n text = length-take n (padded n text) ∙ by (length-append text (blanks (n - length text))) (long (n - length text))
  where
    long : (m : ℕ) → length (blanks m) ≡ m
    long m = length-replicate m _

    by : length (padded n text) ≡ length text + length (blanks (n - length text)) → length (blanks (n - length text)) ≡ n - length text → min n (length (padded n text)) ≡ n
    by e f = omega arith

good_text : (n : Len) (text : List ℕ) → nat_le (length text) 65535 ≡ true → Good (elem.Character n) (of_length n text)
good_text (len.Fixed n) text h = by (nat_le n 65535) refl
  where
    by : (t : Bool) → nat_le n 65535 ≡ t → Good (elem.Character (len.Fixed n)) (if t then Gives (Characters (in_length n text)) else Traps LengthLimit)
    by true e = (in_length_long n text, ap (λ (m : ℕ). nat_le m 65535) (in_length_long n text) ∙ e)
    by false e = tt
good_text len.Assumed text h = (tt, h)

one_or_none : (p : Bool) → is_constant (constant_of (Logical p)) ≡ true
one_or_none true = refl
one_or_none false = refl

-- A scalar of the target's type, or a trap, where the types of both sides agree but for kinds and lengths.
abbrev pub Assigns : Elem → Scalar → Evaluation Scalar → Type 0
Assigns e s NoRule = Unit {0}
Assigns e s o = Good e o

pub assigns : (e : Elem) (s : Scalar) → is_constant (constant_of s) ≡ true → Assigns e s (assigned_scalar e s)
assigns (elem.Integer kind) (Integer k z) h = by (is_kind kind) refl
  where
    in_kind : (o : Evaluation Scalar) → Good (elem.Integer kind) o → Assigns (elem.Integer kind) (Integer k z) o
    in_kind (Gives s) g = g
    in_kind (Traps trap) g = g
    in_kind NoRule g = tt

    by : (t : Bool) → is_kind kind ≡ t → Assigns (elem.Integer kind) (Integer k z) (if t then fitted kind (Ok z) else NoRule)
    by true e = in_kind (fitted kind (Ok z)) (good_fitted kind (Ok z) e)
    by false e = tt
assigns elem.Logical (Logical p) h = (tt, one_or_none p)
assigns (elem.Character n) (Characters text) h = any (of_length n text) (good_text n text h)
  where
    any : (o : Evaluation Scalar) → Good (elem.Character n) o → Assigns (elem.Character n) (Characters text) o
    any (Gives s) g = g
    any (Traps trap) g = g
    any NoRule g = tt
assigns (elem.Integer kind) (Logical p) h = tt
assigns (elem.Integer kind) (Characters text) h = tt
assigns elem.Logical (Integer k z) h = tt
assigns elem.Logical (Characters text) h = tt
assigns (elem.Character n) (Integer k z) h = tt
assigns (elem.Character n) (Logical p) h = tt
assigns (elem.Derived t) s h = tt

pub assigned_fits : (ds : Definitions) (e : Elem) (s u : Scalar) → is_constant (constant_of s) ≡ true → assigned_scalar e s ≡ Gives u → IsValue ds (scalar_type e) (Single u)
assigned_fits ds e s u h f = by (assigned_scalar e s) (assigns e s h) f
  where
    by : (o : Evaluation Scalar) → Assigns e s o → o ≡ Gives u → IsValue ds (scalar_type e) (Single u)
    by (Gives x) g f = let same : x ≡ u = cc in subst (λ (y : Scalar). IsValue ds (scalar_type e) (Single y)) same (record { holds = type_of_scalar ds e x g.0 g.1 })
    by (Traps trap) g f = cc
    by NoRule g f = cc

-- Blanks behind a text.
pub one_more_blank : (text all : List ℕ) (i : ℕ) → length text ≤ i → all ≡ text ++ blanks (i - length text) → all ++ blank ≡ text ++ blanks (i + 1 - length text)
one_more_blank text all i h e =
    ap (λ (xs : List ℕ). xs ++ blank) e ∙ append_assoc text (blanks (i - length text)) blank ∙ ap (λ (xs : List ℕ). text ++ xs) (behind (i - length text) ∙ ap (λ (n : ℕ). blanks n) (let n : suc (i - length text) ≡ i + 1 - length text = omega arith in n))
  where
    behind : (n : ℕ) → blanks n ++ blank ≡ blanks (suc n)
    behind zero = refl
    behind (suc n) = ap (λ (xs : List ℕ). 32 ∷ xs) (behind n)

-- An array of the target's type.
fixed_extents : (ns : List ℕ) → are_extents (from_extents ns) ns ≡ true
fixed_extents [] = refl
fixed_extents (n ∷ ns) = and_from (n == n) (are_extents (from_extents ns) ns) ((Decides-eqb n n).1 refl) (fixed_extents ns)

copies_are : (ds : Definitions) (e : Elem) (v : Value) (n : ℕ) → is_of ds (scalar_type e) (shape_of v) ≡ true → (count_shapes (shapes_of (copies n v)) ≡ n) × (are_of ds e (shapes_of (copies n v)) ≡ true)
copies_are ds e v zero h = (refl, refl)
copies_are ds e v (suc n) h = let r = copies_are ds e v n h in (ap suc r.0, and_from (is_of ds (scalar_type e) (shape_of v)) (are_of ds e (shapes_of (copies n v))) h r.1)

array_type : (ds : Definitions) (e : Elem) (n : ℕ) (ns : List ℕ) (vs : Values) → Closed e → count_shapes (shapes_of vs) ≡ size_of (n ∷ ns) → are_of ds e (shapes_of vs) ≡ true → IsValue ds (record { elem = e; dims = from_extents (n ∷ ns) }) (Array e (n ∷ ns) vs)
array_type ds e n ns vs c q a = record {
  holds = and_from (are_extents (from_extents (n ∷ ns)) (n ∷ ns)) (is_element e e && ((count_shapes (shapes_of vs) == size_of (n ∷ ns)) && are_of ds e (shapes_of vs))) (fixed_extents (n ∷ ns))
      (and_from (is_element e e) ((count_shapes (shapes_of vs) == size_of (n ∷ ns)) && are_of ds e (shapes_of vs)) c
      (and_from (count_shapes (shapes_of vs) == size_of (n ∷ ns)) (are_of ds e (shapes_of vs)) ((Decides-eqb (count_shapes (shapes_of vs)) (size_of (n ∷ ns))).1 q) a));
}

spread_type : (ds : Definitions) (e : Elem) (target : List ℕ) (v : Value) → Closed e → is_of ds (scalar_type e) (shape_of v) ≡ true → IsValue ds (record { elem = e; dims = from_extents target }) (spread e target v)
spread_type ds e [] v c h = record { holds = h }
spread_type ds e (n ∷ ns) v c h = let r = copies_are ds e v (size_of (n ∷ ns)) h in array_type ds e n ns (copies (size_of (n ∷ ns)) v) c r.0 r.1

-- The parts in order.
abbrev Parts : Definitions → Elem → ℕ → Evaluation Values → Type 0
Parts ds e count (Gives vs) = (count_shapes (shapes_of vs) ≡ count) × (are_of ds e (shapes_of vs) ≡ true)
Parts ds e count (Traps trap) = Unit {0}
Parts ds e count NoRule = Unit {0}

abbrev Part : Definitions → Elem → Evaluation Value → Type 0
Part ds e (Gives v) = is_of ds (scalar_type e) (shape_of v) ≡ true
Part ds e (Traps trap) = Unit {0}
Part ds e NoRule = Unit {0}

no_record : (e : Elem) (v : Value) → Plain e → assigned_record e v ≡ NoRule
no_record (elem.Integer k) v p = refl
no_record elem.Logical v p = refl
no_record (elem.Character n) v p = refl
no_record (elem.Derived s) v p = absurd p

one_part : (ds : Definitions) (e f : Elem) (v : Value) → Plain e → is_of ds (scalar_type f) (shape_of v) ≡ true → Part ds e (assigned_part e v)
one_part ds e f (Single s) p h = by (assigned_scalar e s) (assigns e s (scalar_of_type ds (scalar_type f) s h).constant)
  where
    by : (o : Evaluation Scalar) → Assigns e s o → Part ds e (single o)
    by (Gives x) g = type_of_scalar ds e x g.0 g.1
    by (Traps trap) g = tt
    by NoRule g = tt
one_part ds e f (Array g xs vs) p h = tt
one_part ds e f (Record cs) p h = subst (Part ds e) (sym (no_record e (Record cs) p)) tt

more_parts : (ds : Definitions) (e : Elem) (n : ℕ) (o : Evaluation Value) (rest : Evaluation Values) → Part ds e o → Parts ds e n rest → Parts ds e (suc n) (and_then o (λ u. and_then rest (λ us. Gives (more u us))))
more_parts ds e n (Gives v) (Gives vs) h g = (ap suc g.0, and_from (is_of ds (scalar_type e) (shape_of v)) (are_of ds e (shapes_of vs)) h g.1)
more_parts ds e n (Gives v) (Traps trap) h g = tt
more_parts ds e n (Gives v) NoRule h g = tt
more_parts ds e n (Traps trap) rest h g = tt
more_parts ds e n NoRule rest h g = tt

all_parts : (ds : Definitions) (e f : Elem) (vs : Values) → Plain e → are_of ds f (shapes_of vs) ≡ true → Parts ds e (count_shapes (shapes_of vs)) (assigned_each e vs)
all_parts ds e f none p h = (refl, refl)
all_parts ds e f (more v vs) p h =
    let q = and_parts (is_of ds (scalar_type f) (shape_of v)) (are_of ds f (shapes_of vs)) h in
    more_parts ds e (count_shapes (shapes_of vs)) (assigned_part e v) (assigned_each e vs) (one_part ds e f v p q.0) (all_parts ds e f vs p q.1)

abbrev Ends : Definitions → Elem → List ℕ → Evaluation Value → Type 0
Ends ds e target (Gives w) = IsValue ds (record { elem = e; dims = from_extents target }) w
Ends ds e target (Traps trap) = Unit {0}
Ends ds e target NoRule = Unit {0}

spread_ends : (ds : Definitions) (e : Elem) (target : List ℕ) (o : Evaluation Value) → Closed e → Part ds e o → Ends ds e target (and_then o (λ v. Gives (spread e target v)))
spread_ends ds e target (Gives v) c h = spread_type ds e target v c h
spread_ends ds e target (Traps trap) c h = tt
spread_ends ds e target NoRule c h = tt

extents_end : (ds : Definitions) (e : Elem) (target extents : List ℕ) (vs : Values) → Closed e → (extents ≡ [] → ⊥) → count_shapes (shapes_of vs) ≡ size_of extents → are_of ds e (shapes_of vs) ≡ true → Ends ds e target (in_extents e target extents vs)
extents_end ds e target [] vs c some q a = absurd (some refl)
extents_end ds e target (n ∷ ns) vs c some q a = by (length target == length (n ∷ ns)) (same_numbers target (n ∷ ns)) refl
  where
    by : (t u : Bool) → same_numbers target (n ∷ ns) ≡ u → Ends ds e target (if t then (if u then Gives (Array e (n ∷ ns) vs) else Traps ShapeMismatch) else NoRule)
    by true true h = let same = numbers_equal target (n ∷ ns) h in subst (λ (x : List ℕ). IsValue ds (record { elem = e; dims = from_extents x }) (Array e (n ∷ ns) vs)) (sym same) (array_type ds e n ns vs c q a)
    by true false h = tt
    by false u h = tt

parts_end : (ds : Definitions) (e : Elem) (target extents : List ℕ) (o : Evaluation Values) → Closed e → (extents ≡ [] → ⊥) → Parts ds e (size_of extents) o → Ends ds e target (and_then o (λ vs. in_extents e target extents vs))
parts_end ds e target extents (Gives vs) c some g = extents_end ds e target extents vs c some g.0 g.1
parts_end ds e target extents (Traps trap) c some g = tt
parts_end ds e target extents NoRule c some g = tt

some_extents : (ds : List Dim) (ns : List ℕ) → is_array ds ns ≡ true → ns ≡ [] → ⊥
some_extents [] ns h e = cc
some_extents (d ∷ ds) [] h e = cc
some_extents (d ∷ ds) (n ∷ ns) h e = cc

ends : (ds : Definitions) (e : Elem) (target : List ℕ) (t : Ty) (v : Value) → Plain e → Closed e → IsValue ds t v → Ends ds e target (assigned e target v)
ends ds e target t (Single s) p c h = spread_ends ds e target (assigned_part e (Single s)) c (by (assigned_scalar e s) (assigns e s (scalar_of_type ds t s h.holds).constant))
  where
    by : (o : Evaluation Scalar) → Assigns e s o → Part ds e (single o)
    by (Gives x) g = type_of_scalar ds e x g.0 g.1
    by (Traps trap) g = tt
    by NoRule g = tt
ends ds e target t (Record cs) p c h = spread_ends ds e target (assigned_part e (Record cs)) c (subst (Part ds e) (sym (no_record e (Record cs) p)) tt)
ends ds e target t (Array element extents elements) p c h =
    let a = array_of ds t element extents elements h in
    parts_end ds e target extents (assigned_each e elements) c (some_extents t.dims extents a.array) (subst (λ (n : ℕ). Parts ds e n (assigned_each e elements)) a.count (all_parts ds e element elements p a.are))

plain : (e : Elem) → IsIntrinsic e → Plain e
plain (elem.Integer k) p = tt
plain elem.Logical p = tt
plain (elem.Character n) p = tt
plain (elem.Derived s) p = p

pub assigned_ends : (ds : Definitions) (e : Elem) (target : List ℕ) (t : Ty) (v w : Value) → IsIntrinsic e → is_element e e ≡ true → IsValue ds t v → assigned e target v ≡ Gives w → IsValue ds (record { elem = e; dims = from_extents target }) w
assigned_ends ds e target t v w p c h f = by (assigned e target v) (ends ds e target t v (plain e p) c h) f
  where
    by : (o : Evaluation Value) → Ends ds e target o → o ≡ Gives w → IsValue ds (record { elem = e; dims = from_extents target }) w
    by (Gives x) g f = let same : x ≡ w = cc in subst (λ (y : Value). IsValue ds (record { elem = e; dims = from_extents target }) y) same g
    by (Traps trap) g f = cc
    by NoRule g f = cc

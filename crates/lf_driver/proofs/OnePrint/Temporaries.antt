-- The temporaries of the printed C: their names and the numbers of their objects differ, and each is found under its own.
use Rattle.std.proofs.Common.{◌≡◌, ℕ, suc, ◌^◌, ◌<◌, ◌≤◌, Bool, true, false, List, [], ◌∷◌, ◌++◌, length, Option, Some, None, codes, cond, refl, sym, ap, subst, ◌∙◌, arith, length-append}
use Rattle.std.specs.Fmt.{decimal}
use Rattle.std.specs.Str.{bytes_eq}
use Rattle.std.specs.Str.Parse.{digits_value}
use Rattle.std.specs.Prelude.{nat_eq}
use Rattle.std.proofs.Math.IntN.{ℤ}
use Rattle.std.proofs.lemmas.Fmt.{decimal_is_IsNumeral_wide}
use Rattle.std.proofs.lemmas.Slice.Eq.{bytes_eq-Decides}
use Rattle.std.proofs.lemmas.Bool.Decides.{nat_tests}
use Rattle.c_nodes.specs.declared.tree.CType.TheVariants.{Int64}
use Rattle.c_semantics.specs.CState.{Cells, Declared, Slot, Stored, find_name, slot_of}
use Rattle.lf_driver.specs.OnePrint.Lowered.{temporary}

abbrev pub Few : ℕ → Type 0
Few k = k < 10 ^ 64

pub decimal_once : (j k : ℕ) → Few j → Few k → decimal j ≡ decimal k → j ≡ k
decimal_once j k fj fk e = sym (decimal_is_IsNumeral_wide j fj).1 ∙ ap (digits_value 10) e ∙ (decimal_is_IsNumeral_wide k fk).1

apart : (j k : ℕ) → Few j → Few k → (j ≡ k → ⊥) → (t : Bool) → bytes_eq (decimal j) (decimal k) ≡ t → t ≡ false
apart j k fj fk n true e = absurd (n (decimal_once j k fj fk ((bytes_eq-Decides (decimal j) (decimal k)).0 e)))
apart j k fj fk n false e = refl

pub other_temporary : (j k : ℕ) → Few j → Few k → (j ≡ k → ⊥) → bytes_eq (temporary j) (temporary k) ≡ false
other_temporary j k fj fk n = apart j k fj fk n (bytes_eq (decimal j) (decimal k)) refl

pub same_name : (bytes : List ℕ) → bytes_eq bytes bytes ≡ true
same_name bytes = (bytes_eq-Decides bytes bytes).1 refl

pub same_id : (k : ℕ) → nat_eq k k ≡ true
same_id k = grind (arith, nat_tests)

pub other_id : (j k : ℕ) → (j ≡ k → ⊥) → nat_eq j k ≡ false
other_id j k h = grind (arith, nat_tests)

-- an object that holds a number, or none yet
abbrev pub number_in : List (Option ℤ) → Slot
number_in cells = Cells Int64 false cells

abbrev pub temp : ℕ → ℕ → Declared
temp k number = record { name = temporary k; number = number }

abbrev pub object : ℕ → List (Option ℤ) → Stored
object number cells = record { number = number; slot = number_in cells }

-- a temporary: the number of its object, and its value
abbrev pub Temporary : Type 0
Temporary = ℕ × ℤ

-- the names of temporaries, the newest in front, before the one of the record
abbrev pub names_of : List Temporary → List Declared
names_of [] = record { name = codes "r1"; number = 0 } ∷ []
names_of (v ∷ vs) = temp (suc (length vs)) v.0 ∷ names_of vs

-- their objects, behind which the record notes what its last item was
abbrev pub objects_of : ℤ → List Temporary → List Stored
objects_of g [] = object 0 (Some g ∷ []) ∷ []
objects_of g (v ∷ vs) = object v.0 (Some v.1 ∷ []) ∷ objects_of g vs

-- Their numbers fall from the next one on.
abbrev pub Falls : ℕ → List Temporary → Type 0
Falls next [] = 0 < next
Falls next (v ∷ vs) = (v.0 < next) × Falls v.0 vs

pub falls_further : (next later : ℕ) (vs : List Temporary) → next ≤ later → Falls next vs → Falls later vs
falls_further next later [] le h = omega (arith, h)
falls_further next later (v ∷ vs) le h = (omega (arith, h.0), h.1)

falls_over : (us : List Temporary) (v : Temporary) (vs : List Temporary) (next : ℕ) → Falls next (us ++ v ∷ vs) → v.0 < next
falls_over [] v vs next h = h.0
falls_over (u ∷ us) v vs next h = let below = falls_over us v vs u.0 h.1 in omega (arith, h.0, below)

pub find_temp : (us : List Temporary) (v : Temporary) (vs : List Temporary) → Few (length (us ++ v ∷ vs)) → find_name (temporary (suc (length vs))) (names_of (us ++ v ∷ vs)) ≡ Some (temp (suc (length vs)) v.0)
find_temp [] v vs few = ap (λ b. cond b (Some (temp (suc (length vs)) v.0)) (find_name (temporary (suc (length vs))) (names_of vs))) (same_name (temporary (suc (length vs))))
find_temp (u ∷ us) v vs few =
    let long = length-append us (v ∷ vs) in
    let m : ℕ = suc (length (us ++ v ∷ vs)) in
    let differs : m ≡ suc (length vs) → ⊥ = λ e. omega (arith, long) in
    ap (λ b. cond b (Some (temp m u.0)) (find_name (temporary (suc (length vs))) (names_of (us ++ v ∷ vs)))) (other_temporary m (suc (length vs)) few (omega (arith, long)) differs)
    ∙ find_temp us v vs (omega (arith, few))

pub slot_temp : (g : ℤ) (us : List Temporary) (v : Temporary) (vs : List Temporary) (next : ℕ) → Falls next (us ++ v ∷ vs) → slot_of v.0 (objects_of g (us ++ v ∷ vs)) ≡ Some (number_in (Some v.1 ∷ []))
slot_temp g [] v vs next h = ap (λ b. cond b (Some (number_in (Some v.1 ∷ []))) (slot_of v.0 (objects_of g vs))) (same_id v.0)
slot_temp g (u ∷ us) v vs next h =
    let below = falls_over us v vs u.0 h.1 in
    let differs : u.0 ≡ v.0 → ⊥ = λ e. omega (arith, below) in
    ap (λ b. cond b (Some (number_in (Some u.1 ∷ []))) (slot_of v.0 (objects_of g (us ++ v ∷ vs)))) (other_id u.0 v.0 differs)
    ∙ slot_temp g us v vs u.0 h.1

-- A name with its number and a value is found, and it is none of those that come later.
pub record Holds (k : ℕ) (z : ℤ) (names : List Declared) (objects : List Stored) (count next : ℕ) : Type 0 where
  pub number : ℕ
  pub name : find_name (temporary k) names ≡ Some (temp k number)
  pub slot : slot_of number objects ≡ Some (number_in (Some z ∷ []))
  pub within : k ≤ count
  pub below : number < next

pub holds_temp : (g : ℤ) (us : List Temporary) (v : Temporary) (vs : List Temporary) (k next : ℕ) → Few (length (us ++ v ∷ vs)) → k ≡ suc (length vs) → Falls next (us ++ v ∷ vs) → Holds k v.1 (names_of (us ++ v ∷ vs)) (objects_of g (us ++ v ∷ vs)) (length (us ++ v ∷ vs)) next
holds_temp g us v vs k next few e falls =
    subst (λ j. Holds j v.1 (names_of (us ++ v ∷ vs)) (objects_of g (us ++ v ∷ vs)) (length (us ++ v ∷ vs)) next) (sym e)
    (record { number = v.0; name = find_temp us v vs few; slot = slot_temp g us v vs next falls; within = omega (arith, length-append us (v ∷ vs)); below = falls_over us v vs next falls })

-- also behind a newer one
pub holds_behind : (k m : ℕ) (z : ℤ) (number : ℕ) (cells : List (Option ℤ)) (names : List Declared) (objects : List Stored) (count next : ℕ) → Few m → count < m → next ≤ number → Holds k z names objects count next → Holds k z (temp m number ∷ names) (object number cells ∷ objects) m (suc number)
holds_behind k m z number cells names objects count next few lt le h =
    let w = h.within in
    let b = h.below in
    let differs : m ≡ k → ⊥ = λ e. omega arith in
    let other : number ≡ h.number → ⊥ = λ e. omega arith in
    record {
      number = h.number;
      name = ap (λ t. cond t (Some (temp m number)) (find_name (temporary k) names)) (other_temporary m k few (omega arith) differs) ∙ h.name;
      slot = ap (λ t. cond t (Some (number_in cells)) (slot_of h.number objects)) (other_id number h.number other) ∙ h.slot;
      within = omega arith;
      below = omega arith;
    }

-- no temporary has a name that begins otherwise
pub find_none : (name : List ℕ) (vs : List Temporary) → bytes_eq (codes "r1") name ≡ false → ((k : ℕ) → bytes_eq (temporary k) name ≡ false) → find_name name (names_of vs) ≡ None
find_none name [] r t = ap (λ b. cond b (Some (record { name = codes "r1"; number = 0 })) None) r
find_none name (v ∷ vs) r t = ap (λ b. cond b (Some (temp (suc (length vs)) v.0)) (find_name name (names_of vs))) (t (suc (length vs))) ∙ find_none name vs r t

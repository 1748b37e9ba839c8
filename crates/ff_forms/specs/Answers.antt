-- How one reading goes on with what another found.
use Rattle.std.specs.Prelude.{◌≡◌, ℕ, List, [], ◌∷◌, max, Option, Some, None, Result, Ok, Err}
use Rattle.ff_forms.specs.declared.refusal.Refusal.{Refusal}
use Rattle.ff_forms.specs.declared.refusal.Refusal.TheVariants.{Unformed, Memory}

-- what goes on with what was found, if something was
abbrev pub on : {A B : Type 0} → Option A → (A → Option B) → Option B
on None more = None
on (Some found) more = more found

-- a value, and the depth of its deepest expression
abbrev pub Read : Type 0 → Type 0
Read A = Option (A × ℕ)

-- all of a list, each read by itself
abbrev pub all : {A B : Type 0} → (A → Option B) → List A → Option (List B)
all read [] = Some []
all read (x ∷ xs) = on (read x) (λ first. on (all read xs) (λ rest. Some (first ∷ rest)))

abbrev pub with_first : {A : Type 0} → A × ℕ → Read (List A) → Read (List A)
with_first first None = None
with_first first (Some rest) = Some (first.0 ∷ rest.0, max first.1 rest.1)

abbrev pub each : {A B : Type 0} → (A → Read B) → List A → Read (List B)
each read [] = Some ([], 0)
each read (x ∷ xs) = on (read x) (λ first. with_first first (each read xs))

-- What was answered is what there is, unless memory ran out.
abbrev pub Gives : {T V : Type 0} → (V → T) → Result V Refusal → Option T → Type 0
Gives found (Ok v) there = there ≡ Some (found v)
Gives found (Err Memory) there = Unit {0}
Gives found (Err Unformed) there = there ≡ None

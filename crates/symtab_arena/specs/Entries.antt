-- Lists in which a thing stands at its number, or nothing does.
use Rattle.std.specs.Prelude.{ℕ, List, Option, IsSome, slice_get}
use Rattle.std.specs.Option.{option_flatten}

-- what stands at a number
abbrev pub entry_at : {X : Type 0} → List (Option X) → ℕ → Option X
entry_at xs n = option_flatten (slice_get xs n)

abbrev pub IsThere : {X : Type 0} → List (Option X) → ℕ → Type 0
IsThere xs n = IsSome (entry_at xs n)

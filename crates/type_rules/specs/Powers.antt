-- What 64 bits hold of products and powers.
use Rattle.std.specs.Prelude.{◌≡◌, ℕ, ℤ, false, Option, Some, None}
use Rattle.type_rules.specs.Values.{Exact, is_in_kind, fitted}

-- A number that 64 bits hold is the exact one, and none is one that they do not hold.
abbrev pub IsProduct : Option ℤ → ℤ → Type 0
IsProduct (Some held) exact = exact ≡ held
IsProduct None exact = is_in_kind 8 exact ≡ false

-- Two exact results that are the same in each kind.
abbrev pub FitsAlike : Exact → Exact → Type 0
FitsAlike a b = (kind : ℕ) → fitted kind a ≡ fitted kind b

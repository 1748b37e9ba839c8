-- What a refused read leaves.
use Rattle.std.specs.Prelude.{◌≡◌, ℕ, List, Option, Some}

-- what was told to be left is left
pub record Stays (old new : Option (List ℕ)) : Type 0 where
  pub bytes : (left : List ℕ) → old ≡ Some left → new ≡ Some left

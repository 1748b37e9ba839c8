-- Digits behind a value only make it greater.
use Rattle.std.proofs.Common.{◌≡◌, ℕ, ◌+◌, ◌-◌, ◌*◌, ◌≤◌, ◌<◌, false, List, [], ◌∷◌, arith}
use Rattle.std.specs.Prelude.{nat_le}
use Rattle.std.proofs.lemmas.Bool.Decides.{nat_tests}
use Rattle.lf_driver.specs.OnePrint.Built.{greatest_literal, value_behind}

greater : (value : ℕ) (digits : List ℕ) → value ≤ value_behind value digits
greater value [] = omega arith
greater value (digit ∷ digits) = omega (arith, greater (value * 10 + (digit - 48)) digits)

no_literal : (n : ℕ) → greatest_literal < n → nat_le n greatest_literal ≡ false
no_literal n h = grind (arith, nat_tests)

pub too_great : (value : ℕ) (digits : List ℕ) → greatest_literal < value → nat_le (value_behind value digits) greatest_literal ≡ false
too_great value digits h = no_literal (value_behind value digits) (omega (arith, h, greater value digits))

-- Numbers of C that fit their types, and tests on them.
use Rattle.std.proofs.Common.{◌≡◌, ℕ, ◌<◌, ◌≤◌, Bool, true, false, Some, refl, arith}
use Rattle.std.specs.Prelude.{◌≤ℤ◌}
use Rattle.std.specs.Ordering.{int_eq}
use Rattle.std.proofs.Math.IntN.{ℤ, pos}
use Rattle.std.proofs.lemmas.Int.{ints}
use Rattle.c_semantics.specs.CValues.{W32, W64, fits, truth, greatest64, least64, greatest32, least32}
use Rattle.c_semantics.specs.CMeaning.{holds, byte_of}

pub holds_truth : (t : Bool) → holds (truth t) ≡ Some t
holds_truth true = refl
holds_truth false = refl

pub fits64 : (z : ℤ) → least64 ≤ℤ z → z ≤ℤ greatest64 → fits W64 z ≡ true
fits64 z l g = grind (arith, ints)

pub fits32 : (z : ℤ) → least32 ≤ℤ z → z ≤ℤ greatest32 → fits W32 z ≡ true
fits32 z l g = grind (arith, ints)

pub fits64_nat : (n : ℕ) → n ≤ 9223372036854775807 → fits W64 (pos n) ≡ true
fits64_nat n h = grind (arith, ints)

pub fits32_nat : (n : ℕ) → n < 2147483647 → fits W32 (pos n) ≡ true
fits32_nat n h = grind (arith, ints)

pub byte_small : (b : ℕ) → b < 256 → byte_of (pos b) ≡ b
byte_small b h = omega arith

pub not_zero : (b : ℕ) → 0 < b → int_eq (pos b) (pos 0) ≡ false
not_zero b h = grind (arith, ints)

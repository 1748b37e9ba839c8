-- Operations on integers, exactly (ISO/IEC 1539-1:2018, 10.1.5.2 and 16.9: ABS, MOD, MODULO, SIGN).
use Rattle.std.specs.Prelude.{◌≡◌, ℕ, zero, suc, ℤ, pos, negsuc, ◌+ℤ◌, ◌*ℤ◌, ◌<ℤ◌, ◌≤ℤ◌, ◌<◌, neg_ℤ, ◌==◌, if◌then◌else◌, int_lt, int_div, int_rem, unsigned_abs, Ok, Err}
use Rattle.std.specs.Int.{int_rem_euclid}
use Rattle.type_rules.specs.Values.{Exact}
use Rattle.lf_base.specs.declared.trap.Trap.TheVariants.{DivisionByZero}

-- The integer between zero and the exact quotient that is nearest to it.
abbrev pub quotient : ℤ → ℤ → Exact
quotient a b = if unsigned_abs b == 0 then Err DivisionByZero else Ok (int_div a b)

-- The first less the quotient times the second: it has the sign of the first.
abbrev pub remainder : ℤ → ℤ → Exact
remainder a b = if unsigned_abs b == 0 then Err DivisionByZero else Ok (int_rem a b)

-- The number with the sign of the second, and below it in magnitude, that differs from the first by a multiple of the
-- second.
abbrev pub modulo : ℤ → ℤ → Exact
modulo a b =
    if unsigned_abs b == 0 then Err DivisionByZero
    else if int_lt b (pos 0) then Ok (neg_ℤ (int_rem_euclid (neg_ℤ a) (neg_ℤ b)))
    else Ok (int_rem_euclid a b)

-- The product of as many factors as the exponent says.
abbrev pub product_of : ℤ → ℕ → ℤ
product_of a zero = pos 1
product_of a (suc n) = product_of a n *ℤ a

-- With a negative exponent it is the quotient of 1 and the power with the exponent's magnitude.
abbrev pub power : ℤ → ℤ → Exact
power a (pos n) = Ok (product_of a n)
power a (negsuc n) = quotient (pos 1) (product_of a (suc n))

abbrev pub magnitude : ℤ → ℤ
magnitude a = pos (unsigned_abs a)

-- The magnitude of the first with the sign of the second, where zero counts as positive.
abbrev pub sign : ℤ → ℤ → ℤ
sign a b = if int_lt b (pos 0) then neg_ℤ (magnitude a) else magnitude a

-- The defining equation of MODULO: the first is a multiple of the second and the result, which has the sign of the second
-- and is below it in magnitude.
pub record IsModulo (a b r : ℤ) : Type 0 where
  pub factor : ℤ
  pub equation : a ≡ factor *ℤ b +ℤ r
  pub of_positive : pos 0 <ℤ b → (pos 0 ≤ℤ r) × (r <ℤ b)
  pub of_negative : b <ℤ pos 0 → (b <ℤ r) × (r ≤ℤ pos 0)

-- The quotient and what is left: the quotient is truncated, since what is left has the sign of the first and is below the
-- second in magnitude.
pub record IsDivision (a b q r : ℤ) : Type 0 where
  pub equation : q *ℤ b +ℤ r ≡ a
  pub smaller : unsigned_abs r < unsigned_abs b
  pub of_positive : pos 0 ≤ℤ a → pos 0 ≤ℤ r
  pub of_negative : a ≤ℤ pos 0 → r ≤ℤ pos 0

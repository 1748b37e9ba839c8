-- Quotients, remainders and MODULO, by their defining equations.
use Rattle.std.proofs.Common.{◌≡◌, ℕ, zero, suc, ◌+◌, ◌-◌, ◌*◌, ◌/◌, ◌%◌, ◌<◌, Bool, true, false, refl, sym, ◌∙◌, ap, subst, arith, ℤ, pos, negsuc, ◌+ℤ◌, ◌-ℤ◌, ◌*ℤ◌, ◌≤ℤ◌, ◌<ℤ◌, neg_ℤ, ◌==◌, Ok, Err, if◌then◌else◌}
use Rattle.std.specs.Prelude.{unsigned_abs, int_lt, int_div, int_rem}
use Rattle.std.specs.Int.{int_rem_euclid}
use Rattle.std.proofs.lemmas.Int.{ints, quot-rem, rem_below}
use Rattle.std.proofs.lemmas.Nat.{div-add-mod'}
use Rattle.std.proofs.Math.IntN.{*ℤ-negsuc}
use borrow.Author.Differences.{up, down, same_in, same_out, sum_is_lem, product_is}
use Rattle.lf_base.specs.declared.trap.Trap.TheVariants.{DivisionByZero}
use Rattle.type_rules.specs.Values.{Exact}
use Rattle.type_rules.specs.Integers.{quotient, remainder, modulo, IsModulo, IsDivision}

-- What the quotient that is rounded down leaves, for a divisor above zero.
pub euclid : (a : ℤ) (n : ℕ) → (q : ℤ) × (a ≡ q *ℤ pos (suc n) +ℤ int_rem_euclid a (pos (suc n)))
euclid (pos a) n = (pos (a / suc n), ap pos (sym (div-add-mod' a (suc n))))
euclid (negsuc a) n = (negsuc (a / suc n), below)
  where
    split : a / suc n * suc n + a % suc n ≡ a
    split = div-add-mod' a (suc n)

    small : a % suc n < suc n
    small = omega arith

    below : negsuc a ≡ negsuc (a / suc n) *ℤ pos (suc n) +ℤ pos (suc n - 1 - a % suc n)
    below = omega (arith, ints, split, small)

euclid_low : (a : ℤ) (n : ℕ) → pos 0 ≤ℤ int_rem_euclid a (pos (suc n))
euclid_low (pos a) n = omega (arith, ints)
euclid_low (negsuc a) n = omega (arith, ints)

euclid_high : (a : ℤ) (n : ℕ) → int_rem_euclid a (pos (suc n)) <ℤ pos (suc n)
euclid_high (pos a) n = omega (arith, ints)
euclid_high (negsuc a) n = omega (arith, ints)

nonzero : (n : ℕ) → (suc n == 0) ≡ false
nonzero n = by (suc n == 0) refl
  where
    by : (t : Bool) → (suc n == 0) ≡ t → t ≡ false
    by true e = absurd (grind arith)
    by false e = refl

not_negative : (n : ℕ) → int_lt (pos n) (pos 0) ≡ false
not_negative n = by (int_lt (pos n) (pos 0)) refl
  where
    by : (t : Bool) → int_lt (pos n) (pos 0) ≡ t → t ≡ false
    by true e = absurd (omega (arith, ints))
    by false e = refl

modulo_positive : (a : ℤ) (n : ℕ) → modulo a (pos (suc n)) ≡ Ok (int_rem_euclid a (pos (suc n)))
modulo_positive a n = rw (nonzero n) (rw (not_negative (suc n)) refl)

modulo_negative : (a : ℤ) (n : ℕ) → modulo a (negsuc n) ≡ Ok (neg_ℤ (int_rem_euclid (neg_ℤ a) (pos (suc n))))
modulo_negative a n = rw (nonzero n) refl

pub is_modulo : (a b r : ℤ) → modulo a b ≡ Ok r → IsModulo a b r
is_modulo a (pos zero) r e = cc
is_modulo a (pos (suc n)) r e =
    let same = sym (modulo_positive a n) ∙ e in
    let s : int_rem_euclid a (pos (suc n)) ≡ r = cc in
    let q = euclid a n in
    record {
      factor = q.0;
      equation = subst (λ z. a ≡ q.0 *ℤ pos (suc n) +ℤ z) s q.1;
      of_positive = λ h. (subst (λ z. pos 0 ≤ℤ z) s (euclid_low a n), subst (λ z. z <ℤ pos (suc n)) s (euclid_high a n));
      of_negative = λ h. absurd (omega (arith, ints));
    }
is_modulo a (negsuc n) r e =
    let same = sym (modulo_negative a n) ∙ e in
    let s : neg_ℤ (int_rem_euclid (neg_ℤ a) (pos (suc n))) ≡ r = cc in
    let q = euclid (neg_ℤ a) n in
    let f = q.1 in
    let g = *ℤ-negsuc q.0 n in
    let low = euclid_low (neg_ℤ a) n in
    let high = euclid_high (neg_ℤ a) n in
    record {
      factor = q.0;
      equation = omega (arith, ints);
      of_positive = λ h. absurd (omega (arith, ints));
      of_negative = λ h. (omega (arith, ints), omega (arith, ints));
    }

-- The quotient and what it leaves.
rem_low : (a b : ℤ) → pos 0 ≤ℤ a → pos 0 ≤ℤ int_rem a b
rem_low (pos a) b h = omega (arith, ints)
rem_low (negsuc a) b h = absurd (omega (arith, ints))

rem_high : (a b : ℤ) → a ≤ℤ pos 0 → int_rem a b ≤ℤ pos 0
rem_high (pos zero) b h = by (unsigned_abs b)
  where
    by : (n : ℕ) → pos (0 % n) ≤ℤ pos 0
    by n = omega (arith, ints)
rem_high (pos (suc a)) b h = absurd (omega (arith, ints))
rem_high (negsuc a) b h = omega (arith, ints)

quotient_of : (a b q : ℤ) → quotient a b ≡ Ok q → (int_div a b ≡ q) × (0 < unsigned_abs b)
quotient_of a b q e = by (unsigned_abs b == 0) refl e
  where
    by : (t : Bool) → (unsigned_abs b == 0) ≡ t → ◌≡◌ {A = Exact} (if t then Err DivisionByZero else Ok (int_div a b)) (Ok q) → (int_div a b ≡ q) × (0 < unsigned_abs b)
    by true f g = cc
    by false f g = (cc, grind arith)

remainder_of : (a b r : ℤ) → remainder a b ≡ Ok r → int_rem a b ≡ r
remainder_of a b r e = by (unsigned_abs b == 0) e
  where
    by : (t : Bool) → ◌≡◌ {A = Exact} (if t then Err DivisionByZero else Ok (int_rem a b)) (Ok r) → int_rem a b ≡ r
    by true g = cc
    by false g = cc

pub is_division : (a b q r : ℤ) → quotient a b ≡ Ok q → remainder a b ≡ Ok r → IsDivision a b q r
is_division a b q r e f =
    let k = quotient_of a b q e in
    let g = k.0 in
    let h = remainder_of a b r f in
    subst (λ x. IsDivision a b x r) g (subst (λ y. IsDivision a b (int_div a b) y) h (record {
      equation = quot-rem a b;
      smaller = rem_below a b k.1;
      of_positive = rem_low a b;
      of_negative = rem_high a b;
    }))

-- MODULO and MOD differ by a multiple of the divisor.
times_sum : (x y z b : ℤ) → x ≡ z +ℤ y → x *ℤ b ≡ z *ℤ b +ℤ y *ℤ b
times_sum x y z b e =
    let sum : up x + (down z + down y) ≡ up z + up y + down x = omega (arith, same_out, sum_is_lem) in
    let above = ap (λ n. n * up b) sum in
    let below = ap (λ n. n * down b) sum in
    omega (arith, same_in, sum_is_lem, product_is)

pub differ_by_multiple : (a b m r : ℤ) → remainder a b ≡ Ok m → modulo a b ≡ Ok r → (k : ℤ) × (r ≡ k *ℤ b +ℤ m)
differ_by_multiple a b m r e f =
    let h = is_modulo a b r f in
    let g = remainder_of a b m e in
    let d = quot-rem a b in
    let k = int_div a b -ℤ h.factor in
    let s = times_sum (int_div a b) h.factor k b (omega (arith, ints)) in
    let t = h.equation in
    (k, omega (arith, ints))

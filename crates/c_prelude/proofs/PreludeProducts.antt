-- When a product of two numbers of 64 bits is one, by quotients.
use Rattle.std.proofs.Common.{◌≡◌, ℕ, zero, suc, ◌*◌, ◌/◌, ◌<◌, ◌≤◌, Bool, true, false, not, refl, sym, ap, ◌∙◌, arith}
use Rattle.std.specs.Prelude.{int_lt, int_div, ◌*ℤ◌, nat_lt, nat_le, if◌then◌else◌}
use Rattle.std.specs.Ordering.{int_eq}
use Rattle.std.proofs.Math.IntN.{ℤ, pos, negsuc, neg_ℤ}
use Rattle.std.proofs.Math.Nat.{div-lt_iff_lt-mul, div-le_self, mul_comm, zero-mul, mul-zero}
use Rattle.std.proofs.lemmas.Int.{ints}
use Rattle.std.proofs.lemmas.Bool.Decides.{nat_tests}
use Rattle.c_semantics.specs.CValues.{W64, fits, greatest64, least64}

-- the same two tests, where one quotient decides
by_quotient : (x k y : ℕ) → 0 < k → nat_lt (x / k) y ≡ not (nat_le (y * k) x)
by_quotient x k y h =
    let to : x / k < y → x < y * k = (div-lt_iff_lt-mul {k = k} {x = x} {y = y} h).0 in
    let from : x < y * k → x / k < y = (div-lt_iff_lt-mul {k = k} {x = x} {y = y} h).1 in
    decided (nat_lt (x / k) y) (nat_le (y * k) x) refl refl to from
  where
    decided : (p q : Bool) → nat_lt (x / k) y ≡ p → nat_le (y * k) x ≡ q → (x / k < y → x < y * k) → (x < y * k → x / k < y) → p ≡ not q
    decided true true e f to from = absurd (let a : x / k < y = grind (arith, nat_tests) in let b : y * k ≤ x = grind (arith, nat_tests) in let c : x < y * k = to a in omega arith)
    decided true false e f to from = refl
    decided false true e f to from = refl
    decided false false e f to from = absurd (let a : y ≤ x / k = grind (arith, nat_tests) in let b : x < y * k = grind (arith, nat_tests) in let c : x / k < y = from b in omega arith)

neg_lt : (n q : ℕ) → int_lt (negsuc n) (neg_ℤ (pos q)) ≡ nat_lt q (suc n)
neg_lt n zero = grind (arith, nat_tests)
neg_lt n (suc q) = grind (arith, nat_tests)

neg_fits : (p : ℕ) → fits W64 (neg_ℤ (pos p)) ≡ nat_le p 9223372036854775808
neg_fits zero = refl
neg_fits (suc p) = grind (arith, ints, nat_tests)

-- What the function decides: whether the product passes 64 bits.
abbrev pub is_bad : ℤ → ℤ → Bool
is_bad a b = if int_lt (pos 0) a then (if int_lt (pos 0) b then int_lt (int_div greatest64 b) a else int_lt b (int_div least64 a)) else (if int_lt (pos 0) b then int_lt a (int_div least64 b) else (if int_lt b (pos 0) then int_lt a (int_div greatest64 b) else false))

-- by the signs
pos_pos : (m n : ℕ) → int_lt (int_div greatest64 (pos (suc n))) (pos m) ≡ not (fits W64 (pos m *ℤ pos (suc n)))
pos_pos m n = by_quotient 9223372036854775807 (suc n) m (omega arith)

pos_neg : (m n : ℕ) → int_lt (negsuc n) (int_div least64 (pos (suc m))) ≡ not (fits W64 (pos (suc m) *ℤ negsuc n))
pos_neg m n = neg_lt n (9223372036854775808 / suc m) ∙ by_quotient 9223372036854775808 (suc m) (suc n) (omega arith) ∙ ap not (ap (λ p. nat_le p 9223372036854775808) (mul_comm (suc n) (suc m)) ∙ sym (neg_fits (suc m * suc n)))

neg_pos : (m n : ℕ) → int_lt (negsuc m) (int_div least64 (pos (suc n))) ≡ not (fits W64 (negsuc m *ℤ pos (suc n)))
neg_pos m n = neg_lt m (9223372036854775808 / suc n) ∙ by_quotient 9223372036854775808 (suc n) (suc m) (omega arith) ∙ ap not (sym (neg_fits (suc m * suc n)))

neg_neg : (m n : ℕ) → int_lt (negsuc m) (int_div greatest64 (negsuc n)) ≡ not (fits W64 (negsuc m *ℤ negsuc n))
neg_neg m n = neg_lt m (9223372036854775807 / suc n) ∙ by_quotient 9223372036854775807 (suc n) (suc m) (omega arith)

not_above : (p : ℕ) → int_lt (pos 0) (neg_ℤ (pos p)) ≡ false
not_above zero = refl
not_above (suc p) = refl

above_zero : (n : ℕ) → nat_lt 0 (suc n) ≡ true
above_zero n = grind (arith, nat_tests)

abbrev fits_nat : ℕ → Bool
fits_nat p = nat_le p 9223372036854775807

abbrev fits_neg : ℕ → Bool
fits_neg p = fits W64 (neg_ℤ (pos p))

pub bad_exactly : (a b : ℤ) → is_bad a b ≡ not (fits W64 (a *ℤ b))
bad_exactly (pos zero) (pos zero) = refl
bad_exactly (pos zero) (pos (suc n)) = rw (above_zero n) (not_above (9223372036854775808 / suc n) ∙ sym (ap (λ p. not (fits_nat p)) (zero-mul (suc n))))
bad_exactly (pos zero) (negsuc n) = not_above (9223372036854775807 / suc n) ∙ sym (ap (λ p. not (fits_neg p)) (zero-mul (suc n)))
bad_exactly (pos (suc m)) (pos zero) = rw (above_zero m) (not_above (9223372036854775808 / suc m) ∙ sym (ap (λ p. not (fits_nat p)) (mul-zero (suc m))))
bad_exactly (pos (suc m)) (pos (suc n)) = rw (above_zero m) (rw (above_zero n) (pos_pos (suc m) n))
bad_exactly (pos (suc m)) (negsuc n) = rw (above_zero m) (pos_neg m n)
bad_exactly (negsuc m) (pos zero) = sym (ap (λ p. not (fits_neg p)) (mul-zero (suc m)))
bad_exactly (negsuc m) (pos (suc n)) = rw (above_zero n) (neg_pos m n)
bad_exactly (negsuc m) (negsuc n) = neg_neg m n

-- the quotients that are taken are numbers of 64 bits
greatest_by_pos : (n : ℕ) → fits W64 (int_div greatest64 (pos (suc n))) ≡ true
greatest_by_pos n = let small : 9223372036854775807 / suc n ≤ 9223372036854775807 = div-le_self 9223372036854775807 (suc n) in grind (arith, nat_tests)

greatest_by_neg : (n : ℕ) → fits W64 (int_div greatest64 (negsuc n)) ≡ true
greatest_by_neg n = let small : 9223372036854775807 / suc n ≤ 9223372036854775807 = div-le_self 9223372036854775807 (suc n) in neg_fits (9223372036854775807 / suc n) ∙ grind (arith, nat_tests)

least_by_pos : (n : ℕ) → fits W64 (int_div least64 (pos (suc n))) ≡ true
least_by_pos n = let small : 9223372036854775808 / suc n ≤ 9223372036854775808 = div-le_self 9223372036854775808 (suc n) in neg_fits (9223372036854775808 / suc n) ∙ grind (arith, nat_tests)

pub greatest_over : (b : ℤ) → int_lt (pos 0) b ≡ true → fits W64 (int_div greatest64 b) ≡ true
greatest_over (pos zero) h = cc
greatest_over (pos (suc n)) h = greatest_by_pos n
greatest_over (negsuc n) h = cc

pub greatest_under : (b : ℤ) → int_lt b (pos 0) ≡ true → fits W64 (int_div greatest64 b) ≡ true
greatest_under (pos zero) h = cc
greatest_under (pos (suc n)) h = absurd (let no : nat_lt (suc n) 0 ≡ false = grind (arith, nat_tests) in cc)
greatest_under (negsuc n) h = greatest_by_neg n

pub least_over : (b : ℤ) → int_lt (pos 0) b ≡ true → fits W64 (int_div least64 b) ≡ true
least_over (pos zero) h = cc
least_over (pos (suc n)) h = least_by_pos n
least_over (negsuc n) h = cc

pub nonzero_over : (b : ℤ) → int_lt (pos 0) b ≡ true → int_eq b (pos 0) ≡ false
nonzero_over b h = grind (arith, ints)

pub nonzero_under : (b : ℤ) → int_lt b (pos 0) ≡ true → int_eq b (pos 0) ≡ false
nonzero_under b h = grind (arith, ints)

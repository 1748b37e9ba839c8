-- Powers of integers: those of -1, 0 and 1, and how the others grow.
use Rattle.std.proofs.Common.{◌≡◌, ℕ, zero, suc, ◌+◌, ◌-◌, ◌*◌, ◌%◌, ◌≤◌, ◌<◌, Bool, true, false, ◌&&◌, refl, sym, ◌∙◌, ap, arith, ℤ, pos, negsuc, ◌*ℤ◌, ◌==◌, ◌^◌, ◌⊎◌, inl, inr, subst, if◌then◌else◌}
use Rattle.std.specs.Prelude.{unsigned_abs, int_le}
use Rattle.std.proofs.lemmas.Int.{ints, unsigned_abs-mul}
use Rattle.std.proofs.lemmas.Nat.{pow_below}
use Rattle.std.proofs.lemmas.Bool.{cases_lt}
use Rattle.type_rules.specs.Values.{is_in_kind}
use Rattle.type_rules.specs.Integers.{product_of}

pub of_zero : (n : ℕ) → 0 < n → product_of (pos 0) n ≡ pos 0
of_zero zero h = absurd (omega arith)
of_zero (suc n) h = by (product_of (pos 0) n)
  where
    by : (z : ℤ) → z *ℤ pos 0 ≡ pos 0
    by z = omega (arith, ints)

pub of_one : (n : ℕ) → product_of (pos 1) n ≡ pos 1
of_one zero = refl
of_one (suc n) = ap (λ z. z *ℤ pos 1) (of_one n)

pub of_minus_one : (n : ℕ) → product_of (negsuc 0) n ≡ (if n % 2 == 0 then pos 1 else negsuc 0)
of_minus_one zero = refl
of_minus_one (suc n) = ap (λ z. z *ℤ negsuc 0) (of_minus_one n) ∙ by (n % 2 == 0) (suc n % 2 == 0) refl refl
  where
    by : (t u : Bool) → (n % 2 == 0) ≡ t → (suc n % 2 == 0) ≡ u → (if t then pos 1 else negsuc 0) *ℤ negsuc 0 ≡ (if u then pos 1 else negsuc 0)
    by true true e f = absurd (grind arith)
    by true false e f = refl
    by false true e f = refl
    by false false e f = absurd (grind arith)

-- What 64 bits do not hold is great, and what is greater still they do not hold either.
pub great_beyond : (z : ℤ) → is_in_kind 8 z ≡ false → 9223372036854775808 ≤ unsigned_abs z
great_beyond z e = by (int_le (negsuc 9223372036854775807) z) (int_le z (pos 9223372036854775807)) refl refl e
  where
    by : (t u : Bool) → int_le (negsuc 9223372036854775807) z ≡ t → int_le z (pos 9223372036854775807) ≡ u → (t && u) ≡ false → 9223372036854775808 ≤ unsigned_abs z
    by true true p q e = cc
    by true false p q e = omega (arith, ints)
    by false true p q e = omega (arith, ints)
    by false false p q e = omega (arith, ints)

pub beyond_great : (z : ℤ) → 9223372036854775808 < unsigned_abs z → is_in_kind 8 z ≡ false
beyond_great z h = by (int_le (negsuc 9223372036854775807) z) (int_le z (pos 9223372036854775807)) refl refl
  where
    by : (t u : Bool) → int_le (negsuc 9223372036854775807) z ≡ t → int_le z (pos 9223372036854775807) ≡ u → (t && u) ≡ false
    by true true p q = absurd (omega (arith, ints))
    by true false p q = refl
    by false true p q = refl
    by false false p q = refl

more_beyond : (z f : ℤ) → 2 ≤ unsigned_abs f → is_in_kind 8 z ≡ false → is_in_kind 8 (z *ℤ f) ≡ false
more_beyond z f two beyond =
    let great = great_beyond z beyond in
    let e = unsigned_abs-mul z f in
    beyond_great (z *ℤ f) (rw e (doubled (unsigned_abs z) (unsigned_abs f) great two))
  where
    doubled : (a b : ℕ) → 9223372036854775808 ≤ a → 2 ≤ b → 9223372036854775808 < a * b
    doubled a b p q = grind arith

stays_beyond : (f : ℤ) (i k : ℕ) → 2 ≤ unsigned_abs f → is_in_kind 8 (product_of f i) ≡ false → is_in_kind 8 (product_of f (k + i)) ≡ false
stays_beyond f i zero two beyond = let e : 0 + i ≡ i = omega arith in rw e beyond
stays_beyond f i (suc k) two beyond =
    let e : suc k + i ≡ suc (k + i) = omega arith in
    rw e (more_beyond (product_of f (k + i)) f two (stays_beyond f i k two beyond))

-- A product that is beyond 64 bits after some of its factors is so after all.
pub beyond_at_end : (f p : ℤ) (i n : ℕ) → 2 ≤ unsigned_abs f → i < n → product_of f i ≡ p → is_in_kind 8 (p *ℤ f) ≡ false → is_in_kind 8 (product_of f n) ≡ false
beyond_at_end f p i n two below e beyond =
    let k : ℕ = n - suc i in
    let same : k + suc i ≡ n = omega arith in
    rw (← same) (stays_beyond f (suc i) k two (rw e beyond))

-- One more factor.
pub product_step : (f p q : ℤ) (i : ℕ) → product_of f i ≡ p → p *ℤ f ≡ q → product_of f (i + 1) ≡ q
product_step f p q i e h = let s : i + 1 ≡ suc i = omega arith in rw s (ap (λ z. z *ℤ f) e ∙ h)

pub of_minus_one_even : (f : ℤ) (n : ℕ) → f ≡ negsuc 0 → n % 2 ≡ 0 → pos 1 ≡ product_of f n
of_minus_one_even f n e h = rw e (sym (of_minus_one n ∙ by (n % 2) h))
  where
    by : (r : ℕ) → r ≡ 0 → (if r == 0 then pos 1 else negsuc 0) ≡ pos 1
    by r h = rw h refl

pub of_minus_one_odd : (f : ℤ) (n : ℕ) → f ≡ negsuc 0 → (n % 2 ≡ 0 → ⊥) → negsuc 0 ≡ product_of f n
of_minus_one_odd f n e h = rw e (sym (of_minus_one n ∙ by (n % 2) h))
  where
    test : (r : ℕ) (t : Bool) → (r ≡ 0 → ⊥) → (r == 0) ≡ t → (if t then pos 1 else negsuc 0) ≡ negsuc 0
    test r true h e = absurd (h (grind arith))
    test r false h e = refl

    by : (r : ℕ) → (r ≡ 0 → ⊥) → (if r == 0 then pos 1 else negsuc 0) ≡ negsuc 0
    by r h = test r (r == 0) h refl

pub of_unit : (f : ℤ) (n : ℕ) → f ≡ pos 1 → pos 1 ≡ product_of f n
of_unit f n e = rw e (sym (of_one n))

-- Each factor doubles the magnitude at least, so that 64 of them are more than 64 bits hold.
grows : (f : ℤ) (n : ℕ) → 2 ≤ unsigned_abs f → 2 ^ n ≤ unsigned_abs (product_of f n)
grows f zero two = omega arith
grows f (suc n) two = rw (unsigned_abs-mul (product_of f n) f) (by (2 ^ n) (unsigned_abs (product_of f n)) (unsigned_abs f) (2 ^ suc n) (pow_step n) (grows f n two) two)
  where
    pow_step : (n : ℕ) → 2 ^ suc n ≡ 2 ^ n * 2
    pow_step n = grind arith

    by : (a b c d : ℕ) → d ≡ a * 2 → a ≤ b → 2 ≤ c → d ≤ b * c
    by a b c d e p q = grind arith

pub few : (f p : ℤ) (n : ℕ) → 2 ≤ unsigned_abs f → product_of f n ≡ p → unsigned_abs p ≤ 9223372036854775808 → n ≤ 63
few f p n two e small = by (cases_lt 63 n)
  where
    by : (63 < n) ⊎ (n ≤ 63) → n ≤ 63
    by (inl h) =
        let more : 2 ^ 63 < 2 ^ n = pow_below 63 n h in
        let most = subst (λ z. 2 ^ n ≤ unsigned_abs z) e (grows f n two) in
        absurd (omega arith)
    by (inr h) = h

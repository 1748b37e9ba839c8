-- The elements of a section stand within the bounds.
use Rattle.std.proofs.Common.{◌≡◌, ℕ, Bool, true, false, ◌&&◌, refl, arith, ℤ, pos, ◌+ℤ◌, ◌-ℤ◌, ◌*ℤ◌, ◌==◌, if◌then◌else◌}
use Rattle.type_rules.specs.Values.{Evaluation, Gives, Traps, NoRule, and_then, is_in_kind}
use Rattle.type_rules.specs.Counts.{turns, is_within, section_count, IsWithinBounds}
use Rattle.lf_base.specs.declared.trap.Trap.TheVariants.{SubscriptOutOfRange}

both_true : (p q : Bool) → (p && q) ≡ true → (p ≡ true) × (q ≡ true)
both_true true true e = (refl, refl)
both_true true false e = cc
both_true false q e = cc

pub within_bounds : (first last step lower upper : ℤ) (n : ℕ) → section_count first last step lower upper ≡ Gives n → (n == 0) ≡ false → IsWithinBounds first step lower upper n
within_bounds first last step lower upper n e some = by (is_in_kind 4 first && is_in_kind 4 last && is_in_kind 4 step) e
  where
    there : (m : ℕ) (z t : Bool) → (m == 0) ≡ z → (is_within lower upper first && is_within lower upper (first +ℤ (pos m -ℤ pos 1) *ℤ step)) ≡ t → ◌≡◌ {A = Evaluation ℕ} (if z then Gives 0 else if t then Gives m else Traps SubscriptOutOfRange) (Gives n) → IsWithinBounds first step lower upper n
    there m true t p q f = let s : 0 ≡ n = cc in absurd (grind arith)
    there m false true p q f =
        let s : m ≡ n = cc in
        let h = both_true (is_within lower upper first) (is_within lower upper (first +ℤ (pos m -ℤ pos 1) *ℤ step)) q in
        rw (← s) (record { first_in = h.0; last_in = h.1 })
    there m false false p q f = cc

    counted : (o : Evaluation ℕ) → and_then o (λ m. if m == 0 then Gives 0 else if is_within lower upper first && is_within lower upper (first +ℤ (pos m -ℤ pos 1) *ℤ step) then Gives m else Traps SubscriptOutOfRange) ≡ Gives n → IsWithinBounds first step lower upper n
    counted (Gives m) f = there m (m == 0) (is_within lower upper first && is_within lower upper (first +ℤ (pos m -ℤ pos 1) *ℤ step)) refl refl f
    counted (Traps trap) f = cc
    counted NoRule f = cc

    by : (t : Bool) → ◌≡◌ {A = Evaluation ℕ} (if t then and_then (turns first last step) (λ m. if m == 0 then Gives 0 else if is_within lower upper first && is_within lower upper (first +ℤ (pos m -ℤ pos 1) *ℤ step) then Gives m else Traps SubscriptOutOfRange) else Traps SubscriptOutOfRange) (Gives n) → IsWithinBounds first step lower upper n
    by true f = counted (turns first last step) f
    by false f = cc

-- The turns of a loop and the elements of a section (ISO/IEC 1539-1:2018, 11.1.7.4.1 and 9.5.3.3).
use Rattle.std.specs.Prelude.{◌≡◌, ℕ, ℤ, pos, negsuc, ◌+ℤ◌, ◌-ℤ◌, ◌*ℤ◌, ◌==◌, int_le, int_div, unsigned_abs, Bool, true, ◌&&◌, if◌then◌else◌}
use Rattle.type_rules.specs.Values.{Evaluation, Gives, Traps, and_then, is_in_kind}
use Rattle.lf_base.specs.declared.trap.Trap.TheVariants.{SubscriptOutOfRange, ZeroStep}

abbrev pub not_below_zero : ℤ → ℕ
not_below_zero (pos n) = n
not_below_zero (negsuc n) = 0

-- How many turns there are from the first value to the last by this step.
abbrev pub turns : ℤ → ℤ → ℤ → Evaluation ℕ
turns first last step =
    if unsigned_abs step == 0 then Traps ZeroStep else Gives (not_below_zero (int_div (last -ℤ first +ℤ step) step))

abbrev pub is_within : ℤ → ℤ → ℤ → Bool
is_within lower upper subscript = int_le lower subscript && int_le subscript upper

-- How many elements the part `first:last:step` of a section has, in a dimension with these bounds.
abbrev pub section_count : ℤ → ℤ → ℤ → ℤ → ℤ → Evaluation ℕ
section_count first last step lower upper =
    if is_in_kind 4 first && is_in_kind 4 last && is_in_kind 4 step
    then and_then (turns first last step) (λ n.
    if n == 0 then Gives 0
    else if is_within lower upper first && is_within lower upper (first +ℤ (pos n -ℤ pos 1) *ℤ step) then Gives n
    else Traps SubscriptOutOfRange)
    else Traps SubscriptOutOfRange

-- The first and the last of so many elements stand within the bounds.
pub record IsWithinBounds (first step lower upper : ℤ) (n : ℕ) : Type 0 where
  pub first_in : is_within lower upper first ≡ true
  pub last_in : is_within lower upper (first +ℤ (pos n -ℤ pos 1) *ℤ step) ≡ true

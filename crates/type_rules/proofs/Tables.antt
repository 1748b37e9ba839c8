-- The table of operators, where it speaks of all operators but some.
use Rattle.std.proofs.Common.{◌≡◌, ℕ, ℤ, refl}
use Rattle.std.specs.Ordering.{int_cmp}
use Rattle.type_rules.specs.Operations.{on_integers, relation}
use Rattle.lf_base.specs.declared.operator.Operator.{Operator}
use Rattle.lf_base.specs.declared.operator.Operator.TheVariants.{Add, Subtract, Multiply, Divide, Power}

pub no_arithmetic : (op : Operator) (kind : ℕ) (a b : ℤ) → (op ≡ Add → ⊥) → (op ≡ Subtract → ⊥) → (op ≡ Multiply → ⊥) → (op ≡ Divide → ⊥) → (op ≡ Power → ⊥) → on_integers op kind a b ≡ relation op (int_cmp a b)
no_arithmetic Add kind a b h _ _ _ _ = absurd (h refl)
no_arithmetic Subtract kind a b _ h _ _ _ = absurd (h refl)
no_arithmetic Multiply kind a b _ _ h _ _ = absurd (h refl)
no_arithmetic Divide kind a b _ _ _ h _ = absurd (h refl)
no_arithmetic Power kind a b _ _ _ _ h = absurd (h refl)
no_arithmetic _ kind a b _ _ _ _ _ = refl

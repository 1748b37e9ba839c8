-- The table of operations on typed operands: it gives a value of the type or traps, and gives the same where an operand was
-- converted to the greater kind before.
use Rattle.std.proofs.Common.{◌≡◌, ℕ, ℤ, ◌+ℤ◌, ◌-ℤ◌, ◌*ℤ◌, max, Bool, true, false, if◌then◌else◌, ◌==◌, ◌||◌, Some, Ok, Err, refl, sym, ap, subst, ◌∙◌, arith, true≢false, ◌⊎◌, inl, inr}
use Rattle.std.proofs.lemmas.Bool.Decides.{eqb_tells}
use Rattle.lf_base.specs.declared.operator.Operator.{Operator}
use Rattle.lf_base.specs.declared.operator.Operator.TheVariants as operator
use Rattle.type_rules.specs.Values.{Scalar, Integer, Evaluation, Gives, Traps, NoRule, Exact, fitted, is_in_kind, is_kind}
use Rattle.type_rules.specs.Integers.{quotient, power}
use Rattle.type_rules.specs.Operations.{on_integers, on_logicals, convert}
use Rattle.fortran_semantics.specs.Declared.{ScalarType, IntegerType, LogicalType}
use Rattle.ast_to_asr.specs.Expressions.{greater, integer_result, logical_result}
use Rattle.fortran_link.specs.Typed.{IsTyped}

abbrev pub Yields : ScalarType → Evaluation Scalar → Type 0
Yields ty (Gives scalar) = IsTyped ty scalar
Yields ty (Traps cause) = Unit {0}
Yields ty NoRule = ⊥

pub kinds : (k : ℕ) → is_kind k ≡ true → (k ≡ 4) ⊎ (k ≡ 8)
kinds k e = elim (eqb_tells k 4) as (λ _. (k ≡ 4) ⊎ (k ≡ 8)) [ inl p ↦ inl p.1 | inr p ↦ inr (by (eqb_tells k 8) p.0) ]
  where
    by : ((k == 8) ≡ true) × (k ≡ 8) ⊎ ((k == 8) ≡ false) × (k ≡ 8 → ⊥) → (k == 4) ≡ false → k ≡ 8
    by (inl q) f = q.1
    by (inr q) f = absurd (true≢false (sym e ∙ ap (λ t. t || (k == 8)) f ∙ q.0))

pub fitted_yields : (k : ℕ) → is_kind k ≡ true → (x : Exact) → Yields (IntegerType k) (fitted k x)
fitted_yields k e (Ok z) = by (is_in_kind k z) refl
  where
    by : (t : Bool) → is_in_kind k z ≡ t → Yields (IntegerType k) (if t then Gives (Integer k z) else Traps Rattle.lf_base.specs.declared.trap.Trap.TheVariants.IntegerOverflow)
    by true q = (refl, e, q)
    by false q = tt
fitted_yields k e (Err cause) = tt

pub convert_yields : (k : ℕ) → is_kind k ≡ true → (j : ℕ) (z : ℤ) → Yields (IntegerType k) (convert k (Integer j z))
convert_yields k e j z = subst (λ t. Yields (IntegerType k) (if t then fitted k (Ok z) else NoRule)) (sym e) (fitted_yields k e (Ok z))

-- a value in its own kind, and in the greater one
pub convert_own : (k : ℕ) (z : ℤ) → is_kind k ≡ true → is_in_kind k z ≡ true → convert k (Integer k z) ≡ Gives (Integer k z)
convert_own k z e q = ap (λ t. if t then fitted k (Ok z) else NoRule) e ∙ ap (λ t. if t then Gives (Integer k z) else Traps Rattle.lf_base.specs.declared.trap.Trap.TheVariants.IntegerOverflow) q

pub greater_left : (j k : ℕ) → is_kind j ≡ true → is_kind k ≡ true → (greater j k ≡ max j k) × (max (greater j k) (greater j k) ≡ max j k) × (is_kind (greater j k) ≡ true)
greater_left j k e f =
    elim (kinds j e) as (λ _. (greater j k ≡ max j k) × (max (greater j k) (greater j k) ≡ max j k) × (is_kind (greater j k) ≡ true)) [
      | inl p ↦ elim (kinds k f) as (λ _. (greater j k ≡ max j k) × (max (greater j k) (greater j k) ≡ max j k) × (is_kind (greater j k) ≡ true)) [
        | inl q ↦ at j k 4 4 p q (refl, refl, refl)
        | inr q ↦ at j k 4 8 p q (refl, refl, refl)
      ]
      | inr p ↦ elim (kinds k f) as (λ _. (greater j k ≡ max j k) × (max (greater j k) (greater j k) ≡ max j k) × (is_kind (greater j k) ≡ true)) [
        | inl q ↦ at j k 8 4 p q (refl, refl, refl)
        | inr q ↦ at j k 8 8 p q (refl, refl, refl)
      ]
    ]
  where
    at : (j k a b : ℕ) → j ≡ a → k ≡ b → (greater a b ≡ max a b) × (max (greater a b) (greater a b) ≡ max a b) × (is_kind (greater a b) ≡ true) → (greater j k ≡ max j k) × (max (greater j k) (greater j k) ≡ max j k) × (is_kind (greater j k) ≡ true)
    at j k a b p q h = subst (λ x. (greater x k ≡ max x k) × (max (greater x k) (greater x k) ≡ max x k) × (is_kind (greater x k) ≡ true)) (sym p) (subst (λ y. (greater a y ≡ max a y) × (max (greater a y) (greater a y) ≡ max a y) × (is_kind (greater a y) ≡ true)) (sym q) h)

-- operators on integers of one kind, and on logicals
some_type : (a b : ScalarType) → Some a ≡ Some b → a ≡ b
some_type a b q = cc

pub integers_yield : (op : Operator) (k : ℕ) (ty : ScalarType) (a b : ℤ) → is_kind k ≡ true → integer_result op k ≡ Some ty → Yields ty (on_integers op k a b)
integers_yield operator.Add k ty a b e q = subst (λ t. Yields t (on_integers operator.Add k a b)) (some_type (IntegerType k) ty q) (fitted_yields k e (Ok (a +ℤ b)))
integers_yield operator.Subtract k ty a b e q = subst (λ t. Yields t (on_integers operator.Subtract k a b)) (some_type (IntegerType k) ty q) (fitted_yields k e (Ok (a -ℤ b)))
integers_yield operator.Multiply k ty a b e q = subst (λ t. Yields t (on_integers operator.Multiply k a b)) (some_type (IntegerType k) ty q) (fitted_yields k e (Ok (a *ℤ b)))
integers_yield operator.Divide k ty a b e q = subst (λ t. Yields t (on_integers operator.Divide k a b)) (some_type (IntegerType k) ty q) (fitted_yields k e (quotient a b))
integers_yield operator.Power k ty a b e q = subst (λ t. Yields t (on_integers operator.Power k a b)) (some_type (IntegerType k) ty q) (fitted_yields k e (power a b))
integers_yield operator.Eq k ty a b e q = subst (λ t. Yields t (on_integers operator.Eq k a b)) (some_type LogicalType ty q) tt
integers_yield operator.Ne k ty a b e q = subst (λ t. Yields t (on_integers operator.Ne k a b)) (some_type LogicalType ty q) tt
integers_yield operator.Lt k ty a b e q = subst (λ t. Yields t (on_integers operator.Lt k a b)) (some_type LogicalType ty q) tt
integers_yield operator.Le k ty a b e q = subst (λ t. Yields t (on_integers operator.Le k a b)) (some_type LogicalType ty q) tt
integers_yield operator.Gt k ty a b e q = subst (λ t. Yields t (on_integers operator.Gt k a b)) (some_type LogicalType ty q) tt
integers_yield operator.Ge k ty a b e q = subst (λ t. Yields t (on_integers operator.Ge k a b)) (some_type LogicalType ty q) tt
integers_yield operator.Concatenate k ty a b e q = absurd (cc)
integers_yield operator.And k ty a b e q = absurd (cc)
integers_yield operator.Or k ty a b e q = absurd (cc)
integers_yield operator.Eqv k ty a b e q = absurd (cc)
integers_yield operator.Neqv k ty a b e q = absurd (cc)
integers_yield operator.Not k ty a b e q = absurd (cc)

pub logicals_yield : (op : Operator) (ty : ScalarType) (p q : Bool) → logical_result op ≡ Some ty → Yields ty (on_logicals op p q)
logicals_yield operator.And ty p q e = subst (λ t. Yields t (on_logicals operator.And p q)) (some_type LogicalType ty e) tt
logicals_yield operator.Or ty p q e = subst (λ t. Yields t (on_logicals operator.Or p q)) (some_type LogicalType ty e) tt
logicals_yield operator.Eqv ty p q e = subst (λ t. Yields t (on_logicals operator.Eqv p q)) (some_type LogicalType ty e) tt
logicals_yield operator.Neqv ty p q e = subst (λ t. Yields t (on_logicals operator.Neqv p q)) (some_type LogicalType ty e) tt
logicals_yield operator.Add ty p q e = absurd (cc)
logicals_yield operator.Subtract ty p q e = absurd (cc)
logicals_yield operator.Multiply ty p q e = absurd (cc)
logicals_yield operator.Divide ty p q e = absurd (cc)
logicals_yield operator.Power ty p q e = absurd (cc)
logicals_yield operator.Concatenate ty p q e = absurd (cc)
logicals_yield operator.Eq ty p q e = absurd (cc)
logicals_yield operator.Ne ty p q e = absurd (cc)
logicals_yield operator.Lt ty p q e = absurd (cc)
logicals_yield operator.Le ty p q e = absurd (cc)
logicals_yield operator.Gt ty p q e = absurd (cc)
logicals_yield operator.Ge ty p q e = absurd (cc)
logicals_yield operator.Not ty p q e = absurd (cc)

-- a value of a kind is one of the greater kind
eight_holds : (z : ℤ) → is_in_kind 4 z ≡ true → is_in_kind 8 z ≡ true
eight_holds z h = grind (arith)

pub in_greater : (j k : ℕ) (z : ℤ) → is_kind j ≡ true → is_in_kind j z ≡ true → is_in_kind (greater j k) z ≡ true
in_greater j k z f h =
    elim (kinds j f) as (λ _. is_in_kind (greater j k) z ≡ true) [
      | inl p ↦ subst (λ m. is_in_kind (greater m k) z ≡ true) (sym p) (four (k == 8) (subst (λ m. is_in_kind m z ≡ true) p h))
      | inr p ↦ subst (λ m. is_in_kind (greater m k) z ≡ true) (sym p) (subst (λ m. is_in_kind m z ≡ true) p h)
    ]
  where
    four : (t : Bool) → is_in_kind 4 z ≡ true → is_in_kind (if t then 8 else 4) z ≡ true
    four true g = eight_holds z g
    four false g = g

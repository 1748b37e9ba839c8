-- An expression of a source and its tree do the same, in every typed state.
use Rattle.std.proofs.Common.{◌≡◌, ℕ, ℤ, Bool, true, if◌then◌else◌, List, [], ◌∷◌, Some, sym, ap, subst, inl, inr}
use Rattle.lf_base.specs.Outcome.{Location}
use Rattle.lf_base.specs.Acts.{bind, give}
use Rattle.lf_base.specs.Equal.{World, Equal, EqualAt, Always}
use Rattle.lf_base.proofs.Equals.{bind_equal, bind_through, give_equal, trap_equal}
use Rattle.lf_base.specs.Traps.{trap_text}
use Rattle.type_rules.specs.Values.{Scalar, Integer, Logical, Characters, Evaluation, Gives, Traps, NoRule, is_in_kind, is_kind}
use Rattle.type_rules.specs.Store.{Value, Single, Array, Record}
use Rattle.type_rules.specs.Arrays.{single}
use Rattle.type_rules.specs.Operations.{convert}
use Rattle.type_rules.specs.declared.constant.Op.TheVariants.{Convert}
use Rattle.asr_nodes.specs.declared.tree.ExprTree.{ExprTree}
use Rattle.asr_nodes.specs.declared.tree.ExprTree.TheVariants as e
use Rattle.asr_semantics.specs.Machine.{State, M, result}
use Rattle.std.proofs.lemmas.Bool.Decides.{eqb_tells}
use Rattle.asr_semantics.specs.Entities.{Entities}
use Rattle.asr_semantics.specs.Meaning.{operate, Calls, expression}
use Rattle.asr_semantics.proofs.Nodes.{expression-Convert}
use Rattle.ast_to_asr.specs.Expressions.{in_kind}
use Rattle.fortran_semantics.specs.Declared.{ScalarType, IntegerType, LogicalType, Declared}
use Rattle.fortran_link.proofs.States.{Is, W}
use Rattle.fortran_link.proofs.Values.{Yields}

module _ (unit_name : List ℕ) (declared : List Declared) where
  abbrev V : World State
  V = W unit_name declared

  -- an operation that yields a value of the type
  pub result_equal : (P : State → Type 0) (here : Location) (ty : ScalarType) (x : Evaluation Scalar) → Yields ty x → Equal V P (Is ty) (result here (single x)) (result here (single x))
  result_equal P here ty (Gives scalar) h = give_equal V P (Is ty) (Single scalar) (λ s i p. h)
  result_equal P here ty (Traps cause) h = trap_equal V P (Is ty) cause (trap_text cause here) (Some here)
  result_equal P here ty NoRule h = absurd h

  -- a typed value is an integer of the kind, or a logical
  pub on_integer : {A : Type 0} (j : ℕ) (U : A → State → Type 0) (go go' : Value → M A) (s : State) → ((z : ℤ) → is_kind j ≡ true → is_in_kind j z ≡ true → Equal V Always U (go (Single (Integer j z))) (go' (Single (Integer j z)))) → (v : Value) → Equal V (λ t. V.later s t × Is (IntegerType j) v t) U (go v) (go' v)
  on_integer j U go go' s h (Single (Integer k z)) = λ t i p w. subst (λ m. EqualAt V t U (go (Single (Integer m z)) t w) (go' (Single (Integer m z)) t w)) (sym p.1.0) (h z p.1.1 p.1.2 t i tt w)
  on_integer j U go go' s h (Single (Logical b)) = λ t i p w. absurd p.1
  on_integer j U go go' s h (Single (Characters b)) = λ t i p w. absurd p.1
  on_integer j U go go' s h (Array x y z) = λ t i p w. absurd p.1
  on_integer j U go go' s h (Record c) = λ t i p w. absurd p.1

  pub on_logical : {A : Type 0} (U : A → State → Type 0) (go go' : Value → M A) (s : State) → ((b : Bool) → Equal V Always U (go (Single (Logical b))) (go' (Single (Logical b)))) → (v : Value) → Equal V (λ t. V.later s t × Is LogicalType v t) U (go v) (go' v)
  on_logical U go go' s h (Single (Logical b)) = λ t i p w. h b t i tt w
  on_logical U go go' s h (Single (Integer k z)) = λ t i p w. absurd p.1
  on_logical U go go' s h (Single (Characters b)) = λ t i p w. absurd p.1
  on_logical U go go' s h (Array x y z) = λ t i p w. absurd p.1
  on_logical U go go' s h (Record c) = λ t i p w. absurd p.1

  module _ (es : Entities) (n : ℕ) (inner : Calls) where
    abbrev A : ExprTree → Location → M Value
    A x here = (expression es n inner x).value here

    -- a conversion that changes the kind alone
    widened : (here : Location) (g j : ℕ) (z : ℤ) → convert g (Integer j z) ≡ Gives (Integer g z) → operate here (Convert g) (Single (Integer j z) ∷ []) ≡ give (Single (Integer g z))
    widened here g j z h = ap (λ x. result here (single x)) h

    pub converted_equal : {B : Type 0} (U : B → State → Type 0) (here : Location) (g j : ℕ) (x : ExprTree) (act : M Value) (go go' : Value → M B) → ((z : ℤ) → is_kind j ≡ true → is_in_kind j z ≡ true → convert g (Integer j z) ≡ Gives (Integer g z)) → Equal V Always (Is (IntegerType j)) act (A x here) → ((z : ℤ) → is_kind j ≡ true → is_in_kind j z ≡ true → Equal V Always U (go (Single (Integer j z))) (go' (Single (Integer g z)))) → Equal V Always U (bind act go) (bind (A (in_kind g j x) here) go')
    converted_equal U here g j x act go go' wide h k =
        elim (eqb_tells j g) as (λ _. Equal V Always U (bind act go) (bind (A (in_kind g j x) here) go')) [
          | inl p ↦
              subst (λ t. Equal V Always U (bind act go) (bind (A (if t then x else e.Convert g x) here) go')) (sym p.0)
              (bind_equal V Always (Is (IntegerType j)) U act (A x here) go go' h
              (λ v s i q. on_integer j U go go' s (λ z f r. subst (λ m. Equal V Always U (go (Single (Integer j z))) (go' (Single (Integer m z)))) (sym p.1) (k z f r)) v))
          | inr p ↦
              subst (λ t. Equal V Always U (bind act go) (bind (A (if t then x else e.Convert g x) here) go')) (sym p.0)
              (subst (λ m. Equal V Always U (bind act go) (bind (m.value here) go')) (sym (expression-Convert es n inner g x))
              (bind_through V Always (Is (IntegerType j)) U act (A x here) (λ v. operate here (Convert g) (v ∷ [])) go go' h
              (λ v s i q. on_integer j U go (λ u. bind (operate here (Convert g) (u ∷ [])) go') s
              (λ z f r. subst (λ m. Equal V Always U (go (Single (Integer j z))) (bind m go')) (sym (widened here g j z (wide z f r))) (k z f r)) v)))
        ]

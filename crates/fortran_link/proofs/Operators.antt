-- A binary operation of a source and its tree: the operands converted to one kind.
use Rattle.std.proofs.Common.{◌≡◌, ℕ, ℤ, max, Bool, true, false, if◌then◌else◌, ◌==◌, ◌||◌, List, [], ◌∷◌, Some, None, refl, sym, ap, subst, ◌∙◌}
use Rattle.lf_base.specs.Outcome.{Location}
use Rattle.lf_base.specs.Acts.{bind}
use Rattle.lf_base.specs.Equal.{Equal, Always}
use Rattle.lf_base.specs.Operators.{operator_of}
use Rattle.lf_base.specs.declared.operator.Operator.{Operator}
use Rattle.lf_base.specs.declared.operator.Operator.TheVariants as operator
use Rattle.type_rules.specs.Values.{Integer, Gives, is_in_kind, is_kind}
use Rattle.type_rules.specs.Store.{Value, Single}
use Rattle.type_rules.specs.Arrays.{single}
use Rattle.type_rules.specs.Operations.{on_integers, binary, convert, where_known}
use Rattle.type_rules.specs.declared.constant.Op.TheVariants.{Binary}
use Rattle.asr_nodes.specs.declared.tree.ExprTree.{ExprTree}
use Rattle.asr_nodes.specs.declared.tree.ExprTree.TheVariants as e
use Rattle.asr_semantics.specs.Machine.{M, result}
use Rattle.asr_semantics.specs.Entities.{Entities}
use Rattle.asr_semantics.specs.Meaning.{operate, needed, decides, Calls, expression}
use Rattle.asr_semantics.proofs.Nodes.{expression-Binary}
use Rattle.fortran_semantics.specs.Declared.{ScalarType, IntegerType, Declared}
use Rattle.ast_to_asr.specs.Expressions.{in_kind, greater, integer_result}
use Rattle.fortran_link.proofs.States.{Is, W}
use Rattle.fortran_link.proofs.Values.{convert_own, greater_left, integers_yield, in_greater}
use Rattle.fortran_link.proofs.Expressions.{result_equal, converted_equal}

-- an operator on integers never decides by its left operand alone
decides_none : (op : Operator) (k : ℕ) (ty : ScalarType) → integer_result op k ≡ Some ty → decides (Some op) ≡ None
decides_none operator.Add k ty q = refl
decides_none operator.Subtract k ty q = refl
decides_none operator.Multiply k ty q = refl
decides_none operator.Divide k ty q = refl
decides_none operator.Power k ty q = refl
decides_none operator.Eq k ty q = refl
decides_none operator.Ne k ty q = refl
decides_none operator.Lt k ty q = refl
decides_none operator.Le k ty q = refl
decides_none operator.Gt k ty q = refl
decides_none operator.Ge k ty q = refl
decides_none operator.Concatenate k ty q = refl
decides_none operator.Eqv k ty q = refl
decides_none operator.Neqv k ty q = refl
decides_none operator.Not k ty q = refl
decides_none operator.And k ty q = absurd (cc)
decides_none operator.Or k ty q = absurd (cc)

pub greater_is_kind : (j k : ℕ) → is_kind (greater j k) ≡ true
greater_is_kind j k = by ((j == 8) || (k == 8))
  where
    by : (t : Bool) → is_kind (if t then 8 else 4) ≡ true
    by true = refl
    by false = refl

pub greater_either : (j k : ℕ) → greater j k ≡ greater k j
greater_either j k = by (j == 8) (k == 8)
  where
    kind_of_both : Bool → ℕ
    kind_of_both t = if t then 8 else 4

    by : (p q : Bool) → kind_of_both (p || q) ≡ kind_of_both (q || p)
    by true true = refl
    by true false = refl
    by false true = refl
    by false false = refl

-- each operand in the kind of both
wide_left : (j k : ℕ) (z : ℤ) → is_kind j ≡ true → is_in_kind j z ≡ true → convert (greater j k) (Integer j z) ≡ Gives (Integer (greater j k) z)
wide_left j k z f h = convert_own (greater j k) z (greater_is_kind j k) (in_greater j k z f h)

wide_right : (j k : ℕ) (z : ℤ) → is_kind k ≡ true → is_in_kind k z ≡ true → convert (greater j k) (Integer k z) ≡ Gives (Integer (greater j k) z)
wide_right j k z f h = subst (λ m. convert m (Integer k z) ≡ Gives (Integer m z)) (sym (greater_either j k)) (wide_left k j z f h)

-- what an operation on integers of two kinds gives
operated : (here : Location) (code : ℕ) (op : Operator) (j k : ℕ) (z w : ℤ) → operator_of code ≡ Some op → operate here (Binary code) (Single (Integer j z) ∷ Single (Integer k w) ∷ []) ≡ result here (single (on_integers op (max j k) z w))
operated here code op j k z w h = ap (λ o. result here (single (where_known o (λ p. binary p (Integer j z) (Integer k w))))) h

module _ (unit_name : List ℕ) (declared : List Declared) (es : Entities) (n : ℕ) (inner : Calls) where
  abbrev A : ExprTree → Location → M Value
  A x here = (expression es n inner x).value here

  on_both : (here : Location) (code : ℕ) (op : Operator) (ty : ScalarType) (j k : ℕ) (z w : ℤ) → operator_of code ≡ Some op → integer_result op (greater j k) ≡ Some ty → is_kind j ≡ true → is_kind k ≡ true → Equal (W unit_name declared) Always (Is ty) (operate here (Binary code) (Single (Integer j z) ∷ Single (Integer k w) ∷ [])) (operate here (Binary code) (Single (Integer (greater j k) z) ∷ Single (Integer (greater j k) w) ∷ []))
  on_both here code op ty j k z w h q f r =
      let g = greater_left j k f r in
      let left = operated here code op j k z w h in
      let right = operated here code op (greater j k) (greater j k) z w h ∙ ap (λ m. result here (single (on_integers op m z w))) g.1 in
      let yields = integers_yield op (max j k) ty z w (subst (λ m. is_kind m ≡ true) g.0 g.2) (subst (λ m. integer_result op m ≡ Some ty) g.0 q) in
      subst (λ x. Equal (W unit_name declared) Always (Is ty) x (operate here (Binary code) (Single (Integer (greater j k) z) ∷ Single (Integer (greater j k) w) ∷ []))) (sym left)
      (subst (λ y. Equal (W unit_name declared) Always (Is ty) (result here (single (on_integers op (max j k) z w))) y) (sym right)
      (result_equal unit_name declared Always here ty (on_integers op (max j k) z w) yields))

  -- the operands are evaluated from the left, each converted directly behind its evaluation
  pub integers_equal : (here : Location) (code : ℕ) (op : Operator) (ty : ScalarType) (j k : ℕ) (a b : ExprTree) (left right : M Value) → operator_of code ≡ Some op → integer_result op (greater j k) ≡ Some ty → Equal (W unit_name declared) Always (Is (IntegerType j)) left (A a here) → Equal (W unit_name declared) Always (Is (IntegerType k)) right (A b here) → Equal (W unit_name declared) Always (Is ty) (bind left (λ l. needed (decides (operator_of code)) l (bind right (λ r. operate here (Binary code) (l ∷ r ∷ []))))) (A (e.Binary code (in_kind (greater j k) j a) (in_kind (greater j k) k b)) here)
  integers_equal here code op ty j k a b left right h q claim claim' =
      let d : decides (operator_of code) ≡ None = ap decides h ∙ decides_none op (greater j k) ty q in
      subst (λ m. Equal (W unit_name declared) Always (Is ty) (bind left (λ l. needed (decides (operator_of code)) l (bind right (λ r. operate here (Binary code) (l ∷ r ∷ []))))) (m.value here)) (sym (expression-Binary es n inner code (in_kind (greater j k) j a) (in_kind (greater j k) k b)))
      (converted_equal unit_name declared es n inner (Is ty) here (greater j k) j a left
      (λ l. needed (decides (operator_of code)) l (bind right (λ r. operate here (Binary code) (l ∷ r ∷ []))))
      (λ l. needed (decides (operator_of code)) l (bind (A (in_kind (greater j k) k b) here) (λ r. operate here (Binary code) (l ∷ r ∷ []))))
      (wide_left j k) claim
      (λ z f r.
      subst (λ o. Equal (W unit_name declared) Always (Is ty) (needed o (Single (Integer j z)) (bind right (λ v. operate here (Binary code) (Single (Integer j z) ∷ v ∷ [])))) (needed o (Single (Integer (greater j k) z)) (bind (A (in_kind (greater j k) k b) here) (λ v. operate here (Binary code) (Single (Integer (greater j k) z) ∷ v ∷ []))))) (sym d)
      (converted_equal unit_name declared es n inner (Is ty) here (greater j k) k b right
      (λ v. operate here (Binary code) (Single (Integer j z) ∷ v ∷ []))
      (λ v. operate here (Binary code) (Single (Integer (greater j k) z) ∷ v ∷ []))
      (wide_right j k) claim'
      (λ w f' r'. on_both here code op ty j k z w h q f f'))))

-- Operations on logicals, signs, `.not.` and conversions of a source and their trees.
use Rattle.std.proofs.Common.{◌≡◌, ℕ, ℤ, neg_ℤ, not, Bool, true, false, List, [], ◌∷◌, Option, Some, None, Ok, refl, sym, ap, subst, ◌∙◌}
use Rattle.lf_base.specs.Outcome.{Location}
use Rattle.lf_base.specs.Acts.{bind}
use Rattle.lf_base.specs.Equal.{World, Equal, Always}
use Rattle.lf_base.proofs.Equals.{bind_equal, give_equal}
use Rattle.lf_base.specs.Operators.{operator_of}
use Rattle.lf_base.specs.declared.operator.Operator.{Operator}
use Rattle.lf_base.specs.declared.operator.Operator.TheVariants as operator
use Rattle.type_rules.specs.Values.{Integer, Logical, is_kind}
use Rattle.type_rules.specs.Store.{Value, Single}
use Rattle.type_rules.specs.Arrays.{single}
use Rattle.type_rules.specs.Operations.{on_integer, on_logical as on_truth, on_logicals as on_truths, unary, binary, where_known}
use Rattle.type_rules.specs.declared.constant.Op.TheVariants.{Unary, Binary, Convert}
use Rattle.asr_nodes.specs.declared.tree.ExprTree.{ExprTree}
use Rattle.asr_nodes.specs.declared.tree.ExprTree.TheVariants as e
use Rattle.asr_semantics.specs.Machine.{State, M, result}
use Rattle.asr_semantics.specs.Entities.{Entities}
use Rattle.asr_semantics.specs.Meaning.{operate, needed, decides, or_left, same, Calls, expression}
use Rattle.asr_semantics.proofs.Nodes.{expression-Unary, expression-Binary, expression-Convert}
use Rattle.fortran_semantics.specs.Declared.{ScalarType, IntegerType, LogicalType, Declared}
use Rattle.ast_to_asr.specs.Expressions.{logical_result, takes_operand}
use Rattle.fortran_link.proofs.States.{Is, W}
use Rattle.fortran_link.proofs.Values.{Yields, fitted_yields, convert_yields, logicals_yield}
use Rattle.fortran_link.proofs.Expressions.{result_equal, on_integer as by_integer, on_logical as by_logical}

-- what operators on logicals give is a logical
pub only_logical : (op : Operator) (ty : ScalarType) → logical_result op ≡ Some ty → ty ≡ LogicalType
only_logical operator.And ty q = cc
only_logical operator.Or ty q = cc
only_logical operator.Eqv ty q = cc
only_logical operator.Neqv ty q = cc
only_logical operator.Add ty q = absurd (cc)
only_logical operator.Subtract ty q = absurd (cc)
only_logical operator.Multiply ty q = absurd (cc)
only_logical operator.Divide ty q = absurd (cc)
only_logical operator.Power ty q = absurd (cc)
only_logical operator.Concatenate ty q = absurd (cc)
only_logical operator.Eq ty q = absurd (cc)
only_logical operator.Ne ty q = absurd (cc)
only_logical operator.Lt ty q = absurd (cc)
only_logical operator.Le ty q = absurd (cc)
only_logical operator.Gt ty q = absurd (cc)
only_logical operator.Ge ty q = absurd (cc)
only_logical operator.Not ty q = absurd (cc)

-- a sign of an integer, and `.not.` of a logical
integer_yields : (op : Operator) (k : ℕ) (z : ℤ) → takes_operand op (IntegerType k) ≡ true → is_kind k ≡ true → Yields (IntegerType k) (on_integer op k z)
integer_yields operator.Add k z q f = fitted_yields k f (Ok z)
integer_yields operator.Subtract k z q f = fitted_yields k f (Ok (neg_ℤ z))
integer_yields operator.Multiply k z q f = absurd (cc)
integer_yields operator.Divide k z q f = absurd (cc)
integer_yields operator.Power k z q f = absurd (cc)
integer_yields operator.Concatenate k z q f = absurd (cc)
integer_yields operator.Eq k z q f = absurd (cc)
integer_yields operator.Ne k z q f = absurd (cc)
integer_yields operator.Lt k z q f = absurd (cc)
integer_yields operator.Le k z q f = absurd (cc)
integer_yields operator.Gt k z q f = absurd (cc)
integer_yields operator.Ge k z q f = absurd (cc)
integer_yields operator.And k z q f = absurd (cc)
integer_yields operator.Or k z q f = absurd (cc)
integer_yields operator.Eqv k z q f = absurd (cc)
integer_yields operator.Neqv k z q f = absurd (cc)
integer_yields operator.Not k z q f = absurd (cc)

logical_yields : (op : Operator) (t : Bool) → takes_operand op LogicalType ≡ true → Yields LogicalType (on_truth op t)
logical_yields operator.Not t q = tt
logical_yields operator.Add t q = absurd (cc)
logical_yields operator.Subtract t q = absurd (cc)
logical_yields operator.Multiply t q = absurd (cc)
logical_yields operator.Divide t q = absurd (cc)
logical_yields operator.Power t q = absurd (cc)
logical_yields operator.Concatenate t q = absurd (cc)
logical_yields operator.Eq t q = absurd (cc)
logical_yields operator.Ne t q = absurd (cc)
logical_yields operator.Lt t q = absurd (cc)
logical_yields operator.Le t q = absurd (cc)
logical_yields operator.Gt t q = absurd (cc)
logical_yields operator.Ge t q = absurd (cc)
logical_yields operator.And t q = absurd (cc)
logical_yields operator.Or t q = absurd (cc)
logical_yields operator.Eqv t q = absurd (cc)
logical_yields operator.Neqv t q = absurd (cc)

on_two : (here : Location) (code : ℕ) (op : Operator) (p q : Bool) → operator_of code ≡ Some op → operate here (Binary code) (Single (Logical p) ∷ Single (Logical q) ∷ []) ≡ result here (single (on_truths op p q))
on_two here code op p q h = ap (λ o. result here (single (where_known o (λ f. binary f (Logical p) (Logical q))))) h

on_one : (here : Location) (code : ℕ) (op : Operator) (t : Bool) → operator_of code ≡ Some op → operate here (Unary code) (Single (Logical t) ∷ []) ≡ result here (single (on_truth op t))
on_one here code op t h = ap (λ o. result here (single (where_known o (λ f. unary f (Logical t))))) h

on_number : (here : Location) (code : ℕ) (op : Operator) (k : ℕ) (z : ℤ) → operator_of code ≡ Some op → operate here (Unary code) (Single (Integer k z) ∷ []) ≡ result here (single (on_integer op k z))
on_number here code op k z h = ap (λ o. result here (single (where_known o (λ f. unary f (Integer k z))))) h

module _ (unit_name : List ℕ) (declared : List Declared) (es : Entities) (n : ℕ) (inner : Calls) where
  abbrev V : World State
  V = W unit_name declared

  abbrev A : ExprTree → Location → M Value
  A x here = (expression es n inner x).value here

  -- a right operand is taken where the left one does not decide
  needed_equal : (o : Option Bool) (b : Bool) (more more' : M Value) → Equal V Always (Is LogicalType) more more' → Equal V Always (Is LogicalType) (needed o (Single (Logical b)) more) (needed o (Single (Logical b)) more')
  needed_equal None b more more' h = h
  needed_equal (Some t) b more more' h = by (same t b)
    where
      by : (u : Bool) → Equal V Always (Is LogicalType) (or_left (Single (Logical b)) more u) (or_left (Single (Logical b)) more' u)
      by true = h
      by false = give_equal V Always (Is LogicalType) (Single (Logical b)) (λ s i p. tt)

  -- what is done with two logicals is the same act
  both_equal : (here : Location) (code : ℕ) (op : Operator) (p q : Bool) → operator_of code ≡ Some op → logical_result op ≡ Some LogicalType → Equal V Always (Is LogicalType) (operate here (Binary code) (Single (Logical p) ∷ Single (Logical q) ∷ [])) (operate here (Binary code) (Single (Logical p) ∷ Single (Logical q) ∷ []))
  both_equal here code op p q h r =
      subst (λ m. Equal V Always (Is LogicalType) m m) (sym (on_two here code op p q h))
      (result_equal unit_name declared Always here LogicalType (on_truths op p q) (logicals_yield op LogicalType p q r))

  pub logicals_equal : (here : Location) (code : ℕ) (op : Operator) (a b : ExprTree) (left right : M Value) → operator_of code ≡ Some op → logical_result op ≡ Some LogicalType → Equal V Always (Is LogicalType) left (A a here) → Equal V Always (Is LogicalType) right (A b here) → Equal V Always (Is LogicalType) (bind left (λ l. needed (decides (operator_of code)) l (bind right (λ r. operate here (Binary code) (l ∷ r ∷ []))))) (A (e.Binary code a b) here)
  logicals_equal here code op a b left right h q claim claim' =
      subst (λ m. Equal V Always (Is LogicalType) (bind left (λ l. needed (decides (operator_of code)) l (bind right (λ r. operate here (Binary code) (l ∷ r ∷ []))))) (m.value here)) (sym (expression-Binary es n inner code a b))
      (bind_equal V Always (Is LogicalType) (Is LogicalType) left (A a here)
      (λ l. needed (decides (operator_of code)) l (bind right (λ r. operate here (Binary code) (l ∷ r ∷ []))))
      (λ l. needed (decides (operator_of code)) l (bind (A b here) (λ r. operate here (Binary code) (l ∷ r ∷ []))))
      claim
      (λ v s i p.
      by_logical unit_name declared (Is LogicalType)
      (λ l. needed (decides (operator_of code)) l (bind right (λ r. operate here (Binary code) (l ∷ r ∷ []))))
      (λ l. needed (decides (operator_of code)) l (bind (A b here) (λ r. operate here (Binary code) (l ∷ r ∷ [])))) s
      (λ x.
      needed_equal (decides (operator_of code)) x
      (bind right (λ r. operate here (Binary code) (Single (Logical x) ∷ r ∷ [])))
      (bind (A b here) (λ r. operate here (Binary code) (Single (Logical x) ∷ r ∷ [])))
      (bind_equal V Always (Is LogicalType) (Is LogicalType) right (A b here)
      (λ r. operate here (Binary code) (Single (Logical x) ∷ r ∷ [])) (λ r. operate here (Binary code) (Single (Logical x) ∷ r ∷ []))
      claim'
      (λ w t j u.
      by_logical unit_name declared (Is LogicalType)
      (λ r. operate here (Binary code) (Single (Logical x) ∷ r ∷ [])) (λ r. operate here (Binary code) (Single (Logical x) ∷ r ∷ [])) t
      (λ y. both_equal here code op x y h q) w))) v))

  -- one operand
  pub unary_equal : (here : Location) (code : ℕ) (op : Operator) (ty : ScalarType) (a : ExprTree) (act : M Value) → operator_of code ≡ Some op → takes_operand op ty ≡ true → Equal V Always (Is ty) act (A a here) → Equal V Always (Is ty) (bind act (λ v. operate here (Unary code) (v ∷ []))) (A (e.Unary code a) here)
  unary_equal here code op (IntegerType k) a act h q claim =
      subst (λ m. Equal V Always (Is (IntegerType k)) (bind act (λ v. operate here (Unary code) (v ∷ []))) (m.value here)) (sym (expression-Unary es n inner code a))
      (bind_equal V Always (Is (IntegerType k)) (Is (IntegerType k)) act (A a here) (λ v. operate here (Unary code) (v ∷ [])) (λ v. operate here (Unary code) (v ∷ [])) claim
      (λ v s i p.
      by_integer unit_name declared k (Is (IntegerType k)) (λ u. operate here (Unary code) (u ∷ [])) (λ u. operate here (Unary code) (u ∷ [])) s
      (λ z f r.
      subst (λ m. Equal V Always (Is (IntegerType k)) m m) (sym (on_number here code op k z h))
      (result_equal unit_name declared Always here (IntegerType k) (on_integer op k z) (integer_yields op k z q f))) v))
  unary_equal here code op LogicalType a act h q claim =
      subst (λ m. Equal V Always (Is LogicalType) (bind act (λ v. operate here (Unary code) (v ∷ []))) (m.value here)) (sym (expression-Unary es n inner code a))
      (bind_equal V Always (Is LogicalType) (Is LogicalType) act (A a here) (λ v. operate here (Unary code) (v ∷ [])) (λ v. operate here (Unary code) (v ∷ [])) claim
      (λ v s i p.
      by_logical unit_name declared (Is LogicalType) (λ u. operate here (Unary code) (u ∷ [])) (λ u. operate here (Unary code) (u ∷ [])) s
      (λ t.
      subst (λ m. Equal V Always (Is LogicalType) m m) (sym (on_one here code op t h))
      (result_equal unit_name declared Always here LogicalType (on_truth op t) (logical_yields op t q))) v))

  -- a conversion that is written
  pub convert_equal : (here : Location) (k j : ℕ) (a : ExprTree) (act : M Value) → is_kind k ≡ true → Equal V Always (Is (IntegerType j)) act (A a here) → Equal V Always (Is (IntegerType k)) (bind act (λ v. operate here (Convert k) (v ∷ []))) (A (e.Convert k a) here)
  convert_equal here k j a act f claim =
      subst (λ m. Equal V Always (Is (IntegerType k)) (bind act (λ v. operate here (Convert k) (v ∷ []))) (m.value here)) (sym (expression-Convert es n inner k a))
      (bind_equal V Always (Is (IntegerType j)) (Is (IntegerType k)) act (A a here) (λ v. operate here (Convert k) (v ∷ [])) (λ v. operate here (Convert k) (v ∷ [])) claim
      (λ v s i p.
      by_integer unit_name declared j (Is (IntegerType k)) (λ u. operate here (Convert k) (u ∷ [])) (λ u. operate here (Convert k) (u ∷ [])) s
      (λ z g r. result_equal unit_name declared Always here (IntegerType k) (Rattle.type_rules.specs.Operations.convert k (Integer j z)) (convert_yields k f j z)) v))

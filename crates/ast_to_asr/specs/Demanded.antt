-- Constants that a place demands (ISO/IEC 1539-1:2018, 10.1.12): the initial value of a variable, the value of a named constant
-- and a stop code are computed by the compiler.
use Rattle.std.specs.Prelude.{ℕ, List, Bool, true, false, if◌then◌else◌, Ok, Err}
use Rattle.lf_base.specs.declared.rule.Rule.TheVariants.{E401, E411}
use Rattle.ast_nodes.specs.declared.expression.Expr.{Expr}
use Rattle.type_rules.specs.Values as values
use Rattle.type_rules.specs.Values.{Scalar, Evaluation, Gives, Traps, NoRule}
use Rattle.type_rules.specs.Folds.{rule_of}
use Rattle.fortran_semantics.specs.Constants.{of_type, constant_meaning}
use Rattle.fortran_semantics.specs.Declared.{ScalarType, IntegerType, LogicalType}
use Rattle.ast_to_asr.specs.Judged.{Judged, and_then}
use Rattle.ast_to_asr.specs.Scope.{Scope, constant_in}
use Rattle.ast_to_asr.specs.Expressions.{Elaborated, elab_expr}

-- the value, or that it is not known, since it stands for a constant whose declaration breaks a rule
abbrev pub computed : Evaluation Scalar → Judged (Evaluation Scalar)
computed (Gives scalar) = Ok (Gives scalar)
computed (Traps cause) = Err (rule_of cause)
computed NoRule = Ok NoRule

-- The type is judged first, and then whether it is constant, since these have the lesser rules.
abbrev pub demanded_of : Bool → Evaluation Scalar → Elaborated → Judged (Evaluation Scalar)
demanded_of fits v a = if fits then (if a.is_constant then computed v else Err E411) else Err E401

abbrev pub has_type : ScalarType → ScalarType → Bool
has_type (IntegerType kind) (IntegerType k) = true
has_type LogicalType LogicalType = true
has_type _ _ = false

abbrev pub is_integer : ScalarType → Bool
is_integer (IntegerType kind) = true
is_integer LogicalType = false

module _ (unit_name : List ℕ) (scope : Scope) where
  abbrev pub value_of : Expr → Evaluation Scalar
  value_of x = (constant_meaning (constant_in scope) x).value

  -- a constant for a variable or a named constant of a type, converted to it
  abbrev pub initial_value : ScalarType → Expr → Judged (Evaluation Scalar)
  initial_value ty x = and_then (elab_expr unit_name scope x) (λ a. demanded_of (has_type ty a.ty) (values.and_then (value_of x) (of_type ty)) a)

  -- a stop code: an integer of either kind
  abbrev pub stop_value : Expr → Judged (ScalarType × Evaluation Scalar)
  stop_value x = and_then (elab_expr unit_name scope x) (λ a. and_then (demanded_of (is_integer a.ty) (value_of x) a) (λ v. Ok (a.ty, v)))

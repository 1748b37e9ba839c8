-- Expressions of scalars (ISO/IEC 1539-1:2018, 10.1) in C: the lines that compute the value, which is a temporary of 64
-- bits of its own, in the order of evaluation. Each integer operation whose result has kind 4 is checked for kind 4.
use Rattle.std.specs.Prelude.{ℕ, suc, ◌+◌, ◌==◌, ℤ, pos, negsuc, Bool, true, false, if◌then◌else◌, List, [], ◌∷◌, Option, Some, None}
use Rattle.lf_base.specs.Outcome.{Location}
use Rattle.lf_base.specs.Operators.{operator_of}
use Rattle.lf_base.specs.declared.operator.Operator.{Operator}
use Rattle.lf_base.specs.declared.operator.Operator.TheVariants as operator
use Rattle.type_rules.specs.Codes.{intrinsic_of}
use Rattle.type_rules.specs.declared.code.Intrinsic.{Intrinsic}
use Rattle.type_rules.specs.declared.code.Intrinsic.TheVariants as intrinsic
use Rattle.c_nodes.specs.declared.tree.CBinary.TheVariants.{Subtract}
use Rattle.c_nodes.specs.declared.tree.CType.TheVariants.{Int32, Int64}
use Rattle.c_nodes.specs.declared.tree.CExpr.{CExpr}
use Rattle.c_nodes.specs.declared.tree.CExpr.TheVariants.{Constant, Paren, Negate, Not, Binary, Cast}
use Rattle.c_nodes.specs.declared.tree.CStmt.{CStmt}
use Rattle.c_nodes.specs.declared.tree.CStmt.TheVariants.{DeclareCall, Assign, If}
use Rattle.asr_nodes.specs.Reading.{Path}
use Rattle.asr_nodes.specs.declared.tree.ExprTree.{ExprTree-F}
use Rattle.c_printer.specs.declared.scalar.ScalarType.{ScalarType}
use Rattle.c_printer.specs.declared.scalar.ScalarType.TheVariants.{Integer4, Integer8, Logical}
use Rattle.c_printer.specs.declared.scalar.Value.{Value}
use Rattle.c_printer.specs.declared.scalar.Helper.{Helper}
use Rattle.c_printer.specs.declared.scalar.Helper.TheVariants as helper
use Rattle.c_printer.specs.declared.scalar.Manner.{Manner}
use Rattle.c_printer.specs.declared.scalar.Manner.TheVariants.{Helped, Plain, Swapped, WhereTrue, WhereFalse, Unbuilt}
use Rattle.c_printer.specs.Helpers.{helper_name, may_trap, is_fitted}
use Rattle.c_printer.specs.Manners.{kind_type, manner_of, intrinsic_helper}
use Rattle.c_printer.specs.Names.{entity_name, value_name}
use Rattle.c_printer.specs.Lowering.{Lines, Wrote, Lowering, give, bind, line, captured, variable, value_of, temp_of, located, one_more, computed}

-- a value that was computed, by its number and its type
abbrev pub of_type : ScalarType → ℕ → Value
of_type ty number = record { number = number; ty = ty }

-- what a designator designates, and whether it holds 32 bits
pub record Place : Type 0 where
  pub object : CExpr
  pub is_narrow : Bool

-- An expression: how its value is computed, what it designates, and its value where it is an integer constant.
pub record Expression : Type 0 where
  pub value : Location → Lowering Value
  pub place : Location → Lowering Place
  pub constant : Option ℤ

-- what stands for a value and for a place that have no C
abbrev pub no_value : Lowering Value
no_value = give (of_type Integer4 0)

abbrev pub no_place : Lowering Place
no_place = give (record { object = value_of 0; is_narrow = false })

abbrev pub only_value : (Location → Lowering Value) → Expression
only_value value = record { value = value; place = λ here. no_place; constant = None }

abbrev pub no_expression : Expression
no_expression = only_value (λ here. no_value)

-- the same value as of a type
abbrev pub typed_lines : ScalarType → Lines ℕ → Lines Value
typed_lines ty (Wrote lines number d) = Wrote lines (of_type ty number) d

abbrev pub typed : ScalarType → Lowering ℕ → Lowering Value
typed ty act d = typed_lines ty (act d)

-- An integer constant in C (ISO/IEC 9899:1999, 6.4.4.1); the least one of 64 bits has no constant of its own.
abbrev pub greatest : ℕ
greatest = 9223372036854775807

abbrev pub negative : ℕ → CExpr
negative magnitude = if magnitude == greatest + 1 then Binary Subtract (Paren (Negate (Constant greatest))) (Constant 1) else Negate (Constant magnitude)

abbrev pub constant_of : ℤ → CExpr
constant_of (pos n) = Constant n
constant_of (negsuc n) = negative (suc n)

-- The next value, `int64_t tN = HELPER(X, X);`.
abbrev pub located_where : Bool → Location → List CStmt → List CStmt
located_where true here lines = located here lines
located_where false here lines = lines

abbrev pub helped : Location → Helper → List CExpr → Lowering ℕ
helped here h arguments d = Wrote (located_where (may_trap h) here (DeclareCall Int64 (value_name (d.values + 1)) (helper_name h) arguments ∷ [])) (d.values + 1) (one_more d)

abbrev pub fitted : Location → ℕ → Lowering ℕ
fitted here number = helped here helper.Fit (value_of number ∷ [])

-- checked for kind 4, where the type is that and the function does not check it itself
abbrev pub fitted_where : Bool → Location → ScalarType → ℕ → Lowering ℕ
fitted_where true here Integer4 number = fitted here number
fitted_where true here Integer8 number = give number
fitted_where true here Logical number = give number
fitted_where false here ty number = give number

abbrev pub operation : Location → Helper → ScalarType → List CExpr → Lowering ℕ
operation here h ty arguments = bind (helped here h arguments) (fitted_where (is_fitted h) here ty)

-- A designator is fetched (6.3.2.1).
abbrev pub fetched : Place → Lowering ℕ
fetched p = computed p.object

abbrev pub stored : Place → ℕ → CStmt
stored p number = Assign p.object (if p.is_narrow then Cast Int32 (value_of number) else value_of number)

-- Kind 4 and logicals are kept in 32 bits.
abbrev pub is_narrow : ScalarType → Bool
is_narrow Integer4 = true
is_narrow Integer8 = false
is_narrow Logical = true

abbrev pub entity_place : Path → ScalarType → Place
entity_place path ty = record { object = variable (entity_name path); is_narrow = is_narrow ty }

abbrev pub entity : Path → ScalarType → Expression
entity path ty = record { value = λ here. typed ty (fetched (entity_place path ty)); place = λ here. give (entity_place path ty); constant = None }

-- A temporary of the tree has 64 bits, whatever its type.
abbrev pub temp : ℕ → Expression
temp number = record {
  value = λ here d. typed (d.temps number) (computed (temp_of number)) d;
  place = λ here. give (record { object = temp_of number; is_narrow = false });
  constant = None;
}

abbrev pub integer_constant : ℕ → ℤ → Expression
integer_constant kind z = record { value = λ here. typed (kind_type kind) (computed (constant_of z)); place = λ here. no_place; constant = Some z }

abbrev pub unary : Option Operator → (Location → Lowering Value) → Location → Lowering Value
unary (Some operator.Add) x here = x here
unary (Some operator.Subtract) x here = bind (x here) (λ v. typed v.ty (operation here helper.Subtract v.ty (Constant 0 ∷ value_of v.number ∷ [])))
unary (Some operator.Not) x here = bind (x here) (λ v. typed Logical (computed (Not (value_of v.number))))
unary _ x here = no_value

-- The right operand of `.and.` and `.or.` is computed where the left one leaves the value open (own order of
-- ISO/IEC 1539-1:2018, 10.1.7).
abbrev pub where_open : CExpr → ℕ → Lowering Value → Lowering Value
where_open test number right =
    bind (captured (bind right (λ r. line (Assign (value_of number) (value_of r.number))))) (λ body. bind (line (If test body)) (λ u. give (of_type Logical number)))

abbrev pub binary : Manner → (Location → Lowering Value) → (Location → Lowering Value) → Location → Lowering Value
binary (Helped h) a b here = bind (a here) (λ l. bind (b here) (λ r. typed l.ty (operation here h l.ty (value_of l.number ∷ value_of r.number ∷ []))))
binary (Plain op) a b here = bind (a here) (λ l. bind (b here) (λ r. typed Logical (computed (Binary op (value_of l.number) (value_of r.number)))))
binary (Swapped op) a b here = bind (a here) (λ l. bind (b here) (λ r. typed Logical (computed (Binary op (value_of r.number) (value_of l.number)))))
binary WhereTrue a b here = bind (a here) (λ l. bind (computed (value_of l.number)) (λ n. where_open (value_of n) n (b here)))
binary WhereFalse a b here = bind (a here) (λ l. bind (computed (value_of l.number)) (λ n. where_open (Not (value_of n)) n (b here)))
binary Unbuilt a b here = no_value

-- The value of another kind: checked where that is kind 4, and the same value where it is kind 8.
abbrev pub converted : ScalarType → (Location → Lowering Value) → Location → Lowering Value
converted Integer4 x here = bind (x here) (λ v. typed Integer4 (fitted here v.number))
converted Integer8 x here = bind (x here) (λ v. give (of_type Integer8 v.number))
converted Logical x here = bind (x here) (λ v. give (of_type Logical v.number))

-- the values of all, from the left
abbrev pub each_value : Location → List Expression → Lowering (List Value)
each_value here [] = give []
each_value here (e ∷ es) = bind (e.value here) (λ v. bind (each_value here es) (λ vs. give (v ∷ vs)))

-- an operation of two values, and of its result and the next one
abbrev pub pairwise : Location → Helper → ScalarType → ℕ → List Value → Lowering ℕ
pairwise here h ty number [] = give number
pairwise here h ty number (v ∷ vs) = bind (operation here h ty (value_of number ∷ value_of v.number ∷ [])) (λ n. pairwise here h ty n vs)

abbrev pub helped_values : Location → Option Helper → List Value → Lowering Value
helped_values here None vs = no_value
helped_values here (Some h) [] = no_value
helped_values here (Some h) (v ∷ vs) = typed v.ty (pairwise here h v.ty v.number vs)

-- `abs` is the value with the sign of 0.
abbrev pub absolute : Location → List Value → Lowering Value
absolute here [] = no_value
absolute here (v ∷ vs) = typed v.ty (operation here helper.Sign v.ty (value_of v.number ∷ Constant 0 ∷ []))

abbrev pub on_values : Location → Option Intrinsic → List Value → Lowering Value
on_values here None vs = no_value
on_values here (Some intrinsic.Abs) vs = absolute here vs
on_values here (Some function) vs = helped_values here (intrinsic_helper function) vs

abbrev pub intrinsic_value : Option Intrinsic → List Expression → Location → Lowering Value
intrinsic_value function arguments here = bind (each_value here arguments) (on_values here function)

-- A statement by the source in which it stands, and an item of an output list.
abbrev pub Doing : Type 0
Doing = List ℕ → Lowering (Unit {0})

abbrev pub Item : Type 0
Item = Option Expression

-- An expression by its parts, where entities have these types. What has no C yet has no lines.
abbrev pub expr_layer : (Path → ScalarType) → ExprTree-F (Unit {0}) Expression Item (Unit {0}) Doing (Unit {0}) → Expression
expr_layer types (ExprTree-F.IntConst kind value) = integer_constant kind value
expr_layer types (ExprTree-F.LogConst value) = only_value (λ here. typed Logical (computed (Constant value)))
expr_layer types (ExprTree-F.Var symbol) = entity symbol (types symbol)
expr_layer types (ExprTree-F.Unary operator operand) = only_value (unary (operator_of operator) operand.value)
expr_layer types (ExprTree-F.Binary operator left right) = only_value (binary (manner_of (operator_of operator)) left.value right.value)
expr_layer types (ExprTree-F.Convert kind operand) = only_value (converted (kind_type kind) operand.value)
expr_layer types (ExprTree-F.Paren inner) = only_value inner.value
expr_layer types (ExprTree-F.Intrinsic code arguments) = only_value (intrinsic_value (intrinsic_of code) arguments)
expr_layer types (ExprTree-F.Temp number) = temp number
expr_layer types (ExprTree-F.CharConst bytes) = no_expression
expr_layer types (ExprTree-F.Item base subscripts) = no_expression
expr_layer types (ExprTree-F.Section base parts) = no_expression
expr_layer types (ExprTree-F.Field base component) = no_expression
expr_layer types (ExprTree-F.Substring base lower upper) = no_expression
expr_layer types (ExprTree-F.Invoke callee arguments) = no_expression
expr_layer types (ExprTree-F.Construct definition arguments) = no_expression
expr_layer types (ExprTree-F.Array items) = no_expression
expr_layer types (ExprTree-F.Extent symbol dimension) = no_expression
expr_layer types (ExprTree-F.Seq stmts value) = no_expression
expr_layer types (ExprTree-F.TempAt number place) = no_expression
expr_layer types (ExprTree-F.SecLen lower upper step low high) = no_expression
expr_layer types (ExprTree-F.Arr number element extents) = no_expression
expr_layer types (ExprTree-F.«ExprTree::At» source line value) = no_expression

-- Expressions of scalars by their rules (ISO/IEC 1539-1:2018, 7.4.3, 10.1 and 16.9): the tree and the type of each, or the
-- least rule that it breaks. Operands and arguments of two kinds get a Convert where the kinds differ.
use Rattle.std.specs.Prelude.{ℕ, ◌==◌, ℤ, pos, Bool, true, false, ◌||◌, ◌&&◌, nat_le, if◌then◌else◌, List, [], ◌∷◌, codes, map, length, Option, Some, None, is_some, Ok, Err}
use Rattle.std.specs.List.{list_all, list_any}
use Rattle.std.specs.Str.{bytes_eq}
use Rattle.lf_base.specs.Operators.{operator_of}
use Rattle.lf_base.specs.declared.operator.Operator.{Operator}
use Rattle.lf_base.specs.declared.operator.Operator.TheVariants as operator
use Rattle.lf_base.specs.declared.rule.Rule.TheVariants.{E202, E304, E401, E403, E404, E405, E406, E414}
use Rattle.ast_nodes.specs.declared.expression.Designator.{Designator}
use Rattle.ast_nodes.specs.declared.expression.Expr.{Expr}
use Rattle.ast_nodes.specs.declared.expression.Expr.TheOpen.{Expr-F, RefPart-F, Designator-F}
use Rattle.ast_nodes.specs.declared.expression.Expr.TheFolds.{fold-Expr, fold-Designator}
use Rattle.type_rules.specs.Values.{Scalar, Integer, Logical, Characters, Evaluation, Gives, Traps, NoRule, greatest, is_in_kind, is_kind}
use Rattle.type_rules.specs.declared.code.TheConstants.{ABS, MIN, MAX}
use Rattle.asr_nodes.specs.declared.code.TheConstants.{TRUE, FALSE}
use Rattle.asr_nodes.specs.declared.tree.ExprTree.{ExprTree}
use Rattle.asr_nodes.specs.declared.tree.ExprTree.TheVariants as e
use Rattle.fortran_semantics.specs.Constants.{Part, Named, Grouped, number_of, literal_kind, kind_written, intrinsic_named, is_int, is_huge}
use Rattle.fortran_semantics.specs.Declared.{ScalarType, IntegerType, LogicalType}
use Rattle.ast_to_asr.specs.Judged.{Judged, also, right, both, and_then, map_right, all}
use Rattle.ast_to_asr.specs.Scope.{Entity, Variable, NamedConstant, Scope, entity_of}

-- An expression: its tree and its type, the kind that it writes as a literal, the variable that it designates, and whether it
-- is a constant expression (10.1.12).
pub record Elaborated : Type 0 where
  pub tree : ExprTree
  pub ty : ScalarType
  pub writes : Option ℕ
  pub variable : Option (List ℕ)
  pub is_constant : Bool

abbrev pub Elab : Type 0
Elab = Judged Elaborated

abbrev pub value : ExprTree → ScalarType → Bool → Elaborated
value tree ty is_constant = record { tree = tree; ty = ty; writes = None; variable = None; is_constant = is_constant }

abbrev pub truth : Bool → ℕ
truth true = TRUE
truth false = FALSE

abbrev pub scalar_tree : Scalar → ExprTree
scalar_tree (Integer kind z) = e.IntConst kind z
scalar_tree (Logical t) = e.LogConst (truth t)
scalar_tree (Characters bytes) = e.CharConst bytes

abbrev pub zero : ScalarType → ExprTree
zero (IntegerType kind) = e.IntConst kind (pos 0)
zero LogicalType = e.LogConst FALSE

-- The tree of a constant. Of one whose value is not known nothing is shown, since its declaration breaks a rule.
abbrev pub constant_tree : ScalarType → Evaluation Scalar → ExprTree
constant_tree ty (Gives scalar) = scalar_tree scalar
constant_tree ty (Traps cause) = zero ty
constant_tree ty NoRule = zero ty

-- an integer in a kind
abbrev pub in_kind : ℕ → ℕ → ExprTree → ExprTree
in_kind kind k x = if k == kind then x else e.Convert kind x

abbrev pub greater : ℕ → ℕ → ℕ
greater j k = if (j == 8) || (k == 8) then 8 else 4

-- What operators take, by their operands' types, and give.
abbrev pub integer_result : Operator → ℕ → Option ScalarType
integer_result operator.Add kind = Some (IntegerType kind)
integer_result operator.Subtract kind = Some (IntegerType kind)
integer_result operator.Multiply kind = Some (IntegerType kind)
integer_result operator.Divide kind = Some (IntegerType kind)
integer_result operator.Power kind = Some (IntegerType kind)
integer_result operator.Eq kind = Some LogicalType
integer_result operator.Ne kind = Some LogicalType
integer_result operator.Lt kind = Some LogicalType
integer_result operator.Le kind = Some LogicalType
integer_result operator.Gt kind = Some LogicalType
integer_result operator.Ge kind = Some LogicalType
integer_result _ kind = None

abbrev pub logical_result : Operator → Option ScalarType
logical_result operator.And = Some LogicalType
logical_result operator.Or = Some LogicalType
logical_result operator.Eqv = Some LogicalType
logical_result operator.Neqv = Some LogicalType
logical_result _ = None

-- the operands' trees and the type of the operation
pub record Operation : Type 0 where
  pub left : ExprTree
  pub right : ExprTree
  pub ty : ScalarType

abbrev pub on_integers : ℕ → ExprTree → ℕ → ExprTree → Option ScalarType → Option Operation
on_integers j a k b None = None
on_integers j a k b (Some ty) = Some (record { left = in_kind (greater j k) j a; right = in_kind (greater j k) k b; ty = ty })

abbrev pub on_logicals : ExprTree → ExprTree → Option ScalarType → Option Operation
on_logicals a b None = None
on_logicals a b (Some ty) = Some (record { left = a; right = b; ty = ty })

abbrev pub operation_of : Operator → ScalarType → ExprTree → ScalarType → ExprTree → Option Operation
operation_of op (IntegerType j) a (IntegerType k) b = on_integers j a k b (integer_result op (greater j k))
operation_of op LogicalType a LogicalType b = on_logicals a b (logical_result op)
operation_of op _ a _ b = None

abbrev pub operated : ℕ → Bool → Operation → Elaborated
operated code is_constant o = value (e.Binary code o.left o.right) o.ty is_constant

abbrev pub binary_of : ℕ → Option Operator → Elaborated → Elaborated → Elab
binary_of code None a b = Err E202
binary_of code (Some op) a b = map_right (operated code (a.is_constant && b.is_constant)) (right E401 (operation_of op a.ty a.tree b.ty b.tree))

abbrev pub binary_tree : ℕ → Option Operator → Elab → Elab → Elab
binary_tree code op a b = and_then (both a b) (λ p. binary_of code op p.0 p.1)

-- a sign takes an integer, and `.not.` a logical
abbrev pub takes_operand : Operator → ScalarType → Bool
takes_operand operator.Add (IntegerType kind) = true
takes_operand operator.Subtract (IntegerType kind) = true
takes_operand operator.Not LogicalType = true
takes_operand _ _ = false

abbrev pub unary_of : ℕ → Option Operator → Elaborated → Elab
unary_of code None a = Err E202
unary_of code (Some op) a = if takes_operand op a.ty then Ok (value (e.Unary code a.tree) a.ty a.is_constant) else Err E401

abbrev pub unary_tree : ℕ → Option Operator → Elab → Elab
unary_tree code op a = and_then a (unary_of code op)

abbrev pub in_parentheses : Elaborated → Elaborated
in_parentheses a = value (e.Paren a.tree) a.ty a.is_constant

abbrev pub paren_tree : Elab → Elab
paren_tree = map_right in_parentheses

-- a number of kind 4 or 8, where it fits
abbrev pub literal_tree : ℕ → ℤ → Option ℕ → Elab
literal_tree kind z writes =
    if is_kind kind && is_in_kind kind z then Ok (record { tree = e.IntConst kind z; ty = IntegerType kind; writes = writes; variable = None; is_constant = true }) else Err E403

-- an integer argument with its kind
pub record Argument : Type 0 where
  pub kind : ℕ
  pub tree : ExprTree
  pub is_constant : Bool
  pub variable : Option (List ℕ)

abbrev pub argument_of : Elaborated → ScalarType → Judged Argument
argument_of a (IntegerType kind) = Ok (record { kind = kind; tree = a.tree; is_constant = a.is_constant; variable = a.variable })
argument_of a LogicalType = Err E406

abbrev pub integer_argument : Elab → Judged Argument
integer_argument x = and_then x (λ a. argument_of a a.ty)

abbrev pub greatest_kind : List Argument → ℕ
greatest_kind [] = 4
greatest_kind (x ∷ xs) = greater x.kind (greatest_kind xs)

abbrev pub takes : ℕ → ℕ → Bool
takes code count =
    if code == ABS then count == 1
    else if (code == MIN) || (code == MAX) then nat_le 2 count && nat_le count 31
    else count == 2

abbrev pub called : ℕ → List Argument → Elaborated
called code xs = value (e.Intrinsic code (map (λ x. in_kind (greatest_kind xs) x.kind x.tree) xs)) (IntegerType (greatest_kind xs)) (list_all (λ x. x.is_constant) xs)

-- arguments in a number that the function does not take
abbrev pub miscounted : List Elab → Elab
miscounted xs = Err (also E405 (all xs))

abbrev pub function_of : ℕ → List Elab → Elab
function_of code xs = if takes code (length xs) then map_right (called code) (all (map integer_argument xs)) else miscounted xs

abbrev pub int_to : ℕ → Argument → Elaborated
int_to kind x = value (e.Convert kind x.tree) (IntegerType kind) x.is_constant

-- the second argument of `int` is one of the literals 4 and 8
abbrev pub written_kind : Elab → Judged ℕ
written_kind x = and_then x (λ a. right E406 a.writes)

abbrev pub int_tree : List Elab → Elab
int_tree (a ∷ []) = map_right (int_to 4) (integer_argument a)
int_tree (a ∷ k ∷ []) = map_right (λ p. int_to p.1 p.0) (both (integer_argument a) (written_kind k))
int_tree xs = miscounted xs

-- `huge` asks for the kind alone, so it is constant of a variable too.
abbrev pub huge_of : Argument → Elaborated
huge_of x = value (e.IntConst x.kind (greatest x.kind)) (IntegerType x.kind) (x.is_constant || is_some x.variable)

abbrev pub huge_tree : List Elab → Elab
huge_tree (a ∷ []) = map_right huge_of (integer_argument a)
huge_tree xs = miscounted xs

-- what is no function that is known here is not declared
abbrev pub function_tree : List ℕ → List Elab → Option ℕ → Elab
function_tree name xs (Some code) = function_of code xs
function_tree name xs None = if is_int name then int_tree xs else if is_huge name then huge_tree xs else Err (also E304 (all xs))

-- the intrinsic functions of the profile (16.9)
abbrev pub intrinsics : List (List ℕ)
intrinsics =
    codes "abs" ∷ codes "mod" ∷ codes "modulo" ∷ codes "min" ∷ codes "max" ∷ codes "sign" ∷ codes "int" ∷ codes "huge" ∷ codes "iachar" ∷ codes "ichar" ∷ codes "achar" ∷ codes "char"
    ∷ codes "len" ∷ codes "len_trim" ∷ codes "trim" ∷ codes "index" ∷ codes "size" ∷ codes "sum" ∷ codes "product" ∷ codes "maxval" ∷ codes "minval" ∷ codes "count" ∷ codes "any" ∷ codes "all" ∷ []

abbrev pub is_intrinsic : List ℕ → Bool
is_intrinsic name = list_any (bytes_eq name) intrinsics

module _ (unit_name : List ℕ) (scope : Scope) where
  abbrev pub variable_tree : List ℕ → ScalarType → Elaborated
  variable_tree name ty = record { tree = e.Var (unit_name ∷ name ∷ []); ty = ty; writes = None; variable = Some name; is_constant = false }

  -- A name alone is a variable or a named constant. Intrinsic names are seen last, and stand for functions.
  abbrev pub name_tree : List ℕ → Option Entity → Elab
  name_tree name (Some (Variable ty)) = Ok (variable_tree name ty)
  name_tree name (Some (NamedConstant ty v)) = Ok (value (constant_tree ty v) ty true)
  name_tree name None = if is_intrinsic name then Err E414 else Err E304

  -- A scalar has no subscripts.
  abbrev pub call_tree : List ℕ → List Elab → Option Entity → Elab
  call_tree name xs None = function_tree name xs (intrinsic_named name)
  call_tree name xs (Some entity) = Err (also E404 (all xs))

  abbrev pub parts_tree : List (Part Elab) → Elab
  parts_tree (Named name ∷ []) = name_tree name (entity_of scope name)
  parts_tree (Named name ∷ Grouped xs ∷ []) = call_tree name xs (entity_of scope name)
  parts_tree _ = Err E202

  abbrev pub expr_layer : Expr-F Elab (Part Elab) Elab → Elab
  expr_layer (Expr-F.Int digits suffix) = literal_tree (literal_kind suffix) (pos (number_of digits)) (kind_written digits suffix)
  expr_layer (Expr-F.Log v) = Ok (value (e.LogConst v) LogicalType true)
  expr_layer (Expr-F.Ref designator) = designator
  expr_layer (Expr-F.Unary code operand) = unary_tree code (operator_of code) operand
  expr_layer (Expr-F.Binary code left right) = binary_tree code (operator_of code) left right
  expr_layer (Expr-F.Paren inner) = paren_tree inner
  expr_layer (Expr-F.Char bytes) = Err E202
  expr_layer (Expr-F.Triple lower upper step) = Err E202
  expr_layer (Expr-F.Array items) = Err E202
  expr_layer (Expr-F.Loop variable lower upper step items) = Err E202

  abbrev pub part_layer : RefPart-F Elab (Part Elab) Elab → Part Elab
  part_layer (RefPart-F.Part name) = Named name
  part_layer (RefPart-F.Group arguments) = Grouped arguments

  abbrev pub designator_layer : Designator-F Elab (Part Elab) Elab → Elab
  designator_layer designator = parts_tree designator.parts

  abbrev pub elab_expr : Expr → Elab
  elab_expr = fold-Expr Elab (Part Elab) Elab expr_layer part_layer designator_layer

  abbrev pub elab_designator : Designator → Elab
  elab_designator = fold-Designator Elab (Part Elab) Elab expr_layer part_layer designator_layer

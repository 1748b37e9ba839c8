-- Literals (ISO/IEC 1539-1:2018, 7.4.3.1), the intrinsic functions of scalars by their names (16.9), and the values of
-- constant expressions (10.1.12).
use Rattle.std.specs.Prelude.{ℕ, ◌+◌, ◌*◌, ◌-◌, ◌==◌, ℤ, pos, Bool, true, false, ◌||◌, if◌then◌else◌, List, [], ◌∷◌, codes, Option, Some, None}
use Rattle.std.specs.Str.{bytes_eq}
use Rattle.lf_base.specs.Operators.{operator_of}
use Rattle.lf_base.specs.declared.operator.Operator.{Operator}
use Rattle.lf_base.specs.declared.operator.Operator.TheVariants.{And, Or}
use Rattle.ast_nodes.specs.declared.expression.Expr.{Expr}
use Rattle.ast_nodes.specs.declared.expression.Expr.TheOpen.{Expr-F, RefPart-F, Designator-F}
use Rattle.ast_nodes.specs.declared.expression.Expr.TheFolds.{fold-Expr}
use Rattle.type_rules.specs.Values.{Scalar, Integer, Logical, Evaluation, Gives, NoRule, and_then, greatest, is_in_kind}
use Rattle.type_rules.specs.Operations.{operation, convert}
use Rattle.type_rules.specs.declared.code.TheConstants.{ABS, MOD, MODULO, MIN, MAX, SIGN}
use Rattle.type_rules.specs.declared.constant.Op.TheVariants.{Unary, Binary, Intrinsic}
use Rattle.asr_nodes.specs.declared.code.TheConstants.{TRUE}
use Rattle.fortran_semantics.specs.Declared.{ScalarType, IntegerType, LogicalType}

-- the number that digits are
abbrev pub number_from : ℕ → List ℕ → ℕ
number_from n [] = n
number_from n (digit ∷ digits) = number_from (n * 10 + (digit - 48)) digits

abbrev pub number_of : List ℕ → ℕ
number_of = number_from 0

-- A literal without a suffix is of kind 4.
abbrev pub literal_kind : ℕ → ℕ
literal_kind suffix = if suffix == 0 then 4 else suffix

-- A literal that does not fit its kind has no value.
abbrev pub literal : ℕ → ℤ → Evaluation Scalar
literal kind value = if is_in_kind kind value then Gives (Integer kind value) else NoRule

abbrev pub literal_value : List ℕ → ℕ → Evaluation Scalar
literal_value digits suffix = literal (literal_kind suffix) (pos (number_of digits))

-- the code of an intrinsic function of scalars that is computed by its arguments' values
abbrev pub intrinsic_named : List ℕ → Option ℕ
intrinsic_named name =
    if bytes_eq name (codes "abs") then Some ABS
    else if bytes_eq name (codes "mod") then Some MOD
    else if bytes_eq name (codes "modulo") then Some MODULO
    else if bytes_eq name (codes "min") then Some MIN
    else if bytes_eq name (codes "max") then Some MAX
    else if bytes_eq name (codes "sign") then Some SIGN
    else None

abbrev pub is_int : List ℕ → Bool
is_int name = bytes_eq name (codes "int")

abbrev pub is_huge : List ℕ → Bool
is_huge name = bytes_eq name (codes "huge")

-- A kind that is written as an argument: the literal 4 or 8 without a suffix.
abbrev pub kind_written : List ℕ → ℕ → Option ℕ
kind_written digits suffix =
    if suffix == 0 then (if bytes_eq digits (codes "4") then Some 4 else if bytes_eq digits (codes "8") then Some 8 else None) else None

-- the greatest value of a kind
abbrev pub huge_of : Option ℕ → Evaluation Scalar
huge_of None = NoRule
huge_of (Some kind) = Gives (Integer kind (greatest kind))

-- the kind of an integer operation by those of its operands
abbrev pub joined_kind : Option ℕ → Option ℕ → Option ℕ
joined_kind (Some j) (Some k) = Some (if (j == 8) || (k == 8) then 8 else 4)
joined_kind _ _ = None

-- the value of a variable or a constant of this type: an integer of its kind, or a logical
abbrev pub of_type : ScalarType → Scalar → Evaluation Scalar
of_type (IntegerType kind) (Integer k value) = convert kind (Integer k value)
of_type LogicalType (Logical truth) = Gives (Logical truth)
of_type _ _ = NoRule

abbrev pub kind_of : ScalarType → Option ℕ
kind_of (IntegerType kind) = Some kind
kind_of LogicalType = None

-- A constant expression: its value, its kind where it is an integer, and the kind that it writes as a literal.
pub record Constant : Type 0 where
  pub value : Evaluation Scalar
  pub kind : Option ℕ
  pub writes : Option ℕ

-- a name, or the arguments in parentheses behind it
pub data Part (X : Type 0) : Type 0 where
  Named : (name : List ℕ) → Part X
  Grouped : (arguments : List X) → Part X

abbrev pub no_constant : Constant
no_constant = record { value = NoRule; kind = None; writes = None }

abbrev pub constant_of : Evaluation Scalar → Option ℕ → Constant
constant_of value kind = record { value = value; kind = kind; writes = None }

abbrev pub all_values : List Constant → Evaluation (List Scalar)
all_values [] = Gives []
all_values (c ∷ cs) = and_then c.value (λ v. and_then (all_values cs) (λ vs. Gives (v ∷ vs)))

abbrev pub all_kinds : List Constant → Option ℕ
all_kinds [] = None
all_kinds (c ∷ []) = c.kind
all_kinds (c ∷ d ∷ cs) = joined_kind c.kind (all_kinds (d ∷ cs))

-- `.and.` and `.or.` leave out a right operand that they do not need.
abbrev pub is_decided : Option Operator → Scalar → Bool
is_decided (Some And) (Logical false) = true
is_decided (Some Or) (Logical true) = true
is_decided _ _ = false

abbrev pub binary_constant : ℕ → Evaluation Scalar → Evaluation Scalar → Evaluation Scalar
binary_constant code left right =
    and_then left (λ l. if is_decided (operator_of code) l then Gives l else and_then right (λ r. operation (Binary code) (l ∷ r ∷ [])))

abbrev pub int_to : Constant → Option ℕ → Constant
int_to c None = no_constant
int_to c (Some kind) = constant_of (and_then c.value (convert kind)) (Some kind)

-- the conversion by `int`, to kind 4 where no kind is written
abbrev pub int_of : List Constant → Constant
int_of (c ∷ []) = constant_of (and_then c.value (convert 4)) (Some 4)
int_of (c ∷ k ∷ []) = int_to c k.writes
int_of _ = no_constant

abbrev pub huge_of_one : List Constant → Constant
huge_of_one (c ∷ []) = constant_of (huge_of c.kind) c.kind
huge_of_one _ = no_constant

abbrev pub function_constant : List ℕ → List Constant → Option ℕ → Constant
function_constant name arguments (Some code) = constant_of (and_then (all_values arguments) (operation (Intrinsic code))) (all_kinds arguments)
function_constant name arguments None = if is_int name then int_of arguments else if is_huge name then huge_of_one arguments else no_constant

-- `known` says what names stand for: a named constant by its value, and a variable by its kind alone, as `huge` asks.
module _ (known : List ℕ → Option Constant) where
  abbrev pub name_constant : Option Constant → Constant
  name_constant None = no_constant
  name_constant (Some c) = c

  -- intrinsic names are seen last
  abbrev pub call_constant : List ℕ → List Constant → Option Constant → Constant
  call_constant name arguments None = function_constant name arguments (intrinsic_named name)
  call_constant name arguments (Some c) = no_constant

  abbrev pub parts_constant : List (Part Constant) → Constant
  parts_constant (Named name ∷ []) = name_constant (known name)
  parts_constant (Named name ∷ Grouped arguments ∷ []) = call_constant name arguments (known name)
  parts_constant _ = no_constant

  abbrev pub constant_layer : Expr-F Constant (Part Constant) Constant → Constant
  constant_layer (Expr-F.Int digits suffix) = record { value = literal_value digits suffix; kind = Some (literal_kind suffix); writes = kind_written digits suffix }
  constant_layer (Expr-F.Log value) = constant_of (Gives (Logical (value == TRUE))) None
  constant_layer (Expr-F.Ref designator) = designator
  constant_layer (Expr-F.Unary operator operand) = constant_of (and_then operand.value (λ v. operation (Unary operator) (v ∷ []))) operand.kind
  constant_layer (Expr-F.Binary operator left right) = constant_of (binary_constant operator left.value right.value) (joined_kind left.kind right.kind)
  constant_layer (Expr-F.Paren inner) = constant_of inner.value inner.kind
  constant_layer (Expr-F.Char bytes) = no_constant
  constant_layer (Expr-F.Triple lower upper step) = no_constant
  constant_layer (Expr-F.Array items) = no_constant
  constant_layer (Expr-F.Loop variable lower upper step items) = no_constant

  abbrev pub part_layer : RefPart-F Constant (Part Constant) Constant → Part Constant
  part_layer (RefPart-F.Part name) = Named name
  part_layer (RefPart-F.Group arguments) = Grouped arguments

  abbrev pub designator_layer : Designator-F Constant (Part Constant) Constant → Constant
  designator_layer designator = parts_constant designator.parts

  abbrev pub constant_meaning : Expr → Constant
  constant_meaning = fold-Expr Constant (Part Constant) Constant constant_layer part_layer designator_layer

-- What is told of an expression without its tree (ISO/IEC 1539-1:2018, 10.1): its facts, or the least rule that it breaks.
-- `seen` says what the facts are of what an expression is by definition; the rest says the same by facts alone.
use Rattle.std.specs.Prelude.{◌≡◌, ℕ, pos, ◌&&◌, ◌||◌, Bool, true, false, if◌then◌else◌, is_some, length, List, [], ◌∷◌, Option, Some, None, Ok, Err, option_map}
use Rattle.lf_base.specs.Operators.{operator_of}
use Rattle.lf_base.specs.declared.id.SymId.{SymId}
use Rattle.lf_base.specs.declared.operator.Operator.{Operator}
use Rattle.lf_base.specs.declared.operator.Operator.TheVariants as operator
use Rattle.lf_base.specs.declared.rule.Rule.{Rule}
use Rattle.lf_base.specs.declared.rule.Rule.TheVariants.{E202, E304, E401, E403, E404, E405, E406, E414}
use Rattle.ast_nodes.specs.declared.expression.Designator.{Designator}
use Rattle.ast_nodes.specs.declared.expression.Expr.{Expr}
use Rattle.ast_nodes.specs.declared.expression.Expr.TheOpen.{Expr-F, RefPart-F, Designator-F}
use Rattle.ast_nodes.specs.declared.expression.Expr.TheFolds.{fold-Expr, fold-Designator}
use Rattle.ast_nodes.specs.declared.expression.RefPart.{RefPart, fold-RefPart}
use Rattle.ast_nodes.specs.declared.expression.RefPart.TheVariants as written
use Rattle.lf_base.specs.declared.name.Name.{Name}
use Rattle.type_rules.specs.Values.{is_in_kind, is_kind}
use Rattle.fortran_semantics.specs.Constants.{Part, Named, Grouped, number_of, literal_kind, kind_written, intrinsic_named, is_int, is_huge}
use Rattle.fortran_semantics.specs.Declared as declared
use Rattle.ast_to_asr.specs.Judged.{Judged, also, right, both, and_then, map_right}
use Rattle.ast_to_asr.specs.Known.{Entries, known_in}
use Rattle.ast_to_asr.specs.Expressions.{Elaborated, greater, takes, is_intrinsic}
use Rattle.ast_to_asr.specs.declared.facts.Facts.{Facts}
use Rattle.ast_to_asr.specs.declared.judge.functions.Argument.{Argument}
use Rattle.ast_to_asr.specs.declared.judge.functions.Joined.{Joined}
use Rattle.ast_to_asr.specs.declared.names.Known.{Known}
use Rattle.ast_to_asr.specs.declared.names.Known.TheVariants as known
use Rattle.ast_to_asr.specs.declared.names.ScalarType.{ScalarType}
use Rattle.ast_to_asr.specs.declared.names.ScalarType.TheVariants.{Integer, Logical}

abbrev pub type_seen : declared.ScalarType → ScalarType
type_seen (declared.IntegerType kind) = Integer kind
type_seen declared.LogicalType = Logical

-- the symbol of a variable, by its name
abbrev pub symbol_of : Option Known → SymId
symbol_of (Some (known.Variable symbol ty)) = symbol
symbol_of (Some (known.NamedConstant ty value)) = record { 0 = 0 }
symbol_of None = record { 0 = 0 }

abbrev pub seen : Entries → Elaborated → Facts
seen entries e = record {
  ty = type_seen e.ty;
  writes = e.writes;
  variable = option_map (λ name. symbol_of (known_in entries name)) e.variable;
  is_constant = e.is_constant;
}

abbrev pub Told : Type 0
Told = Judged Facts

abbrev pub plain : ScalarType → Bool → Facts
plain ty is_constant = record { ty = ty; writes = None; variable = None; is_constant = is_constant }

-- the type of what an operator gives, by those of its operands
abbrev pub integer_result : Operator → ℕ → Option ScalarType
integer_result operator.Add kind = Some (Integer kind)
integer_result operator.Subtract kind = Some (Integer kind)
integer_result operator.Multiply kind = Some (Integer kind)
integer_result operator.Divide kind = Some (Integer kind)
integer_result operator.Power kind = Some (Integer kind)
integer_result operator.Concatenate kind = None
integer_result operator.Eq kind = Some Logical
integer_result operator.Ne kind = Some Logical
integer_result operator.Lt kind = Some Logical
integer_result operator.Le kind = Some Logical
integer_result operator.Gt kind = Some Logical
integer_result operator.Ge kind = Some Logical
integer_result operator.And kind = None
integer_result operator.Or kind = None
integer_result operator.Eqv kind = None
integer_result operator.Neqv kind = None
integer_result operator.Not kind = None

abbrev pub logical_result : Operator → Option ScalarType
logical_result operator.Add = None
logical_result operator.Subtract = None
logical_result operator.Multiply = None
logical_result operator.Divide = None
logical_result operator.Power = None
logical_result operator.Concatenate = None
logical_result operator.Eq = None
logical_result operator.Ne = None
logical_result operator.Lt = None
logical_result operator.Le = None
logical_result operator.Gt = None
logical_result operator.Ge = None
logical_result operator.And = Some Logical
logical_result operator.Or = Some Logical
logical_result operator.Eqv = Some Logical
logical_result operator.Neqv = Some Logical
logical_result operator.Not = None

abbrev pub result_type : Operator → ScalarType → ScalarType → Option ScalarType
result_type op (Integer j) (Integer k) = integer_result op (greater j k)
result_type op Logical Logical = logical_result op
result_type op (Integer j) Logical = None
result_type op Logical (Integer k) = None

abbrev pub binary_of : Option Operator → Facts → Facts → Told
binary_of None a b = Err E202
binary_of (Some op) a b = map_right (λ ty. plain ty (a.is_constant && b.is_constant)) (right E401 (result_type op a.ty b.ty))

abbrev pub binary_told : Option Operator → Told → Told → Told
binary_told op a b = and_then (both a b) (λ p. binary_of op p.0 p.1)

-- a sign takes an integer, and `.not.` a logical
abbrev pub takes_integer : Operator → Bool
takes_integer operator.Add = true
takes_integer operator.Subtract = true
takes_integer _ = false

abbrev pub takes_logical : Operator → Bool
takes_logical operator.Not = true
takes_logical _ = false

abbrev pub takes_operand : Operator → ScalarType → Bool
takes_operand op (Integer kind) = takes_integer op
takes_operand op Logical = takes_logical op

abbrev pub unary_of : Option Operator → Facts → Told
unary_of None a = Err E202
unary_of (Some op) a = if takes_operand op a.ty then Ok (plain a.ty a.is_constant) else Err E401

abbrev pub unary_told : Option Operator → Told → Told
unary_told op a = and_then a (unary_of op)

abbrev pub in_parentheses : Facts → Facts
in_parentheses a = plain a.ty a.is_constant

abbrev pub paren_told : Told → Told
paren_told = map_right in_parentheses

abbrev pub literal_told : List ℕ → ℕ → Told
literal_told digits suffix =
    if is_kind (literal_kind suffix) && is_in_kind (literal_kind suffix) (pos (number_of digits))
    then Ok (record { ty = Integer (literal_kind suffix); writes = kind_written digits suffix; variable = None; is_constant = true })
    else Err E403

-- an integer argument with its kind
abbrev pub argument_of : Facts → ScalarType → Judged Argument
argument_of a (Integer kind) = Ok (record { kind = kind; is_constant = a.is_constant; variable = a.variable })
argument_of a Logical = Err E406

abbrev pub integer_argument : Told → Judged Argument
integer_argument x = and_then x (λ a. argument_of a a.ty)

-- arguments one after another: the greatest kind, and whether all are constant
abbrev pub joined : Joined → Argument → Joined
joined so x = record { kind = greater so.kind x.kind; is_constant = so.is_constant && x.is_constant }

abbrev pub joined_next : Judged Joined → Judged Argument → Judged Joined
joined_next so x = map_right (λ p. joined p.0 p.1) (both so x)

abbrev pub no_arguments : Joined
no_arguments = record { kind = 4; is_constant = true }

abbrev pub joined_from : Judged Joined → List Told → Judged Joined
joined_from so [] = so
joined_from so (x ∷ xs) = joined_from (joined_next so (integer_argument x)) xs

-- the least of a rule and those that arguments break
abbrev pub least_from : Rule → List Told → Rule
least_from rule [] = rule
least_from rule (x ∷ xs) = least_from (also rule x) xs

abbrev pub called : Joined → Facts
called so = plain (Integer so.kind) so.is_constant

abbrev pub function_of : ℕ → List Told → Told
function_of code xs = if takes code (length xs) then map_right called (joined_from (Ok no_arguments) xs) else Err (least_from E405 xs)

abbrev pub int_to : ℕ → Argument → Facts
int_to kind x = plain (Integer kind) x.is_constant

-- the second argument of `int` is one of the literals 4 and 8
abbrev pub written_kind : Told → Judged ℕ
written_kind x = and_then x (λ a. right E406 a.writes)

abbrev pub int_of_two : Told → Told → Told
int_of_two a k = map_right (λ p. int_to p.1 p.0) (both (integer_argument a) (written_kind k))

abbrev pub int_told : List Told → Told
int_told [] = Err (least_from E405 [])
int_told (a ∷ []) = map_right (int_to 4) (integer_argument a)
int_told (a ∷ k ∷ []) = int_of_two a k
int_told (a ∷ k ∷ l ∷ more) = Err (least_from E405 (a ∷ k ∷ l ∷ more))

-- `huge` asks for the kind alone, so it is constant of a variable too.
abbrev pub huge_of : Argument → Facts
huge_of x = plain (Integer x.kind) (x.is_constant || is_some x.variable)

abbrev pub huge_told : List Told → Told
huge_told [] = Err (least_from E405 [])
huge_told (a ∷ []) = map_right huge_of (integer_argument a)
huge_told (a ∷ b ∷ more) = Err (least_from E405 (a ∷ b ∷ more))

-- what is no function that is known here is not declared
abbrev pub function_told : List ℕ → List Told → Option ℕ → Told
function_told name xs (Some code) = function_of code xs
function_told name xs None = if is_int name then int_told xs else if is_huge name then huge_told xs else Err (least_from E304 xs)

-- A name alone is a variable or a named constant. Intrinsic names are seen last, and stand for functions.
abbrev pub name_told : List ℕ → Option Known → Told
name_told name (Some (known.Variable symbol ty)) = Ok (record { ty = ty; writes = None; variable = Some symbol; is_constant = false })
name_told name (Some (known.NamedConstant ty value)) = Ok (plain ty true)
name_told name None = if is_intrinsic name then Err E414 else Err E304

-- A scalar has no subscripts.
abbrev pub call_told : List ℕ → List Told → Option Known → Told
call_told name xs None = function_told name xs (intrinsic_named name)
call_told name xs (Some entity) = Err (least_from E404 xs)

module _ (entries : Entries) where
  -- a name alone, and a name with what stands in parentheses behind it
  abbrev pub alone : Part Told → Told
  alone (Named name) = name_told name (known_in entries name)
  alone (Grouped xs) = Err E202

  abbrev pub grouped : List ℕ → Part Told → Told
  grouped name (Named other) = Err E202
  grouped name (Grouped xs) = call_told name xs (known_in entries name)

  abbrev pub referenced : Part Told → Part Told → Told
  referenced (Named name) group = grouped name group
  referenced (Grouped xs) group = Err E202

  abbrev pub parts_told : List (Part Told) → Told
  parts_told [] = Err E202
  parts_told (p ∷ []) = alone p
  parts_told (p ∷ q ∷ []) = referenced p q
  parts_told (p ∷ q ∷ r ∷ more) = Err E202

  abbrev pub expr_layer : Expr-F Told (Part Told) Told → Told
  expr_layer (Expr-F.Int digits suffix) = literal_told digits suffix
  expr_layer (Expr-F.Log v) = Ok (plain Logical true)
  expr_layer (Expr-F.Ref designator) = designator
  expr_layer (Expr-F.Unary code operand) = unary_told (operator_of code) operand
  expr_layer (Expr-F.Binary code left right) = binary_told (operator_of code) left right
  expr_layer (Expr-F.Paren inner) = paren_told inner
  expr_layer (Expr-F.Char bytes) = Err E202
  expr_layer (Expr-F.Triple lower upper step) = Err E202
  expr_layer (Expr-F.Array items) = Err E202
  expr_layer (Expr-F.Loop variable lower upper step items) = Err E202

  abbrev pub part_layer : RefPart-F Told (Part Told) Told → Part Told
  part_layer (RefPart-F.Part name) = Named name
  part_layer (RefPart-F.Group arguments) = Grouped arguments

  abbrev pub designator_layer : Designator-F Told (Part Told) Told → Told
  designator_layer designator = parts_told designator.parts

  abbrev pub expr_told : Expr → Told
  expr_told = fold-Expr Told (Part Told) Told expr_layer part_layer designator_layer

  abbrev pub part_told : RefPart → Part Told
  part_told = fold-RefPart Told (Part Told) Told expr_layer part_layer designator_layer

  abbrev pub designator_told : Designator → Told
  designator_told = fold-Designator Told (Part Told) Told expr_layer part_layer designator_layer

-- Only a name alone designates a variable, the one that it is known for.
abbrev pub IsNameOf : Entries → List RefPart → ScalarType → Option SymId → Type 0
IsNameOf entries parts ty None = Unit {0}
IsNameOf entries parts ty (Some symbol) = (name : Name) × (parts ≡ written.Part name ∷ []) × (known_in entries name ≡ Some (known.Variable symbol ty))

abbrev pub Designates : Entries → List RefPart → Told → Type 0
Designates entries parts (Ok facts) = IsNameOf entries parts facts.ty facts.variable
Designates entries parts (Err rule) = Unit {0}

-- Which units have a C file yet: a main program of scalar variables, with the forms of control that have lines. Each part
-- is told as a value, as a designator, as a constant, or as a statement.
use Rattle.std.specs.Prelude.{ℕ, ◌==◌, Bool, true, false, ◌&&◌, ◌||◌, nat_le, List, [], ◌∷◌, map, length, Option, Some, None, is_some}
use Rattle.std.specs.List.{list_all}
use Rattle.lf_base.specs.Operators.{operator_of}
use Rattle.lf_base.specs.declared.operator.Operator.{Operator}
use Rattle.lf_base.specs.declared.operator.Operator.TheVariants as operator
use Rattle.type_rules.specs.Codes.{intrinsic_of}
use Rattle.type_rules.specs.declared.code.Intrinsic.{Intrinsic}
use Rattle.type_rules.specs.declared.code.Intrinsic.TheVariants as intrinsic
use Rattle.type_rules.specs.declared.ty.Dim.{Dim}
use Rattle.asr_nodes.specs.declared.code.TheConstants.{SAVED, PARAMETER, FORMAT_INTEGER}
use Rattle.asr_nodes.specs.declared.tree.ElemTree.{ElemTree}
use Rattle.asr_nodes.specs.declared.tree.ElemTree.TheVariants as elem
use Rattle.asr_nodes.specs.declared.tree.ExprTree.{ExprTree, ExprTree-F, fold-ExprTree}
use Rattle.asr_nodes.specs.declared.tree.PrintItemTree.{PrintItemTree-F}
use Rattle.asr_nodes.specs.declared.tree.StmtTree.{StmtTree, StmtTree-F, fold-StmtTree}
use Rattle.asr_nodes.specs.declared.tree.SymbolTree.{SymbolTree, SymbolTree-F, fold-SymbolTree}
use Rattle.asr_nodes.specs.declared.tree.UnitTree.{UnitTree}
use Rattle.asr_nodes.specs.declared.tree.UnitTree.TheVariants as unit
use Rattle.c_printer.specs.declared.scalar.Manner.{Manner}
use Rattle.c_printer.specs.declared.scalar.Manner.TheVariants.{Helped, Plain, Swapped, WhereTrue, WhereFalse, Unbuilt}
use Rattle.c_printer.specs.Manners.{manner_of, intrinsic_helper}
use Rattle.c_printer.specs.Statements.{nothing}

-- An expression: whether it is a value that has lines, a designator, and an integer constant.
pub data Built : Type 0 where
  Part : (value designator constant : Bool) → Built

abbrev pub has_value : Built → Bool
has_value (Part value designator constant) = value

abbrev pub has_place : Built → Bool
has_place (Part value designator constant) = designator

abbrev pub has_constant : Built → Bool
has_constant (Part value designator constant) = constant

abbrev pub only_value : Bool → Built
only_value value = Part value false false

abbrev pub is_kind : ℕ → Bool
is_kind kind = (kind == 4) || (kind == 8)

abbrev pub is_unary : Option Operator → Bool
is_unary (Some operator.Add) = true
is_unary (Some operator.Subtract) = true
is_unary (Some operator.Not) = true
is_unary _ = false

abbrev pub is_manner : Manner → Bool
is_manner (Helped h) = true
is_manner (Plain op) = true
is_manner (Swapped op) = true
is_manner WhereTrue = true
is_manner WhereFalse = true
is_manner Unbuilt = false

abbrev pub takes : Option Intrinsic → ℕ → Bool
takes None count = false
takes (Some intrinsic.Abs) count = count == 1
takes (Some intrinsic.Min) count = nat_le 2 count
takes (Some intrinsic.Max) count = nat_le 2 count
takes (Some function) count = is_some (intrinsic_helper function) && (count == 2)

abbrev pub expr_layer : ExprTree-F (Unit {0}) Built (Option Built) (Unit {0}) Bool (Unit {0}) → Built
expr_layer (ExprTree-F.IntConst kind value) = Part (is_kind kind) false (is_kind kind)
expr_layer (ExprTree-F.LogConst value) = only_value (nat_le value 1)
expr_layer (ExprTree-F.Var symbol) = Part true true false
expr_layer (ExprTree-F.Unary operator operand) = only_value (is_unary (operator_of operator) && has_value operand)
expr_layer (ExprTree-F.Binary operator left right) = only_value (is_manner (manner_of (operator_of operator)) && (has_value left && has_value right))
expr_layer (ExprTree-F.Convert kind operand) = only_value (is_kind kind && has_value operand)
expr_layer (ExprTree-F.Paren inner) = only_value (has_value inner)
expr_layer (ExprTree-F.Intrinsic code arguments) = only_value (takes (intrinsic_of code) (length arguments) && list_all has_value arguments)
expr_layer (ExprTree-F.Temp number) = Part true true false
expr_layer (ExprTree-F.CharConst bytes) = only_value false
expr_layer (ExprTree-F.Item base subscripts) = only_value false
expr_layer (ExprTree-F.Section base parts) = only_value false
expr_layer (ExprTree-F.Field base component) = only_value false
expr_layer (ExprTree-F.Substring base lower upper) = only_value false
expr_layer (ExprTree-F.Invoke callee arguments) = only_value false
expr_layer (ExprTree-F.Construct definition arguments) = only_value false
expr_layer (ExprTree-F.Array items) = only_value false
expr_layer (ExprTree-F.Extent symbol dimension) = only_value false
expr_layer (ExprTree-F.Seq stmts value) = only_value false
expr_layer (ExprTree-F.TempAt number place) = only_value false
expr_layer (ExprTree-F.SecLen lower upper step low high) = only_value false
expr_layer (ExprTree-F.Arr number element extents) = only_value false
expr_layer (ExprTree-F.«ExprTree::At» source line value) = only_value false

abbrev pub item_layer : PrintItemTree-F (Unit {0}) Built (Option Built) (Unit {0}) Bool (Unit {0}) → Option Built
item_layer (PrintItemTree-F.«PrintItemTree::Value» value) = Some value
item_layer (PrintItemTree-F.«PrintItemTree::Loop» variable lower upper step items) = None

abbrev pub is_one_value : List (Option Built) → Bool
is_one_value (Some e ∷ []) = has_value e
is_one_value _ = false

abbrev pub all : List Bool → Bool
all = list_all (λ b. b)

abbrev pub stmt_layer : StmtTree-F (Unit {0}) Built (Option Built) (Unit {0}) Bool (Unit {0}) → Bool
stmt_layer (StmtTree-F.Assign line target value) = has_place target && has_value value
stmt_layer (StmtTree-F.If line condition then_block else_block) = has_value condition && (all then_block && all else_block)
stmt_layer (StmtTree-F.Do line id variable lower upper step body) = has_place variable && (has_value lower && (has_value upper && (has_value step && all body)))
stmt_layer (StmtTree-F.While line id condition body) = has_value condition && all body
stmt_layer (StmtTree-F.Exit line id) = true
stmt_layer (StmtTree-F.Cycle line id) = true
stmt_layer (StmtTree-F.Print line form advance items) = (form == FORMAT_INTEGER) && is_one_value items
stmt_layer (StmtTree-F.Stop line error code) = has_constant code
stmt_layer (StmtTree-F.Block line stmts) = all stmts
stmt_layer (StmtTree-F.Let line number value) = has_value value
stmt_layer (StmtTree-F.Begin line number) = true
stmt_layer (StmtTree-F.Put line number value) = has_value value
stmt_layer (StmtTree-F.End line) = true
stmt_layer (StmtTree-F.Select line value cases default) = false
stmt_layer (StmtTree-F.Call line callee arguments) = false
stmt_layer (StmtTree-F.Read line target iostat) = false
stmt_layer (StmtTree-F.Return line) = false
stmt_layer (StmtTree-F.Room line number element length extents) = false
stmt_layer (StmtTree-F.Count line number bound body) = false
stmt_layer (StmtTree-F.Same line left right) = false
stmt_layer (StmtTree-F.Probe line designator) = false

abbrev pub is_value : ExprTree → Built
is_value = fold-ExprTree (Unit {0}) Built (Option Built) (Unit {0}) Bool (Unit {0}) nothing expr_layer item_layer nothing stmt_layer nothing

abbrev pub has_lines : StmtTree → Bool
has_lines = fold-StmtTree (Unit {0}) Built (Option Built) (Unit {0}) Bool (Unit {0}) nothing expr_layer item_layer nothing stmt_layer nothing

abbrev pub is_scalar_element : ElemTree → Bool
is_scalar_element (elem.Integer kind) = is_kind kind
is_scalar_element elem.Logical = true
is_scalar_element (elem.Character len) = false
is_scalar_element (elem.Derived symbol) = false

abbrev pub is_scalar : ElemTree → List Dim → Bool
is_scalar element [] = is_scalar_element element
is_scalar element (d ∷ dims) = false

abbrev pub is_first_value : List Built → Bool
is_first_value [] = true
is_first_value (e ∷ es) = has_value e

abbrev pub symbol_layer : SymbolTree-F Bool → Bool
symbol_layer (SymbolTree-F.Variable name access ty storage intent init) = ((storage == SAVED) || (storage == PARAMETER)) && (is_scalar ty.elem ty.dims && is_first_value (map is_value init))
symbol_layer (SymbolTree-F.Function name access dummies result simple symbols body) = false
symbol_layer (SymbolTree-F.Struct name access symbols) = false
symbol_layer (SymbolTree-F.Generic name access specifics) = false
symbol_layer (SymbolTree-F.External name access home original) = false

abbrev pub is_scalar_symbol : SymbolTree → Bool
is_scalar_symbol = fold-SymbolTree Bool symbol_layer

abbrev pub is_scalar_unit : UnitTree → Bool
is_scalar_unit (unit.Program name source deps symbols body) = list_all is_scalar_symbol symbols && list_all has_lines body
is_scalar_unit (unit.Module name source deps symbols) = false

-- whether the units of a file have a C file: there is none, or one main program of scalars
abbrev pub are_scalar_units : List UnitTree → Bool
are_scalar_units [] = true
are_scalar_units (u ∷ []) = is_scalar_unit u
are_scalar_units (u ∷ v ∷ us) = false

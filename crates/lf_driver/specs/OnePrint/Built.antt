-- Which files are built: one without program units, and one main program (ISO/IEC 1539-1:2018, 14.1) whose only
-- executable statement is a list-directed `print` (12.6.1) of one value: integer literals of kind 4 (7.4.3.1) joined by
-- `+`, `-` and `*` (10.1.5.2.1). Of every other file the line of the first statement in reading order that holds a form
-- that is not built: a module; the `program` statement, where the program has no `print`; a declaration; a statement
-- that is not that `print`; a procedure; a further unit.
use Rattle.std.specs.Prelude.{ℕ, ◌+◌, ◌-◌, ◌*◌, Bool, true, false, List, [], ◌∷◌, Option, Some, None, Result, Ok, Err, if◌then◌else◌, ◌&&◌, ◌||◌, ◌==◌, nat_le}
use Rattle.std.specs.Char.{is_ascii_alphanumeric}
use Rattle.std.specs.List.{list_all, list_any}
use Rattle.lf_base.specs.declared.operator.TheConstants.{ADD, SUBTRACT, MULTIPLY}
use Rattle.lf_base.specs.declared.rule.Rule.{Rule}
use Rattle.lf_base.specs.declared.rule.Rule.TheVariants.{E202}
use Rattle.ast_nodes.specs.declared.code.TheConstants.{FORMAT_LIST}
use Rattle.ast_nodes.specs.declared.expression.Expr.{Expr}
use Rattle.ast_nodes.specs.declared.expression.Expr.TheOpen.{Expr-F}
use Rattle.ast_nodes.specs.declared.expression.Expr.TheFolds.{fold-Expr}
use Rattle.ast_nodes.specs.declared.statement.Statement.{Statement}
use Rattle.ast_nodes.specs.declared.statement.Statement.TheOpen.{Statement-F}
use Rattle.ast_nodes.specs.declared.statement.Statement.TheFolds.{fold-Statement}
use Rattle.ast_nodes.specs.declared.declaration.Decl.{Decl}
use Rattle.ast_nodes.specs.declared.declaration.Decl.TheVariants as decl
use Rattle.ast_nodes.specs.declared.file.File.{File}
use Rattle.ast_nodes.specs.declared.file.Procedure.{Procedure}
use Rattle.ast_nodes.specs.declared.file.Unit as program_unit
use Rattle.ast_nodes.specs.declared.file.Unit.TheVariants.{Program, Module}
use Rattle.lf_driver.specs.declared.one_print.built.Operator.{Operator}
use Rattle.lf_driver.specs.declared.one_print.built.Operator.TheVariants.{Add, Subtract, Multiply}
use Rattle.lf_driver.specs.OnePrint.Source.{Tree, Literal, Binary, Source}

-- a letter, a digit or an underscore (6.1.2)
abbrev pub is_name_byte : ℕ → Bool
is_name_byte byte = is_ascii_alphanumeric byte || byte == 95

-- the greatest literal of kind 4
abbrev pub greatest_literal : ℕ
greatest_literal = 2147483647

-- the value of digits behind others
abbrev pub value_behind : ℕ → List ℕ → ℕ
value_behind value [] = value
value_behind value (digit ∷ digits) = value_behind (value * 10 + (digit - 48)) digits

-- the value of digits, if it is not greater than the greatest literal
abbrev pub small_value : List ℕ → Option ℕ
small_value digits = if nat_le (value_behind 0 digits) greatest_literal then Some (value_behind 0 digits) else None

-- a literal of kind 4: it has the suffix 4 or none
abbrev pub literal_of : List ℕ → ℕ → Option ℕ
literal_of digits suffix = if suffix == 0 || suffix == 4 then small_value digits else None

abbrev pub operator_of : ℕ → Option Operator
operator_of code = if code == ADD then Some Add else if code == SUBTRACT then Some Subtract else if code == MULTIPLY then Some Multiply else None

abbrev pub literal_tree : Option ℕ → Option Tree
literal_tree None = None
literal_tree (Some value) = Some (Literal value)

abbrev pub binary_tree : Option Operator → Option Tree → Option Tree → Option Tree
binary_tree None left right = None
binary_tree (Some operator) None right = None
binary_tree (Some operator) (Some left) None = None
binary_tree (Some operator) (Some left) (Some right) = Some (Binary operator left right)

-- one shape of an expression, with what its parts are
abbrev pub tree_layer : Expr-F (Option Tree) (Unit {0}) (Unit {0}) → Option Tree
tree_layer (Expr-F.Int digits suffix) = literal_tree (literal_of digits suffix)
tree_layer (Expr-F.Log value) = None
tree_layer (Expr-F.Char bytes) = None
tree_layer (Expr-F.Ref designator) = None
tree_layer (Expr-F.Triple lower upper step) = None
tree_layer (Expr-F.Unary operator operand) = None
tree_layer (Expr-F.Binary operator left right) = binary_tree (operator_of operator) left right
tree_layer (Expr-F.Paren inner) = None
tree_layer (Expr-F.Array items) = None
tree_layer (Expr-F.Loop variable lower upper step items) = None

-- the value that is built of an expression
abbrev pub tree_in : Expr → Option Tree
tree_in = fold-Expr (Option Tree) (Unit {0}) (Unit {0}) tree_layer (λ part. tt) (λ designator. tt)

-- the value of the items of a list-directed record that ends with a newline
abbrev pub printed_in : ℕ → ℕ → List Expr → Option Tree
printed_in form advance [] = None
printed_in form advance (item ∷ []) = if form == FORMAT_LIST && advance == 0 then tree_in item else None
printed_in form advance (item ∷ other ∷ items) = None

-- A statement as this phase sees it: a `print` with the value that is built of it, or another one.
pub data Seen : Type 0 where
  Prints : (line : ℕ) (value : Option Tree) → Seen
  Other : (line : ℕ) → Seen

abbrev pub seen_layer : Statement-F Seen (Unit {0}) (Unit {0}) → Seen
seen_layer (Statement-F.Assign line target value) = Other line
seen_layer (Statement-F.If line construct arms) = Other line
seen_layer (Statement-F.Do line construct variable lower upper step body) = Other line
seen_layer (Statement-F.While line construct condition body) = Other line
seen_layer (Statement-F.Select line construct value cases) = Other line
seen_layer (Statement-F.Call line name arguments) = Other line
seen_layer (Statement-F.Print line form advance items) = Prints line (printed_in form advance items)
seen_layer (Statement-F.Read line target iostat) = Other line
seen_layer (Statement-F.Stop line is_error code) = Other line
seen_layer (Statement-F.Exit line construct) = Other line
seen_layer (Statement-F.Cycle line construct) = Other line
seen_layer (Statement-F.Return line) = Other line
seen_layer (Statement-F.Continue line) = Other line

abbrev pub seen : Statement → Seen
seen = fold-Statement Seen (Unit {0}) (Unit {0}) seen_layer (λ arm. tt) (λ case. tt)

abbrev pub is_print : Seen → Bool
is_print (Prints line value) = true
is_print (Other line) = false

abbrev pub line_seen : Seen → ℕ
line_seen (Prints line value) = line
line_seen (Other line) = line

abbrev pub value_seen : Seen → Option Tree
value_seen (Prints line value) = value
value_seen (Other line) = None

abbrev pub declaration_line : Decl → ℕ
declaration_line (decl.Use used) = used.line
declaration_line (decl.ImplicitNone line) = line
declaration_line (decl.Access line is_private names) = line
declaration_line (decl.Variables vars) = vars.line
declaration_line (decl.TypeDef line name access components) = line
declaration_line (decl.Interface line name names) = line

abbrev pub unit_line : program_unit.Unit → ℕ
unit_line (Program line name decls stmts procs) = line
unit_line (Module line name decls procs) = line

-- the line of the first of the units behind a unit
abbrev pub line_of_unit : List program_unit.Unit → Option ℕ
line_of_unit [] = None
line_of_unit (u ∷ units) = Some (unit_line u)

-- the line of the first of its procedures, or of what stands behind it
abbrev pub line_of_procedure : List Procedure → List program_unit.Unit → Option ℕ
line_of_procedure [] units = line_of_unit units
line_of_procedure (procedure ∷ procedures) units = Some procedure.line

-- the line of the first statement behind the first one, or of what stands behind that
abbrev pub line_behind : List Statement → List Procedure → List program_unit.Unit → Option ℕ
line_behind [] procedures units = line_of_procedure procedures units
line_behind (statement ∷ statements) procedures units = Some (line_seen (seen statement))

-- what is built, or a line that tells why nothing is; a file without units is built of nothing
abbrev pub Building : Type 0
Building = Result (Option Source) ℕ

-- a program behind whose `print` something stands, or nothing
abbrev pub ended : Source → Option ℕ → Building
ended source None = Ok (Some source)
ended source (Some line) = Err line

-- a program that prints this value on this line, if it is built
abbrev pub printing : List ℕ → ℕ → Option Tree → Option ℕ → Building
printing name line None behind = Err line
printing name line (Some value) behind = ended (record { name = name; line = line; value = value }) behind

-- the statements of a program whose `program` statement stands on this line
abbrev pub body_in : ℕ → List ℕ → List Statement → List Procedure → List program_unit.Unit → Building
body_in line name [] procedures units = Err line
body_in line name (statement ∷ statements) procedures units = printing name (line_seen (seen statement)) (value_seen (seen statement)) (line_behind statements procedures units)

abbrev pub declared_in : ℕ → List ℕ → List Decl → List Statement → List Procedure → List program_unit.Unit → Building
declared_in line name [] statements procedures units = body_in line name statements procedures units
declared_in line name (declaration ∷ declarations) statements procedures units = Err (declaration_line declaration)

-- the name of a program is letters, digits and underscores
abbrev pub unit_in : program_unit.Unit → List program_unit.Unit → Building
unit_in (Program line name decls stmts procs) units =
    if list_all is_name_byte name && list_any (λ statement. is_print (seen statement)) stmts then declared_in line name decls stmts procs units else Err line
unit_in (Module line name decls procs) units = Err line

abbrev pub units_in : List program_unit.Unit → Building
units_in [] = Ok None
units_in (u ∷ units) = unit_in u units

abbrev pub program_in : File → Building
program_in file = units_in file.units

-- the same with the rule that a form which is not built breaks
abbrev pub Judged : Type 0
Judged = Result (Option Source) (ℕ × Rule)

abbrev pub judged : Building → Judged
judged (Ok source) = Ok source
judged (Err line) = Err (line, E202)

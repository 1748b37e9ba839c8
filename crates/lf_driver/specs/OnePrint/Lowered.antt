-- The C file that a program is lowered to (ISO/IEC 9899:1999, 6.9), behind the prelude. Values are temporaries `t1`,
-- `t2` and so on in the order of evaluation, and each operation is checked for the range of kind 4. Before each call of a
-- helper that may trap the location of the statement is noted.
use Rattle.std.specs.Prelude.{ℕ, ◌+◌, false, List, [], ◌∷◌, ◌++◌, length, codes, Option, Some, None}
use Rattle.std.specs.Fmt.{decimal}
use Rattle.lf_base.specs.Outcome.{Location}
use Rattle.c_nodes.specs.declared.tree.CType.TheVariants.{Int64}
use Rattle.c_nodes.specs.declared.tree.CResult.TheVariants.{Void, Int}
use Rattle.c_nodes.specs.declared.tree.CExpr.{CExpr}
use Rattle.c_nodes.specs.declared.tree.CExpr.TheVariants.{Variable, Constant, Address, Literal as Text}
use Rattle.c_nodes.specs.declared.tree.CStmt.{CStmt}
use Rattle.c_nodes.specs.declared.tree.CStmt.TheVariants.{DeclareValue, DeclareCall, Assign, Call, Return, ReturnValue, Block}
use Rattle.c_nodes.specs.declared.tree.CItem.{CItem}
use Rattle.c_nodes.specs.declared.tree.CItem.TheVariants.{Prototype, Function}
use Rattle.c_nodes.specs.declared.tree.CFile.{CFile}
use Rattle.c_prelude.specs.Prelude.{prelude_file}
use Rattle.lf_driver.specs.declared.one_print.built.Operator.{Operator}
use Rattle.lf_driver.specs.declared.one_print.built.Operator.TheVariants.{Add, Subtract, Multiply}
use Rattle.lf_driver.specs.OnePrint.Source.{Tree, Literal, Binary, Source, location_of}

-- the name of the temporary of a number
abbrev pub temporary : ℕ → List ℕ
temporary number = codes "t" ++ decimal number

abbrev pub temporary_value : ℕ → CExpr
temporary_value number = Variable (temporary number)

-- the helper of the prelude that computes an operation
abbrev pub helper : Operator → List ℕ
helper Add = codes "lf_add"
helper Subtract = codes "lf_sub"
helper Multiply = codes "lf_mul"

abbrev pub constant : ℕ → ℕ → CStmt
constant number value = DeclareValue Int64 (temporary number) (Constant value)

abbrev pub computed : Operator → ℕ → ℕ → ℕ → CStmt
computed operator left right number = DeclareCall Int64 (temporary number) (helper operator) (temporary_value left ∷ temporary_value right ∷ [])

-- the value of another temporary, where kind 4 holds it
abbrev pub fitted : ℕ → ℕ → CStmt
fitted of number = DeclareCall Int64 (temporary number) (codes "lf_fit") (temporary_value of ∷ [])

-- the lines that note where a trap of the next statement shows
abbrev pub noted : Location → List CStmt
noted location = Assign (Variable (codes "lf_name")) (Text location.source) ∷ Assign (Variable (codes "lf_line")) (Constant location.line) ∷ []

-- an operation over two temporaries, behind so many temporaries
abbrev pub operation : Location → Operator → ℕ → ℕ → ℕ → List CStmt
operation location operator left right behind = noted location ++ computed operator left right (behind + 1) ∷ noted location ++ fitted (behind + 1) (behind + 2) ∷ []

-- how many temporaries a value takes; the last of them has it
abbrev pub count : Tree → ℕ
count (Literal value) = 1
count (Binary operator left right) = count left + count right + 2

-- the statements that compute a value, behind so many temporaries
abbrev pub lowered : Location → Tree → ℕ → List CStmt
lowered location (Literal value) behind = constant (behind + 1) value ∷ []
lowered location (Binary operator left right) behind =
    lowered location left behind ++ (lowered location right (behind + count left) ++ operation location operator (behind + count left) (behind + count left + count right) (behind + count left + count right))

-- the list-directed `print` of a value (ISO/IEC 1539-1:2018, 13.10.4)
abbrev pub printing_begins : List CStmt
printing_begins = DeclareValue Int64 (codes "r1") (Constant 0) ∷ Call (codes "putchar") (Constant 32 ∷ []) ∷ []

abbrev pub printing_ends : ℕ → List CStmt
printing_ends number = Call (codes "lf_gap") (Address (Variable (codes "r1")) ∷ Constant 1 ∷ []) ∷ Call (codes "lf_int") (temporary_value number ∷ []) ∷ Call (codes "putchar") (Constant 10 ∷ []) ∷ []

abbrev pub printed : Location → Tree → List CStmt
printed location value = (printing_begins ++ lowered location value 0) ++ printing_ends (count value)

-- the name in C of a program: `lf`, and the name behind its length
abbrev pub unit_name : List ℕ → List ℕ
unit_name name = ((codes "lf_" ++ decimal (length name)) ++ codes "_") ++ name

-- the function that sets the saved variables of a program, of which there are none
abbrev pub init_name : List ℕ → List ℕ
init_name name = unit_name name ++ codes "_init"

abbrev pub init_prototype : List ℕ → CItem
init_prototype name = Prototype Void (init_name name) []

abbrev pub init_function : List ℕ → CItem
init_function name = Function false Void (init_name name) [] (Return ∷ [])

-- the body of `main`, with the statements that print
abbrev pub body_with : List ℕ → List CStmt → List CStmt
body_with name statements = Call (init_name name) [] ∷ Block statements ∷ ReturnValue (Constant 0) ∷ []

abbrev pub main_with : List ℕ → List CStmt → CItem
main_with name statements = Function false Int (codes "main") [] (body_with name statements)

-- the items of a program's file behind those of the prelude
abbrev pub items_with : List ℕ → List CStmt → List CItem
items_with name statements = init_prototype name ∷ init_function name ∷ main_with name statements ∷ []

abbrev pub main_body : Location → Source → List CStmt
main_body location source = body_with source.name (printed location source.value)

abbrev pub lowered_items : Location → Source → List CItem
lowered_items location source = items_with source.name (printed location source.value)

abbrev pub lowered_file : Location → Source → CFile
lowered_file location source = record { items = prelude_file.items ++ lowered_items location source }

-- the C file of what is built of the file of this name: the prelude alone, where nothing is
abbrev pub c_file : List ℕ → Option Source → CFile
c_file file None = prelude_file
c_file file (Some source) = lowered_file (location_of file source) source

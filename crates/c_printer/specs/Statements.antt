-- Statements of scalars and control (ISO/IEC 1539-1:2018, clauses 10 to 12) in C. A loop is a block that ends with the
-- label to which `exit` jumps, and each turn one that ends with the label to which `cycle` jumps.
use Rattle.std.specs.Prelude.{ℕ, ◌==◌, ℤ, pos, unsigned_abs, Bool, true, false, if◌then◌else◌, List, [], ◌∷◌, codes, Option, Some, None}
use Rattle.std.specs.Int.{int_rem_euclid}
use Rattle.lf_base.specs.Outcome.{Location}
use Rattle.c_nodes.specs.declared.tree.CBinary.TheVariants.{Subtract, Less}
use Rattle.c_nodes.specs.declared.tree.CType.TheVariants.{Int64}
use Rattle.c_nodes.specs.declared.tree.CExpr.{CExpr}
use Rattle.c_nodes.specs.declared.tree.CExpr.TheVariants.{Constant, Not, Binary, Address}
use Rattle.c_nodes.specs.declared.tree.CStmt.{CStmt}
use Rattle.c_nodes.specs.declared.tree.CStmt.TheVariants.{DeclareValue, Assign, Call, Goto, Label, While, If, IfElse}
use Rattle.asr_nodes.specs.Reading.{Path}
use Rattle.asr_nodes.specs.declared.code.TheConstants.{FORMAT_INTEGER, FALSE}
use Rattle.asr_nodes.specs.declared.tree.ExprTree.{ExprTree, fold-ExprTree}
use Rattle.asr_nodes.specs.declared.tree.PrintItemTree.{PrintItemTree-F}
use Rattle.asr_nodes.specs.declared.tree.StmtTree.{StmtTree, StmtTree-F, fold-StmtTree}
use Rattle.c_printer.specs.declared.scalar.ScalarType.{ScalarType}
use Rattle.c_printer.specs.declared.scalar.ScalarType.TheVariants.{Integer4, Integer8, Logical}
use Rattle.c_printer.specs.declared.scalar.Value.{Value}
use Rattle.c_printer.specs.declared.scalar.Helper.TheVariants as helper
use Rattle.c_printer.specs.Names.{temp_name, cycle_label, exit_label}
use Rattle.c_printer.specs.Lowering.{Wrote, Lowering, give, bind, line, captured, block, value_of, temp_of, with_temp}
use Rattle.c_printer.specs.Values.{Place, Expression, Doing, Item, expr_layer, helped, fitted, fetched, stored}

-- a call of a function of the C library or of the prelude that gives no value
abbrev pub called : List ℕ → List CExpr → Lowering (Unit {0})
called name arguments = line (Call name arguments)

abbrev pub put_character : ℕ → CStmt
put_character code = Call (codes "putchar") (Constant code ∷ [])

-- statements one behind another
abbrev pub statements : List ℕ → List Doing → Lowering (Unit {0})
statements source [] = give tt
statements source (s ∷ ss) = bind (s source) (λ u. statements source ss)

abbrev pub at : List ℕ → ℕ → Location
at source number = record { source = source; line = number }

-- The value is computed before what the target designates.
abbrev pub assigned : Location → Expression → Expression → Lowering (Unit {0})
assigned here target value = bind (value.value here) (λ v. bind (target.place here) (λ p. line (stored p v.number)))

-- An else part without lines is left out.
abbrev pub chosen : CExpr → List CStmt → List CStmt → CStmt
chosen test then_lines [] = If test then_lines
chosen test then_lines (s ∷ ss) = IfElse test then_lines (s ∷ ss)

abbrev pub branches : Location → Expression → Lowering (Unit {0}) → Lowering (Unit {0}) → Lowering (Unit {0})
branches here condition then_block else_block =
    block (bind (condition.value here) (λ v. bind (captured then_block) (λ a. bind (captured else_block) (λ b. line (chosen (value_of v.number) a b)))))

-- one turn of a loop, which `cycle` leaves
abbrev pub turn : ℕ → Lowering (Unit {0}) → Lowering (Unit {0})
turn id body = block (bind (block body) (λ u. line (Label (cycle_label id))))

-- the turns of a loop, which `exit` leaves
abbrev pub turns : ℕ → CExpr → Lowering (Unit {0}) → Lowering (Unit {0})
turns id test inside = bind (captured inside) (λ lines. bind (line (While test lines)) (λ u. line (Label (exit_label id))))

-- the loop is left where the value is false
abbrev pub leave_where_false : ℕ → Value → Lowering (Unit {0})
leave_where_false id v = line (If (Not (value_of v.number)) (Goto (exit_label id) ∷ []))

abbrev pub while_loop : Location → ℕ → Expression → Lowering (Unit {0}) → Lowering (Unit {0})
while_loop here id condition body =
    block (turns id (Constant 1) (bind (condition.value here) (λ v. bind (leave_where_false id v) (λ u. turn id body))))

-- the step of a counted loop behind each turn, and one turn less to go (11.1.7.4.3)
abbrev pub stepped : Location → Place → ℕ → ℕ → Lowering (Unit {0})
stepped here p step count =
    bind (fetched p) (λ old. bind (helped here helper.Add (value_of old ∷ value_of step ∷ [])) (λ sum. bind (fitted here sum) (λ new.
    bind (line (stored p new)) (λ u. line (Assign (value_of count) (Binary Subtract (value_of count) (Constant 1)))))))

abbrev pub counted_turns : Location → ℕ → Place → ℕ → ℕ → Lowering (Unit {0}) → Lowering (Unit {0})
counted_turns here id p step count body =
    turns id (Binary Less (Constant 0) (value_of count)) (bind (turn id body) (λ u. stepped here p step count))

-- The bounds, the step and the number of turns are computed once, and the variable begins with the first bound (11.1.7.4.1).
abbrev pub counted_loop : Location → ℕ → Expression → Expression → Expression → Expression → Lowering (Unit {0}) → Lowering (Unit {0})
counted_loop here id variable lower upper step body =
    block (bind (lower.value here) (λ l. bind (upper.value here) (λ u. bind (step.value here) (λ s.
    bind (helped here helper.Count (value_of l.number ∷ value_of u.number ∷ value_of s.number ∷ [])) (λ count.
    bind (variable.place here) (λ p. bind (line (stored p l.number)) (λ begun. counted_turns here id p s.number count body)))))))

-- A logical is written as a letter, T or F.
abbrev pub put_value : ScalarType → ℕ → CStmt
put_value Integer4 number = Call (codes "lf_int") (value_of number ∷ [])
put_value Integer8 number = Call (codes "lf_int") (value_of number ∷ [])
put_value Logical number = IfElse (value_of number) (put_character 84 ∷ []) (put_character 70 ∷ [])

abbrev pub end_record : Lowering (Unit {0})
end_record = line (put_character 10)

-- A record of one integer, in its fewest digits (13.7.2.2).
abbrev pub end_where : Bool → Lowering (Unit {0})
end_where true = end_record
end_where false = give tt

abbrev pub print_digits : Location → ℕ → List Item → Lowering (Unit {0})
print_digits here advance (Some e ∷ []) = bind (e.value here) (λ v. bind (called (codes "lf_int") (value_of v.number ∷ [])) (λ u. end_where (advance == FALSE)))
print_digits here advance _ = give tt

abbrev pub printed : Location → ℕ → ℕ → List Item → Lowering (Unit {0})
printed here form advance items = if form == FORMAT_INTEGER then print_digits here advance items else give tt

-- A list-directed record begins with a blank; what was written last in it is held by a temporary (13.10.4).
abbrev pub begin_record : ℕ → Lowering (Unit {0})
begin_record number = bind (line (DeclareValue Int64 (temp_name number) (Constant 0))) (λ u. line (put_character 32))

abbrev pub put : Location → ℕ → Expression → Lowering (Unit {0})
put here number e =
    bind (e.value here) (λ v. bind (called (codes "lf_gap") (Address (temp_of number) ∷ Constant 1 ∷ [])) (λ u. line (put_value v.ty v.number)))

-- A stop code counts modulo 256 (11.4).
abbrev pub status_of : ℤ → ℕ
status_of z = unsigned_abs (int_rem_euclid z (pos 256))

abbrev pub stopped : Option ℤ → Lowering (Unit {0})
stopped None = give tt
stopped (Some z) = called (codes "exit") (Constant (status_of z) ∷ [])

abbrev pub declare_temp : ℕ → Value → Lowering (Unit {0})
declare_temp number v d = Wrote (DeclareValue Int64 (temp_name number) (value_of v.number) ∷ []) tt (with_temp number v.ty d)

abbrev pub item_layer : PrintItemTree-F (Unit {0}) Expression Item (Unit {0}) Doing (Unit {0}) → Item
item_layer (PrintItemTree-F.«PrintItemTree::Value» value) = Some value
item_layer (PrintItemTree-F.«PrintItemTree::Loop» variable lower upper step items) = None

-- A statement by its parts. What has no C yet has no lines.
abbrev pub stmt_layer : StmtTree-F (Unit {0}) Expression Item (Unit {0}) Doing (Unit {0}) → Doing
stmt_layer (StmtTree-F.Assign number target value) source = assigned (at source number) target value
stmt_layer (StmtTree-F.If number condition then_block else_block) source = branches (at source number) condition (statements source then_block) (statements source else_block)
stmt_layer (StmtTree-F.Do number id variable lower upper step body) source = counted_loop (at source number) id variable lower upper step (statements source body)
stmt_layer (StmtTree-F.While number id condition body) source = while_loop (at source number) id condition (statements source body)
stmt_layer (StmtTree-F.Exit number id) source = line (Goto (exit_label id))
stmt_layer (StmtTree-F.Cycle number id) source = line (Goto (cycle_label id))
stmt_layer (StmtTree-F.Print number form advance items) source = printed (at source number) form advance items
stmt_layer (StmtTree-F.Stop number error code) source = stopped code.constant
stmt_layer (StmtTree-F.Block number stmts) source = block (statements source stmts)
stmt_layer (StmtTree-F.Let number temp value) source = bind (value.value (at source number)) (declare_temp temp)
stmt_layer (StmtTree-F.Begin number temp) source = begin_record temp
stmt_layer (StmtTree-F.Put number temp value) source = put (at source number) temp value
stmt_layer (StmtTree-F.End number) source = end_record
stmt_layer (StmtTree-F.Select number value cases default) source = give tt
stmt_layer (StmtTree-F.Call number callee arguments) source = give tt
stmt_layer (StmtTree-F.Read number target iostat) source = give tt
stmt_layer (StmtTree-F.Return number) source = give tt
stmt_layer (StmtTree-F.Room number temp element length extents) source = give tt
stmt_layer (StmtTree-F.Count number temp bound body) source = give tt
stmt_layer (StmtTree-F.Same number left right) source = give tt
stmt_layer (StmtTree-F.Probe number designator) source = give tt

abbrev pub nothing : {X : Type 0} → X → Unit {0}
nothing x = tt

module _ (types : Path → ScalarType) where
  abbrev pub expression : ExprTree → Expression
  expression = fold-ExprTree (Unit {0}) Expression Item (Unit {0}) Doing (Unit {0}) nothing (expr_layer types) item_layer nothing stmt_layer nothing

  abbrev pub statement : StmtTree → Doing
  statement = fold-StmtTree (Unit {0}) Expression Item (Unit {0}) Doing (Unit {0}) nothing (expr_layer types) item_layer nothing stmt_layer nothing

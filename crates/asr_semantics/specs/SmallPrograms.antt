-- Small programs, and what ISO/IEC 1539-1:2018 says of them: what they write, and how they end.
use Rattle.std.specs.Prelude.{◌≡◌, ℕ, pos, List, [], ◌∷◌, codes, Some, None}
use Rattle.lf_base.specs.Outcome.{Location, Ended, Cut, Wrong, Away, written}
use Rattle.lf_base.specs.Traps.{trap_status, trap_text}
use Rattle.lf_base.specs.declared.trap.Trap.{Trap}
use Rattle.lf_base.specs.declared.operator.TheConstants.{ADD, MULTIPLY, SUBTRACT, EQ, GT, AND}
use Rattle.asr_nodes.specs.Reading.{Path}
use Rattle.asr_nodes.specs.declared.code.TheConstants.{PUBLIC, SAVED, DUMMY, RESULT, INTENT_NOT_SAID, FORMAT_LIST, FORMAT_INTEGER, FALSE, TRUE}
use Rattle.asr_nodes.specs.declared.tree.ElemTree.TheVariants.{Integer}
use Rattle.asr_nodes.specs.declared.tree.ExprTree.{ExprTree}
use Rattle.asr_nodes.specs.declared.tree.ExprTree.TheVariants.{IntConst, LogConst, Var, Binary, Invoke, Temp, Seq}
use Rattle.asr_nodes.specs.declared.tree.ExprTree.TheVariants as e
use Rattle.asr_nodes.specs.declared.tree.PrintItemTree.TheVariants.{Value}
use Rattle.asr_nodes.specs.declared.tree.StmtTree.{StmtTree}
use Rattle.asr_nodes.specs.declared.tree.StmtTree.TheVariants.{Assign, If, Do, While, Exit, Cycle, Call, Print, Stop, Block, Let, Begin, Put, End}
use Rattle.asr_nodes.specs.declared.tree.SymbolTree.{SymbolTree}
use Rattle.asr_nodes.specs.declared.tree.SymbolTree.TheVariants.{Function, Variable, External}
use Rattle.asr_nodes.specs.declared.tree.TypeTree.{TypeTree}
use Rattle.asr_nodes.specs.declared.tree.UnitTree.{UnitTree}
use Rattle.asr_nodes.specs.declared.tree.UnitTree.TheVariants.{Program, Module}
use Rattle.asr_semantics.specs.Program.{tree_meaning}

-- With so many turns and calls, the program writes this and ends with this status, whatever the input.
abbrev pub Writes : List UnitTree → List ℕ → Type 0
Writes units text = (input : List ℕ) → tree_meaning units [] input 5 3 ≡ Ended (written text []) 0 None

abbrev pub Stops : List UnitTree → List ℕ → ℕ → Type 0
Stops units text status = (input : List ℕ) → tree_meaning units [] input 5 3 ≡ Ended (written text []) status None

-- It ends by a trap at this line of this source.
abbrev pub TrapsAt : List UnitTree → List ℕ → Trap → Location → Type 0
TrapsAt units text cause location = (input : List ℕ) → tree_meaning units [] input 5 3 ≡ Ended (written text (trap_text cause location)) (trap_status cause) (Some location)

abbrev pub IsCut : List UnitTree → ℕ → ℕ → List ℕ → Type 0
IsCut units n d text = (input : List ℕ) → tree_meaning units [] input n d ≡ Cut (written text [])

abbrev pub GoesAway : List UnitTree → List (List ℕ) → List ℕ → Type 0
GoesAway units loaded text = (input : List ℕ) → tree_meaning units loaded input 5 3 ≡ Wrong (Away (written text []))

abbrev pub integer : TypeTree
integer = record { elem = Integer 4; dims = [] }

abbrev pub number : ℕ → ExprTree
number value = IntConst 4 (pos value)

abbrev pub own : List ℕ → Path
own name = codes "p" ∷ name ∷ []

abbrev pub of : List ℕ → List ℕ → Path
of procedure name = codes "p" ∷ procedure ∷ name ∷ []

abbrev pub saved : List ℕ → List ExprTree → SymbolTree
saved name init = Variable name PUBLIC integer SAVED INTENT_NOT_SAID init

abbrev pub local : List ℕ → ℕ → SymbolTree
local name storage = Variable name PUBLIC integer storage INTENT_NOT_SAID []

abbrev pub program : List SymbolTree → List StmtTree → UnitTree
program symbols body = Program (codes "p") (codes "p.f90") [] symbols body

abbrev pub print : ℕ → List ExprTree → StmtTree
print line [] = Print line FORMAT_LIST FALSE []
print line (x ∷ []) = Print line FORMAT_LIST FALSE (Value x ∷ [])
print line (x ∷ y ∷ more) = Print line FORMAT_LIST FALSE (Value x ∷ Value y ∷ [])

abbrev pub i : ExprTree
i = Var (own (codes "i"))

abbrev pub j : ExprTree
j = Var (own (codes "j"))

abbrev pub count_to : ℕ → ℕ → ExprTree → ℕ → ℕ → List StmtTree → StmtTree
count_to line id variable first last = Do line id variable (number first) (number last) (number 1)

-- A loop is left by `exit` from two levels (11.1.12): integer :: i, j; outer: do i = 1, 3; do j = 1, 3;
-- if (j == 2) exit outer; print *, i, j; end do; end do outer; print *, i, j
abbrev pub leaves_two : List UnitTree
leaves_two =
    program (saved (codes "i") [] ∷ saved (codes "j") [] ∷ [])
    (count_to 3 1 i 1 3
    (count_to 4 2 j 1 3
    (If 5 (Binary EQ j (number 2)) (Exit 5 1 ∷ []) [] ∷ print 6 (i ∷ j ∷ []) ∷ [])
    ∷ [])
    ∷ print 9 (i ∷ j ∷ [])
    ∷ [])
    ∷ []

-- `cycle` goes on with the next turn, and the variable is stepped behind the last one (11.1.7.4.3):
-- do i = 1, 3; if (i == 2) cycle; print *, i; end do; print *, i
abbrev pub cycles_once : List UnitTree
cycles_once =
    program (saved (codes "i") [] ∷ [])
    (count_to 3 1 i 1 3 (If 4 (Binary EQ i (number 2)) (Cycle 4 1 ∷ []) [] ∷ print 5 (i ∷ []) ∷ [])
    ∷ print 7 (i ∷ [])
    ∷ [])
    ∷ []

-- A procedure may call itself, each time with variables of its own (15.6.2.1): f = 1; if (n > 1) f = n * f(n - 1)
abbrev pub factorial : SymbolTree
factorial =
    Function (codes "f") PUBLIC (of (codes "f") (codes "n") ∷ []) (Some (of (codes "f") (codes "f"))) FALSE
    (local (codes "n") DUMMY ∷ local (codes "f") RESULT ∷ [])
    (Assign 7 (Var (of (codes "f") (codes "f"))) (number 1)
    ∷ If 8 (Binary GT (Var (of (codes "f") (codes "n"))) (number 1))
    (Assign 8 (Var (of (codes "f") (codes "f"))) (Binary MULTIPLY (Var (of (codes "f") (codes "n"))) (Invoke (own (codes "f")) (Binary SUBTRACT (Var (of (codes "f") (codes "n"))) (number 1) ∷ []))) ∷ [])
    []
    ∷ [])

abbrev pub calls_itself : List UnitTree
calls_itself = program (factorial ∷ []) (print 3 (Invoke (own (codes "f")) (number 3 ∷ []) ∷ []) ∷ []) ∷ []

-- What a procedure does to the variable of a loop does not change the number of turns (11.1.7.4.1):
-- do i = 1, 3; call s; end do; print *, i; where s is i = i + 10
abbrev pub adds_ten : SymbolTree
adds_ten = Function (codes "s") PUBLIC [] None FALSE [] (Assign 8 i (Binary ADD i (number 10)) ∷ [])

abbrev pub counts_turns_once : List UnitTree
counts_turns_once =
    program (saved (codes "i") [] ∷ adds_ten ∷ [])
    (count_to 3 1 i 1 3 (Call 4 (own (codes "s")) [] ∷ []) ∷ print 6 (i ∷ []) ∷ [])
    ∷ []

-- Two dummies that are bound to one variable see each other's changes: a = 1; b = a + 1; print *, a; for call s(i, i)
abbrev pub aliases : SymbolTree
aliases =
    Function (codes "s") PUBLIC (of (codes "s") (codes "a") ∷ of (codes "s") (codes "b") ∷ []) None FALSE
    (local (codes "a") DUMMY ∷ local (codes "b") DUMMY ∷ [])
    (Assign 8 (Var (of (codes "s") (codes "a"))) (number 1)
    ∷ Assign 9 (Var (of (codes "s") (codes "b"))) (Binary ADD (Var (of (codes "s") (codes "a"))) (number 1))
    ∷ print 10 (Var (of (codes "s") (codes "a")) ∷ [])
    ∷ [])

abbrev pub two_names : List UnitTree
two_names = program (saved (codes "i") [] ∷ aliases ∷ []) (Call 3 (own (codes "s")) (i ∷ i ∷ []) ∷ []) ∷ []

-- What is no variable is passed as a copy: call s((i), i) prints 1
abbrev pub one_copy : List UnitTree
one_copy = program (saved (codes "i") [] ∷ aliases ∷ []) (Call 3 (own (codes "s")) (e.Paren i ∷ i ∷ []) ∷ []) ∷ []

-- A step of 0 (11.1.7.4.1): do i = 1, 3, 0
abbrev pub steps_by_zero : List UnitTree
steps_by_zero = program (saved (codes "i") [] ∷ []) (print 2 [] ∷ Do 3 1 i (number 1) (number 3) (number 0) [] ∷ []) ∷ []

-- The step of a loop is made behind its last turn too: do i = 2147483646, 2147483647; end do
abbrev pub steps_too_far : List UnitTree
steps_too_far = program (saved (codes "i") [] ∷ []) (count_to 3 1 i 2147483646 2147483647 (print 4 (i ∷ []) ∷ []) ∷ []) ∷ []

-- `.and.` does not need its right operand: if (.false. .and. f(1) == 1) print *, 1; where f prints
abbrev pub shows : SymbolTree
shows =
    Function (codes "f") PUBLIC (of (codes "f") (codes "n") ∷ []) (Some (of (codes "f") (codes "f"))) FALSE
    (local (codes "n") DUMMY ∷ local (codes "f") RESULT ∷ [])
    (print 7 (Var (of (codes "f") (codes "n")) ∷ []) ∷ Assign 8 (Var (of (codes "f") (codes "f"))) (number 1) ∷ [])

abbrev pub shown : ℕ → ExprTree
shown n = Binary EQ (Invoke (own (codes "f")) (number n ∷ [])) (number 1)

abbrev pub stops_early : List UnitTree
stops_early =
    program (shows ∷ [])
    (If 3 (Binary AND (LogConst FALSE) (shown 1)) (print 3 (number 2 ∷ []) ∷ []) []
    ∷ If 4 (Binary AND (shown 3) (LogConst TRUE)) (print 4 (number 4 ∷ []) ∷ []) []
    ∷ [])
    ∷ []

-- A saved variable of a procedure keeps its value (8.5.16): integer, save :: k = 6; k = k + 1; print *, k
abbrev pub counts_calls : SymbolTree
counts_calls =
    Function (codes "s") PUBLIC [] None FALSE
    (saved (codes "k") (number 6 ∷ []) ∷ [])
    (Assign 8 (Var (of (codes "s") (codes "k"))) (Binary ADD (Var (of (codes "s") (codes "k"))) (number 1))
    ∷ print 9 (Var (of (codes "s") (codes "k")) ∷ [])
    ∷ [])

abbrev pub keeps_value : List UnitTree
keeps_value = program (counts_calls ∷ []) (Call 3 (own (codes "s")) [] ∷ Call 4 (own (codes "s")) [] ∷ []) ∷ []

-- A variable and a procedure of a module under names of the program (14.2.2): use m, only: k => n, f
abbrev pub n_of_m : ExprTree
n_of_m = Var (codes "m" ∷ codes "n" ∷ [])

abbrev pub overflows : SymbolTree
overflows = Function (codes "f") PUBLIC [] None FALSE [] (Assign 5 n_of_m (Binary ADD n_of_m (number 2147483647)) ∷ [])

abbrev pub home : UnitTree
home = Module (codes "m") (codes "m.f90") [] (Variable (codes "n") PUBLIC integer SAVED INTENT_NOT_SAID (number 4 ∷ []) ∷ overflows ∷ [])

abbrev pub uses : List StmtTree → UnitTree
uses body = Program (codes "p") (codes "p.f90") (codes "m" ∷ []) (External (codes "k") PUBLIC (codes "m") (codes "n") ∷ External (codes "f") PUBLIC (codes "m") (codes "f") ∷ []) body

abbrev pub uses_variable : List UnitTree
uses_variable = uses (print 3 (Var (own (codes "k")) ∷ []) ∷ []) ∷ home ∷ []

-- A trap has the source and the line of the statement that is being executed.
abbrev pub uses_procedure : List UnitTree
uses_procedure = uses (Call 3 (own (codes "f")) [] ∷ []) ∷ home ∷ []

-- print '(I0)', 7; stop 258
abbrev pub stops : List UnitTree
stops = program [] (Print 2 FORMAT_INTEGER TRUE (Value (number 7) ∷ []) ∷ Stop 3 FALSE (number 258) ∷ print 4 [] ∷ []) ∷ []

-- do while (.true.); print *, 1; end do
abbrev pub never_ends : List UnitTree
never_ends = program [] (While 3 1 (LogConst TRUE) (print 4 (number 1 ∷ []) ∷ []) ∷ []) ∷ []

-- What passes make: a record in parts, and an expression that stood in another source.
abbrev pub in_parts : List UnitTree
in_parts =
    program []
    (Block 2
    (Begin 2 1
    ∷ Put 2 1 (Seq (Let 2 2 (number 3) ∷ []) (Binary ADD (Temp 2) (number 1)))
    ∷ Put 2 1 (e.At (codes "m.f90") 7 (Binary MULTIPLY (number 5) (number 1)))
    ∷ End 2
    ∷ [])
    ∷ print 3 (e.At (codes "m.f90") 7 (Binary ADD (number 2147483647) (number 1)) ∷ [])
    ∷ [])
    ∷ []

-- A program that uses a and b, where a uses b: b stands before its user.
abbrev pub in_order_of_uses : List UnitTree
in_order_of_uses =
    Program (codes "p") (codes "p.f90") (codes "a" ∷ codes "b" ∷ []) [] []
    ∷ Module (codes "a") (codes "a.f90") (codes "b" ∷ []) []
    ∷ Module (codes "b") (codes "b.f90") [] []
    ∷ []

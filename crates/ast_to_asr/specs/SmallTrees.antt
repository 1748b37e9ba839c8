-- The trees of small sources, by which ISO/IEC 1539-1:2018 is read: names by their paths, a Convert where kinds differ,
-- constants for named constants, a step of 1, and an If in the else part for each `else if`.
use Rattle.std.specs.Prelude.{ℕ, pos, List, [], ◌∷◌, codes}
use Rattle.lf_base.specs.declared.operator.TheConstants.{ADD, SUBTRACT, DIVIDE, EQ}
use Rattle.asr_nodes.specs.declared.code.TheConstants.{PUBLIC, SAVED, PARAMETER, INTENT_NOT_SAID, FORMAT_LIST, FALSE}
use Rattle.asr_nodes.specs.declared.tree.ElemTree.TheVariants.{Integer}
use Rattle.asr_nodes.specs.declared.tree.ExprTree.{ExprTree}
use Rattle.asr_nodes.specs.declared.tree.ExprTree.TheVariants.{IntConst, Var, Binary, Convert}
use Rattle.asr_nodes.specs.declared.tree.PrintItemTree.TheVariants.{Value}
use Rattle.asr_nodes.specs.declared.tree.StmtTree.{StmtTree}
use Rattle.asr_nodes.specs.declared.tree.StmtTree.TheVariants.{Assign, If, Do, Exit, Print}
use Rattle.asr_nodes.specs.declared.tree.SymbolTree.{SymbolTree}
use Rattle.asr_nodes.specs.declared.tree.SymbolTree.TheVariants.{Variable}
use Rattle.asr_nodes.specs.declared.tree.UnitTree.{UnitTree}
use Rattle.asr_nodes.specs.declared.tree.UnitTree.TheVariants.{Program}

abbrev pub number : ℕ → ExprTree
number value = IntConst 4 (pos value)

abbrev pub var : List ℕ → ExprTree
var name = Var (codes "p" ∷ name ∷ [])

abbrev pub symbol : List ℕ → ℕ → ℕ → List ExprTree → SymbolTree
symbol name kind storage init = Variable name PUBLIC (record { elem = Integer kind; dims = [] }) storage INTENT_NOT_SAID init

abbrev pub program : List SymbolTree → List StmtTree → UnitTree
program symbols body = Program (codes "p") (codes "p.f90") [] symbols body

abbrev pub leaves_two_tree : UnitTree
leaves_two_tree =
    program (symbol (codes "i") 4 SAVED [] ∷ symbol (codes "j") 4 SAVED [] ∷ [])
    (Do 3 1 (var (codes "i")) (number 1) (number 3) (number 1)
    (Do 4 2 (var (codes "j")) (number 1) (number 3) (number 1)
    (If 5 (Binary EQ (var (codes "j")) (number 2)) (Exit 5 1 ∷ []) [] ∷ Print 6 FORMAT_LIST FALSE (Value (var (codes "i")) ∷ Value (var (codes "j")) ∷ []) ∷ [])
    ∷ [])
    ∷ Print 9 FORMAT_LIST FALSE (Value (var (codes "i")) ∷ Value (var (codes "j")) ∷ [])
    ∷ [])

abbrev pub mixes_kinds_tree : UnitTree
mixes_kinds_tree =
    program (symbol (codes "k") 8 SAVED (IntConst 8 (pos 2147483647) ∷ []) ∷ symbol (codes "m") 4 PARAMETER (number 3 ∷ []) ∷ symbol (codes "i") 4 SAVED [] ∷ [])
    (Assign 4 (var (codes "k")) (Binary ADD (var (codes "k")) (Convert 8 (number 3)))
    ∷ Print 5 FORMAT_LIST FALSE
    (Value (var (codes "k")) ∷ Value (number 2147483647) ∷ Value (Convert 4 (Binary SUBTRACT (var (codes "k")) (Convert 8 (number 5)))) ∷ [])
    ∷ [])

abbrev pub does_not_fit_tree : UnitTree
does_not_fit_tree =
    program (symbol (codes "k") 8 SAVED (IntConst 8 (pos 2147483648) ∷ []) ∷ symbol (codes "i") 4 SAVED [] ∷ [])
    (Print 3 FORMAT_LIST FALSE [] ∷ Assign 4 (var (codes "i")) (Convert 4 (var (codes "k"))) ∷ [])

abbrev pub else_if_traps_tree : UnitTree
else_if_traps_tree =
    program (symbol (codes "i") 4 SAVED [] ∷ [])
    (If 3 (Binary EQ (var (codes "i")) (number 1)) [] (If 4 (Binary EQ (Binary DIVIDE (number 1) (var (codes "i"))) (number 1)) [] [] ∷ []) ∷ [])

-- Small trees, to read the text by.
use Rattle.std.specs.Prelude.{Some, ℕ, pos, negsuc, [], ◌∷◌, codes, None}
use Rattle.type_rules.specs.declared.constant.Const.TheVariants as constant
use Rattle.type_rules.specs.declared.ty.Dim.TheVariants as dim
use Rattle.symtab_arena.specs.Scopes.{symbol_id, table_id}
use Rattle.asr_nodes.specs.Ids.{expr_id, stmt_id}
use Rattle.asr_nodes.specs.Nodes.{Nodes}
use Rattle.asr_nodes.specs.declared.node.CaseRange.TheVariants.{Between}
use Rattle.asr_nodes.specs.declared.node.Expr.{Expr}
use Rattle.asr_nodes.specs.declared.node.Expr.TheVariants as expr_nodes
use Rattle.asr_nodes.specs.declared.node.PrintItem.TheVariants as items
use Rattle.asr_nodes.specs.declared.node.Stmt.TheVariants as stmt_nodes
use Rattle.asr_nodes.specs.declared.node.Symbol.TheVariants as nodes
use Rattle.asr_nodes.specs.declared.tree.CaseTree.{CaseTree}
use Rattle.asr_nodes.specs.declared.tree.ElemTree.TheVariants.{Integer}
use Rattle.asr_nodes.specs.declared.tree.ExprTree.{ExprTree}
use Rattle.asr_nodes.specs.declared.tree.ExprTree.TheVariants.{IntConst, Var, Section, Binary}
use Rattle.asr_nodes.specs.declared.tree.PrintItemTree.TheVariants.{Value}
use Rattle.asr_nodes.specs.declared.tree.SectionPartTree.TheVariants.{At, Triple}
use Rattle.asr_nodes.specs.declared.tree.StmtTree.{StmtTree}
use Rattle.asr_nodes.specs.declared.tree.StmtTree.TheVariants.{Assign, Select, Print, Return}
use Rattle.asr_nodes.specs.declared.tree.SymbolTree.{SymbolTree}
use Rattle.asr_nodes.specs.declared.tree.SymbolTree.TheVariants as symbol
use Rattle.asr_nodes.specs.declared.tree.UnitTree.{UnitTree}
use Rattle.asr_nodes.specs.declared.tree.UnitTree.TheVariants as unit

abbrev pub literal : ℕ → ExprTree
literal value = IntConst 4 (pos value)

-- program p; print *, 2 + 3 * 4; end
abbrev pub program : UnitTree
program = unit.Program (codes "p") (codes "p1.f90") [] [] (Print 2 0 0 (Value (Binary 0 (literal 2) (Binary 2 (literal 3) (literal 4))) ∷ []) ∷ [])

-- integer :: x(-1:1), private, of a procedure s of a module m
abbrev pub variable : SymbolTree
variable = symbol.Variable (codes "x") 1 (record { elem = Integer 4; dims = dim.Fixed (negsuc 0) 3 ∷ [] }) 0 0 []

abbrev pub x : ExprTree
x = Var (codes "m" ∷ codes "s" ∷ codes "x" ∷ [])

-- x(1, :)
abbrev pub section : ExprTree
section = Section x (At (literal 1) ∷ Triple None None None ∷ [])

-- module m, with a procedure s in which x(1, :) = 0
abbrev pub home : UnitTree
home = unit.Module (codes "m") (codes "m.f90") (codes "n" ∷ []) (symbol.Function (codes "s") 0 [] None 0 (variable ∷ []) (Assign 5 section (literal 0) ∷ []) ∷ [])

-- select case (x); case (1:2); return; end select
abbrev pub block : CaseTree
block = record { ranges = Between (constant.IntConst 4 (pos 1)) (constant.IntConst 4 (pos 2)) ∷ []; body = Return 4 ∷ [] }

abbrev pub selection : StmtTree
selection = Select 3 x (block ∷ []) []

abbrev pub constant_node : ℕ → Expr
constant_node value = expr_nodes.IntConst 4 (pos value)

-- the same program by numbers: its symbol is 0, and its own table 1
abbrev pub numbers : Nodes
numbers = record {
  scopes = record {
    tables = Some (record { parent = None; owner = None; names = (codes "p", symbol_id 0) ∷ [] })
        ∷ Some (record { parent = Some (table_id 0); owner = Some (symbol_id 0); names = [] }) ∷ [];
    symbols = Some (record { name = codes "p"; table = table_id 0; owned = Some (table_id 1); what = nodes.Program (codes "p1.f90") [] (table_id 1) (stmt_id 0 ∷ []) }) ∷ [];
  };
  exprs = constant_node 2 ∷ constant_node 3 ∷ constant_node 4 ∷ expr_nodes.Binary 2 (expr_id 1) (expr_id 2) ∷ expr_nodes.Binary 0 (expr_id 0) (expr_id 3) ∷ [];
  stmts = stmt_nodes.Print 2 0 0 (items.Value (expr_id 4) ∷ []) ∷ [];
  noted = [];
}

-- The nodes of a program by number, and the trees that they stand for.
use Rattle.std.specs.Prelude.{◌≡◌, ℕ, ◌+◌, ◌<◌, Bool, true, List, [], ◌∷◌, ◌++◌, length, slice_get, slice_set, Option, Some, Result, Ok, Err, is_some}
use Rattle.std.specs.List.{list_all}
use Rattle.lf_base.specs.declared.id.ExprId.{ExprId}
use Rattle.lf_base.specs.declared.id.StmtId.{StmtId}
use Rattle.lf_base.specs.declared.id.SymId.{SymId}
use Rattle.lf_base.specs.declared.fault.Memory.{Memory}
use Rattle.symtab_arena.specs.Scopes.{Scopes, symbol_at, the_root}
use Rattle.symtab_arena.specs.declared.table.Symbol.{Symbol as Entry}
use Rattle.asr_nodes.specs.Walks.{ends, Founded, tree_within}
use Rattle.asr_nodes.specs.Keys.{Key, expr, stmt, Node, Tree, is_other}
use Rattle.asr_nodes.specs.Noted.{Noted}
use Rattle.asr_nodes.specs.Parts.{parts}
use Rattle.asr_nodes.specs.Symbols.{table_in, is_root, is_unit, symbol_parts}
use Rattle.asr_nodes.specs.Reading.{Path, Reading, reading, node_tree, no_tree}
use Rattle.asr_nodes.specs.declared.node.Symbol.{Symbol}
use Rattle.asr_nodes.specs.declared.node.Expr.{Expr}
use Rattle.asr_nodes.specs.declared.node.Stmt.{Stmt}
use Rattle.asr_nodes.specs.declared.tree.ExprTree.{ExprTree}
use Rattle.asr_nodes.specs.declared.tree.StmtTree.{StmtTree}

-- Symbols in their tables, expressions and statements at their numbers.
pub record Nodes : Type 0 where
  pub scopes : Scopes Symbol
  pub exprs : List Expr
  pub stmts : List Stmt
  -- the ambiguous names of tables; they are no part of any tree
  pub noted : Noted

module _ (a : Nodes) where
  -- how many nodes there are: no walk that ends has more steps
  abbrev pub node_count : ℕ
  node_count = length a.exprs + length a.stmts

  abbrev pub node_at : (key : Key) → Option (Node key)
  node_at (expr id) = slice_get a.exprs id.0
  node_at (stmt id) = slice_get a.stmts id.0

  -- The trees at numbers, by what symbols stand for.
  module _ (path : SymId → Path) where
    abbrev pub tree_at : (key : Key) → Tree key
    tree_at = tree_within (node_tree path) no_tree node_at node_count

    abbrev pub expr_tree : ExprId → ExprTree
    expr_tree id = tree_at (expr id)

    abbrev pub stmt_tree : StmtId → StmtTree
    stmt_tree id = tree_at (stmt id)

    abbrev pub reads : Reading
    reads = reading path tree_at

  -- whether nodes stand at all these keys
  abbrev pub there : List Key → Bool
  there = list_all (λ key. is_some (node_at key))

  -- whether the walks from all these keys end and do not come by another key
  abbrev pub avoid : Key → List Key → Bool
  avoid at = list_all (ends parts (is_other at) node_at node_count)

  abbrev pub HasExpr : ExprId → Type 0
  HasExpr id = id.0 < length a.exprs

  abbrev pub HasStmt : StmtId → Type 0
  HasStmt id = id.0 < length a.stmts

  -- Every walk over the nodes ends. Exactly the units, functions and types own a table, which is the one that they name
  -- (ISO/IEC 1539-1:2018, 19.1), exactly the units stand in the root table, and the expressions and statements that
  -- symbols name are there.
  pub record Sound : Type 0 where
    pub founded : Founded parts node_at node_count
    pub owned : (id : SymId) (it : Entry Symbol) → symbol_at a.scopes id ≡ Some it → it.owned ≡ table_in it.what
    pub units : (id : SymId) (it : Entry Symbol) → symbol_at a.scopes id ≡ Some it → is_unit it.what ≡ is_root it.table
    pub named : (id : SymId) (it : Entry Symbol) → symbol_at a.scopes id ≡ Some it → there (symbol_parts it.what) ≡ true

-- All nodes that stood stand, with the trees that they had.
pub record Extends (old new : Nodes) : Type 0 where
  pub nodes : (key : Key) (x : Node key) → node_at old key ≡ Some x → node_at new key ≡ Some x
  pub trees : (key : Key) (x : Node key) → node_at old key ≡ Some x → (path : SymId → Path) → tree_at new path key ≡ tree_at old path key

abbrev pub with_expr : Nodes → Expr → Nodes
with_expr a x = record a { exprs = a.exprs ++ x ∷ [] }

abbrev pub with_stmt : Nodes → Stmt → Nodes
with_stmt a x = record a { stmts = a.stmts ++ x ∷ [] }

-- One node is added, with the next number, or nothing.
abbrev pub BuildsExpr : Nodes → Nodes → Expr → Result ExprId Memory → Type 0
BuildsExpr old new x (Ok id) = (id.0 ≡ length old.exprs) × (new ≡ with_expr old x)
BuildsExpr old new x (Err fault) = new ≡ old

abbrev pub BuildsStmt : Nodes → Nodes → Stmt → Result StmtId Memory → Type 0
BuildsStmt old new x (Ok id) = (id.0 ≡ length old.stmts) × (new ≡ with_stmt old x)
BuildsStmt old new x (Err fault) = new ≡ old

-- A node stands at a key, and its tree is made of the trees that stood.
pub record StandsFor (old new : Nodes) (key : Key) (x : Node key) : Type 0 where
  pub node : node_at new key ≡ Some x
  pub tree : (path : SymId → Path) → tree_at new path key ≡ node_tree path (tree_at old path) key x

-- A node stands in the place of another: a key whose walk does not come by the place keeps its tree, and the tree of
-- every other key is made of the new trees of its parts.
pub record Replaces (old new : Nodes) (at : Key) (x : Node at) : Type 0 where
  pub here : StandsFor old new at x
  pub apart : (key : Key) → avoid old at (key ∷ []) ≡ true → (path : SymId → Path) → tree_at new path key ≡ tree_at old path key
  pub others : (key : Key) (y : Node key) → is_other at key ≡ true → node_at old key ≡ Some y → StandsFor new new key y

abbrev pub with_expr_at : Nodes → ExprId → Expr → Nodes
with_expr_at a id x = record a { exprs = slice_set a.exprs id.0 x }

abbrev pub with_stmt_at : Nodes → StmtId → Stmt → Nodes
with_stmt_at a id x = record a { stmts = slice_set a.stmts id.0 x }

-- what a builder answers: the node stands at the number that it gives
abbrev pub ExprStandsFor : Nodes → Nodes → Expr → Result ExprId Memory → Type 0
ExprStandsFor old new x (Ok id) = StandsFor old new (expr id) x
ExprStandsFor old new x (Err fault) = Unit {0}

abbrev pub StmtStandsFor : Nodes → Nodes → Stmt → Result StmtId Memory → Type 0
StmtStandsFor old new x (Ok id) = StandsFor old new (stmt id) x
StmtStandsFor old new x (Err fault) = Unit {0}

-- the root table with no symbol, and no nodes
abbrev pub empty : Nodes
empty = record { scopes = the_root; exprs = []; stmts = []; noted = [] }

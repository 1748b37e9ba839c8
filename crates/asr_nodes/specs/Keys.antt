-- The keys of nodes: expressions and statements in one space, since they lead to each other.
use Rattle.std.specs.Prelude.{Bool, true, not, ◌==◌, List, [], ◌∷◌, ◌++◌, map, Option, Some, None}
use Rattle.lf_base.specs.declared.id.ExprId.{ExprId}
use Rattle.lf_base.specs.declared.id.StmtId.{StmtId}
use Rattle.asr_nodes.specs.declared.node.Expr.{Expr}
use Rattle.asr_nodes.specs.declared.node.Stmt.{Stmt}
use Rattle.asr_nodes.specs.declared.tree.ExprTree.{ExprTree}
use Rattle.asr_nodes.specs.declared.tree.StmtTree.{StmtTree}

pub data Key : Type 0 where
  expr : ExprId → Key
  stmt : StmtId → Key

-- the nodes and the trees of a key
abbrev pub Node : Key → Type 0
Node (expr id) = Expr
Node (stmt id) = Stmt

abbrev pub Tree : Key → Type 0
Tree (expr id) = ExprTree
Tree (stmt id) = StmtTree

-- whether a key is another one than this
abbrev pub is_other : Key → Key → Bool
is_other (expr at) (expr id) = not (id.0 == at.0)
is_other (expr at) (stmt id) = true
is_other (stmt at) (expr id) = true
is_other (stmt at) (stmt id) = not (id.0 == at.0)

abbrev pub exprs : List ExprId → List Key
exprs = map expr

abbrev pub stmts : List StmtId → List Key
stmts = map stmt

-- the key of a part that may be missing
abbrev pub perhaps : Option ExprId → List Key
perhaps None = []
perhaps (Some id) = expr id ∷ []

-- several lists of keys, one behind another
abbrev pub chained : List (List Key) → List Key
chained [] = []
chained (keys ∷ more) = keys ++ chained more

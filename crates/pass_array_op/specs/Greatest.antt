-- The greatest number of a temporary that stands below some statements, by the nodes there; array constructors give
-- numbers to the temporaries of their implied do loops (ISO/IEC 1539-1:2018, 7.8).
use Rattle.std.specs.Prelude.{ℕ, ◌+◌, max, List, [], ◌∷◌, map}
use Rattle.lf_base.specs.declared.id.StmtId.{StmtId}
use Rattle.asr_nodes.specs.Keys.{Key, expr, stmt, Node, stmts}
use Rattle.asr_nodes.specs.Nodes.{Nodes, node_at}
use Rattle.asr_nodes.specs.Visits.{visits}
use Rattle.asr_nodes.specs.Walks.{made}
use Rattle.asr_nodes.specs.declared.node.ArrayItem.{ArrayItem, ArrayItem-F, fold-ArrayItem}
use Rattle.asr_nodes.specs.declared.node.Expr.{Expr}
use Rattle.asr_nodes.specs.declared.node.Expr.TheVariants as e
use Rattle.asr_nodes.specs.declared.node.Stmt.{Stmt}
use Rattle.asr_nodes.specs.declared.node.Stmt.TheVariants as s

-- 0 where there is none
abbrev pub greatest : List ℕ → ℕ
greatest [] = 0
greatest (n ∷ ns) = max n (greatest ns)

abbrev pub array_item_layer : ArrayItem-F ℕ → ℕ
array_item_layer (ArrayItem-F.Value value) = 0
array_item_layer (ArrayItem-F.Loop number lower upper step items) = max number (greatest items)

abbrev pub number_in_item : ArrayItem → ℕ
number_in_item = fold-ArrayItem ℕ array_item_layer

abbrev pub number_in_items : List ArrayItem → ℕ
number_in_items items = greatest (map number_in_item items)

-- the number of a temporary in a node itself, and 0 where it has none
abbrev pub number_in_expr : Expr → ℕ
number_in_expr (e.Temp number) = number
number_in_expr (e.TempAt number place) = number
number_in_expr (e.Arr number element extents) = number
number_in_expr (e.Array items) = number_in_items items
number_in_expr _ = 0

abbrev pub number_in_stmt : Stmt → ℕ
number_in_stmt (s.Let line number value) = number
number_in_stmt (s.Room line number element length extents) = number
number_in_stmt (s.Count line number bound body) = number
number_in_stmt (s.Begin line number) = number
number_in_stmt (s.Put line number value) = number
number_in_stmt _ = 0

abbrev pub number_in : (key : Key) → Node key → ℕ
number_in (expr id) x = number_in_expr x
number_in (stmt id) x = number_in_stmt x

module _ (a : Nodes) where
  abbrev pub number_at : Key → ℕ
  number_at key = made (number_in key) 0 (node_at a key)

  -- the greatest of the nodes at some keys
  abbrev pub greatest_at : List Key → ℕ
  greatest_at keys = greatest (map number_at keys)

  -- the first number that is greater than that of every temporary below these statements
  abbrev pub first_free : List StmtId → ℕ
  first_free body = greatest_at (visits a (stmts body)) + 1

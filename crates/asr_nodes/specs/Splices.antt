-- A block of new statements in the place of a statement.
use Rattle.std.specs.Prelude.{◌≡◌, ℕ, zero, suc, true, List, [], ◌∷◌, ◌++◌, map, length, slice_set, Some, Result, Ok, Err}
use Rattle.std.specs.Option.{option_map_or}
use Rattle.lf_base.specs.declared.fault.Memory.{Memory}
use Rattle.lf_base.specs.declared.id.StmtId.{StmtId}
use Rattle.lf_base.specs.declared.id.SymId.{SymId}
use Rattle.asr_nodes.specs.Ids.{stmt_id}
use Rattle.asr_nodes.specs.Keys.{Key, stmt, Node, is_other, chained}
use Rattle.asr_nodes.specs.Nodes.{Nodes, StandsFor, node_at, tree_at, stmt_tree, reads, avoid}
use Rattle.asr_nodes.specs.Parts.{stmt_parts}
use Rattle.asr_nodes.specs.Reading.{Path, stmt_node}
use Rattle.asr_nodes.specs.declared.node.Stmt.{Stmt}
use Rattle.asr_nodes.specs.declared.node.Stmt.TheVariants as s
use Rattle.asr_nodes.specs.declared.tree.StmtTree.TheVariants as st

-- the line of a statement
abbrev pub line_of : Stmt → ℕ
line_of (s.Assign line target value) = line
line_of (s.If line condition then_block else_block) = line
line_of (s.Do line id variable lower upper step body) = line
line_of (s.While line id condition body) = line
line_of (s.Exit line id) = line
line_of (s.Cycle line id) = line
line_of (s.Select line value cases default) = line
line_of (s.Call line callee arguments) = line
line_of (s.Print line form advance items) = line
line_of (s.Read line target iostat) = line
line_of (s.Stop line error code) = line
line_of (s.Return line) = line
line_of (s.Block line body) = line
line_of (s.Let line number value) = line
line_of (s.Room line number element len extents) = line
line_of (s.Count line number bound body) = line
line_of (s.Same line left right) = line
line_of (s.Probe line designator) = line
line_of (s.Begin line number) = line
line_of (s.Put line number value) = line
line_of (s.End line) = line

-- so many numbers, from the first on
abbrev pub stmts_from : ℕ → ℕ → List StmtId
stmts_from first zero = []
stmts_from first (suc n) = stmt_id first ∷ stmts_from (suc first) n

module _ (a : Nodes) (at : StmtId) (with : List Stmt) where
  -- the line of the statement that stands there
  abbrev pub line_at : ℕ
  line_at = option_map_or line_of (node_at a (stmt at)) 0

  -- The new statements get the next numbers, and a block of them stands at the place, with the line that stood there.
  abbrev pub block_of : Stmt
  block_of = s.Block line_at (stmts_from (length a.stmts) (length with))

  abbrev pub spliced : Nodes
  spliced = record a { stmts = slice_set (a.stmts ++ with) at.0 block_of }

  -- the parts of the new statements are there, and no walk from them comes by the place
  abbrev pub are_apart : Type 0
  are_apart = avoid a (stmt at) (chained (map stmt_parts with)) ≡ true

  -- The place has the block of the new statements' trees; a key that was there and whose walk does not come by the place
  -- keeps its tree; and the tree of every other one is made of the new trees of its parts.
  pub record Splices (new : Nodes) : Type 0 where
    pub here : (path : SymId → Path) → stmt_tree new path at ≡ st.Block line_at (map (stmt_node (reads a path)) with)
    pub apart : (key : Key) → avoid a (stmt at) (key ∷ []) ≡ true → (path : SymId → Path) → tree_at new path key ≡ tree_at a path key
    pub others : (key : Key) (y : Node key) → is_other (stmt at) key ≡ true → node_at a key ≡ Some y → StandsFor new new key y

-- what splicing answers
abbrev pub SplicesOr : Nodes → StmtId → List Stmt → Nodes → Result (Unit {0}) Memory → Type 0
SplicesOr old at with new (Ok _) = Splices old at with new
SplicesOr old at with new (Err fault) = new ≡ old

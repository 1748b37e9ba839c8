-- The tree that a node stands for, from what the numbers in it stand for.
use Rattle.std.specs.Prelude.{ℕ, List, map, option_map}
use Rattle.lf_base.specs.declared.id.ExprId.{ExprId}
use Rattle.lf_base.specs.declared.id.StmtId.{StmtId}
use Rattle.lf_base.specs.declared.id.SymId.{SymId}
use Rattle.type_rules.specs.declared.ty.Elem.{Elem}
use Rattle.type_rules.specs.declared.ty.Elem.TheVariants as elem
use Rattle.type_rules.specs.declared.ty.Ty.{Ty}
use Rattle.asr_nodes.specs.Keys.{Key, expr, stmt, Node, Tree}
use Rattle.asr_nodes.specs.declared.node.ArrayItem.{ArrayItem}
use Rattle.asr_nodes.specs.declared.node.ArrayItem.TheOpen.{ArrayItem-F}
use Rattle.asr_nodes.specs.declared.node.ArrayItem.TheFolds.{fold-ArrayItem}
use Rattle.asr_nodes.specs.declared.node.Case.{Case}
use Rattle.asr_nodes.specs.declared.node.Expr.{Expr}
use Rattle.asr_nodes.specs.declared.node.Expr.TheVariants as e
use Rattle.asr_nodes.specs.declared.node.PrintItem.{PrintItem}
use Rattle.asr_nodes.specs.declared.node.PrintItem.TheOpen.{PrintItem-F}
use Rattle.asr_nodes.specs.declared.node.PrintItem.TheFolds.{fold-PrintItem}
use Rattle.asr_nodes.specs.declared.node.SectionPart.{SectionPart}
use Rattle.asr_nodes.specs.declared.node.SectionPart.TheVariants as part
use Rattle.asr_nodes.specs.declared.node.Stmt.{Stmt}
use Rattle.asr_nodes.specs.declared.node.Stmt.TheVariants as s
use Rattle.asr_nodes.specs.declared.tree.ArrayItemTree.{ArrayItemTree}
use Rattle.asr_nodes.specs.declared.tree.ArrayItemTree.TheVariants as ait
use Rattle.asr_nodes.specs.declared.tree.CaseTree.{CaseTree}
use Rattle.asr_nodes.specs.declared.tree.ElemTree.{ElemTree}
use Rattle.asr_nodes.specs.declared.tree.ElemTree.TheVariants as elt
use Rattle.asr_nodes.specs.declared.tree.ExprTree.{ExprTree}
use Rattle.asr_nodes.specs.declared.tree.ExprTree.TheVariants as et
use Rattle.asr_nodes.specs.declared.tree.PrintItemTree.{PrintItemTree}
use Rattle.asr_nodes.specs.declared.tree.PrintItemTree.TheVariants as pit
use Rattle.asr_nodes.specs.declared.tree.SectionPartTree.{SectionPartTree}
use Rattle.asr_nodes.specs.declared.tree.SectionPartTree.TheVariants as spt
use Rattle.asr_nodes.specs.declared.tree.StmtTree.{StmtTree}
use Rattle.asr_nodes.specs.declared.tree.StmtTree.TheVariants as st
use Rattle.asr_nodes.specs.declared.tree.TypeTree.{TypeTree}

-- the names of the entities in which an entity stands, and its own last
abbrev pub Path : Type 0
Path = List (List ℕ)

-- what numbers stand for: symbols for paths, expressions and statements for trees
pub record Reading : Type 0 where
  pub symbol : SymId → Path
  pub expr : ExprId → ExprTree
  pub stmt : StmtId → StmtTree

abbrev pub elem_node : (SymId → Path) → Elem → ElemTree
elem_node path (elem.Integer kind) = elt.Integer kind
elem_node path elem.Logical = elt.Logical
elem_node path (elem.Character len) = elt.Character len
elem_node path (elem.Derived symbol) = elt.Derived (path symbol)

abbrev pub type_node : (SymId → Path) → Ty → TypeTree
type_node path ty = record { elem = elem_node path ty.elem; dims = ty.dims }

module _ (r : Reading) where
  abbrev pub section_part_node : SectionPart → SectionPartTree
  section_part_node (part.At index) = spt.At (r.expr index)
  section_part_node (part.Triple lower upper step) = spt.Triple (option_map r.expr lower) (option_map r.expr upper) (option_map r.expr step)

  abbrev pub array_item_layer : ArrayItem-F ArrayItemTree → ArrayItemTree
  array_item_layer (ArrayItem-F.Value value) = ait.Value (r.expr value)
  array_item_layer (ArrayItem-F.Loop number lower upper step items) = ait.Loop number lower upper step items

  abbrev pub array_item_node : ArrayItem → ArrayItemTree
  array_item_node = fold-ArrayItem ArrayItemTree array_item_layer

  abbrev pub print_item_layer : PrintItem-F PrintItemTree → PrintItemTree
  print_item_layer (PrintItem-F.Value value) = pit.Value (r.expr value)
  print_item_layer (PrintItem-F.Loop variable lower upper step items) = pit.Loop (r.expr variable) (r.expr lower) (r.expr upper) (r.expr step) items

  abbrev pub print_item_node : PrintItem → PrintItemTree
  print_item_node = fold-PrintItem PrintItemTree print_item_layer

  abbrev pub expr_node : Expr → ExprTree
  expr_node (e.IntConst kind value) = et.IntConst kind value
  expr_node (e.LogConst value) = et.LogConst value
  expr_node (e.CharConst bytes) = et.CharConst bytes
  expr_node (e.Var symbol) = et.Var (r.symbol symbol)
  expr_node (e.Item base subscripts) = et.Item (r.expr base) (map r.expr subscripts)
  expr_node (e.Section base parts) = et.Section (r.expr base) (map section_part_node parts)
  expr_node (e.Field base component) = et.Field (r.expr base) component
  expr_node (e.Substring base lower upper) = et.Substring (r.expr base) (option_map r.expr lower) (option_map r.expr upper)
  expr_node (e.Unary operator operand) = et.Unary operator (r.expr operand)
  expr_node (e.Binary operator left right) = et.Binary operator (r.expr left) (r.expr right)
  expr_node (e.Convert kind operand) = et.Convert kind (r.expr operand)
  expr_node (e.Paren inner) = et.Paren (r.expr inner)
  expr_node (e.Invoke callee arguments) = et.Invoke (r.symbol callee) (map r.expr arguments)
  expr_node (e.Intrinsic code arguments) = et.Intrinsic code (map r.expr arguments)
  expr_node (e.Construct definition arguments) = et.Construct (r.symbol definition) (map r.expr arguments)
  expr_node (e.Array items) = et.Array (map array_item_node items)
  expr_node (e.Temp number) = et.Temp number
  expr_node (e.Extent symbol dimension) = et.Extent (r.symbol symbol) dimension
  expr_node (e.Seq stmts value) = et.Seq (map r.stmt stmts) (r.expr value)
  expr_node (e.TempAt number place) = et.TempAt number (r.expr place)
  expr_node (e.SecLen lower upper step low high) = et.SecLen (r.expr lower) (r.expr upper) (r.expr step) (r.expr low) (r.expr high)
  expr_node (e.Arr number element extents) = et.Arr number (elem_node r.symbol element) (map r.expr extents)
  expr_node (e.At source line value) = et.At source line (r.expr value)

  abbrev pub case_node : Case → CaseTree
  case_node block = record { ranges = block.ranges; body = map r.stmt block.body }

  abbrev pub stmt_node : Stmt → StmtTree
  stmt_node (s.Assign line target value) = st.Assign line (r.expr target) (r.expr value)
  stmt_node (s.If line condition then_block else_block) = st.If line (r.expr condition) (map r.stmt then_block) (map r.stmt else_block)
  stmt_node (s.Do line id variable lower upper step body) = st.Do line id (r.expr variable) (r.expr lower) (r.expr upper) (r.expr step) (map r.stmt body)
  stmt_node (s.While line id condition body) = st.While line id (r.expr condition) (map r.stmt body)
  stmt_node (s.Exit line id) = st.Exit line id
  stmt_node (s.Cycle line id) = st.Cycle line id
  stmt_node (s.Select line value cases default) = st.Select line (r.expr value) (map case_node cases) (map r.stmt default)
  stmt_node (s.Call line callee arguments) = st.Call line (r.symbol callee) (map r.expr arguments)
  stmt_node (s.Print line form advance items) = st.Print line form advance (map print_item_node items)
  stmt_node (s.Read line target iostat) = st.Read line (r.expr target) (option_map r.expr iostat)
  stmt_node (s.Stop line error code) = st.Stop line error (r.expr code)
  stmt_node (s.Return line) = st.Return line
  stmt_node (s.Block line stmts) = st.Block line (map r.stmt stmts)
  stmt_node (s.Let line number value) = st.Let line number (r.expr value)
  stmt_node (s.Room line number element len extents) = st.Room line number (elem_node r.symbol element) (option_map r.expr len) (map r.expr extents)
  stmt_node (s.Count line number bound body) = st.Count line number (r.expr bound) (map r.stmt body)
  stmt_node (s.Same line left right) = st.Same line (r.expr left) (r.expr right)
  stmt_node (s.Probe line designator) = st.Probe line (r.expr designator)
  stmt_node (s.Begin line number) = st.Begin line number
  stmt_node (s.Put line number value) = st.Put line number (r.expr value)
  stmt_node (s.End line) = st.End line

-- a reading by keys
abbrev pub reading : (SymId → Path) → ((key : Key) → Tree key) → Reading
reading path tree = record { symbol = path; expr = λ id. tree (expr id); stmt = λ id. tree (stmt id) }

abbrev pub node_tree : (SymId → Path) → ((key : Key) → Tree key) → (key : Key) → Node key → Tree key
node_tree path tree (expr id) node = expr_node (reading path tree) node
node_tree path tree (stmt id) node = stmt_node (reading path tree) node

-- what is read where no node stands
abbrev pub no_tree : (key : Key) → Tree key
no_tree (expr id) = et.LogConst 0
no_tree (stmt id) = st.End 0

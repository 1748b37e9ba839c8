-- Nodes whose parts have the same trees have the same tree.
use Rattle.std.proofs.Common.{◌≡◌, map, refl, ap}
use Rattle.std.specs.List.{AllByRecursion}
use Rattle.lf_base.specs.declared.id.SymId.{SymId}
use Rattle.asr_nodes.specs.Keys.{Key, expr, stmt, Node, Tree, stmts, perhaps, chained}
use Rattle.asr_nodes.specs.Parts.{parts, expr_parts, stmt_parts, section_part_parts, array_item_parts, print_item_parts, case_parts}
use Rattle.asr_nodes.specs.Reading.{Path, Reading, reading, node_tree, expr_node, stmt_node, section_part_node, array_item_node, print_item_node, case_node, elem_node}
use Rattle.asr_nodes.specs.declared.node.Case.{Case}
use Rattle.asr_nodes.specs.declared.node.Expr.{Expr}
use Rattle.asr_nodes.specs.declared.node.Expr.TheVariants as e
use Rattle.asr_nodes.specs.declared.node.SectionPart.{SectionPart}
use Rattle.asr_nodes.specs.declared.node.SectionPart.TheVariants as part
use Rattle.asr_nodes.specs.declared.node.Stmt.{Stmt}
use Rattle.asr_nodes.specs.declared.node.Stmt.TheVariants as s
use Rattle.asr_nodes.specs.declared.tree.ExprTree.TheVariants as et
use Rattle.asr_nodes.specs.declared.tree.SectionPartTree.TheVariants as spt
use Rattle.asr_nodes.specs.declared.tree.StmtTree.TheVariants as st
use Rattle.asr_nodes.proofs.ArrayItems.{array_items_same}
use Rattle.asr_nodes.proofs.PrintItems.{print_items_same}
use Rattle.asr_nodes.proofs.Alike.{Alike, first, last, exprs_same, stmts_same, perhaps_same, list_same}

module _ (path : SymId → Path) (f g : (key : Key) → Tree key) where
  abbrev r : Reading
  r = reading path f

  abbrev q : Reading
  q = reading path g

  section_part_same : (x : SectionPart) → Alike f g (section_part_parts x) → section_part_node r x ≡ section_part_node q x
  section_part_same (part.At index) h = λ k. spt.At (h.0 k)
  section_part_same (part.Triple lower upper step) h =
      λ k. spt.Triple (perhaps_same f g lower (first f g (perhaps lower) _ h) k)
      (perhaps_same f g upper (first f g (perhaps upper) _ (last f g (perhaps lower) _ h)) k)
      (perhaps_same f g step (last f g (perhaps upper) _ (last f g (perhaps lower) _ h)) k)

  case_same : (x : Case) → Alike f g (case_parts x) → case_node r x ≡ case_node q x
  case_same x h = ap (λ body. record { ranges = x.ranges; body = body }) (stmts_same f g x.body h)

  expr_same : (x : Expr) → Alike f g (expr_parts x) → expr_node r x ≡ expr_node q x
  expr_same (e.IntConst kind value) h = refl
  expr_same (e.LogConst value) h = refl
  expr_same (e.CharConst bytes) h = refl
  expr_same (e.Var symbol) h = refl
  expr_same (e.Item base subscripts) h = λ k. et.Item (h.0 k) (exprs_same f g subscripts h.1 k)
  expr_same (e.Section base parts) h = λ k. et.Section (h.0 k) (list_same f g section_part_parts (section_part_node r) (section_part_node q) section_part_same parts h.1 k)
  expr_same (e.Field base component) h = λ k. et.Field (h.0 k) component
  expr_same (e.Substring base lower upper) h =
      λ k. et.Substring (h.0 k) (perhaps_same f g lower (first f g (perhaps lower) _ h.1) k) (perhaps_same f g upper (last f g (perhaps lower) _ h.1) k)
  expr_same (e.Unary operator operand) h = λ k. et.Unary operator (h.0 k)
  expr_same (e.Binary operator left right) h = λ k. et.Binary operator (h.0 k) (h.1.0 k)
  expr_same (e.Convert kind operand) h = λ k. et.Convert kind (h.0 k)
  expr_same (e.Paren inner) h = λ k. et.Paren (h.0 k)
  expr_same (e.Invoke callee arguments) h = λ k. et.Invoke (path callee) (exprs_same f g arguments h k)
  expr_same (e.Intrinsic code arguments) h = λ k. et.Intrinsic code (exprs_same f g arguments h k)
  expr_same (e.Construct definition arguments) h = λ k. et.Construct (path definition) (exprs_same f g arguments h k)
  expr_same (e.Array items) h = λ k. et.Array (list_same f g array_item_parts (array_item_node r) (array_item_node q) (array_items_same path f g) items h k)
  expr_same (e.Temp number) h = refl
  expr_same (e.Extent symbol dimension) h = refl
  expr_same (e.Seq body value) h = λ k. et.Seq (stmts_same f g body (first f g (stmts body) _ h) k) ((last f g (stmts body) _ h).0 k)
  expr_same (e.TempAt number place) h = λ k. et.TempAt number (h.0 k)
  expr_same (e.SecLen lower upper step low high) h = λ k. et.SecLen (h.0 k) (h.1.0 k) (h.1.1.0 k) (h.1.1.1.0 k) (h.1.1.1.1.0 k)
  expr_same (e.Arr number element extents) h = λ k. et.Arr number (elem_node path element) (exprs_same f g extents h k)
  expr_same (e.At source line value) h = λ k. et.At source line (h.0 k)

  stmt_same : (x : Stmt) → Alike f g (stmt_parts x) → stmt_node r x ≡ stmt_node q x
  stmt_same (s.Assign line target value) h = λ k. st.Assign line (h.0 k) (h.1.0 k)
  stmt_same (s.If line condition then_block else_block) h =
      λ k. st.If line (h.0 k) (stmts_same f g then_block (first f g (stmts then_block) _ h.1) k) (stmts_same f g else_block (last f g (stmts then_block) _ h.1) k)
  stmt_same (s.Do line id variable lower upper step body) h = λ k. st.Do line id (h.0 k) (h.1.0 k) (h.1.1.0 k) (h.1.1.1.0 k) (stmts_same f g body h.1.1.1.1 k)
  stmt_same (s.While line id condition body) h = λ k. st.While line id (h.0 k) (stmts_same f g body h.1 k)
  stmt_same (s.Exit line id) h = refl
  stmt_same (s.Cycle line id) h = refl
  stmt_same (s.Select line value cases default) h =
      λ k. st.Select line (h.0 k)
      (list_same f g case_parts (case_node r) (case_node q) case_same cases (first f g (chained (map case_parts cases)) _ h.1) k)
      (stmts_same f g default (last f g (chained (map case_parts cases)) _ h.1) k)
  stmt_same (s.Call line callee arguments) h = λ k. st.Call line (path callee) (exprs_same f g arguments h k)
  stmt_same (s.Print line form advance items) h = λ k. st.Print line form advance (list_same f g print_item_parts (print_item_node r) (print_item_node q) (print_items_same path f g) items h k)
  stmt_same (s.Read line target iostat) h = λ k. st.Read line (h.0 k) (perhaps_same f g iostat h.1 k)
  stmt_same (s.Stop line error code) h = λ k. st.Stop line error (h.0 k)
  stmt_same (s.Return line) h = refl
  stmt_same (s.Block line body) h = λ k. st.Block line (stmts_same f g body h k)
  stmt_same (s.Let line number value) h = λ k. st.Let line number (h.0 k)
  stmt_same (s.Room line number element len extents) h =
      λ k. st.Room line number (elem_node path element) (perhaps_same f g len (first f g (perhaps len) _ h) k) (exprs_same f g extents (last f g (perhaps len) _ h) k)
  stmt_same (s.Count line number bound body) h = λ k. st.Count line number (h.0 k) (stmts_same f g body h.1 k)
  stmt_same (s.Same line left right) h = λ k. st.Same line (h.0 k) (h.1.0 k)
  stmt_same (s.Probe line designator) h = λ k. st.Probe line (h.0 k)
  stmt_same (s.Begin line number) h = refl
  stmt_same (s.Put line number value) h = λ k. st.Put line number (h.0 k)
  stmt_same (s.End line) h = refl

pub same : (path : SymId → Path) (f g : (key : Key) → Tree key) (key : Key) (x : Node key) → AllByRecursion (λ j. f j ≡ g j) (parts key x) → node_tree path f key x ≡ node_tree path g key x
same path f g (expr id) x h = expr_same path f g x h
same path f g (stmt id) x h = stmt_same path f g x h

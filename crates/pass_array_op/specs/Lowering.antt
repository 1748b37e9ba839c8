-- Each list-directed output of values becomes a block that begins a record, puts each value into it and ends it
-- (ISO/IEC 1539-1:2018, 12.6.3, 13.10.4): a function from trees and the first number of a temporary to trees. Output whose
-- list holds an implied do, or that has another format, stays.
use Rattle.std.specs.Prelude.{ℕ, suc, ◌==◌, if◌then◌else◌, List, [], ◌∷◌, ◌++◌, map, Option, Some, None}
use Rattle.std.specs.Option.{option_map_or}
use Rattle.asr_nodes.specs.declared.code.TheConstants.{FORMAT_LIST as list_form}
use Rattle.asr_nodes.specs.declared.tree.ArrayItemTree.{ArrayItemTree, ArrayItemTree-F, fold-ArrayItemTree}
use Rattle.asr_nodes.specs.declared.tree.ArrayItemTree.TheVariants as ait
use Rattle.asr_nodes.specs.declared.tree.CaseTree.{CaseTree, CaseTree-F, fold-CaseTree}
use Rattle.asr_nodes.specs.declared.tree.ExprTree.{ExprTree, ExprTree-F, fold-ExprTree}
use Rattle.asr_nodes.specs.declared.tree.ExprTree.TheVariants as et
use Rattle.asr_nodes.specs.declared.tree.PrintItemTree.{PrintItemTree, PrintItemTree-F, fold-PrintItemTree}
use Rattle.asr_nodes.specs.declared.tree.PrintItemTree.TheVariants as pit
use Rattle.asr_nodes.specs.declared.tree.SectionPartTree.{SectionPartTree, SectionPartTree-F, fold-SectionPartTree}
use Rattle.asr_nodes.specs.declared.tree.SectionPartTree.TheVariants as spt
use Rattle.asr_nodes.specs.declared.tree.StmtTree.{StmtTree, StmtTree-F, fold-StmtTree}
use Rattle.asr_nodes.specs.declared.tree.StmtTree.TheVariants as st
use Rattle.pass_array_op.specs.Drawing.{Drawn, plain, taking, in_turn, perhaps}

-- an item of an output list, and its value where it is no implied do
pub record Item : Type 0 where
  pub whole : Drawn PrintItemTree
  pub value : Option (Drawn ExprTree)

-- the item itself
abbrev pub whole : Item → Drawn PrintItemTree
whole item = item.whole

abbrev pub behind_value : Option (Drawn ExprTree) → Option (List (Drawn ExprTree)) → Option (List (Drawn ExprTree))
behind_value (Some value) (Some values) = Some (value ∷ values)
behind_value (Some value) None = None
behind_value None values = None

-- the values of a list that holds nothing else
abbrev pub values_in : List Item → Option (List (Drawn ExprTree))
values_in [] = Some []
values_in (item ∷ items) = behind_value item.value (values_in items)

-- the block of a record
abbrev pub record_of : ℕ → ℕ → List ExprTree → StmtTree
record_of line number values = st.Block line (st.Begin line number ∷ (map (st.Put line number) values ++ st.End line ∷ []))

-- The number of the record is drawn before those of its values.
abbrev pub recorded : ℕ → Drawn (List ExprTree) → Drawn StmtTree
recorded line values = record { count = suc values.count; from = λ n. record_of line n (values.from (suc n)) }

-- an output statement, with its items
abbrev pub print_layer : ℕ → ℕ → ℕ → List Item → Drawn StmtTree
print_layer line form advance items =
    if form == list_form
    then option_map_or (λ values. recorded line (in_turn values)) (values_in items) (taking (plain (st.Print line form advance)) (in_turn (map whole items)))
    else taking (plain (st.Print line form advance)) (in_turn (map whole items))

-- one shape of a tree, with what its parts become
abbrev pub expr_layer : ExprTree-F (Drawn ArrayItemTree) (Drawn ExprTree) Item (Drawn SectionPartTree) (Drawn StmtTree) (Drawn CaseTree) → Drawn ExprTree
expr_layer (ExprTree-F.IntConst kind value) = plain (et.IntConst kind value)
expr_layer (ExprTree-F.LogConst value) = plain (et.LogConst value)
expr_layer (ExprTree-F.CharConst bytes) = plain (et.CharConst bytes)
expr_layer (ExprTree-F.Var symbol) = plain (et.Var symbol)
expr_layer (ExprTree-F.Item base subscripts) = taking (taking (plain et.Item) base) (in_turn subscripts)
expr_layer (ExprTree-F.Section base parts) = taking (taking (plain et.Section) base) (in_turn parts)
expr_layer (ExprTree-F.Field base component) = taking (plain (λ b. et.Field b component)) base
expr_layer (ExprTree-F.Substring base lower upper) = taking (taking (taking (plain et.Substring) base) (perhaps lower)) (perhaps upper)
expr_layer (ExprTree-F.Unary operator operand) = taking (plain (et.Unary operator)) operand
expr_layer (ExprTree-F.Binary operator left right) = taking (taking (plain (et.Binary operator)) left) right
expr_layer (ExprTree-F.Convert kind operand) = taking (plain (et.Convert kind)) operand
expr_layer (ExprTree-F.Paren inner) = taking (plain et.Paren) inner
expr_layer (ExprTree-F.Invoke callee arguments) = taking (plain (et.Invoke callee)) (in_turn arguments)
expr_layer (ExprTree-F.Intrinsic code arguments) = taking (plain (et.Intrinsic code)) (in_turn arguments)
expr_layer (ExprTree-F.Construct definition arguments) = taking (plain (et.Construct definition)) (in_turn arguments)
expr_layer (ExprTree-F.Array items) = taking (plain et.Array) (in_turn items)
expr_layer (ExprTree-F.Temp number) = plain (et.Temp number)
expr_layer (ExprTree-F.Extent symbol dimension) = plain (et.Extent symbol dimension)
expr_layer (ExprTree-F.Seq stmts value) = taking (taking (plain et.Seq) (in_turn stmts)) value
expr_layer (ExprTree-F.TempAt number place) = taking (plain (et.TempAt number)) place
expr_layer (ExprTree-F.SecLen lower upper step low high) = taking (taking (taking (taking (taking (plain et.SecLen) lower) upper) step) low) high
expr_layer (ExprTree-F.Arr number element extents) = taking (plain (et.Arr number element)) (in_turn extents)
expr_layer (ExprTree-F.«ExprTree::At» source line value) = taking (plain (et.At source line)) value

abbrev pub section_part_layer : SectionPartTree-F (Drawn ArrayItemTree) (Drawn ExprTree) Item (Drawn SectionPartTree) (Drawn StmtTree) (Drawn CaseTree) → Drawn SectionPartTree
section_part_layer (SectionPartTree-F.«SectionPartTree::At» index) = taking (plain spt.At) index
section_part_layer (SectionPartTree-F.Triple lower upper step) = taking (taking (taking (plain spt.Triple) (perhaps lower)) (perhaps upper)) (perhaps step)

abbrev pub array_item_layer : ArrayItemTree-F (Drawn ArrayItemTree) (Drawn ExprTree) Item (Drawn SectionPartTree) (Drawn StmtTree) (Drawn CaseTree) → Drawn ArrayItemTree
array_item_layer (ArrayItemTree-F.«ArrayItemTree::Value» value) = taking (plain ait.Value) value
array_item_layer (ArrayItemTree-F.«ArrayItemTree::Loop» number lower upper step items) = taking (plain (ait.Loop number lower upper step)) (in_turn items)

abbrev pub print_item_layer : PrintItemTree-F (Drawn ArrayItemTree) (Drawn ExprTree) Item (Drawn SectionPartTree) (Drawn StmtTree) (Drawn CaseTree) → Item
print_item_layer (PrintItemTree-F.«PrintItemTree::Value» value) = record { whole = taking (plain pit.Value) value; value = Some value }
print_item_layer (PrintItemTree-F.«PrintItemTree::Loop» variable lower upper step items) = record { whole = taking (taking (taking (taking (taking (plain pit.Loop) variable) lower) upper) step) (in_turn (map whole items)); value = None }

abbrev pub stmt_layer : StmtTree-F (Drawn ArrayItemTree) (Drawn ExprTree) Item (Drawn SectionPartTree) (Drawn StmtTree) (Drawn CaseTree) → Drawn StmtTree
stmt_layer (StmtTree-F.Assign line target value) = taking (taking (plain (st.Assign line)) target) value
stmt_layer (StmtTree-F.If line condition then_block else_block) = taking (taking (taking (plain (st.If line)) condition) (in_turn then_block)) (in_turn else_block)
stmt_layer (StmtTree-F.Do line id variable lower upper step body) = taking (taking (taking (taking (taking (plain (st.Do line id)) variable) lower) upper) step) (in_turn body)
stmt_layer (StmtTree-F.While line id condition body) = taking (taking (plain (st.While line id)) condition) (in_turn body)
stmt_layer (StmtTree-F.Exit line id) = plain (st.Exit line id)
stmt_layer (StmtTree-F.Cycle line id) = plain (st.Cycle line id)
stmt_layer (StmtTree-F.Select line value cases default) = taking (taking (taking (plain (st.Select line)) value) (in_turn cases)) (in_turn default)
stmt_layer (StmtTree-F.Call line callee arguments) = taking (plain (st.Call line callee)) (in_turn arguments)
stmt_layer (StmtTree-F.Print line form advance items) = print_layer line form advance items
stmt_layer (StmtTree-F.Read line target iostat) = taking (taking (plain (st.Read line)) target) (perhaps iostat)
stmt_layer (StmtTree-F.Stop line error code) = taking (plain (st.Stop line error)) code
stmt_layer (StmtTree-F.Return line) = plain (st.Return line)
stmt_layer (StmtTree-F.Block line stmts) = taking (plain (st.Block line)) (in_turn stmts)
stmt_layer (StmtTree-F.Let line number value) = taking (plain (st.Let line number)) value
stmt_layer (StmtTree-F.Room line number element len extents) = taking (taking (plain (st.Room line number element)) (perhaps len)) (in_turn extents)
stmt_layer (StmtTree-F.Count line number bound body) = taking (taking (plain (st.Count line number)) bound) (in_turn body)
stmt_layer (StmtTree-F.Same line left right) = taking (taking (plain (st.Same line)) left) right
stmt_layer (StmtTree-F.Probe line designator) = taking (plain (st.Probe line)) designator
stmt_layer (StmtTree-F.Begin line number) = plain (st.Begin line number)
stmt_layer (StmtTree-F.Put line number value) = taking (plain (st.Put line number)) value
stmt_layer (StmtTree-F.End line) = plain (st.End line)

abbrev pub case_layer : CaseTree-F (Drawn ArrayItemTree) (Drawn ExprTree) Item (Drawn SectionPartTree) (Drawn StmtTree) (Drawn CaseTree) → Drawn CaseTree
case_layer block = taking (plain (λ (body : List StmtTree). record { ranges = block.ranges; body = body })) (in_turn block.body)

abbrev pub lowered_array_item : ArrayItemTree → Drawn ArrayItemTree
lowered_array_item = fold-ArrayItemTree (Drawn ArrayItemTree) (Drawn ExprTree) Item (Drawn SectionPartTree) (Drawn StmtTree) (Drawn CaseTree) array_item_layer expr_layer print_item_layer section_part_layer stmt_layer case_layer

abbrev pub lowered_expr : ExprTree → Drawn ExprTree
lowered_expr = fold-ExprTree (Drawn ArrayItemTree) (Drawn ExprTree) Item (Drawn SectionPartTree) (Drawn StmtTree) (Drawn CaseTree) array_item_layer expr_layer print_item_layer section_part_layer stmt_layer case_layer

abbrev pub lowered_item : PrintItemTree → Item
lowered_item = fold-PrintItemTree (Drawn ArrayItemTree) (Drawn ExprTree) Item (Drawn SectionPartTree) (Drawn StmtTree) (Drawn CaseTree) array_item_layer expr_layer print_item_layer section_part_layer stmt_layer case_layer

abbrev pub lowered_section_part : SectionPartTree → Drawn SectionPartTree
lowered_section_part = fold-SectionPartTree (Drawn ArrayItemTree) (Drawn ExprTree) Item (Drawn SectionPartTree) (Drawn StmtTree) (Drawn CaseTree) array_item_layer expr_layer print_item_layer section_part_layer stmt_layer case_layer

abbrev pub lowered_stmt : StmtTree → Drawn StmtTree
lowered_stmt = fold-StmtTree (Drawn ArrayItemTree) (Drawn ExprTree) Item (Drawn SectionPartTree) (Drawn StmtTree) (Drawn CaseTree) array_item_layer expr_layer print_item_layer section_part_layer stmt_layer case_layer

abbrev pub lowered_case : CaseTree → Drawn CaseTree
lowered_case = fold-CaseTree (Drawn ArrayItemTree) (Drawn ExprTree) Item (Drawn SectionPartTree) (Drawn StmtTree) (Drawn CaseTree) array_item_layer expr_layer print_item_layer section_part_layer stmt_layer case_layer

-- the statements of a body
abbrev pub lowered_body : List StmtTree → Drawn (List StmtTree)
lowered_body body = in_turn (map lowered_stmt body)

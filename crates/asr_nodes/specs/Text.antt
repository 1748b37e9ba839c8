-- The text of trees: each node in parentheses, its tag and its fields in order, and a symbol by its path from the unit.
use Rattle.std.specs.Prelude.{ℕ, List, [], ◌∷◌, ◌++◌, codes, map, option_map}
use Rattle.std.specs.Fmt.{decimal, signed_decimal}
use Rattle.lf_base.specs.Contents.{joined}
use Rattle.ast_nodes.specs.Node.{quoted, opened, node, behind_blank, listed, optional}
use Rattle.type_rules.specs.declared.constant.Const.{Const}
use Rattle.type_rules.specs.declared.constant.Const.TheVariants as constant
use Rattle.type_rules.specs.declared.ty.Dim.{Dim}
use Rattle.type_rules.specs.declared.ty.Dim.TheVariants as dim
use Rattle.type_rules.specs.declared.ty.Len.{Len}
use Rattle.type_rules.specs.declared.ty.Len.TheVariants as len_kind
use Rattle.asr_nodes.specs.Reading.{Path}
use Rattle.asr_nodes.specs.declared.node.CaseRange.{CaseRange}
use Rattle.asr_nodes.specs.declared.node.CaseRange.TheVariants as range
use Rattle.asr_nodes.specs.declared.tree.ElemTree.{ElemTree}
use Rattle.asr_nodes.specs.declared.tree.ElemTree.TheVariants as elem
use Rattle.asr_nodes.specs.declared.tree.TypeTree.{TypeTree}
use Rattle.asr_nodes.specs.declared.tree.ExprTree.{ExprTree, ExprTree-F, fold-ExprTree}
use Rattle.asr_nodes.specs.declared.tree.SectionPartTree.{SectionPartTree, SectionPartTree-F, fold-SectionPartTree}
use Rattle.asr_nodes.specs.declared.tree.ArrayItemTree.{ArrayItemTree, ArrayItemTree-F, fold-ArrayItemTree}
use Rattle.asr_nodes.specs.declared.tree.CaseTree.{CaseTree, CaseTree-F, fold-CaseTree}
use Rattle.asr_nodes.specs.declared.tree.PrintItemTree.{PrintItemTree, PrintItemTree-F, fold-PrintItemTree}
use Rattle.asr_nodes.specs.declared.tree.StmtTree.{StmtTree, StmtTree-F, fold-StmtTree}
use Rattle.asr_nodes.specs.declared.tree.SymbolTree.{SymbolTree, SymbolTree-F, fold-SymbolTree}
use Rattle.asr_nodes.specs.declared.tree.UnitTree.{UnitTree}
use Rattle.asr_nodes.specs.declared.tree.UnitTree.TheVariants as unit

abbrev pub Text : Type 0
Text = List ℕ

-- names with a point between two of them
abbrev pub pointed : List (List ℕ) → Text
pointed [] = []
pointed (name ∷ []) = name
pointed (name ∷ more) = name ++ codes "." ++ pointed more

-- a path without the unit's name
abbrev pub path_text : Path → Text
path_text [] = []
path_text (unit ∷ names) = pointed names

abbrev pub paths_text : List Path → Text
paths_text paths = listed (map path_text paths)

abbrev pub const_text : Const → Text
const_text (constant.IntConst kind value) = node (codes "IntConst") (decimal kind ∷ signed_decimal value ∷ [])
const_text (constant.LogConst value) = node (codes "LogConst") (decimal value ∷ [])
const_text (constant.CharConst bytes) = node (codes "CharConst") (quoted bytes ∷ [])

abbrev pub len_text : Len → Text
len_text (len_kind.Fixed n) = node (codes "Fixed") (decimal n ∷ [])
len_text len_kind.Assumed = node (codes "Assumed") []

abbrev pub dim_text : Dim → Text
dim_text (dim.Fixed lower extent) = node (codes "Fixed") (signed_decimal lower ∷ decimal extent ∷ [])
dim_text dim.Assumed = node (codes "Assumed") []

abbrev pub elem_text : ElemTree → Text
elem_text (elem.Integer kind) = node (codes "Integer") (decimal kind ∷ [])
elem_text elem.Logical = node (codes "Logical") []
elem_text (elem.Character len) = node (codes "Character") (len_text len ∷ [])
elem_text (elem.Derived symbol) = node (codes "Derived") (path_text symbol ∷ [])

abbrev pub type_text : TypeTree → Text
type_text ty = node (codes "Type") (elem_text ty.elem ∷ listed (map dim_text ty.dims) ∷ [])

abbrev pub range_text : CaseRange → Text
range_text (range.One value) = node (codes "One") (const_text value ∷ [])
range_text (range.From lower) = node (codes "From") (const_text lower ∷ [])
range_text (range.To upper) = node (codes "To") (const_text upper ∷ [])
range_text (range.Between lower upper) = node (codes "Between") (const_text lower ∷ const_text upper ∷ [])

-- one shape of an expression, with the texts of its parts
abbrev pub expr_layer : ExprTree-F Text Text Text Text Text Text → Text
expr_layer (ExprTree-F.IntConst kind value) = node (codes "IntConst") (decimal kind ∷ signed_decimal value ∷ [])
expr_layer (ExprTree-F.LogConst value) = node (codes "LogConst") (decimal value ∷ [])
expr_layer (ExprTree-F.CharConst bytes) = node (codes "CharConst") (quoted bytes ∷ [])
expr_layer (ExprTree-F.Var symbol) = node (codes "Var") (path_text symbol ∷ [])
expr_layer (ExprTree-F.Item base subscripts) = node (codes "Item") (base ∷ listed subscripts ∷ [])
expr_layer (ExprTree-F.Section base parts) = node (codes "Section") (base ∷ listed parts ∷ [])
expr_layer (ExprTree-F.Field base component) = node (codes "Field") (base ∷ component ∷ [])
expr_layer (ExprTree-F.Substring base lower upper) = node (codes "Substring") (base ∷ optional lower ∷ optional upper ∷ [])
expr_layer (ExprTree-F.Unary operator operand) = node (codes "Unary") (decimal operator ∷ operand ∷ [])
expr_layer (ExprTree-F.Binary operator left right) = node (codes "Binary") (decimal operator ∷ left ∷ right ∷ [])
expr_layer (ExprTree-F.Convert kind operand) = node (codes "Convert") (decimal kind ∷ operand ∷ [])
expr_layer (ExprTree-F.Paren inner) = node (codes "Paren") (inner ∷ [])
expr_layer (ExprTree-F.Invoke callee arguments) = node (codes "Invoke") (path_text callee ∷ listed arguments ∷ [])
expr_layer (ExprTree-F.Intrinsic code arguments) = node (codes "Intrinsic") (decimal code ∷ listed arguments ∷ [])
expr_layer (ExprTree-F.Construct definition arguments) = node (codes "Construct") (path_text definition ∷ listed arguments ∷ [])
expr_layer (ExprTree-F.Array items) = node (codes "Array") (listed items ∷ [])
expr_layer (ExprTree-F.Temp number) = node (codes "Temp") (decimal number ∷ [])
expr_layer (ExprTree-F.Extent symbol dimension) = node (codes "Extent") (path_text symbol ∷ decimal dimension ∷ [])
expr_layer (ExprTree-F.Seq stmts value) = node (codes "Seq") (listed stmts ∷ value ∷ [])
expr_layer (ExprTree-F.TempAt number place) = node (codes "TempAt") (decimal number ∷ place ∷ [])
expr_layer (ExprTree-F.SecLen lower upper step low high) = node (codes "SecLen") (lower ∷ upper ∷ step ∷ low ∷ high ∷ [])
expr_layer (ExprTree-F.Arr number element extents) = node (codes "Arr") (decimal number ∷ elem_text element ∷ listed extents ∷ [])
expr_layer (ExprTree-F.«ExprTree::At» source line value) = node (codes "At") (quoted source ∷ decimal line ∷ value ∷ [])

abbrev pub section_part_layer : SectionPartTree-F Text Text Text Text Text Text → Text
section_part_layer (SectionPartTree-F.«SectionPartTree::At» index) = node (codes "At") (index ∷ [])
section_part_layer (SectionPartTree-F.Triple lower upper step) = node (codes "Triple") (optional lower ∷ optional upper ∷ optional step ∷ [])

abbrev pub array_item_layer : ArrayItemTree-F Text Text Text Text Text Text → Text
array_item_layer (ArrayItemTree-F.«ArrayItemTree::Value» value) = node (codes "Value") (value ∷ [])
array_item_layer (ArrayItemTree-F.«ArrayItemTree::Loop» number lower upper step items) = node (codes "Loop") (decimal number ∷ signed_decimal lower ∷ signed_decimal upper ∷ signed_decimal step ∷ listed items ∷ [])

abbrev pub case_layer : CaseTree-F Text Text Text Text Text Text → Text
case_layer block = node (codes "Case") (listed (map range_text block.ranges) ∷ listed block.body ∷ [])

abbrev pub print_item_layer : PrintItemTree-F Text Text Text Text Text Text → Text
print_item_layer (PrintItemTree-F.«PrintItemTree::Value» value) = node (codes "Value") (value ∷ [])
print_item_layer (PrintItemTree-F.«PrintItemTree::Loop» variable lower upper step items) = node (codes "Loop") (variable ∷ lower ∷ upper ∷ step ∷ listed items ∷ [])

abbrev pub stmt_layer : StmtTree-F Text Text Text Text Text Text → Text
stmt_layer (StmtTree-F.Assign line target value) = node (codes "Assign") (decimal line ∷ target ∷ value ∷ [])
stmt_layer (StmtTree-F.If line condition then_block else_block) = node (codes "If") (decimal line ∷ condition ∷ listed then_block ∷ listed else_block ∷ [])
stmt_layer (StmtTree-F.Do line id variable lower upper step body) = node (codes "Do") (decimal line ∷ decimal id ∷ variable ∷ lower ∷ upper ∷ step ∷ listed body ∷ [])
stmt_layer (StmtTree-F.While line id condition body) = node (codes "While") (decimal line ∷ decimal id ∷ condition ∷ listed body ∷ [])
stmt_layer (StmtTree-F.Exit line id) = node (codes "Exit") (decimal line ∷ decimal id ∷ [])
stmt_layer (StmtTree-F.Cycle line id) = node (codes "Cycle") (decimal line ∷ decimal id ∷ [])
stmt_layer (StmtTree-F.Select line value cases default) = node (codes "Select") (decimal line ∷ value ∷ listed cases ∷ listed default ∷ [])
stmt_layer (StmtTree-F.Call line callee arguments) = node (codes "Call") (decimal line ∷ path_text callee ∷ listed arguments ∷ [])
stmt_layer (StmtTree-F.Print line form advance items) = node (codes "Print") (decimal line ∷ decimal form ∷ decimal advance ∷ listed items ∷ [])
stmt_layer (StmtTree-F.Read line target iostat) = node (codes "Read") (decimal line ∷ target ∷ optional iostat ∷ [])
stmt_layer (StmtTree-F.Stop line error code) = node (codes "Stop") (decimal line ∷ decimal error ∷ code ∷ [])
stmt_layer (StmtTree-F.Return line) = node (codes "Return") (decimal line ∷ [])
stmt_layer (StmtTree-F.Block line stmts) = node (codes "Block") (decimal line ∷ listed stmts ∷ [])
stmt_layer (StmtTree-F.Let line number value) = node (codes "Let") (decimal line ∷ decimal number ∷ value ∷ [])
stmt_layer (StmtTree-F.Room line number element len extents) = node (codes "Room") (decimal line ∷ decimal number ∷ elem_text element ∷ optional len ∷ listed extents ∷ [])
stmt_layer (StmtTree-F.Count line number bound body) = node (codes "Count") (decimal line ∷ decimal number ∷ bound ∷ listed body ∷ [])
stmt_layer (StmtTree-F.Same line left right) = node (codes "Same") (decimal line ∷ left ∷ right ∷ [])
stmt_layer (StmtTree-F.Probe line designator) = node (codes "Probe") (decimal line ∷ designator ∷ [])
stmt_layer (StmtTree-F.Begin line number) = node (codes "Begin") (decimal line ∷ decimal number ∷ [])
stmt_layer (StmtTree-F.Put line number value) = node (codes "Put") (decimal line ∷ decimal number ∷ value ∷ [])
stmt_layer (StmtTree-F.End line) = node (codes "End") (decimal line ∷ [])

abbrev pub expr_text : ExprTree → Text
expr_text = fold-ExprTree Text Text Text Text Text Text array_item_layer expr_layer print_item_layer section_part_layer stmt_layer case_layer

abbrev pub section_part_text : SectionPartTree → Text
section_part_text = fold-SectionPartTree Text Text Text Text Text Text array_item_layer expr_layer print_item_layer section_part_layer stmt_layer case_layer

abbrev pub array_item_text : ArrayItemTree → Text
array_item_text = fold-ArrayItemTree Text Text Text Text Text Text array_item_layer expr_layer print_item_layer section_part_layer stmt_layer case_layer

abbrev pub stmt_text : StmtTree → Text
stmt_text = fold-StmtTree Text Text Text Text Text Text array_item_layer expr_layer print_item_layer section_part_layer stmt_layer case_layer

abbrev pub case_text : CaseTree → Text
case_text = fold-CaseTree Text Text Text Text Text Text array_item_layer expr_layer print_item_layer section_part_layer stmt_layer case_layer

abbrev pub print_item_text : PrintItemTree → Text
print_item_text = fold-PrintItemTree Text Text Text Text Text Text array_item_layer expr_layer print_item_layer section_part_layer stmt_layer case_layer

-- a symbol, with the texts of the symbols in the scope of its own
abbrev pub symbol_layer : SymbolTree-F Text → Text
symbol_layer (SymbolTree-F.Function name access dummies result simple symbols body) =
    node (codes "Function") (name ∷ decimal access ∷ paths_text dummies ∷ optional (option_map path_text result) ∷ decimal simple ∷ listed symbols ∷ listed (map stmt_text body) ∷ [])
symbol_layer (SymbolTree-F.Variable name access ty storage intent init) =
    node (codes "Variable") (name ∷ decimal access ∷ type_text ty ∷ decimal storage ∷ decimal intent ∷ listed (map expr_text init) ∷ [])
symbol_layer (SymbolTree-F.Struct name access symbols) = node (codes "Struct") (name ∷ decimal access ∷ listed symbols ∷ [])
symbol_layer (SymbolTree-F.Generic name access specifics) = node (codes "Generic") (name ∷ decimal access ∷ paths_text specifics ∷ [])
symbol_layer (SymbolTree-F.External name access home original) = node (codes "External") (name ∷ decimal access ∷ home ∷ original ∷ [])

abbrev pub symbol_text : SymbolTree → Text
symbol_text = fold-SymbolTree Text symbol_layer

-- a line of its own for each symbol of the unit
abbrev pub symbol_line : SymbolTree → Text
symbol_line symbol = joined (symbol_text symbol ∷ codes "\n" ∷ [])

-- the head of a unit
abbrev pub unit_front : Text → List ℕ → List ℕ → List (List ℕ) → Text
unit_front tag name source deps = joined (opened tag ∷ behind_blank name ∷ behind_blank (quoted source) ∷ behind_blank (listed deps) ∷ codes " [\n" ∷ [])

abbrev pub unit_text : UnitTree → Text
unit_text (unit.Program name source deps symbols body) =
    joined (unit_front (codes "Program") name source deps ∷ joined (map symbol_line symbols) ∷ codes "]" ∷ behind_blank (listed (map stmt_text body)) ∷ codes ")\n" ∷ [])
unit_text (unit.Module name source deps symbols) =
    joined (unit_front (codes "Module") name source deps ∷ joined (map symbol_line symbols) ∷ codes "])\n" ∷ [])

-- The keys of a node's parts, in the order of its fields.
use Rattle.std.specs.Prelude.{List, [], ◌∷◌, ◌++◌, map}
use Rattle.asr_nodes.specs.Keys.{Key, expr, stmt, Node, exprs, stmts, perhaps, chained}
use Rattle.asr_nodes.specs.declared.node.ArrayItem.{ArrayItem}
use Rattle.asr_nodes.specs.declared.node.ArrayItem.TheOpen.{ArrayItem-F}
use Rattle.asr_nodes.specs.declared.node.ArrayItem.TheFolds.{fold-ArrayItem}
use Rattle.asr_nodes.specs.declared.node.Case.{Case}
use Rattle.asr_nodes.specs.declared.node.Expr.{Expr}
use Rattle.asr_nodes.specs.declared.node.Expr.TheVariants as e
use Rattle.asr_nodes.specs.declared.node.PrintItem.{PrintItem}
use Rattle.asr_nodes.specs.declared.node.PrintItem.TheOpen.{PrintItem-F}
use Rattle.asr_nodes.specs.declared.node.PrintItem.TheFolds.{fold-PrintItem}
use Rattle.asr_nodes.specs.declared.node.SectionPart.{SectionPart}
use Rattle.asr_nodes.specs.declared.node.SectionPart.TheVariants as part
use Rattle.asr_nodes.specs.declared.node.Stmt.{Stmt}
use Rattle.asr_nodes.specs.declared.node.Stmt.TheVariants as s

abbrev pub section_part_parts : SectionPart → List Key
section_part_parts (part.At index) = expr index ∷ []
section_part_parts (part.Triple lower upper step) = perhaps lower ++ (perhaps upper ++ perhaps step)

abbrev pub array_item_layer : ArrayItem-F (List Key) → List Key
array_item_layer (ArrayItem-F.Value value) = expr value ∷ []
array_item_layer (ArrayItem-F.Loop number lower upper step items) = chained items

abbrev pub array_item_parts : ArrayItem → List Key
array_item_parts = fold-ArrayItem (List Key) array_item_layer

abbrev pub print_item_layer : PrintItem-F (List Key) → List Key
print_item_layer (PrintItem-F.Value value) = expr value ∷ []
print_item_layer (PrintItem-F.Loop variable lower upper step items) = expr variable ∷ expr lower ∷ expr upper ∷ expr step ∷ chained items

abbrev pub print_item_parts : PrintItem → List Key
print_item_parts = fold-PrintItem (List Key) print_item_layer

abbrev pub expr_parts : Expr → List Key
expr_parts (e.IntConst kind value) = []
expr_parts (e.LogConst value) = []
expr_parts (e.CharConst bytes) = []
expr_parts (e.Var symbol) = []
expr_parts (e.Item base subscripts) = expr base ∷ exprs subscripts
expr_parts (e.Section base parts) = expr base ∷ chained (map section_part_parts parts)
expr_parts (e.Field base component) = expr base ∷ []
expr_parts (e.Substring base lower upper) = expr base ∷ (perhaps lower ++ perhaps upper)
expr_parts (e.Unary operator operand) = expr operand ∷ []
expr_parts (e.Binary operator left right) = expr left ∷ expr right ∷ []
expr_parts (e.Convert kind operand) = expr operand ∷ []
expr_parts (e.Paren inner) = expr inner ∷ []
expr_parts (e.Invoke callee arguments) = exprs arguments
expr_parts (e.Intrinsic code arguments) = exprs arguments
expr_parts (e.Construct definition arguments) = exprs arguments
expr_parts (e.Array items) = chained (map array_item_parts items)
expr_parts (e.Temp number) = []
expr_parts (e.Extent symbol dimension) = []
expr_parts (e.Seq body value) = stmts body ++ expr value ∷ []
expr_parts (e.TempAt number place) = expr place ∷ []
expr_parts (e.SecLen lower upper step low high) = expr lower ∷ expr upper ∷ expr step ∷ expr low ∷ expr high ∷ []
expr_parts (e.Arr number element extents) = exprs extents
expr_parts (e.At source line value) = expr value ∷ []

abbrev pub case_parts : Case → List Key
case_parts block = stmts block.body

abbrev pub stmt_parts : Stmt → List Key
stmt_parts (s.Assign line target value) = expr target ∷ expr value ∷ []
stmt_parts (s.If line condition then_block else_block) = expr condition ∷ (stmts then_block ++ stmts else_block)
stmt_parts (s.Do line id variable lower upper step body) = expr variable ∷ expr lower ∷ expr upper ∷ expr step ∷ stmts body
stmt_parts (s.While line id condition body) = expr condition ∷ stmts body
stmt_parts (s.Exit line id) = []
stmt_parts (s.Cycle line id) = []
stmt_parts (s.Select line value cases default) = expr value ∷ (chained (map case_parts cases) ++ stmts default)
stmt_parts (s.Call line callee arguments) = exprs arguments
stmt_parts (s.Print line form advance items) = chained (map print_item_parts items)
stmt_parts (s.Read line target iostat) = expr target ∷ perhaps iostat
stmt_parts (s.Stop line error code) = expr code ∷ []
stmt_parts (s.Return line) = []
stmt_parts (s.Block line body) = stmts body
stmt_parts (s.Let line number value) = expr value ∷ []
stmt_parts (s.Room line number element len extents) = perhaps len ++ exprs extents
stmt_parts (s.Count line number bound body) = expr bound ∷ stmts body
stmt_parts (s.Same line left right) = expr left ∷ expr right ∷ []
stmt_parts (s.Probe line designator) = expr designator ∷ []
stmt_parts (s.Begin line number) = []
stmt_parts (s.Put line number value) = expr value ∷ []
stmt_parts (s.End line) = []

abbrev pub parts : (key : Key) → Node key → List Key
parts (expr id) node = expr_parts node
parts (stmt id) node = stmt_parts node

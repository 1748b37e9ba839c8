-- The text of a node from its tag and its fields.
use Rattle.std.specs.Prelude.{ℕ, List, [], ◌∷◌, ◌++◌, codes, map, length, replicate, Option, option_map}
use Rattle.std.specs.Option.{option_map_or}
use Rattle.std.specs.Fmt.{decimal, signed_decimal}
use Rattle.lf_base.specs.declared.id.ExprId.{ExprId}
use Rattle.lf_base.specs.declared.id.SymId.{SymId}
use Rattle.lf_base.specs.declared.id.TableId.{TableId}
use Rattle.lf_base.specs.Contents.{joined}
use Rattle.ast_nodes.specs.Node.{quoted, opened, listed, optional, behind_blank}
use Rattle.symtab_arena.specs.Paths.{path_of}
use Rattle.symtab_arena.specs.Scopes.{symbol_at, names_in}
use Rattle.asr_nodes.specs.Nodes.{Nodes, reads}
use Rattle.asr_nodes.specs.Reading.{Path, Reading, elem_node, type_node, section_part_node, array_item_node, print_item_node, case_node}
use Rattle.asr_nodes.specs.Text.{Text, path_text, paths_text, const_text, len_text, dim_text, type_text, elem_text, range_text, expr_text, stmt_text, section_part_text, array_item_text, print_item_text, case_text, symbol_text}
use Rattle.asr_nodes.specs.Units.{symbol_node, symbol_trees}
use Rattle.asr_nodes.specs.declared.tree.StmtTree.TheVariants as stmt
use Rattle.asr_nodes.specs.declared.print.field.Thing.{Thing}
use Rattle.asr_nodes.specs.declared.print.field.Thing.TheVariants as thing
use Rattle.asr_nodes.specs.declared.print.field.Group.{Group}
use Rattle.asr_nodes.specs.declared.print.field.Group.TheVariants as group
use Rattle.asr_nodes.specs.declared.print.field.Field.{Field}
use Rattle.asr_nodes.specs.declared.print.field.Field.TheVariants as field
use Rattle.asr_nodes.specs.declared.print.field.Shape.{Shape}

-- symbols by the paths of the tables, and the trees that nodes stand for
abbrev pub the_reading : Nodes → Reading
the_reading a = reads a (path_of a.scopes)

-- the text of a symbol that is no unit; where none stands, it is what is read where no statement stands
abbrev pub entity_text : Nodes → SymId → Text
entity_text a id = option_map_or (λ e. option_map_or symbol_text (symbol_node a (symbol_trees a) e.name e.what) (stmt_text (stmt.End 0))) (symbol_at a.scopes id) (stmt_text (stmt.End 0))

-- the texts of the symbols of a table, in the order of their declaration
abbrev pub entity_texts : Nodes → TableId → List Text
entity_texts a table = map (λ e. entity_text a e.1) (names_in a.scopes table)

-- each of them on a line
abbrev pub entity_lines : Nodes → TableId → List Text
entity_lines a table = map (λ e. joined (entity_text a e.1 ∷ codes "\n" ∷ [])) (names_in a.scopes table)

-- what numbers stand for, and the texts of symbols and of what stands in tables
pub record Shown : Type 0 where
  pub reading : Reading
  pub entity : SymId → Text
  pub entities : TableId → List Text

abbrev pub shown : Nodes → Shown
shown a = record { reading = the_reading a; entity = entity_text a; entities = entity_texts a }

-- a path without the unit's name, each name with a point behind it
abbrev pub front_of : Path → Text
front_of [] = joined []
front_of (unit ∷ names) = joined (map (λ name. joined (name ∷ codes "." ∷ [])) names)

module _ (r : Shown) where
  -- how many nodes a list has
  abbrev pub group_length : Group → ℕ
  group_length (group.Exprs ids) = length ids.now
  group_length (group.Stmts ids) = length ids.now
  group_length (group.Parts parts) = length parts.now
  group_length (group.Values items) = length items.now
  group_length (group.Outputs items) = length items.now
  group_length (group.Cases cases) = length cases.now
  group_length (group.Ranges ranges) = length ranges.now
  group_length (group.Inits ids) = length ids.now
  group_length (group.Dims dims) = length dims.now
  group_length (group.Table table) = length (r.entities table)

  abbrev pub thing_text : Thing → Text
  thing_text (thing.Expr id) = expr_text (r.reading.expr id)
  thing_text (thing.Stmt id) = stmt_text (r.reading.stmt id)
  thing_text (thing.Part part) = section_part_text (section_part_node r.reading part.now)
  thing_text (thing.Value item) = array_item_text (array_item_node r.reading item.now)
  thing_text (thing.Output item) = print_item_text (print_item_node r.reading item.now)
  thing_text (thing.Case block) = case_text (case_node r.reading block.now)
  thing_text (thing.Range range) = range_text range.now
  thing_text (thing.Const value) = const_text value.now
  thing_text (thing.Elem element) = elem_text (elem_node r.reading.symbol element.now)
  thing_text (thing.Len len) = len_text len.now
  thing_text (thing.Ty ty) = type_text (type_node r.reading.symbol ty.now)
  thing_text (thing.Dim dim) = dim_text dim.now
  thing_text (thing.Symbol id) = r.entity id

  abbrev pub group_texts : Group → List Text
  group_texts (group.Exprs ids) = map expr_text (map r.reading.expr ids.now)
  group_texts (group.Stmts ids) = map stmt_text (map r.reading.stmt ids.now)
  group_texts (group.Parts parts) = map section_part_text (map (section_part_node r.reading) parts.now)
  group_texts (group.Values items) = map array_item_text (map (array_item_node r.reading) items.now)
  group_texts (group.Outputs items) = map print_item_text (map (print_item_node r.reading) items.now)
  group_texts (group.Cases cases) = map case_text (map (case_node r.reading) cases.now)
  group_texts (group.Ranges ranges) = map range_text ranges.now
  group_texts (group.Inits ids) = map expr_text (map r.reading.expr ids.now)
  group_texts (group.Dims dims) = map dim_text dims.now
  group_texts (group.Table table) = r.entities table

  -- an expression that may be missing
  abbrev pub maybe_text : Option ExprId → Text
  maybe_text id = optional (option_map expr_text (option_map r.reading.expr id))

  -- a field behind a blank
  abbrev pub field_behind : Field → Text
  field_behind (field.Code code) = behind_blank (decimal code)
  field_behind (field.Line line) = behind_blank (decimal line)
  field_behind (field.Number number) = behind_blank (decimal number)
  field_behind (field.Signed number) = behind_blank (signed_decimal number.now)
  field_behind (field.Symbol symbol) = behind_blank (path_text (r.reading.symbol symbol))
  field_behind (field.Bytes bytes) = behind_blank (quoted bytes.now)
  field_behind (field.Word name) = behind_blank name.now
  field_behind (field.One it) = behind_blank (thing_text it)
  field_behind (field.Maybe id) = behind_blank (maybe_text id)
  field_behind (field.Many nodes) = behind_blank (listed (group_texts nodes))
  field_behind field.End = joined []
  field_behind (field.Symbols ids) = behind_blank (paths_text (map r.reading.symbol ids.now))
  field_behind (field.MaybeSymbol id) = behind_blank (optional (option_map path_text (option_map r.reading.symbol id)))

  abbrev pub fields_text : List Field → Text
  fields_text fields = joined (map field_behind fields)

  abbrev pub node_text : Text → List Field → Text
  node_text tag fields = joined (opened tag ∷ map field_behind fields ++ (codes ")" ∷ []))

  abbrev pub shape_text : Shape → Text
  shape_text shape = node_text shape.tag.now shape.fields

  -- an `if` up to its `else` part
  abbrev pub link_text : List Field → Text
  link_text fields = joined (opened (codes "If") ∷ fields_text fields ∷ codes " [" ∷ [])

-- what closes so many `else` parts and their statements
abbrev pub closers : ℕ → List Text
closers n = replicate n (codes "])")

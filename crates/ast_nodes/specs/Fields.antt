-- The text of what stands in a node as one field.
use Rattle.std.specs.Prelude.{List, map, option_map}
use Rattle.std.specs.Fmt.{decimal}
use Rattle.ast_nodes.specs.Node.{listed, optional}
use Rattle.ast_nodes.specs.Exprs.{Text, expr_text, expr_texts, designator_text}
use Rattle.ast_nodes.specs.declared.print.field.Field.{Field}
use Rattle.ast_nodes.specs.declared.print.field.Field.TheVariants as field

abbrev pub field_text : Field → Text
field_text (field.Number number) = decimal number
field_text (field.Word name) = name.now
field_text (field.OptionalName name) = optional name.now
field_text (field.Names names) = listed names.now
field_text (field.Value expr) = expr_text expr.now
field_text (field.OptionalValue expr) = optional (option_map expr_text expr.now)
field_text (field.Values exprs) = listed (expr_texts exprs.now)
field_text (field.Place designator) = designator_text designator.now
field_text (field.OptionalPlace designator) = optional (option_map designator_text designator.now)

abbrev pub field_texts : List Field → List Text
field_texts = map field_text

-- The text of a source's tree: each node in parentheses, its fields in order (ISO/IEC 1539-1:2018, R501, R504, R514).
use Rattle.std.specs.Prelude.{List, [], ◌∷◌, codes, map, option_map}
use Rattle.std.specs.Fmt.{decimal}
use Rattle.lf_base.specs.Contents.{joined}
use Rattle.ast_nodes.specs.Node.{node, listed, optional}
use Rattle.ast_nodes.specs.Exprs.{Text, expr_text, expr_texts, designator_text}
use Rattle.ast_nodes.specs.declared.declaration.Decl.{Decl}
use Rattle.ast_nodes.specs.declared.declaration.Decl.TheVariants as decl
use Rattle.ast_nodes.specs.declared.declaration.UseStmt.{UseStmt}
use Rattle.ast_nodes.specs.declared.declaration.Rename.{Rename}
use Rattle.ast_nodes.specs.declared.declaration.Vars.{Vars}
use Rattle.ast_nodes.specs.declared.declaration.TypeSpec.{TypeSpec}
use Rattle.ast_nodes.specs.declared.declaration.TypeSpec.TheVariants as spec
use Rattle.ast_nodes.specs.declared.declaration.Length.{Length}
use Rattle.ast_nodes.specs.declared.declaration.Length.TheVariants.{Star, Given}
use Rattle.ast_nodes.specs.declared.declaration.Attribute.{Attribute}
use Rattle.ast_nodes.specs.declared.declaration.Attribute.TheVariants as attribute
use Rattle.ast_nodes.specs.declared.declaration.Entity.{Entity}
use Rattle.ast_nodes.specs.declared.declaration.Bound.{Bound}
use Rattle.ast_nodes.specs.declared.statement.CaseRange.{CaseRange}
use Rattle.ast_nodes.specs.declared.statement.CaseRange.TheVariants.{One, Range}
use Rattle.ast_nodes.specs.declared.statement.Statement.{Statement}
use Rattle.ast_nodes.specs.declared.statement.Statement.TheOpen.{Statement-F, Arm-F, Case-F}
use Rattle.ast_nodes.specs.declared.statement.Statement.TheFolds.{fold-Statement, fold-Arm, fold-Case}
use Rattle.ast_nodes.specs.declared.statement.Arm.{Arm}
use Rattle.ast_nodes.specs.declared.statement.Case.{Case}
use Rattle.ast_nodes.specs.declared.file.Procedure.{Procedure}
use Rattle.ast_nodes.specs.declared.file.Unit.{Unit}
use Rattle.ast_nodes.specs.declared.file.Unit.TheVariants.{Program, Module}
use Rattle.ast_nodes.specs.declared.file.File.{File}

abbrev pub bound_text : Bound → Text
bound_text bound = node (codes "Bound") (optional (option_map expr_text bound.lower) ∷ optional (option_map expr_text bound.upper) ∷ [])

abbrev pub bound_texts : List Bound → List Text
bound_texts = map bound_text

abbrev pub length_text : Length → Text
length_text Star = node (codes "Star") []
length_text (Given value) = expr_text value

abbrev pub type_text : TypeSpec → Text
type_text (spec.Integer kind) = node (codes "Integer") (decimal kind ∷ [])
type_text spec.Logical = node (codes "Logical") []
type_text (spec.Character length) = node (codes "Character") (optional (option_map length_text length) ∷ [])
type_text (spec.Derived name) = node (codes "Derived") (name ∷ [])

abbrev pub attribute_text : Attribute → Text
attribute_text attribute.Parameter = node (codes "Parameter") []
attribute_text attribute.Save = node (codes "Save") []
attribute_text attribute.Private = node (codes "Private") []
attribute_text attribute.Public = node (codes "Public") []
attribute_text (attribute.Dimension bounds) = node (codes "Dimension") (listed (bound_texts bounds) ∷ [])
attribute_text (attribute.Intent code) = node (codes "Intent") (decimal code ∷ [])

abbrev pub attribute_texts : List Attribute → List Text
attribute_texts = map attribute_text

abbrev pub entity_text : Entity → Text
entity_text entity = node (codes "Entity") (entity.name ∷ listed (bound_texts entity.bounds) ∷ optional (option_map expr_text entity.init) ∷ [])

abbrev pub entity_texts : List Entity → List Text
entity_texts = map entity_text

abbrev pub vars_text : Vars → Text
vars_text vars = node (codes "Vars") (decimal vars.line ∷ type_text vars.type_spec ∷ listed (attribute_texts vars.attributes) ∷ listed (entity_texts vars.entities) ∷ [])

abbrev pub component_texts : List Vars → List Text
component_texts = map vars_text

abbrev pub rename_text : Rename → Text
rename_text rename = node (codes "Rename") (rename.local ∷ rename.original ∷ [])

abbrev pub rename_texts : List Rename → List Text
rename_texts = map rename_text

abbrev pub use_text : UseStmt → Text
use_text used = node (codes "Use") (decimal used.line ∷ used.module ∷ decimal used.only ∷ listed (rename_texts used.renames) ∷ [])

abbrev pub decl_text : Decl → Text
decl_text (decl.Use used) = use_text used
decl_text (decl.ImplicitNone line) = node (codes "ImplicitNone") (decimal line ∷ [])
decl_text (decl.Access line is_private names) = node (codes "Access") (decimal line ∷ decimal is_private ∷ listed names ∷ [])
decl_text (decl.Variables vars) = vars_text vars
decl_text (decl.TypeDef line name access components) = node (codes "TypeDef") (decimal line ∷ name ∷ decimal access ∷ listed (component_texts components) ∷ [])
decl_text (decl.Interface line name names) = node (codes "Interface") (decimal line ∷ name ∷ listed names ∷ [])

abbrev pub decl_texts : List Decl → List Text
decl_texts = map decl_text

abbrev pub range_text : CaseRange → Text
range_text (One value) = node (codes "One") (expr_text value ∷ [])
range_text (Range lower upper) = node (codes "Range") (optional (option_map expr_text lower) ∷ optional (option_map expr_text upper) ∷ [])

abbrev pub range_texts : List CaseRange → List Text
range_texts = map range_text

-- one shape of a statement, with the texts of the statements in it
abbrev pub stmt_layer : Statement-F Text Text Text → Text
stmt_layer (Statement-F.Assign line target value) = node (codes "Assign") (decimal line ∷ designator_text target ∷ expr_text value ∷ [])
stmt_layer (Statement-F.If line construct arms) = node (codes "If") (decimal line ∷ optional construct ∷ listed arms ∷ [])
stmt_layer (Statement-F.Do line construct variable lower upper step body) = node (codes "Do") (decimal line ∷ optional construct ∷ variable ∷ expr_text lower ∷ expr_text upper ∷ optional (option_map expr_text step) ∷ listed body ∷ [])
stmt_layer (Statement-F.While line construct condition body) = node (codes "While") (decimal line ∷ optional construct ∷ optional (option_map expr_text condition) ∷ listed body ∷ [])
stmt_layer (Statement-F.Select line construct value cases) = node (codes "Select") (decimal line ∷ optional construct ∷ expr_text value ∷ listed cases ∷ [])
stmt_layer (Statement-F.Call line name arguments) = node (codes "Call") (decimal line ∷ name ∷ listed (expr_texts arguments) ∷ [])
stmt_layer (Statement-F.Print line form advance items) = node (codes "Print") (decimal line ∷ decimal form ∷ decimal advance ∷ listed (expr_texts items) ∷ [])
stmt_layer (Statement-F.Read line target iostat) = node (codes "Read") (decimal line ∷ designator_text target ∷ optional (option_map designator_text iostat) ∷ [])
stmt_layer (Statement-F.Stop line is_error code) = node (codes "Stop") (decimal line ∷ decimal is_error ∷ optional (option_map expr_text code) ∷ [])
stmt_layer (Statement-F.Exit line construct) = node (codes "Exit") (decimal line ∷ optional construct ∷ [])
stmt_layer (Statement-F.Cycle line construct) = node (codes "Cycle") (decimal line ∷ optional construct ∷ [])
stmt_layer (Statement-F.Return line) = node (codes "Return") (decimal line ∷ [])
stmt_layer (Statement-F.Continue line) = node (codes "Continue") (decimal line ∷ [])

abbrev pub arm_layer : Arm-F Text Text Text → Text
arm_layer arm = node (codes "Arm") (decimal arm.line ∷ optional (option_map expr_text arm.condition) ∷ listed arm.body ∷ [])

abbrev pub case_layer : Case-F Text Text Text → Text
case_layer part = node (codes "Case") (decimal part.line ∷ decimal part.is_default ∷ listed (range_texts part.ranges) ∷ listed part.body ∷ [])

abbrev pub stmt_text : Statement → Text
stmt_text = fold-Statement Text Text Text stmt_layer arm_layer case_layer

abbrev pub arm_text : Arm → Text
arm_text = fold-Arm Text Text Text stmt_layer arm_layer case_layer

abbrev pub case_text : Case → Text
case_text = fold-Case Text Text Text stmt_layer arm_layer case_layer

abbrev pub stmt_texts : List Statement → List Text
stmt_texts = map stmt_text

abbrev pub arm_texts : List Arm → List Text
arm_texts = map arm_text

abbrev pub case_texts : List Case → List Text
case_texts = map case_text

abbrev pub procedure_text : Procedure → Text
procedure_text procedure = node (codes "Proc") (decimal procedure.line ∷ procedure.name ∷ decimal procedure.is_function ∷ optional (option_map type_text procedure.type_spec) ∷ listed procedure.dummies ∷ optional procedure.result ∷ listed (decl_texts procedure.decls) ∷ listed (stmt_texts procedure.stmts) ∷ [])

abbrev pub procedure_texts : List Procedure → List Text
procedure_texts = map procedure_text

abbrev pub unit_text : Unit → Text
unit_text (Program line name decls stmts procs) = node (codes "Program") (decimal line ∷ name ∷ listed (decl_texts decls) ∷ listed (stmt_texts stmts) ∷ listed (procedure_texts procs) ∷ [])
unit_text (Module line name decls procs) = node (codes "Module") (decimal line ∷ name ∷ listed (decl_texts decls) ∷ listed (procedure_texts procs) ∷ [])

-- each unit stands on one line
abbrev pub line_text : Unit → Text
line_text it = joined (unit_text it ∷ codes "\n" ∷ [])

abbrev pub line_texts : List Unit → List Text
line_texts = map line_text

abbrev pub ast_text : File → Text
ast_text file = joined (line_texts file.units)

-- Where a statement may stand (ISO/IEC 1539-1:2018, 5.1, 11.1, 14 and 15.6).
use Rattle.std.specs.Prelude.{Bool, true, false, not, ◌&&◌, ◌||◌, ◌==◌, List, [], ◌∷◌, Some, None}
use Rattle.ff_forms.specs.declared.form.Form.{Form}
use Rattle.ff_forms.specs.declared.form.Form.TheVariants as form
use Rattle.ff_forms.specs.declared.form.End.{End}
use Rattle.ff_forms.specs.declared.form.End.TheVariants as end
use Rattle.ff_parser.specs.Pieces.{is_return}
use Rattle.ff_parser.specs.declared.nest.Stage.{Stage}
use Rattle.ff_parser.specs.declared.nest.Stage.TheVariants as stage
use Rattle.ff_parser.specs.declared.nest.ScopeKind.{ScopeKind}
use Rattle.ff_parser.specs.declared.nest.ScopeKind.TheVariants as kind
use Rattle.ff_parser.specs.declared.nest.Scope.{Scope}
use Rattle.ff_parser.specs.declared.nest.Definition.{Definition}
use Rattle.ff_parser.specs.declared.nest.Definition.TheVariants as definition
use Rattle.ff_parser.specs.declared.nest.Parts.{Parts}
use Rattle.ff_parser.specs.declared.nest.Parts.TheVariants as parts
use Rattle.ff_parser.specs.declared.nest.Level.{Level}
use Rattle.ff_parser.specs.declared.nest.Nest.{Nest}
use Rattle.ff_parser.specs.declared.nest.Nest.TheVariants as nest

abbrev pub has_items : {T : Type 0} → List T → Bool
has_items [] = false
has_items (item ∷ items) = true

-- The uses come first, then the declarations, then the executable statements, and behind `contains` the procedures.
abbrev pub takes_uses : Stage → Bool
takes_uses stage.Uses = true
takes_uses _ = false

abbrev pub takes_declarations : Stage → Bool
takes_declarations stage.Uses = true
takes_declarations stage.Declarations = true
takes_declarations _ = false

abbrev pub takes_statements : Stage → Bool
takes_statements stage.Procedures = false
takes_statements _ = true

abbrev pub takes_procedures : Stage → Bool
takes_procedures stage.Procedures = true
takes_procedures _ = false

abbrev pub is_procedure : ScopeKind → Bool
is_procedure (kind.Procedure header host) = true
is_procedure _ = false

abbrev pub is_module : ScopeKind → Bool
is_module (kind.Unit name of_module procs) = of_module
is_module (kind.Procedure header host) = false

-- the words behind `end` fit what is open; `end` alone closes every unit and procedure
abbrev pub closes : ScopeKind → End → Bool
closes _ end.Bare = true
closes (kind.Unit name of_module procs) end.Program = not of_module
closes (kind.Unit name of_module procs) end.Module = of_module
closes (kind.Procedure header host) end.Subroutine = not (header.is_function == 1)
closes (kind.Procedure header host) end.Function = header.is_function == 1
closes _ _ = false

abbrev pub in_scope : Scope → Form → Bool
in_scope scope (form.Use used) = takes_uses scope.stage
in_scope scope form.ImplicitNone = takes_declarations scope.stage
in_scope scope (form.Variables vars) = takes_declarations scope.stage
in_scope scope (form.Access is_private names) = is_module scope.kind && takes_declarations scope.stage
in_scope scope (form.TypeDef name access) = not (is_procedure scope.kind) && takes_declarations scope.stage
in_scope scope (form.Interface name) = not (is_procedure scope.kind) && takes_declarations scope.stage
in_scope scope (form.Action statement) = not (is_module scope.kind) && takes_statements scope.stage && (is_procedure scope.kind || not (is_return statement))
in_scope scope (form.IfThen construct condition) = not (is_module scope.kind) && takes_statements scope.stage
in_scope scope (form.Do construct variable lower upper step) = not (is_module scope.kind) && takes_statements scope.stage
in_scope scope (form.While construct condition) = not (is_module scope.kind) && takes_statements scope.stage
in_scope scope (form.Select construct value) = not (is_module scope.kind) && takes_statements scope.stage
in_scope scope form.Contains = not (is_procedure scope.kind) && takes_statements scope.stage
in_scope scope (form.Procedure name is_function type_spec dummies result) = takes_procedures scope.stage
in_scope scope (form.End end name) = closes scope.kind end
in_scope scope _ = false

-- components in a type, procedures in an interface; neither ends before it has one
abbrev pub in_definition : Definition → Form → Bool
in_definition (definition.Type line name access components) (form.Variables vars) = true
in_definition (definition.Type line name access components) (form.End end.Type given) = has_items components
in_definition (definition.Interface line name names) (form.Specifics more) = true
in_definition (definition.Interface line name names) (form.End end.Interface given) = has_items names
in_definition _ _ = false

-- statements stand in a `select case` only behind a `case`
abbrev pub has_block : Parts → Bool
has_block (parts.Select value cases None has_default) = false
has_block _ = true

-- `else if` and `else` stand in an `if`, before `else`
abbrev pub takes_arm : Parts → Bool
takes_arm (parts.If arms line (Some condition)) = true
takes_arm _ = false

-- `case default` stands at most once
abbrev pub takes_case : Parts → Bool → Bool
takes_case (parts.Select value cases label has_default) is_default = not (is_default && has_default)
takes_case _ _ = false

abbrev pub closes_construct : Parts → End → Bool
closes_construct (parts.If arms line condition) end.If = true
closes_construct (parts.Do variable lower upper step) end.Do = true
closes_construct (parts.While condition) end.Do = true
closes_construct (parts.Select value cases label has_default) end.Select = true
closes_construct _ _ = false

abbrev pub in_construct : Scope → Level → Form → Bool
in_construct scope level (form.Action statement) = has_block level.parts && (is_procedure scope.kind || not (is_return statement))
in_construct scope level (form.IfThen construct condition) = has_block level.parts
in_construct scope level (form.Do construct variable lower upper step) = has_block level.parts
in_construct scope level (form.While construct condition) = has_block level.parts
in_construct scope level (form.Select construct value) = has_block level.parts
in_construct scope level (form.ElseIf construct condition) = takes_arm level.parts
in_construct scope level (form.Else construct) = takes_arm level.parts
in_construct scope level (form.Case construct is_default ranges) = takes_case level.parts (is_default == 1)
in_construct scope level (form.End end name) = closes_construct level.parts end
in_construct scope level _ = false

abbrev pub begins_unit : Form → Bool
begins_unit (form.Program name) = true
begins_unit (form.Module name) = true
begins_unit _ = false

-- a statement of this form may stand here
abbrev pub is_allowed : Nest → Form → Bool
is_allowed (nest.Outside units) f = begins_unit f
is_allowed (nest.Scope units scope) f = in_scope scope f
is_allowed (nest.Definition units scope definition) f = in_definition definition f
is_allowed (nest.Construct units scope level around) f = in_construct scope level f

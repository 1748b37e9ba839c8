-- What is open behind statements, as trees of the grammar that are not closed: what each is written as, and which `Nest` it is.
use Rattle.std.proofs.Common.{◌≡◌, ℕ, suc, ◌<◌, Bool, true, false, ◌&&◌, List, [], ◌∷◌, ◌++◌, map, length, Option, Some, None}
use Rattle.std.specs.List.{flat_map, AllByRecursion as Each}
use Rattle.ast_nodes.specs.declared.declaration.Vars.{Vars}
use Rattle.ast_nodes.specs.declared.declaration.UseStmt.{UseStmt}
use Rattle.ast_nodes.specs.declared.expression.Expr.{Expr}
use Rattle.ast_nodes.specs.declared.statement.Arm.{Arm}
use Rattle.ast_nodes.specs.declared.statement.Case.{Case}
use Rattle.ff_forms.specs.declared.form.Form.{Form}
use Rattle.ff_forms.specs.declared.form.Form.TheVariants as form
use Rattle.ff_parser.specs.declared.nest.Stage.{Stage}
use Rattle.ff_parser.specs.declared.nest.Stage.TheVariants as stage
use Rattle.ff_parser.specs.declared.nest.Header.{Header}
use Rattle.ff_parser.specs.declared.nest.Host.{Host}
use Rattle.ff_parser.specs.declared.nest.ScopeKind.{ScopeKind}
use Rattle.ff_parser.specs.declared.nest.ScopeKind.TheVariants as kind
use Rattle.ff_parser.specs.declared.nest.Scope.{Scope}
use Rattle.ff_parser.specs.declared.nest.Definition.TheVariants as definition
use Rattle.ff_parser.specs.declared.nest.Label.{Label as OpenLabel}
use Rattle.ff_parser.specs.declared.nest.Parts.{Parts}
use Rattle.ff_parser.specs.declared.nest.Parts.TheVariants as parts
use Rattle.ff_parser.specs.declared.nest.Level.{Level}
use Rattle.ff_parser.specs.declared.nest.Nest.{Nest}
use Rattle.ff_parser.specs.declared.nest.Nest.TheVariants as nest
use Rattle.ff_parser.specs.Allowed.{is_allowed}
use Rattle.ff_parser.specs.Names.{is_named, begins_construct, is_full}
use Rattle.ff_parser.specs.Taken.{taken}
use Rattle.ff_parser.specs.Grammar.{Name, Stated, Counted, Looped, Block, nothing, Arms, if_then, else_if, otherwise, Choices, select, case, block_forms, arms_forms, choices_forms, first_of_arms, first_of_choices, has_default, StandsRight, block_tree, arms_tree, choices_tree, greatest_nesting, IsBlock, AreArms, AreChoices, Declaration, component_form, specific_form, vars_of, names_in, Scoping, a_procedure, is_a_module, is_a_procedure, Body, body_forms, body_decls, IsBody, header_form, subprogram_tree, IsSubprogram, Internal, internal_forms, SourceUnit, unit_form, scoping_of, unit_forms, unit_tree, IsUnit}

-- A statement may stand here.
pub record May (n : Nest) (line : ℕ) (f : Form) : Type 0 where
  pub allowed : is_allowed n f ≡ true
  pub named : is_named n f ≡ true
  pub room : (begins_construct f && is_full n) ≡ false

-- Each of these statements may stand behind those in front of it, and they lead there.
abbrev pub Leads : Nest → List Stated → Nest → Type 0
Leads n [] m = n ≡ m
Leads n (s ∷ ss) m = May n s.0 s.1 × Leads (taken n s.0 s.1) ss m

-- what stands in front of the open block of a construct
pub data Front : Type 0 where
  in_counted : Counted → Front
  in_looped : Looped → Front
  in_arms : Arms → Front
  in_choices : Choices → Front

abbrev pub front_forms : Front → List Stated
front_forms (in_counted head) = (head.line, form.Do head.construct head.variable head.lower head.upper head.step) ∷ []
front_forms (in_looped head) = (head.line, form.While head.construct head.condition) ∷ []
front_forms (in_arms arms) = arms_forms arms
front_forms (in_choices choices) = choices_forms choices

abbrev pub front_line : Front → ℕ
front_line (in_counted head) = head.line
front_line (in_looped head) = head.line
front_line (in_arms arms) = (first_of_arms arms).line
front_line (in_choices choices) = (first_of_choices choices).line

abbrev pub front_name : Front → Option Name
front_name (in_counted head) = head.construct
front_name (in_looped head) = head.construct
front_name (in_arms arms) = (first_of_arms arms).construct
front_name (in_choices choices) = (first_of_choices choices).construct

abbrev pub closed_arms : Arms → List Arm
closed_arms (if_then head) = []
closed_arms (else_if arms block line said condition) = arms_tree arms (block_tree block)
closed_arms (otherwise arms block line said) = arms_tree arms (block_tree block)

abbrev pub arm_line : Arms → ℕ
arm_line (if_then head) = head.line
arm_line (else_if arms block line said condition) = line
arm_line (otherwise arms block line said) = line

abbrev pub arm_condition : Arms → Option Expr
arm_condition (if_then head) = Some head.condition
arm_condition (else_if arms block line said condition) = Some condition
arm_condition (otherwise arms block line said) = None

abbrev pub closed_cases : Choices → List Case
closed_cases (select head) = []
closed_cases (case choices block label) = choices_tree choices (block_tree block)

abbrev pub open_label : Choices → Option OpenLabel
open_label (select head) = None
open_label (case choices block label) = Some (record { line = label.line; is_default = label.is_default; ranges = label.ranges })

abbrev pub front_parts : Front → Parts
front_parts (in_counted head) = parts.Do head.variable head.lower head.upper head.step
front_parts (in_looped head) = parts.While head.condition
front_parts (in_arms arms) = parts.If (closed_arms arms) (arm_line arms) (arm_condition arms)
front_parts (in_choices choices) = parts.Select (first_of_choices choices).value (closed_cases choices) (open_label choices) (has_default choices)

-- a construct that is open, with its open block
pub record Spot : Type 0 where
  pub front : Front
  pub block : Block

abbrev pub spot_level : Spot → Level
spot_level s = record { line = front_line s.front; construct = front_name s.front; parts = front_parts s.front; stmts = block_tree s.block }

abbrev pub spots_forms : List Spot → List Stated
spots_forms [] = []
spots_forms (s ∷ spots) = spots_forms spots ++ (front_forms s.front ++ block_forms s.block)

-- the first statement of a unit, and what stands in front of its `contains`
pub record Opened : Type 0 where
  pub line : ℕ
  pub name : Name
  pub is_module : Bool
  pub body : Body

-- whose body is open: that of a unit, or of a procedure in a unit behind others
pub data Owner : Type 0 where
  of_unit : ℕ → Name → Bool → Owner
  of_procedure : Opened → Internal → ℕ → Header → Owner

abbrev pub opened_forms : Opened → List Stated
opened_forms u = (u.line, unit_form u.is_module u.name) ∷ body_forms u.body

abbrev pub owner_forms : Owner → List Stated
owner_forms (of_unit line name is_module) = (line, unit_form is_module name) ∷ []
owner_forms (of_procedure u internal line header) = opened_forms u ++ (internal_forms (Some internal) ++ (line, header_form header) ∷ [])

abbrev pub owner_scoping : Owner → Scoping
owner_scoping (of_unit line name is_module) = scoping_of is_module
owner_scoping (of_procedure u internal line header) = a_procedure

abbrev pub owner_line : Owner → ℕ
owner_line (of_unit line name is_module) = line
owner_line (of_procedure u internal line header) = line

abbrev pub host_with : Opened → Internal → Host
host_with u internal = record { line = u.line; name = u.name; is_module = u.is_module; decls = body_decls u.body; stmts = block_tree u.body.block; procs = map subprogram_tree internal.procedures }

abbrev pub owner_kind : Owner → ScopeKind
owner_kind (of_unit line name is_module) = kind.Unit name is_module []
owner_kind (of_procedure u internal line header) = kind.Procedure header (host_with u internal)

-- how far a body has come
abbrev pub stage_by : Block → List Declaration → Stage
stage_by nothing [] = stage.Uses
stage_by nothing (d ∷ ds) = stage.Declarations
stage_by block ds = stage.Statements

abbrev pub scope_at : Owner → Body → Scope
scope_at o body = record { line = owner_line o; kind = owner_kind o; stage = stage_by body.block body.declarations; decls = body_decls body; stmts = block_tree body.block }

abbrev pub scope_behind : Opened → Internal → Scope
scope_behind u internal = record { line = u.line; kind = kind.Unit u.name u.is_module (map subprogram_tree internal.procedures); stage = stage.Procedures; decls = body_decls u.body; stmts = block_tree u.body.block }

abbrev pub without_block : List (ℕ × UseStmt) → List Declaration → Body
without_block uses declarations = record { uses = uses; declarations = declarations; block = nothing }

-- what is open: nothing, a body, the part behind `contains`, a definition in a body, or constructs in it
pub data State : Type 0 where
  outside : List SourceUnit → State
  in_body : List SourceUnit → Owner → Body → State
  in_type : List SourceUnit → Owner → List (ℕ × UseStmt) → List Declaration → ℕ → Name → ℕ → List (ℕ × Vars) → State
  in_interface : List SourceUnit → Owner → List (ℕ × UseStmt) → List Declaration → ℕ → Name → List (ℕ × List Name) → State
  in_constructs : List SourceUnit → Owner → Body → Spot → List Spot → State
  behind_contains : List SourceUnit → Opened → Internal → State

abbrev pub nest_of : State → Nest
nest_of (outside us) = nest.Outside (map unit_tree us)
nest_of (in_body us o body) = nest.Scope (map unit_tree us) (scope_at o body)
nest_of (in_type us o uses ds line name access components) =
    nest.Definition (map unit_tree us) (scope_at o (without_block uses ds)) (definition.Type line name access (map vars_of components))
nest_of (in_interface us o uses ds line name specifics) =
    nest.Definition (map unit_tree us) (scope_at o (without_block uses ds)) (definition.Interface line name (names_in specifics))
nest_of (in_constructs us o body spot around) = nest.Construct (map unit_tree us) (scope_at o body) (spot_level spot) (map spot_level around)
nest_of (behind_contains us u internal) = nest.Scope (map unit_tree us) (scope_behind u internal)

-- These statements lead from what is open to what is open behind them.
abbrev pub Onward : State → List Stated → State → Type 0
Onward s ss t = Leads (nest_of s) ss (nest_of t)

abbrev pub open_forms : State → List Stated
open_forms (outside us) = []
open_forms (in_body us o body) = owner_forms o ++ body_forms body
open_forms (in_type us o uses ds line name access components) =
    owner_forms o ++ (body_forms (without_block uses ds) ++ (line, form.TypeDef name access) ∷ map component_form components)
open_forms (in_interface us o uses ds line name specifics) =
    owner_forms o ++ (body_forms (without_block uses ds) ++ (line, form.Interface name) ∷ map specific_form specifics)
open_forms (in_constructs us o body spot around) = owner_forms o ++ (body_forms body ++ spots_forms (spot ∷ around))
open_forms (behind_contains us u internal) = opened_forms u ++ internal_forms (Some internal)

abbrev pub units_of : State → List SourceUnit
units_of (outside us) = us
units_of (in_body us o body) = us
units_of (in_type us o uses ds line name access components) = us
units_of (in_interface us o uses ds line name specifics) = us
units_of (in_constructs us o body spot around) = us
units_of (behind_contains us u internal) = us

-- the statements so far
abbrev pub forms_of : State → List Stated
forms_of s = flat_map unit_forms (units_of s) ++ open_forms s

abbrev pub IsFront : Bool → ℕ → Front → Type 0
IsFront returns depth (in_counted head) = Unit {0}
IsFront returns depth (in_looped head) = Unit {0}
IsFront returns depth (in_arms arms) = AreArms returns depth arms
IsFront returns depth (in_choices choices) = AreChoices returns depth choices

abbrev pub StandsBehind : Front → Block → Type 0
StandsBehind (in_counted head) block = Unit {0}
StandsBehind (in_looped head) block = Unit {0}
StandsBehind (in_arms arms) block = Unit {0}
StandsBehind (in_choices choices) block = StandsRight choices block

-- a block may go on behind it
abbrev pub Takes : Front → Type 0
Takes (in_choices (select head)) = ⊥
Takes _ = Unit {0}

-- what is open in these constructs
abbrev pub IsSpot : Bool → List Spot → Spot → Type 0
IsSpot returns around s =
    (length around < greatest_nesting) × IsFront returns (suc (length around)) s.front × IsBlock returns (suc (length around)) s.block × StandsBehind s.front s.block

abbrev pub AreAround : Bool → List Spot → Type 0
AreAround returns [] = Unit {0}
AreAround returns (s ∷ spots) = AreAround returns spots × IsSpot returns spots s × Takes s.front

abbrev pub IsOpened : Opened → Internal → Type 0
IsOpened u internal = IsBody (scoping_of u.is_module) u.body × Each IsSubprogram internal.procedures

abbrev pub IsOwner : Owner → Type 0
IsOwner (of_unit line name is_module) = Unit {0}
IsOwner (of_procedure u internal line header) = IsOpened u internal

-- What is open is right so far.
abbrev pub IsOpen : State → Type 0
IsOpen (outside us) = Unit {0}
IsOpen (in_body us o body) = IsOwner o × IsBody (owner_scoping o) body
IsOpen (in_type us o uses ds line name access components) = IsOwner o × IsBody (owner_scoping o) (without_block uses ds) × (is_a_procedure (owner_scoping o) ≡ false)
IsOpen (in_interface us o uses ds line name specifics) = IsOwner o × IsBody (owner_scoping o) (without_block uses ds) × (is_a_procedure (owner_scoping o) ≡ false)
IsOpen (in_constructs us o body spot around) =
    IsOwner o × IsBody (owner_scoping o) body × (is_a_module (owner_scoping o) ≡ false) × AreAround (is_a_procedure (owner_scoping o)) around × IsSpot (is_a_procedure (owner_scoping o)) around spot
IsOpen (behind_contains us u internal) = IsOpened u internal

abbrev pub IsRight : State → Type 0
IsRight s = Each IsUnit (units_of s) × IsOpen s

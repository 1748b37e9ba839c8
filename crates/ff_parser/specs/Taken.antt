-- What is open behind a statement that may stand where it does.
use Rattle.std.specs.Prelude.{◌≡◌, ℕ, true, false, ◌||◌, ◌==◌, List, [], ◌∷◌, ◌++◌, Option, Some, None, Result, Ok, Err}
use Rattle.lf_base.specs.declared.fault.Memory.{Memory}
use Rattle.ast_nodes.specs.declared.declaration.Vars.{Vars}
use Rattle.ast_nodes.specs.declared.declaration.Decl.{Decl}
use Rattle.ast_nodes.specs.declared.declaration.Decl.TheVariants as decl
use Rattle.ast_nodes.specs.declared.expression.Expr.{Expr}
use Rattle.ast_nodes.specs.declared.file.Procedure.{Procedure}
use Rattle.ast_nodes.specs.declared.file.Unit.{Unit as ProgramUnit}
use Rattle.ast_nodes.specs.declared.statement.Statement.{Statement}
use Rattle.ast_nodes.specs.declared.statement.Statement.TheVariants as statement
use Rattle.ast_nodes.specs.declared.statement.Case.{Case}
use Rattle.ff_forms.specs.declared.form.Form.{Form}
use Rattle.ff_forms.specs.declared.form.Form.TheVariants as form
use Rattle.ff_parser.specs.Pieces.{unit_of, procedure_of, arm}
use Rattle.ff_parser.specs.declared.nest.Stage.{Stage}
use Rattle.ff_parser.specs.declared.nest.Stage.TheVariants as stage
use Rattle.ff_parser.specs.declared.nest.Header.{Header}
use Rattle.ff_parser.specs.declared.nest.Host.{Host}
use Rattle.ff_parser.specs.declared.nest.ScopeKind.{ScopeKind}
use Rattle.ff_parser.specs.declared.nest.ScopeKind.TheVariants as kind
use Rattle.ff_parser.specs.declared.nest.Scope.{Scope}
use Rattle.ff_parser.specs.declared.nest.Definition.{Definition}
use Rattle.ff_parser.specs.declared.nest.Definition.TheVariants as definition
use Rattle.ff_parser.specs.declared.nest.Label.{Label}
use Rattle.ff_parser.specs.declared.nest.Parts.{Parts}
use Rattle.ff_parser.specs.declared.nest.Parts.TheVariants as parts
use Rattle.ff_parser.specs.declared.nest.Level.{Level}
use Rattle.ff_parser.specs.declared.nest.Nest.{Nest}
use Rattle.ff_parser.specs.declared.nest.Nest.TheVariants as nest

-- a unit or procedure of which only the first statement is read
abbrev pub begun : ℕ → ScopeKind → Scope
begun line kind = record { line = line; kind = kind; stage = stage.Uses; decls = []; stmts = [] }

-- behind a statement outside of units
abbrev pub from_outside : List ProgramUnit → ℕ → Form → Nest
from_outside units line (form.Program name) = nest.Scope units (begun line (kind.Unit name false []))
from_outside units line (form.Module name) = nest.Scope units (begun line (kind.Unit name true []))
from_outside units line _ = nest.Outside units

abbrev pub declared : List ProgramUnit → Scope → Stage → Decl → Nest
declared units scope stage decl = nest.Scope units (record scope { stage = stage; decls = scope.decls ++ decl ∷ [] })

abbrev pub executed : List ProgramUnit → Scope → Statement → Nest
executed units scope statement = nest.Scope units (record scope { stage = stage.Statements; stmts = scope.stmts ++ statement ∷ [] })

-- the unit around a procedure that begins
abbrev pub host_in : Scope → ScopeKind → Option Host
host_in scope (kind.Unit name is_module procs) = Some (record { line = scope.line; name = name; is_module = is_module; decls = scope.decls; stmts = scope.stmts; procs = procs })
host_in scope (kind.Procedure header host) = None

abbrev pub host_of : Scope → Option Host
host_of scope = host_in scope scope.kind

-- a procedure begins
abbrev pub entered : List ProgramUnit → Option Host → ℕ → Header → Nest
entered units None line header = nest.Outside units
entered units (Some host) line header = nest.Scope units (begun line (kind.Procedure header host))

-- the unit goes on behind a procedure
abbrev pub resumed : Host → Procedure → Scope
resumed host procedure = record {
  line = host.line;
  kind = kind.Unit host.name host.is_module (host.procs ++ procedure ∷ []);
  stage = stage.Procedures;
  decls = host.decls;
  stmts = host.stmts;
}

-- behind the end of a unit or procedure
abbrev pub closed_by : List ProgramUnit → Scope → ScopeKind → Nest
closed_by units scope (kind.Unit name is_module procs) = nest.Outside (units ++ unit_of scope.line name is_module scope.decls scope.stmts procs ∷ [])
closed_by units scope (kind.Procedure header host) = nest.Scope units (resumed host (procedure_of scope.line header scope.decls scope.stmts))

abbrev pub closed : List ProgramUnit → Scope → Nest
closed units scope = closed_by units scope scope.kind

abbrev pub level : ℕ → Option (List ℕ) → Parts → Level
level line construct parts = record { line = line; construct = construct; parts = parts; stmts = [] }

-- a construct of which only the first statement is read
abbrev pub level_of : ℕ → Form → Option Level
level_of line (form.IfThen construct condition) = Some (level line construct (parts.If [] line (Some condition)))
level_of line (form.Do construct variable lower upper step) = Some (level line construct (parts.Do variable lower upper step))
level_of line (form.While construct condition) = Some (level line construct (parts.While condition))
level_of line (form.Select construct value) = Some (level line construct (parts.Select value [] None false))
level_of line _ = None

-- a construct begins in a unit or procedure
abbrev pub opened_in_scope : List ProgramUnit → Scope → Option Level → Nest
opened_in_scope units scope None = nest.Scope units scope
opened_in_scope units scope (Some inner) = nest.Construct units scope inner []

-- behind a statement that begins something in a unit or procedure, or parts it
abbrev pub begun_in_scope : List ProgramUnit → Scope → ℕ → Form → Nest
begun_in_scope units scope line (form.TypeDef name access) = nest.Definition units scope (definition.Type line name access [])
begun_in_scope units scope line (form.Interface name) = nest.Definition units scope (definition.Interface line name [])
begun_in_scope units scope line form.Contains = nest.Scope units (record scope { stage = stage.Procedures })
begun_in_scope units scope line (form.Procedure name is_function type_spec dummies result) =
    entered units (host_of scope) line (record { name = name; is_function = is_function; type_spec = type_spec; dummies = dummies; result = result })
begun_in_scope units scope line f = opened_in_scope units scope (level_of line f)

-- behind a statement in a unit or procedure
abbrev pub from_scope : List ProgramUnit → Scope → ℕ → Form → Nest
from_scope units scope line (form.Use used) = declared units scope stage.Uses (decl.Use used)
from_scope units scope line form.ImplicitNone = declared units scope stage.Declarations (decl.ImplicitNone line)
from_scope units scope line (form.Access is_private names) = declared units scope stage.Declarations (decl.Access line is_private names)
from_scope units scope line (form.Variables vars) = declared units scope stage.Declarations (decl.Variables vars)
from_scope units scope line (form.Action statement) = executed units scope statement
from_scope units scope line (form.End end name) = closed units scope
from_scope units scope line f = begun_in_scope units scope line f

abbrev pub decl_of : Definition → Decl
decl_of (definition.Type line name access components) = decl.TypeDef line name access components
decl_of (definition.Interface line name names) = decl.Interface line name names

abbrev pub with_component : Definition → Vars → Definition
with_component (definition.Type line name access components) vars = definition.Type line name access (components ++ vars ∷ [])
with_component d vars = d

abbrev pub with_specifics : Definition → List (List ℕ) → Definition
with_specifics (definition.Interface line name names) specifics = definition.Interface line name (names ++ specifics)
with_specifics d specifics = d

-- behind a statement in a type or an interface
abbrev pub from_definition : List ProgramUnit → Scope → Definition → Form → Nest
from_definition units scope d (form.Variables vars) = nest.Definition units scope (with_component d vars)
from_definition units scope d (form.Specifics names) = nest.Definition units scope (with_specifics d names)
from_definition units scope d (form.End end given) = declared units scope stage.Declarations (decl_of d)
from_definition units scope d _ = nest.Definition units scope d

-- the cases with the open one
abbrev pub with_open : List Case → Option Label → List Statement → List Case
with_open cases None stmts = cases
with_open cases (Some label) stmts = cases ++ record { line = label.line; is_default = label.is_default; ranges = label.ranges; body = stmts } ∷ []

-- the construct whose last block these statements are
abbrev pub construct_of : ℕ → Option (List ℕ) → Parts → List Statement → Statement
construct_of line construct (parts.If arms arm_line condition) stmts = statement.If line construct (arms ++ arm arm_line condition stmts ∷ [])
construct_of line construct (parts.Do variable lower upper step) stmts = statement.Do line construct variable lower upper step stmts
construct_of line construct (parts.While condition) stmts = statement.While line construct condition stmts
construct_of line construct (parts.Select value cases label has_default) stmts = statement.Select line construct value (with_open cases label stmts)

abbrev pub statement_of : Level → Statement
statement_of level = construct_of level.line level.construct level.parts level.stmts

abbrev pub within : Level → Statement → Level
within level statement = record level { stmts = level.stmts ++ statement ∷ [] }

-- behind the end of the innermost construct, which is a statement of what is around it
abbrev pub closed_construct : List ProgramUnit → Scope → Statement → List Level → Nest
closed_construct units scope statement [] = executed units scope statement
closed_construct units scope statement (outer ∷ around) = nest.Construct units scope (within outer statement) around

-- `else if` and `else` begin a block of an `if`
abbrev pub next_arm : Parts → List Statement → ℕ → Option Expr → Parts
next_arm (parts.If arms arm_line condition) stmts line next = parts.If (arms ++ arm arm_line condition stmts ∷ []) line next
next_arm p stmts line next = p

-- `case` begins a block of a `select case`
abbrev pub next_case : Parts → List Statement → Label → Parts
next_case (parts.Select value cases label has_default) stmts next = parts.Select value (with_open cases label stmts) (Some next) (has_default || next.is_default == 1)
next_case p stmts next = p

abbrev pub next_block : Level → Parts → Level
next_block level parts = record level { parts = parts; stmts = [] }

-- a construct begins in another one
abbrev pub opened_in_level : List ProgramUnit → Scope → Level → List Level → Option Level → Nest
opened_in_level units scope level around None = nest.Construct units scope level around
opened_in_level units scope level around (Some inner) = nest.Construct units scope inner (level ∷ around)

-- behind a statement in a construct
abbrev pub from_construct : List ProgramUnit → Scope → Level → List Level → ℕ → Form → Nest
from_construct units scope level around line (form.Action statement) = nest.Construct units scope (within level statement) around
from_construct units scope level around line (form.ElseIf construct condition) =
    nest.Construct units scope (next_block level (next_arm level.parts level.stmts line (Some condition))) around
from_construct units scope level around line (form.Else construct) =
    nest.Construct units scope (next_block level (next_arm level.parts level.stmts line None)) around
from_construct units scope level around line (form.Case construct is_default ranges) =
    nest.Construct units scope (next_block level (next_case level.parts level.stmts (record { line = line; is_default = is_default; ranges = ranges }))) around
from_construct units scope level around line (form.End end name) = closed_construct units scope (statement_of level) around
from_construct units scope level around line f = opened_in_level units scope level around (level_of line f)

-- What is open behind the statement. Where it may not stand, nothing is taken of it.
abbrev pub taken : Nest → ℕ → Form → Nest
taken (nest.Outside units) line f = from_outside units line f
taken (nest.Scope units scope) line f = from_scope units scope line f
taken (nest.Definition units scope definition) line f = from_definition units scope definition f
taken (nest.Construct units scope level around) line f = from_construct units scope level around line f

-- What was answered is made of what came before, unless memory ran out.
abbrev pub Follows : {S T : Type 0} → Result T Memory → Result S Memory → (S → T) → Type 0
Follows (Ok made) (Ok before) make = made ≡ make before
Follows (Ok made) (Err memory) make = ⊥
Follows (Err memory) before make = Unit {0}

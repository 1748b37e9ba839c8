-- The grammar of a file over the forms of its statements (ISO/IEC 1539-1:2018, R501 to R512, R1101): trees of how units, procedures, definitions,
-- constructs and blocks stand in each other. Of each tree there are the statements that it is written as, what makes it right, and the
-- syntax that it stands for. It says nothing of how statements are read.
use Rattle.std.specs.Prelude.{◌≡◌, ℕ, suc, ◌<◌, Bool, true, false, not, ◌||◌, ◌&&◌, ◌==◌, if◌then◌else◌, List, [], ◌∷◌, ◌++◌, map, Option, Some, None}
use Rattle.std.specs.List.{flat_map, AllByRecursion as Each}
use Rattle.ast_nodes.specs.declared.declaration.Vars.{Vars}
use Rattle.ast_nodes.specs.declared.declaration.UseStmt.{UseStmt}
use Rattle.ast_nodes.specs.declared.declaration.Decl.{Decl}
use Rattle.ast_nodes.specs.declared.declaration.Decl.TheVariants as decl
use Rattle.ast_nodes.specs.declared.expression.Expr.{Expr}
use Rattle.ast_nodes.specs.declared.file.File.{File}
use Rattle.ast_nodes.specs.declared.file.Procedure.{Procedure}
use Rattle.ast_nodes.specs.declared.file.Unit.{Unit as ProgramUnit}
use Rattle.ast_nodes.specs.declared.statement.Statement.{Statement}
use Rattle.ast_nodes.specs.declared.statement.Statement.TheVariants as statement
use Rattle.ast_nodes.specs.declared.statement.Arm.{Arm}
use Rattle.ast_nodes.specs.declared.statement.Case.{Case}
use Rattle.ast_nodes.specs.declared.statement.CaseRange.{CaseRange}
use Rattle.ff_forms.specs.declared.form.End.{End}
use Rattle.ff_forms.specs.declared.form.End.TheVariants as end
use Rattle.ff_forms.specs.declared.form.Form.{Form}
use Rattle.ff_forms.specs.declared.form.Form.TheVariants as form
use Rattle.ff_parser.specs.declared.nest.Header.{Header}
use Rattle.ff_parser.specs.Pieces.{is_return, agrees, unit_of, procedure_of, arm}

abbrev pub Name : Type 0
Name = List ℕ

-- a statement: the line on which it begins, and its form
abbrev pub Stated : Type 0
Stated = ℕ × Form

-- an end statement: its line, its words, and the name that it says
pub record Last : Type 0 where
  pub line : ℕ
  pub words : End
  pub name : Option Name

abbrev pub last_form : Last → Stated
last_form last = (last.line, form.End last.words last.name)

-- an end says these words and no name, or that of what it ends
abbrev pub Ends : Last → End → Option Name → Type 0
Ends last words name = (last.words ≡ words) × (agrees last.name name ≡ true)

-- `do` with a variable (R1123): its line, its name, the variable, the bounds and the step
pub record Counted : Type 0 where
  pub line : ℕ
  pub construct : Option Name
  pub variable : Name
  pub lower : Expr
  pub upper : Expr
  pub step : Option Expr

-- `do while`, or `do` alone
pub record Looped : Type 0 where
  pub line : ℕ
  pub construct : Option Name
  pub condition : Option Expr

-- `if (e) then`
pub record IfThen : Type 0 where
  pub line : ℕ
  pub construct : Option Name
  pub condition : Expr

-- `select case`
pub record Select : Type 0 where
  pub line : ℕ
  pub construct : Option Name
  pub value : Expr

-- `case`, which may say the name of its construct
pub record Label : Type 0 where
  pub line : ℕ
  pub said : Option Name
  pub is_default : ℕ
  pub ranges : List CaseRange

mutual
  -- a block (R1101): nothing; a block and an action; or a block and a construct with its last block and its end
  pub data Block : Type 0 where
    nothing : Block
    action : Block → ℕ → Statement → Block
    counted : Block → Counted → Block → Last → Block
    looped : Block → Looped → Block → Last → Block
    conditional : Block → Arms → Block → Last → Block
    selected : Block → Choices → Block → Last → Block

  -- what stands in front of a block of an `if` (R1134): `if (e) then`, or that, its block, and `else if (e) then` or `else`
  pub data Arms : Type 0 where
    if_then : IfThen → Arms
    else_if : Arms → Block → ℕ → Option Name → Expr → Arms
    otherwise : Arms → Block → ℕ → Option Name → Arms

  -- what stands in front of a block of a `select case` (R1140): `select case (e)`, or that, its block, and `case`
  pub data Choices : Type 0 where
    select : Select → Choices
    case : Choices → Block → Label → Choices

abbrev mutual
  pub block_forms : Block → List Stated
  block_forms nothing = []
  block_forms (action block line statement) = block_forms block ++ (line, form.Action statement) ∷ []
  block_forms (counted block head body last) =
      block_forms block ++ (head.line, form.Do head.construct head.variable head.lower head.upper head.step) ∷ (block_forms body ++ last_form last ∷ [])
  block_forms (looped block head body last) = block_forms block ++ (head.line, form.While head.construct head.condition) ∷ (block_forms body ++ last_form last ∷ [])
  block_forms (conditional block arms body last) = block_forms block ++ (arms_forms arms ++ (block_forms body ++ last_form last ∷ []))
  block_forms (selected block choices body last) = block_forms block ++ (choices_forms choices ++ (block_forms body ++ last_form last ∷ []))

  pub arms_forms : Arms → List Stated
  arms_forms (if_then head) = (head.line, form.IfThen head.construct head.condition) ∷ []
  arms_forms (else_if arms block line said condition) = arms_forms arms ++ (block_forms block ++ (line, form.ElseIf said condition) ∷ [])
  arms_forms (otherwise arms block line said) = arms_forms arms ++ (block_forms block ++ (line, form.Else said) ∷ [])

  pub choices_forms : Choices → List Stated
  choices_forms (select head) = (head.line, form.Select head.construct head.value) ∷ []
  choices_forms (case choices block label) = choices_forms choices ++ (block_forms block ++ (label.line, form.Case label.said label.is_default label.ranges) ∷ [])

-- the `if` that begins it
abbrev pub first_of_arms : Arms → IfThen
first_of_arms (if_then head) = head
first_of_arms (else_if arms block line said condition) = first_of_arms arms
first_of_arms (otherwise arms block line said) = first_of_arms arms

-- the `select case` that begins it
abbrev pub first_of_choices : Choices → Select
first_of_choices (select head) = head
first_of_choices (case choices block label) = first_of_choices choices

-- `else` stands in front
abbrev pub is_else : Arms → Bool
is_else (otherwise arms block line said) = true
is_else _ = false

-- `case default` is among them
abbrev pub has_default : Choices → Bool
has_default (select head) = false
has_default (case choices block label) = has_default choices || label.is_default == 1

-- No statement stands between `select case` and the first `case`.
abbrev pub StandsRight : Choices → Block → Type 0
StandsRight (select head) nothing = Unit {0}
StandsRight (select head) block = ⊥
StandsRight (case choices behind label) block = Unit {0}

abbrev mutual
  -- the statements that the parts of a block stand for
  pub block_tree : Block → List Statement
  block_tree nothing = []
  block_tree (action block line statement) = block_tree block ++ statement ∷ []
  block_tree (counted block head body last) =
      block_tree block ++ statement.Do head.line head.construct head.variable head.lower head.upper head.step (block_tree body) ∷ []
  block_tree (looped block head body last) = block_tree block ++ statement.While head.line head.construct head.condition (block_tree body) ∷ []
  block_tree (conditional block arms body last) =
      block_tree block ++ statement.If (first_of_arms arms).line (first_of_arms arms).construct (arms_tree arms (block_tree body)) ∷ []
  block_tree (selected block choices body last) =
      block_tree block ++ statement.Select (first_of_choices choices).line (first_of_choices choices).construct (first_of_choices choices).value (choices_tree choices (block_tree body)) ∷ []

  -- the arms, the last of which has these statements
  pub arms_tree : Arms → List Statement → List Arm
  arms_tree (if_then head) stmts = arm head.line (Some head.condition) stmts ∷ []
  arms_tree (else_if arms block line said condition) stmts = arms_tree arms (block_tree block) ++ arm line (Some condition) stmts ∷ []
  arms_tree (otherwise arms block line said) stmts = arms_tree arms (block_tree block) ++ arm line None stmts ∷ []

  -- the cases, the last of which has these statements
  pub choices_tree : Choices → List Statement → List Case
  choices_tree (select head) stmts = []
  choices_tree (case choices block label) stmts =
      choices_tree choices (block_tree block) ++ record { line = label.line; is_default = label.is_default; ranges = label.ranges; body = stmts } ∷ []

-- the most constructs in each other
abbrev pub greatest_nesting : ℕ
greatest_nesting = 64

abbrev mutual
  -- A block is right in a procedure or not, and with this many constructs around it: `return` stands in procedures alone, and each
  -- construct has the words and the name of its beginning at its end.
  pub IsBlock : Bool → ℕ → Block → Type 0
  IsBlock returns depth nothing = Unit {0}
  IsBlock returns depth (action block line statement) = IsBlock returns depth block × ((returns || not (is_return statement)) ≡ true)
  IsBlock returns depth (counted block head body last) =
      IsBlock returns depth block × (depth < greatest_nesting) × IsBlock returns (suc depth) body × Ends last end.Do head.construct
  IsBlock returns depth (looped block head body last) =
      IsBlock returns depth block × (depth < greatest_nesting) × IsBlock returns (suc depth) body × Ends last end.Do head.construct
  IsBlock returns depth (conditional block arms body last) =
      IsBlock returns depth block × (depth < greatest_nesting) × AreArms returns (suc depth) arms × IsBlock returns (suc depth) body × Ends last end.If (first_of_arms arms).construct
  IsBlock returns depth (selected block choices body last) =
      IsBlock returns depth block × (depth < greatest_nesting) × AreChoices returns (suc depth) choices × StandsRight choices body × IsBlock returns (suc depth) body
      × Ends last end.Select (first_of_choices choices).construct

  -- No arm comes behind `else`, and each says no name, or that of its `if`.
  pub AreArms : Bool → ℕ → Arms → Type 0
  AreArms returns depth (if_then head) = Unit {0}
  AreArms returns depth (else_if arms block line said condition) =
      AreArms returns depth arms × (is_else arms ≡ false) × IsBlock returns depth block × (agrees said (first_of_arms arms).construct ≡ true)
  AreArms returns depth (otherwise arms block line said) =
      AreArms returns depth arms × (is_else arms ≡ false) × IsBlock returns depth block × (agrees said (first_of_arms arms).construct ≡ true)

  -- `case default` stands at most once, and each case says no name, or that of its `select case`.
  pub AreChoices : Bool → ℕ → Choices → Type 0
  AreChoices returns depth (select head) = Unit {0}
  AreChoices returns depth (case choices block label) =
      AreChoices returns depth choices × StandsRight choices block × IsBlock returns depth block
      × (not (label.is_default == 1 && has_default choices) ≡ true) × (agrees label.said (first_of_choices choices).construct ≡ true)

-- a declaration (R507): a statement, a derived type with its components (R726), or an interface with its specific procedures (R1501)
pub data Declaration : Type 0 where
  implicit_none : ℕ → Declaration
  variables : ℕ → Vars → Declaration
  accesses : ℕ → ℕ → List Name → Declaration
  derived_type : ℕ → Name → ℕ → List (ℕ × Vars) → Last → Declaration
  interface : ℕ → Name → List (ℕ × List Name) → Last → Declaration

abbrev pub component_form : ℕ × Vars → Stated
component_form component = (component.0, form.Variables component.1)

abbrev pub specific_form : ℕ × List Name → Stated
specific_form specific = (specific.0, form.Specifics specific.1)

abbrev pub declaration_forms : Declaration → List Stated
declaration_forms (implicit_none line) = (line, form.ImplicitNone) ∷ []
declaration_forms (variables line vars) = (line, form.Variables vars) ∷ []
declaration_forms (accesses line is_private names) = (line, form.Access is_private names) ∷ []
declaration_forms (derived_type line name access components last) = (line, form.TypeDef name access) ∷ (map component_form components ++ last_form last ∷ [])
declaration_forms (interface line name specifics last) = (line, form.Interface name) ∷ (map specific_form specifics ++ last_form last ∷ [])

abbrev pub vars_of : ℕ × Vars → Vars
vars_of component = component.1

abbrev pub names_in : List (ℕ × List Name) → List Name
names_in [] = []
names_in (specific ∷ specifics) = specific.1 ++ names_in specifics

abbrev pub declaration_tree : Declaration → Decl
declaration_tree (implicit_none line) = decl.ImplicitNone line
declaration_tree (variables line vars) = decl.Variables vars
declaration_tree (accesses line is_private names) = decl.Access line is_private names
declaration_tree (derived_type line name access components last) = decl.TypeDef line name access (map vars_of components)
declaration_tree (interface line name specifics last) = decl.Interface line name (names_in specifics)

-- what a unit or a procedure is
pub data Scoping : Type 0 where
  main_program : Scoping
  a_module : Scoping
  a_procedure : Scoping

abbrev pub is_a_module : Scoping → Bool
is_a_module a_module = true
is_a_module _ = false

abbrev pub is_a_procedure : Scoping → Bool
is_a_procedure a_procedure = true
is_a_procedure _ = false

-- there is one at least
abbrev pub HasSome : {T : Type 0} → List T → Type 0
HasSome [] = ⊥
HasSome (x ∷ xs) = Unit {0}

-- Access statements stand in modules alone, and definitions in no procedure. A type has a component, and an interface a specific procedure.
abbrev pub IsDeclaration : Scoping → Declaration → Type 0
IsDeclaration scoping (implicit_none line) = Unit {0}
IsDeclaration scoping (variables line vars) = Unit {0}
IsDeclaration scoping (accesses line is_private names) = is_a_module scoping ≡ true
IsDeclaration scoping (derived_type line name access components last) = (is_a_procedure scoping ≡ false) × HasSome components × Ends last end.Type (Some name)
IsDeclaration scoping (interface line name specifics last) = (is_a_procedure scoping ≡ false) × HasSome (names_in specifics) × Ends last end.Interface (Some name)

-- what units and procedures hold in front of `contains`: the uses, then the declarations, then the executable part (R504, R509)
pub record Body : Type 0 where
  pub uses : List (ℕ × UseStmt)
  pub declarations : List Declaration
  pub block : Block

abbrev pub use_form : ℕ × UseStmt → Stated
use_form used = (used.0, form.Use used.1)

abbrev pub use_tree : ℕ × UseStmt → Decl
use_tree used = decl.Use used.1

abbrev pub body_forms : Body → List Stated
body_forms body = map use_form body.uses ++ (flat_map declaration_forms body.declarations ++ block_forms body.block)

abbrev pub body_decls : Body → List Decl
body_decls body = map use_tree body.uses ++ map declaration_tree body.declarations

-- A module has no executable part.
abbrev pub HasPart : Scoping → Block → Type 0
HasPart a_module nothing = Unit {0}
HasPart a_module block = ⊥
HasPart scoping block = Unit {0}

abbrev pub IsBody : Scoping → Body → Type 0
IsBody scoping body = Each (IsDeclaration scoping) body.declarations × HasPart scoping body.block × IsBlock (is_a_procedure scoping) 0 body.block

-- an end fits a unit or procedure: `end` alone does, and then its words; and it says no name, or that of what it ends
abbrev pub fits : End → End → Bool
fits end.Bare words = true
fits end.Program end.Program = true
fits end.Module end.Module = true
fits end.Subroutine end.Subroutine = true
fits end.Function end.Function = true
fits _ _ = false

abbrev pub Closes : Last → End → Name → Type 0
Closes last words name = (fits last.words words ≡ true) × (agrees last.name (Some name) ≡ true)

-- a procedure (R1529, R1534)
pub record Subprogram : Type 0 where
  pub line : ℕ
  pub header : Header
  pub body : Body
  pub last : Last

abbrev pub header_form : Header → Form
header_form header = form.Procedure header.name header.is_function header.type_spec header.dummies header.result

abbrev pub procedure_words : Header → End
procedure_words header = if header.is_function == 1 then end.Function else end.Subroutine

abbrev pub subprogram_forms : Subprogram → List Stated
subprogram_forms p = (p.line, header_form p.header) ∷ (body_forms p.body ++ last_form p.last ∷ [])

abbrev pub subprogram_tree : Subprogram → Procedure
subprogram_tree p = procedure_of p.line p.header (body_decls p.body) (block_tree p.body.block)

abbrev pub IsSubprogram : Subprogram → Type 0
IsSubprogram p = IsBody a_procedure p.body × Closes p.last (procedure_words p.header) p.header.name

-- `contains`, and the procedures behind it (R511, R1407)
pub record Internal : Type 0 where
  pub line : ℕ
  pub procedures : List Subprogram

abbrev pub internal_forms : Option Internal → List Stated
internal_forms None = []
internal_forms (Some internal) = (internal.line, form.Contains) ∷ flat_map subprogram_forms internal.procedures

abbrev pub internal_tree : Option Internal → List Procedure
internal_tree None = []
internal_tree (Some internal) = map subprogram_tree internal.procedures

abbrev pub AreInternal : Option Internal → Type 0
AreInternal None = Unit {0}
AreInternal (Some internal) = Each IsSubprogram internal.procedures

-- a main program (R1401) or a module (R1404)
pub record SourceUnit : Type 0 where
  pub line : ℕ
  pub name : Name
  pub is_module : Bool
  pub body : Body
  pub internal : Option Internal
  pub last : Last

abbrev pub unit_form : Bool → Name → Form
unit_form false name = form.Program name
unit_form true name = form.Module name

abbrev pub unit_words : Bool → End
unit_words false = end.Program
unit_words true = end.Module

abbrev pub scoping_of : Bool → Scoping
scoping_of false = main_program
scoping_of true = a_module

abbrev pub unit_forms : SourceUnit → List Stated
unit_forms u = (u.line, unit_form u.is_module u.name) ∷ (body_forms u.body ++ (internal_forms u.internal ++ last_form u.last ∷ []))

abbrev pub unit_tree : SourceUnit → ProgramUnit
unit_tree u = unit_of u.line u.name u.is_module (body_decls u.body) (block_tree u.body.block) (internal_tree u.internal)

abbrev pub IsUnit : SourceUnit → Type 0
IsUnit u = IsBody (scoping_of u.is_module) u.body × AreInternal u.internal × Closes u.last (unit_words u.is_module) u.name

-- These statements are this file (R501): units that are right, one behind the other.
abbrev pub IsNested : List Stated → File → Type 0
IsNested stated file = (units : List SourceUnit) × Each IsUnit units × (flat_map unit_forms units ≡ stated) × (record { units = map unit_tree units } ≡ file)

-- The forms that have a tree so far: a main program of scalar integers and logicals with its control (ISO/IEC 1539-1:2018,
-- 8.2, 10.1, 11.1, 12.6 and 14.1). Of every other file the line of the first statement in reading order that holds a form
-- which has none.
use Rattle.std.specs.Prelude.{ℕ, ◌==◌, Bool, true, false, ◌||◌, ◌&&◌, if◌then◌else◌, List, [], ◌∷◌, map, Option, Some, None, is_some}
use Rattle.std.specs.List.{list_all}
use Rattle.lf_base.specs.declared.operator.TheConstants.{CONCATENATE}
use Rattle.ast_nodes.specs.declared.code.TheConstants.{FORMAT_LIST, FORMAT_INTEGER}
use Rattle.ast_nodes.specs.declared.declaration.Attribute.{Attribute}
use Rattle.ast_nodes.specs.declared.declaration.Attribute.TheVariants as attribute
use Rattle.ast_nodes.specs.declared.declaration.Decl.{Decl}
use Rattle.ast_nodes.specs.declared.declaration.Decl.TheVariants as decl
use Rattle.ast_nodes.specs.declared.declaration.Entity.{Entity}
use Rattle.ast_nodes.specs.declared.declaration.TypeSpec.{TypeSpec}
use Rattle.ast_nodes.specs.declared.declaration.TypeSpec.TheVariants as spec
use Rattle.ast_nodes.specs.declared.declaration.Vars.{Vars}
use Rattle.ast_nodes.specs.declared.expression.Expr.{Expr}
use Rattle.ast_nodes.specs.declared.expression.Expr.TheOpen.{Expr-F, RefPart-F, Designator-F}
use Rattle.ast_nodes.specs.declared.expression.Expr.TheFolds.{fold-Expr}
use Rattle.ast_nodes.specs.declared.expression.RefPart.{RefPart, fold-RefPart}
use Rattle.ast_nodes.specs.declared.expression.RefPart.TheVariants as written
use Rattle.ast_nodes.specs.declared.file.File.{File}
use Rattle.ast_nodes.specs.declared.file.Procedure.{Procedure}
use Rattle.ast_nodes.specs.declared.file.Unit.{Unit as ProgramUnit}
use Rattle.ast_nodes.specs.declared.file.Unit.TheVariants.{Program, Module}
use Rattle.ast_nodes.specs.declared.statement.Arm.{Arm, fold-Arm}
use Rattle.ast_nodes.specs.declared.statement.Statement.{Statement}
use Rattle.ast_nodes.specs.declared.statement.Statement.TheOpen.{Statement-F, Arm-F, Case-F}
use Rattle.ast_nodes.specs.declared.statement.Statement.TheFolds.{fold-Statement}
use Rattle.fortran_semantics.specs.Constants.{Part, Named, Grouped, intrinsic_named, is_int, is_huge}

-- the functions of scalars (16.9): all others are references of procedures, elements of arrays or functions that have no
-- tree yet
abbrev pub is_function : List ℕ → Bool
is_function name = is_some (intrinsic_named name) || is_int name || is_huge name

-- a part of a designator: a name, a name of such a function, and arguments that are all built
abbrev pub is_named : Part Bool → Bool
is_named (Named name) = true
is_named (Grouped arguments) = false

abbrev pub names_function : Part Bool → Bool
names_function (Named name) = is_function name
names_function (Grouped arguments) = false

abbrev pub groups_built : Part Bool → Bool
groups_built (Named name) = false
groups_built (Grouped arguments) = list_all (λ x. x) arguments

-- A name alone, or a function with its arguments.
abbrev pub parts_built : List (Part Bool) → Bool
parts_built [] = false
parts_built (p ∷ []) = is_named p
parts_built (p ∷ q ∷ []) = names_function p && groups_built q
parts_built (p ∷ q ∷ r ∷ more) = false

abbrev pub expr_layer : Expr-F Bool (Part Bool) Bool → Bool
expr_layer (Expr-F.Int digits suffix) = true
expr_layer (Expr-F.Log value) = true
expr_layer (Expr-F.Ref designator) = designator
expr_layer (Expr-F.Unary operator operand) = operand
expr_layer (Expr-F.Binary operator left right) = if operator == CONCATENATE then false else left && right
expr_layer (Expr-F.Paren inner) = inner
expr_layer (Expr-F.Char bytes) = false
expr_layer (Expr-F.Triple lower upper step) = false
expr_layer (Expr-F.Array items) = false
expr_layer (Expr-F.Loop variable lower upper step items) = false

abbrev pub part_layer : RefPart-F Bool (Part Bool) Bool → Part Bool
part_layer (RefPart-F.Part name) = Named name
part_layer (RefPart-F.Group arguments) = Grouped arguments

abbrev pub designator_layer : Designator-F Bool (Part Bool) Bool → Bool
designator_layer designator = parts_built designator.parts

abbrev pub is_built : Expr → Bool
is_built = fold-Expr Bool (Part Bool) Bool expr_layer part_layer designator_layer

abbrev pub part_of : RefPart → Part Bool
part_of = fold-RefPart Bool (Part Bool) Bool expr_layer part_layer designator_layer

abbrev pub parts_are_built : List RefPart → Bool
parts_are_built parts = parts_built (map part_of parts)

abbrev pub may_be_built : Option Expr → Bool
may_be_built None = true
may_be_built (Some x) = is_built x

-- what is changed is a name alone
abbrev pub is_name_alone : List RefPart → Bool
is_name_alone (written.Part name ∷ []) = true
is_name_alone _ = false

-- the first of two lines in reading order
abbrev pub first_of : Option ℕ → Option ℕ → Option ℕ
first_of None later = later
first_of (Some line) later = Some line

abbrev pub first_in : List (Option ℕ) → Option ℕ
first_in [] = None
first_in (x ∷ xs) = first_of x (first_in xs)

-- the line of a statement, unless it is built
abbrev pub unless_built : Bool → ℕ → Option ℕ
unless_built true line = None
unless_built false line = Some line

abbrev pub is_form : ℕ → Bool
is_form form = (form == FORMAT_LIST) || (form == FORMAT_INTEGER)

abbrev pub stmt_layer : Statement-F (Option ℕ) (Option ℕ) (Unit {0}) → Option ℕ
stmt_layer (Statement-F.Assign line target value) = unless_built (is_name_alone target.parts && is_built value) line
stmt_layer (Statement-F.If line construct arms) = first_in arms
stmt_layer (Statement-F.Do line construct variable lower upper step body) = first_of (unless_built (is_built lower && is_built upper && may_be_built step) line) (first_in body)
stmt_layer (Statement-F.While line construct condition body) = first_of (unless_built (may_be_built condition) line) (first_in body)
stmt_layer (Statement-F.Print line form advance items) = unless_built (is_form form && list_all is_built items) line
stmt_layer (Statement-F.Stop line is_error code) = unless_built (may_be_built code) line
stmt_layer (Statement-F.Exit line construct) = None
stmt_layer (Statement-F.Cycle line construct) = None
stmt_layer (Statement-F.Continue line) = None
stmt_layer (Statement-F.Select line construct value cases) = Some line
stmt_layer (Statement-F.Call line name arguments) = Some line
stmt_layer (Statement-F.Read line target iostat) = Some line
stmt_layer (Statement-F.Return line) = Some line

abbrev pub arm_layer : Arm-F (Option ℕ) (Option ℕ) (Unit {0}) → Option ℕ
arm_layer arm = first_of (unless_built (may_be_built arm.condition) arm.line) (first_in arm.body)

abbrev pub case_layer : Case-F (Option ℕ) (Option ℕ) (Unit {0}) → Unit {0}
case_layer case = tt

abbrev pub unbuilt_arm : Arm → Option ℕ
unbuilt_arm = fold-Arm (Option ℕ) (Option ℕ) (Unit {0}) stmt_layer arm_layer case_layer

abbrev pub unbuilt_in : Statement → Option ℕ
unbuilt_in = fold-Statement (Option ℕ) (Option ℕ) (Unit {0}) stmt_layer arm_layer case_layer

abbrev pub is_built_type : TypeSpec → Bool
is_built_type (spec.Integer kind) = true
is_built_type spec.Logical = true
is_built_type (spec.Character len) = false
is_built_type (spec.Derived name) = false

abbrev pub is_built_attribute : Attribute → Bool
is_built_attribute attribute.Parameter = true
is_built_attribute attribute.Save = true
is_built_attribute attribute.Private = false
is_built_attribute attribute.Public = false
is_built_attribute (attribute.Dimension bounds) = false
is_built_attribute (attribute.Intent code) = false

abbrev pub is_empty : {X : Type 0} → List X → Bool
is_empty [] = true
is_empty (x ∷ xs) = false

abbrev pub is_built_entity : Entity → Bool
is_built_entity entity = is_empty entity.bounds && may_be_built entity.init

abbrev pub are_built : Vars → Bool
are_built vars = is_built_type vars.type_spec && list_all is_built_attribute vars.attributes && list_all is_built_entity vars.entities

abbrev pub unbuilt_declaration : Decl → Option ℕ
unbuilt_declaration (decl.Variables vars) = unless_built (are_built vars) vars.line
unbuilt_declaration (decl.ImplicitNone line) = None
unbuilt_declaration (decl.Use used) = Some used.line
unbuilt_declaration (decl.Access line is_private names) = Some line
unbuilt_declaration (decl.TypeDef line name access components) = Some line
unbuilt_declaration (decl.Interface line name names) = Some line

abbrev pub unbuilt_procedures : List Procedure → Option ℕ
unbuilt_procedures [] = None
unbuilt_procedures (procedure ∷ procedures) = Some procedure.line

abbrev pub unbuilt_unit : ProgramUnit → Option ℕ
unbuilt_unit (Program line name decls stmts procs) = first_of (first_in (map unbuilt_declaration decls)) (first_of (first_in (map unbuilt_in stmts)) (unbuilt_procedures procs))
unbuilt_unit (Module line name decls procs) = Some line

abbrev pub unit_line : ProgramUnit → ℕ
unit_line (Program line name decls stmts procs) = line
unit_line (Module line name decls procs) = line

-- a file has one unit at most
abbrev pub unbuilt_units : List ProgramUnit → Option ℕ
unbuilt_units [] = None
unbuilt_units (unit ∷ []) = unbuilt_unit unit
unbuilt_units (unit ∷ second ∷ units) = first_of (unbuilt_unit unit) (Some (unit_line second))

-- the line of the first statement that holds a form which has no tree yet
abbrev pub unbuilt_file : File → Option ℕ
unbuilt_file file = unbuilt_units file.units

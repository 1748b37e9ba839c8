-- What the grammar of a file and the reading of its statements share: trees of units, procedures and arms, statements that return, and names.
use Rattle.std.specs.Prelude.{ℕ, Bool, true, false, List, [], ◌∷◌, Option, Some, None}
use Rattle.std.specs.Str.{bytes_eq}
use Rattle.ast_nodes.specs.declared.declaration.Decl.{Decl}
use Rattle.ast_nodes.specs.declared.expression.Expr.{Expr}
use Rattle.ast_nodes.specs.declared.file.Procedure.{Procedure}
use Rattle.ast_nodes.specs.declared.file.Unit.{Unit as ProgramUnit}
use Rattle.ast_nodes.specs.declared.file.Unit.TheVariants as program_unit
use Rattle.ast_nodes.specs.declared.statement.Statement.{Statement, Statement-F, fold-Statement}
use Rattle.ast_nodes.specs.declared.statement.Arm.{Arm, Arm-F}
use Rattle.ast_nodes.specs.declared.statement.Case.{Case-F}
use Rattle.ff_parser.specs.declared.nest.Header.{Header}

abbrev pub procedure_of : ℕ → Header → List Decl → List Statement → Procedure
procedure_of line header decls stmts = record {
  line = line;
  name = header.name;
  is_function = header.is_function;
  type_spec = header.type_spec;
  dummies = header.dummies;
  result = header.result;
  decls = decls;
  stmts = stmts;
}

abbrev pub unit_of : ℕ → List ℕ → Bool → List Decl → List Statement → List Procedure → ProgramUnit
unit_of line name false decls stmts procs = program_unit.Program line name decls stmts procs
unit_of line name true decls stmts procs = program_unit.Module line name decls procs

abbrev pub arm : ℕ → Option Expr → List Statement → Arm
arm line condition stmts = record { line = line; condition = condition; body = stmts }

-- a statement is `return`, and it is that or an `if` with `return` for its action
abbrev Returns : Type 0
Returns = Bool × Bool

abbrev alone : List Returns → Bool
alone (r ∷ []) = r.0
alone _ = false

abbrev action_of : List Bool → Bool
action_of (r ∷ []) = r
action_of _ = false

abbrev pub returning : Statement-F Returns Bool (Unit {0}) → Returns
returning (Statement-F.Return line) = (true, true)
returning (Statement-F.If line construct arms) = (false, action_of arms)
returning _ = (false, false)

abbrev pub arm_returning : Arm-F Returns Bool (Unit {0}) → Bool
arm_returning arm = alone arm.body

abbrev pub case_returning : Case-F Returns Bool (Unit {0}) → Unit {0}
case_returning _ = tt

abbrev pub returns_of : Statement → Returns
returns_of = fold-Statement Returns Bool (Unit {0}) returning arm_returning case_returning

abbrev pub returns_alone : Statement → Bool
returns_alone s = (returns_of s).0

abbrev pub is_return : Statement → Bool
is_return s = (returns_of s).1

-- no name is said, or that of what is ended or parted
abbrev pub agrees : Option (List ℕ) → Option (List ℕ) → Bool
agrees None own = true
agrees (Some name) None = false
agrees (Some name) (Some own) = bytes_eq name own

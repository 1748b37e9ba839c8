-- What each node of a source means, by its parts.
use Rattle.std.proofs.Common.{◌≡◌, ℕ, List, map, Option, ap, ◌∙◌}
use Rattle.lf_base.specs.Outcome.{Location, Written}
use Rattle.lf_base.specs.declared.name.Name.{Name}
use Rattle.ast_nodes.specs.declared.expression.Designator.{Designator}
use Rattle.ast_nodes.specs.declared.expression.Expr.{Expr, Expr-F}
use Rattle.ast_nodes.specs.declared.expression.Expr.TheVariants.{Int, Log, Ref, Unary, Binary, Paren}
use Rattle.ast_nodes.specs.declared.expression.RefPart.{RefPart, Part, Group, fold-RefPart}
use Rattle.ast_nodes.specs.declared.statement.Arm.{Arm, fold-Arm}
use Rattle.ast_nodes.specs.declared.statement.Statement.{Statement, Statement-F}
use Rattle.ast_nodes.specs.declared.statement.Statement.TheVariants.{Assign, If, Do, While, Print, Stop, Exit, Cycle, Continue}
use Rattle.ast_nodes.proofs.ExprFolds as exprs
use Rattle.ast_nodes.proofs.StmtFolds as stmts
use Rattle.asr_semantics.specs.Machine.{State}
use Rattle.fortran_semantics.specs.Constants.{Part as NamePart, Named, Grouped, Constant, constant_meaning, constant_layer, part_layer as constant_part, designator_layer as constant_designator, parts_constant}
use Rattle.fortran_semantics.specs.Declared.{Declared}
use Rattle.fortran_semantics.specs.Meaning.{Meant, Known, Branch, Deed, Loops, expr_layer, part_layer, designator_layer, stmt_layer, arm_layer, case_layer, expression, designated, statement, parts_meant}

-- constants
module _ (known : List ℕ → Option Constant) where
  abbrev pub constant_part_of : RefPart → NamePart Constant
  constant_part_of = fold-RefPart Constant (NamePart Constant) Constant (constant_layer known) (constant_part known) (constant_designator known)

  pub constant-Int : (digits : List ℕ) (suffix : ℕ) → constant_meaning known (Int digits suffix) ≡ constant_layer known (Expr-F.Int digits suffix)
  constant-Int digits suffix = exprs.fold-Int Constant (NamePart Constant) Constant (constant_layer known) (constant_part known) (constant_designator known) digits suffix

  pub constant-Log : (value : ℕ) → constant_meaning known (Log value) ≡ constant_layer known (Expr-F.Log value)
  constant-Log value = exprs.fold-Log Constant (NamePart Constant) Constant (constant_layer known) (constant_part known) (constant_designator known) value

  pub constant-Unary : (operator : ℕ) (operand : Expr) → constant_meaning known (Unary operator operand) ≡ constant_layer known (Expr-F.Unary operator (constant_meaning known operand))
  constant-Unary operator operand = exprs.fold-Unary Constant (NamePart Constant) Constant (constant_layer known) (constant_part known) (constant_designator known) operator operand

  pub constant-Binary : (operator : ℕ) (left right : Expr) → constant_meaning known (Binary operator left right) ≡ constant_layer known (Expr-F.Binary operator (constant_meaning known left) (constant_meaning known right))
  constant-Binary operator left right = exprs.fold-Binary Constant (NamePart Constant) Constant (constant_layer known) (constant_part known) (constant_designator known) operator left right

  pub constant-Paren : (inner : Expr) → constant_meaning known (Paren inner) ≡ constant_layer known (Expr-F.Paren (constant_meaning known inner))
  constant-Paren inner = exprs.fold-Paren Constant (NamePart Constant) Constant (constant_layer known) (constant_part known) (constant_designator known) inner

  pub constant-Part : (name : Name) → constant_part_of (Part name) ≡ Named name
  constant-Part name = exprs.fold-Part Constant (NamePart Constant) Constant (constant_layer known) (constant_part known) (constant_designator known) name

  pub constant-Group : (arguments : List Expr) → constant_part_of (Group arguments) ≡ Grouped (map (constant_meaning known) arguments)
  constant-Group arguments = exprs.fold-Group Constant (NamePart Constant) Constant (constant_layer known) (constant_part known) (constant_designator known) arguments

  pub constant-Ref : (it : Designator) → constant_meaning known (Ref it) ≡ parts_constant known (map constant_part_of it.parts)
  constant-Ref it = exprs.fold-Ref Constant (NamePart Constant) Constant (constant_layer known) (constant_part known) (constant_designator known) it ∙ exprs.fold-parts Constant (NamePart Constant) Constant (constant_layer known) (constant_part known) (constant_designator known) it

  pub ruleset constants = (constant-Int, constant-Log, constant-Unary, constant-Binary, constant-Paren, constant-Part, constant-Group, constant-Ref)

module _ (unit_name : List ℕ) (declared : List Declared) (known : Known) where
  abbrev pub part_of : RefPart → NamePart Meant
  part_of = fold-RefPart Meant (NamePart Meant) Meant (expr_layer unit_name declared known) (part_layer unit_name declared known) (designator_layer unit_name declared known)

  expression-Int : (digits : List ℕ) (suffix : ℕ) → expression unit_name declared known (Int digits suffix) ≡ expr_layer unit_name declared known (Expr-F.Int digits suffix)
  expression-Int digits suffix = exprs.fold-Int Meant (NamePart Meant) Meant (expr_layer unit_name declared known) (part_layer unit_name declared known) (designator_layer unit_name declared known) digits suffix

  pub value-Int : (digits : List ℕ) (suffix : ℕ) (here : Location) (s : State) (w : Written) → (expression unit_name declared known (Int digits suffix)).value here s w ≡ (expr_layer unit_name declared known (Expr-F.Int digits suffix)).value here s w
  value-Int digits suffix here s w = ap (λ m. m.value here s w) (expression-Int digits suffix)

  pub kind-Int : (digits : List ℕ) (suffix : ℕ) → (expression unit_name declared known (Int digits suffix)).kind ≡ (expr_layer unit_name declared known (Expr-F.Int digits suffix)).kind
  kind-Int digits suffix = ap (λ m. m.kind) (expression-Int digits suffix)

  pub writes-Int : (digits : List ℕ) (suffix : ℕ) → (expression unit_name declared known (Int digits suffix)).writes ≡ (expr_layer unit_name declared known (Expr-F.Int digits suffix)).writes
  writes-Int digits suffix = ap (λ m. m.writes) (expression-Int digits suffix)

  expression-Log : (value : ℕ) → expression unit_name declared known (Log value) ≡ expr_layer unit_name declared known (Expr-F.Log value)
  expression-Log value = exprs.fold-Log Meant (NamePart Meant) Meant (expr_layer unit_name declared known) (part_layer unit_name declared known) (designator_layer unit_name declared known) value

  pub value-Log : (value : ℕ) (here : Location) (s : State) (w : Written) → (expression unit_name declared known (Log value)).value here s w ≡ (expr_layer unit_name declared known (Expr-F.Log value)).value here s w
  value-Log value here s w = ap (λ m. m.value here s w) (expression-Log value)

  pub kind-Log : (value : ℕ) → (expression unit_name declared known (Log value)).kind ≡ (expr_layer unit_name declared known (Expr-F.Log value)).kind
  kind-Log value = ap (λ m. m.kind) (expression-Log value)

  pub writes-Log : (value : ℕ) → (expression unit_name declared known (Log value)).writes ≡ (expr_layer unit_name declared known (Expr-F.Log value)).writes
  writes-Log value = ap (λ m. m.writes) (expression-Log value)

  expression-Unary : (operator : ℕ) (operand : Expr) → expression unit_name declared known (Unary operator operand) ≡ expr_layer unit_name declared known (Expr-F.Unary operator (expression unit_name declared known operand))
  expression-Unary operator operand = exprs.fold-Unary Meant (NamePart Meant) Meant (expr_layer unit_name declared known) (part_layer unit_name declared known) (designator_layer unit_name declared known) operator operand

  pub value-Unary : (operator : ℕ) (operand : Expr) (here : Location) (s : State) (w : Written) → (expression unit_name declared known (Unary operator operand)).value here s w ≡ (expr_layer unit_name declared known (Expr-F.Unary operator (expression unit_name declared known operand))).value here s w
  value-Unary operator operand here s w = ap (λ m. m.value here s w) (expression-Unary operator operand)

  pub kind-Unary : (operator : ℕ) (operand : Expr) → (expression unit_name declared known (Unary operator operand)).kind ≡ (expr_layer unit_name declared known (Expr-F.Unary operator (expression unit_name declared known operand))).kind
  kind-Unary operator operand = ap (λ m. m.kind) (expression-Unary operator operand)

  pub writes-Unary : (operator : ℕ) (operand : Expr) → (expression unit_name declared known (Unary operator operand)).writes ≡ (expr_layer unit_name declared known (Expr-F.Unary operator (expression unit_name declared known operand))).writes
  writes-Unary operator operand = ap (λ m. m.writes) (expression-Unary operator operand)

  expression-Binary : (operator : ℕ) (left right : Expr) → expression unit_name declared known (Binary operator left right) ≡ expr_layer unit_name declared known (Expr-F.Binary operator (expression unit_name declared known left) (expression unit_name declared known right))
  expression-Binary operator left right = exprs.fold-Binary Meant (NamePart Meant) Meant (expr_layer unit_name declared known) (part_layer unit_name declared known) (designator_layer unit_name declared known) operator left right

  pub value-Binary : (operator : ℕ) (left right : Expr) (here : Location) (s : State) (w : Written) → (expression unit_name declared known (Binary operator left right)).value here s w ≡ (expr_layer unit_name declared known (Expr-F.Binary operator (expression unit_name declared known left) (expression unit_name declared known right))).value here s w
  value-Binary operator left right here s w = ap (λ m. m.value here s w) (expression-Binary operator left right)

  pub kind-Binary : (operator : ℕ) (left right : Expr) → (expression unit_name declared known (Binary operator left right)).kind ≡ (expr_layer unit_name declared known (Expr-F.Binary operator (expression unit_name declared known left) (expression unit_name declared known right))).kind
  kind-Binary operator left right = ap (λ m. m.kind) (expression-Binary operator left right)

  pub writes-Binary : (operator : ℕ) (left right : Expr) → (expression unit_name declared known (Binary operator left right)).writes ≡ (expr_layer unit_name declared known (Expr-F.Binary operator (expression unit_name declared known left) (expression unit_name declared known right))).writes
  writes-Binary operator left right = ap (λ m. m.writes) (expression-Binary operator left right)

  expression-Paren : (inner : Expr) → expression unit_name declared known (Paren inner) ≡ expr_layer unit_name declared known (Expr-F.Paren (expression unit_name declared known inner))
  expression-Paren inner = exprs.fold-Paren Meant (NamePart Meant) Meant (expr_layer unit_name declared known) (part_layer unit_name declared known) (designator_layer unit_name declared known) inner

  pub value-Paren : (inner : Expr) (here : Location) (s : State) (w : Written) → (expression unit_name declared known (Paren inner)).value here s w ≡ (expr_layer unit_name declared known (Expr-F.Paren (expression unit_name declared known inner))).value here s w
  value-Paren inner here s w = ap (λ m. m.value here s w) (expression-Paren inner)

  pub kind-Paren : (inner : Expr) → (expression unit_name declared known (Paren inner)).kind ≡ (expr_layer unit_name declared known (Expr-F.Paren (expression unit_name declared known inner))).kind
  kind-Paren inner = ap (λ m. m.kind) (expression-Paren inner)

  pub writes-Paren : (inner : Expr) → (expression unit_name declared known (Paren inner)).writes ≡ (expr_layer unit_name declared known (Expr-F.Paren (expression unit_name declared known inner))).writes
  writes-Paren inner = ap (λ m. m.writes) (expression-Paren inner)

  pub part-Part : (name : Name) → part_of (Part name) ≡ Named name
  part-Part name = exprs.fold-Part Meant (NamePart Meant) Meant (expr_layer unit_name declared known) (part_layer unit_name declared known) (designator_layer unit_name declared known) name

  pub part-Group : (arguments : List Expr) → part_of (Group arguments) ≡ Grouped (map (expression unit_name declared known) arguments)
  part-Group arguments = exprs.fold-Group Meant (NamePart Meant) Meant (expr_layer unit_name declared known) (part_layer unit_name declared known) (designator_layer unit_name declared known) arguments

  designated-parts : (it : Designator) → designated unit_name declared known it ≡ parts_meant unit_name declared known (map part_of it.parts)
  designated-parts it = exprs.fold-parts Meant (NamePart Meant) Meant (expr_layer unit_name declared known) (part_layer unit_name declared known) (designator_layer unit_name declared known) it

  expression-Ref : (it : Designator) → expression unit_name declared known (Ref it) ≡ parts_meant unit_name declared known (map part_of it.parts)
  expression-Ref it = exprs.fold-Ref Meant (NamePart Meant) Meant (expr_layer unit_name declared known) (part_layer unit_name declared known) (designator_layer unit_name declared known) it ∙ designated-parts it

  pub value-Ref : (it : Designator) (here : Location) (s : State) (w : Written) → (expression unit_name declared known (Ref it)).value here s w ≡ (parts_meant unit_name declared known (map part_of it.parts)).value here s w
  value-Ref it here s w = ap (λ m. m.value here s w) (expression-Ref it)

  pub kind-Ref : (it : Designator) → (expression unit_name declared known (Ref it)).kind ≡ (parts_meant unit_name declared known (map part_of it.parts)).kind
  kind-Ref it = ap (λ m. m.kind) (expression-Ref it)

  pub writes-Ref : (it : Designator) → (expression unit_name declared known (Ref it)).writes ≡ (parts_meant unit_name declared known (map part_of it.parts)).writes
  writes-Ref it = ap (λ m. m.writes) (expression-Ref it)

  pub place-parts : (it : Designator) (s : State) (w : Written) → (designated unit_name declared known it).place s w ≡ (parts_meant unit_name declared known (map part_of it.parts)).place s w
  place-parts it s w = ap (λ m. m.place s w) (designated-parts it)

  pub becomes-parts : (it : Designator) (v : _) → (designated unit_name declared known it).becomes v ≡ (parts_meant unit_name declared known (map part_of it.parts)).becomes v
  becomes-parts it v = ap (λ m. m.becomes v) (designated-parts it)

  pub ruleset expressions = (value-Int, kind-Int, writes-Int, value-Log, kind-Log, writes-Log, value-Unary, kind-Unary, writes-Unary, value-Binary, kind-Binary, writes-Binary, value-Paren, kind-Paren, writes-Paren, value-Ref, kind-Ref, writes-Ref, part-Part, part-Group, place-parts, becomes-parts)

module _ (unit_name : List ℕ) (declared : List Declared) (known : Known) (n : ℕ) where
  abbrev pub arm_of : Arm → Branch
  arm_of = fold-Arm Deed Branch (Unit {0}) (stmt_layer unit_name declared known n) (arm_layer unit_name declared known n) (case_layer unit_name declared known n)

  pub runs-Assign : (line : ℕ) (target : Designator) (value : Expr) (loops : Loops) (first : ℕ) (source : List ℕ) (s : State) (w : Written) → (statement unit_name declared known n (Assign line target value)).does loops first source s w ≡ (stmt_layer unit_name declared known n (Statement-F.Assign line target value)).does loops first source s w
  runs-Assign line target value loops first source s w = ap (λ d. d.does loops first source s w) (stmts.fold-Assign Deed Branch (Unit {0}) (stmt_layer unit_name declared known n) (arm_layer unit_name declared known n) (case_layer unit_name declared known n) line target value)

  pub count-Assign : (line : ℕ) (target : Designator) (value : Expr) → (statement unit_name declared known n (Assign line target value)).count ≡ (stmt_layer unit_name declared known n (Statement-F.Assign line target value)).count
  count-Assign line target value = ap (λ d. d.count) (stmts.fold-Assign Deed Branch (Unit {0}) (stmt_layer unit_name declared known n) (arm_layer unit_name declared known n) (case_layer unit_name declared known n) line target value)

  pub runs-If : (line : ℕ) (construct : Option Name) (arms : List Arm) (loops : Loops) (first : ℕ) (source : List ℕ) (s : State) (w : Written) → (statement unit_name declared known n (If line construct arms)).does loops first source s w ≡ (stmt_layer unit_name declared known n (Statement-F.If line construct (map arm_of arms))).does loops first source s w
  runs-If line construct arms loops first source s w = ap (λ d. d.does loops first source s w) (stmts.fold-If Deed Branch (Unit {0}) (stmt_layer unit_name declared known n) (arm_layer unit_name declared known n) (case_layer unit_name declared known n) line construct arms)

  pub count-If : (line : ℕ) (construct : Option Name) (arms : List Arm) → (statement unit_name declared known n (If line construct arms)).count ≡ (stmt_layer unit_name declared known n (Statement-F.If line construct (map arm_of arms))).count
  count-If line construct arms = ap (λ d. d.count) (stmts.fold-If Deed Branch (Unit {0}) (stmt_layer unit_name declared known n) (arm_layer unit_name declared known n) (case_layer unit_name declared known n) line construct arms)

  pub runs-Do : (line : ℕ) (construct : Option Name) (variable : Name) (lower : Expr) (upper : Expr) (step : Option Expr) (body : List Statement) (loops : Loops) (first : ℕ) (source : List ℕ) (s : State) (w : Written) → (statement unit_name declared known n (Do line construct variable lower upper step body)).does loops first source s w ≡ (stmt_layer unit_name declared known n (Statement-F.Do line construct variable lower upper step (map (statement unit_name declared known n) body))).does loops first source s w
  runs-Do line construct variable lower upper step body loops first source s w = ap (λ d. d.does loops first source s w) (stmts.fold-Do Deed Branch (Unit {0}) (stmt_layer unit_name declared known n) (arm_layer unit_name declared known n) (case_layer unit_name declared known n) line construct variable lower upper step body)

  pub count-Do : (line : ℕ) (construct : Option Name) (variable : Name) (lower : Expr) (upper : Expr) (step : Option Expr) (body : List Statement) → (statement unit_name declared known n (Do line construct variable lower upper step body)).count ≡ (stmt_layer unit_name declared known n (Statement-F.Do line construct variable lower upper step (map (statement unit_name declared known n) body))).count
  count-Do line construct variable lower upper step body = ap (λ d. d.count) (stmts.fold-Do Deed Branch (Unit {0}) (stmt_layer unit_name declared known n) (arm_layer unit_name declared known n) (case_layer unit_name declared known n) line construct variable lower upper step body)

  pub runs-While : (line : ℕ) (construct : Option Name) (condition : Option Expr) (body : List Statement) (loops : Loops) (first : ℕ) (source : List ℕ) (s : State) (w : Written) → (statement unit_name declared known n (While line construct condition body)).does loops first source s w ≡ (stmt_layer unit_name declared known n (Statement-F.While line construct condition (map (statement unit_name declared known n) body))).does loops first source s w
  runs-While line construct condition body loops first source s w = ap (λ d. d.does loops first source s w) (stmts.fold-While Deed Branch (Unit {0}) (stmt_layer unit_name declared known n) (arm_layer unit_name declared known n) (case_layer unit_name declared known n) line construct condition body)

  pub count-While : (line : ℕ) (construct : Option Name) (condition : Option Expr) (body : List Statement) → (statement unit_name declared known n (While line construct condition body)).count ≡ (stmt_layer unit_name declared known n (Statement-F.While line construct condition (map (statement unit_name declared known n) body))).count
  count-While line construct condition body = ap (λ d. d.count) (stmts.fold-While Deed Branch (Unit {0}) (stmt_layer unit_name declared known n) (arm_layer unit_name declared known n) (case_layer unit_name declared known n) line construct condition body)

  pub runs-Print : (line : ℕ) (form : ℕ) (advance : ℕ) (items : List Expr) (loops : Loops) (first : ℕ) (source : List ℕ) (s : State) (w : Written) → (statement unit_name declared known n (Print line form advance items)).does loops first source s w ≡ (stmt_layer unit_name declared known n (Statement-F.Print line form advance items)).does loops first source s w
  runs-Print line form advance items loops first source s w = ap (λ d. d.does loops first source s w) (stmts.fold-Print Deed Branch (Unit {0}) (stmt_layer unit_name declared known n) (arm_layer unit_name declared known n) (case_layer unit_name declared known n) line form advance items)

  pub count-Print : (line : ℕ) (form : ℕ) (advance : ℕ) (items : List Expr) → (statement unit_name declared known n (Print line form advance items)).count ≡ (stmt_layer unit_name declared known n (Statement-F.Print line form advance items)).count
  count-Print line form advance items = ap (λ d. d.count) (stmts.fold-Print Deed Branch (Unit {0}) (stmt_layer unit_name declared known n) (arm_layer unit_name declared known n) (case_layer unit_name declared known n) line form advance items)

  pub runs-Stop : (line : ℕ) (is_error : ℕ) (code : Option Expr) (loops : Loops) (first : ℕ) (source : List ℕ) (s : State) (w : Written) → (statement unit_name declared known n (Stop line is_error code)).does loops first source s w ≡ (stmt_layer unit_name declared known n (Statement-F.Stop line is_error code)).does loops first source s w
  runs-Stop line is_error code loops first source s w = ap (λ d. d.does loops first source s w) (stmts.fold-Stop Deed Branch (Unit {0}) (stmt_layer unit_name declared known n) (arm_layer unit_name declared known n) (case_layer unit_name declared known n) line is_error code)

  pub count-Stop : (line : ℕ) (is_error : ℕ) (code : Option Expr) → (statement unit_name declared known n (Stop line is_error code)).count ≡ (stmt_layer unit_name declared known n (Statement-F.Stop line is_error code)).count
  count-Stop line is_error code = ap (λ d. d.count) (stmts.fold-Stop Deed Branch (Unit {0}) (stmt_layer unit_name declared known n) (arm_layer unit_name declared known n) (case_layer unit_name declared known n) line is_error code)

  pub runs-Exit : (line : ℕ) (construct : Option Name) (loops : Loops) (first : ℕ) (source : List ℕ) (s : State) (w : Written) → (statement unit_name declared known n (Exit line construct)).does loops first source s w ≡ (stmt_layer unit_name declared known n (Statement-F.Exit line construct)).does loops first source s w
  runs-Exit line construct loops first source s w = ap (λ d. d.does loops first source s w) (stmts.fold-Exit Deed Branch (Unit {0}) (stmt_layer unit_name declared known n) (arm_layer unit_name declared known n) (case_layer unit_name declared known n) line construct)

  pub count-Exit : (line : ℕ) (construct : Option Name) → (statement unit_name declared known n (Exit line construct)).count ≡ (stmt_layer unit_name declared known n (Statement-F.Exit line construct)).count
  count-Exit line construct = ap (λ d. d.count) (stmts.fold-Exit Deed Branch (Unit {0}) (stmt_layer unit_name declared known n) (arm_layer unit_name declared known n) (case_layer unit_name declared known n) line construct)

  pub runs-Cycle : (line : ℕ) (construct : Option Name) (loops : Loops) (first : ℕ) (source : List ℕ) (s : State) (w : Written) → (statement unit_name declared known n (Cycle line construct)).does loops first source s w ≡ (stmt_layer unit_name declared known n (Statement-F.Cycle line construct)).does loops first source s w
  runs-Cycle line construct loops first source s w = ap (λ d. d.does loops first source s w) (stmts.fold-Cycle Deed Branch (Unit {0}) (stmt_layer unit_name declared known n) (arm_layer unit_name declared known n) (case_layer unit_name declared known n) line construct)

  pub count-Cycle : (line : ℕ) (construct : Option Name) → (statement unit_name declared known n (Cycle line construct)).count ≡ (stmt_layer unit_name declared known n (Statement-F.Cycle line construct)).count
  count-Cycle line construct = ap (λ d. d.count) (stmts.fold-Cycle Deed Branch (Unit {0}) (stmt_layer unit_name declared known n) (arm_layer unit_name declared known n) (case_layer unit_name declared known n) line construct)

  pub runs-Continue : (line : ℕ) (loops : Loops) (first : ℕ) (source : List ℕ) (s : State) (w : Written) → (statement unit_name declared known n (Continue line)).does loops first source s w ≡ (stmt_layer unit_name declared known n (Statement-F.Continue line)).does loops first source s w
  runs-Continue line loops first source s w = ap (λ d. d.does loops first source s w) (stmts.fold-Continue Deed Branch (Unit {0}) (stmt_layer unit_name declared known n) (arm_layer unit_name declared known n) (case_layer unit_name declared known n) line)

  pub count-Continue : (line : ℕ) → (statement unit_name declared known n (Continue line)).count ≡ (stmt_layer unit_name declared known n (Statement-F.Continue line)).count
  count-Continue line = ap (λ d. d.count) (stmts.fold-Continue Deed Branch (Unit {0}) (stmt_layer unit_name declared known n) (arm_layer unit_name declared known n) (case_layer unit_name declared known n) line)

  pub arm-is : (it : Arm) → arm_of it ≡ arm_layer unit_name declared known n (record { line = it.line; condition = it.condition; body = map (statement unit_name declared known n) it.body })
  arm-is it = stmts.fold-arm Deed Branch (Unit {0}) (stmt_layer unit_name declared known n) (arm_layer unit_name declared known n) (case_layer unit_name declared known n) it

  pub ruleset statements_run = (arm-is, runs-Assign, count-Assign, runs-If, count-If, runs-Do, count-Do, runs-While, count-While, runs-Print, count-Print, runs-Stop, count-Stop, runs-Exit, count-Exit, runs-Cycle, count-Cycle, runs-Continue, count-Continue)

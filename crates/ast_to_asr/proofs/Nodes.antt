-- The tree of each node of a source, by its parts.
use Rattle.std.proofs.Common.{◌≡◌, ℕ, List, map, Option, ◌∙◌}
use Rattle.lf_base.specs.declared.name.Name.{Name}
use Rattle.ast_nodes.specs.declared.expression.Designator.{Designator}
use Rattle.ast_nodes.specs.declared.expression.Expr.{Expr, Expr-F}
use Rattle.ast_nodes.specs.declared.expression.Expr.TheVariants.{Int, Log, Ref, Unary, Binary, Paren}
use Rattle.ast_nodes.specs.declared.expression.RefPart.{RefPart, Part, Group, fold-RefPart}
use Rattle.ast_nodes.specs.declared.statement.Arm.{Arm, fold-Arm}
use Rattle.ast_nodes.specs.declared.statement.Statement.{Statement, Statement-F}
use Rattle.ast_nodes.specs.declared.statement.Statement.TheVariants.{Assign, If, Do, While, Print, Stop, Exit, Cycle, Continue}
use Rattle.ast_nodes.proofs.ExprFolds as exprs
use Rattle.ast_nodes.proofs.StmtFolds as stmts
use Rattle.fortran_semantics.specs.Constants.{Part as NamePart, Named, Grouped}
use Rattle.ast_to_asr.specs.Scope.{Scope}
use Rattle.ast_to_asr.specs.Expressions.{Elab, expr_layer, part_layer, designator_layer, elab_expr, elab_designator, parts_tree}
use Rattle.ast_to_asr.specs.Statements.{Formed, Branch, stmt_layer, arm_layer, case_layer, elab_stmt}

module _ (unit_name : List ℕ) (scope : Scope) where
  abbrev pub part_of : RefPart → NamePart Elab
  part_of = fold-RefPart Elab (NamePart Elab) Elab (expr_layer unit_name scope) (part_layer unit_name scope) (designator_layer unit_name scope)

  abbrev pub arm_of : Arm → Branch
  arm_of = fold-Arm Formed Branch (Unit {0}) (stmt_layer unit_name scope) (arm_layer unit_name scope) (case_layer unit_name scope)

  pub expr-Int : (digits : List ℕ) (suffix : ℕ) → elab_expr unit_name scope (Int digits suffix) ≡ expr_layer unit_name scope (Expr-F.Int digits suffix)
  expr-Int digits suffix = exprs.fold-Int Elab (NamePart Elab) Elab (expr_layer unit_name scope) (part_layer unit_name scope) (designator_layer unit_name scope) digits suffix

  pub expr-Log : (value : ℕ) → elab_expr unit_name scope (Log value) ≡ expr_layer unit_name scope (Expr-F.Log value)
  expr-Log value = exprs.fold-Log Elab (NamePart Elab) Elab (expr_layer unit_name scope) (part_layer unit_name scope) (designator_layer unit_name scope) value

  pub expr-Unary : (operator : ℕ) (operand : Expr) → elab_expr unit_name scope (Unary operator operand) ≡ expr_layer unit_name scope (Expr-F.Unary operator (elab_expr unit_name scope operand))
  expr-Unary operator operand = exprs.fold-Unary Elab (NamePart Elab) Elab (expr_layer unit_name scope) (part_layer unit_name scope) (designator_layer unit_name scope) operator operand

  pub expr-Binary : (operator : ℕ) (left right : Expr) → elab_expr unit_name scope (Binary operator left right) ≡ expr_layer unit_name scope (Expr-F.Binary operator (elab_expr unit_name scope left) (elab_expr unit_name scope right))
  expr-Binary operator left right = exprs.fold-Binary Elab (NamePart Elab) Elab (expr_layer unit_name scope) (part_layer unit_name scope) (designator_layer unit_name scope) operator left right

  pub expr-Paren : (inner : Expr) → elab_expr unit_name scope (Paren inner) ≡ expr_layer unit_name scope (Expr-F.Paren (elab_expr unit_name scope inner))
  expr-Paren inner = exprs.fold-Paren Elab (NamePart Elab) Elab (expr_layer unit_name scope) (part_layer unit_name scope) (designator_layer unit_name scope) inner

  pub part-Part : (name : Name) → part_of (Part name) ≡ Named name
  part-Part name = exprs.fold-Part Elab (NamePart Elab) Elab (expr_layer unit_name scope) (part_layer unit_name scope) (designator_layer unit_name scope) name

  pub part-Group : (arguments : List Expr) → part_of (Group arguments) ≡ Grouped (map (elab_expr unit_name scope) arguments)
  part-Group arguments = exprs.fold-Group Elab (NamePart Elab) Elab (expr_layer unit_name scope) (part_layer unit_name scope) (designator_layer unit_name scope) arguments

  pub designator-parts : (it : Designator) → elab_designator unit_name scope it ≡ parts_tree unit_name scope (map part_of it.parts)
  designator-parts it = exprs.fold-parts Elab (NamePart Elab) Elab (expr_layer unit_name scope) (part_layer unit_name scope) (designator_layer unit_name scope) it

  pub expr-Ref : (it : Designator) → elab_expr unit_name scope (Ref it) ≡ parts_tree unit_name scope (map part_of it.parts)
  expr-Ref it = exprs.fold-Ref Elab (NamePart Elab) Elab (expr_layer unit_name scope) (part_layer unit_name scope) (designator_layer unit_name scope) it ∙ designator-parts it

  pub stmt-Assign : (line : ℕ) (target : Designator) (value : Expr) → elab_stmt unit_name scope (Assign line target value) ≡ stmt_layer unit_name scope (Statement-F.Assign line target value)
  stmt-Assign line target value = stmts.fold-Assign Formed Branch (Unit {0}) (stmt_layer unit_name scope) (arm_layer unit_name scope) (case_layer unit_name scope) line target value

  pub stmt-If : (line : ℕ) (construct : Option Name) (arms : List Arm) → elab_stmt unit_name scope (If line construct arms) ≡ stmt_layer unit_name scope (Statement-F.If line construct (map arm_of arms))
  stmt-If line construct arms = stmts.fold-If Formed Branch (Unit {0}) (stmt_layer unit_name scope) (arm_layer unit_name scope) (case_layer unit_name scope) line construct arms

  pub stmt-Do : (line : ℕ) (construct : Option Name) (variable : Name) (lower : Expr) (upper : Expr) (step : Option Expr) (body : List Statement) → elab_stmt unit_name scope (Do line construct variable lower upper step body) ≡ stmt_layer unit_name scope (Statement-F.Do line construct variable lower upper step (map (elab_stmt unit_name scope) body))
  stmt-Do line construct variable lower upper step body = stmts.fold-Do Formed Branch (Unit {0}) (stmt_layer unit_name scope) (arm_layer unit_name scope) (case_layer unit_name scope) line construct variable lower upper step body

  pub stmt-While : (line : ℕ) (construct : Option Name) (condition : Option Expr) (body : List Statement) → elab_stmt unit_name scope (While line construct condition body) ≡ stmt_layer unit_name scope (Statement-F.While line construct condition (map (elab_stmt unit_name scope) body))
  stmt-While line construct condition body = stmts.fold-While Formed Branch (Unit {0}) (stmt_layer unit_name scope) (arm_layer unit_name scope) (case_layer unit_name scope) line construct condition body

  pub stmt-Print : (line : ℕ) (form : ℕ) (advance : ℕ) (items : List Expr) → elab_stmt unit_name scope (Print line form advance items) ≡ stmt_layer unit_name scope (Statement-F.Print line form advance items)
  stmt-Print line form advance items = stmts.fold-Print Formed Branch (Unit {0}) (stmt_layer unit_name scope) (arm_layer unit_name scope) (case_layer unit_name scope) line form advance items

  pub stmt-Stop : (line : ℕ) (is_error : ℕ) (code : Option Expr) → elab_stmt unit_name scope (Stop line is_error code) ≡ stmt_layer unit_name scope (Statement-F.Stop line is_error code)
  stmt-Stop line is_error code = stmts.fold-Stop Formed Branch (Unit {0}) (stmt_layer unit_name scope) (arm_layer unit_name scope) (case_layer unit_name scope) line is_error code

  pub stmt-Exit : (line : ℕ) (construct : Option Name) → elab_stmt unit_name scope (Exit line construct) ≡ stmt_layer unit_name scope (Statement-F.Exit line construct)
  stmt-Exit line construct = stmts.fold-Exit Formed Branch (Unit {0}) (stmt_layer unit_name scope) (arm_layer unit_name scope) (case_layer unit_name scope) line construct

  pub stmt-Cycle : (line : ℕ) (construct : Option Name) → elab_stmt unit_name scope (Cycle line construct) ≡ stmt_layer unit_name scope (Statement-F.Cycle line construct)
  stmt-Cycle line construct = stmts.fold-Cycle Formed Branch (Unit {0}) (stmt_layer unit_name scope) (arm_layer unit_name scope) (case_layer unit_name scope) line construct

  pub stmt-Continue : (line : ℕ) → elab_stmt unit_name scope (Continue line) ≡ stmt_layer unit_name scope (Statement-F.Continue line)
  stmt-Continue line = stmts.fold-Continue Formed Branch (Unit {0}) (stmt_layer unit_name scope) (arm_layer unit_name scope) (case_layer unit_name scope) line

  pub arm-is : (it : Arm) → arm_of it ≡ arm_layer unit_name scope (record { line = it.line; condition = it.condition; body = map (elab_stmt unit_name scope) it.body })
  arm-is it = stmts.fold-arm Formed Branch (Unit {0}) (stmt_layer unit_name scope) (arm_layer unit_name scope) (case_layer unit_name scope) it

  pub ruleset nodes = (arm-is, expr-Int, expr-Log, expr-Unary, expr-Binary, expr-Paren, part-Part, part-Group, designator-parts, expr-Ref, stmt-Assign, stmt-If, stmt-Do, stmt-While, stmt-Print, stmt-Stop, stmt-Exit, stmt-Cycle, stmt-Continue)

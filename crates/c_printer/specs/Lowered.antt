-- The expressions and the statements of the tree of a unit, in C.
use Rattle.lf_base.specs.Outcome.{Location}
use Rattle.lf_base.specs.declared.id.ExprId.{ExprId}
use Rattle.lf_base.specs.declared.id.StmtId.{StmtId}
use Rattle.asr_nodes.specs.Nodes.{expr_tree, stmt_tree, reads}
use Rattle.asr_nodes.specs.Reading.{Reading, expr_node, stmt_node}
use Rattle.asr_nodes.specs.Units.{path}
use Rattle.asr_nodes.specs.declared.node.Expr.{Expr}
use Rattle.asr_nodes.specs.declared.node.Stmt.{Stmt}
use Rattle.c_printer.specs.declared.scalar.Value.{Value}
use Rattle.c_printer.specs.Lowering.{Lowering}
use Rattle.c_printer.specs.Statements.{expression, statement}
use Rattle.c_printer.specs.Units.{UnitScope, types_of}
use Rattle.c_printer.specs.Values.{Expression, Doing}

module _ (u : UnitScope) where
  -- by their numbers
  abbrev pub expression_of : ExprId → Expression
  expression_of id = expression (types_of u) (expr_tree u.asr (path u.asr) id)

  -- how the value is computed
  abbrev pub evaluated : ExprId → Location → Lowering Value
  evaluated id = (expression_of id).value

  abbrev pub statement_of : StmtId → Doing
  statement_of id = statement (types_of u) (stmt_tree u.asr (path u.asr) id)

  -- by their nodes
  abbrev pub reading_of : Reading
  reading_of = reads u.asr (path u.asr)

  abbrev pub expression_at : Expr → Expression
  expression_at node = expression (types_of u) (expr_node reading_of node)

  abbrev pub statement_at : Stmt → Doing
  statement_at node = statement (types_of u) (stmt_node reading_of node)

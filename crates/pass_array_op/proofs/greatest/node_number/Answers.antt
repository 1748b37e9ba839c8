use Rattle.std.proofs.Common.{[], ◌∷◌, ap, sym, ◌∙◌}
use Rattle.asr_nodes.specs.Nodes.{there}
use Rattle.asr_nodes.specs.Visits.{key_of}
use Rattle.asr_nodes.specs.Walks.{made}
use Rattle.asr_nodes.proofs.VisitSteps.{has_expr}
use Rattle.pass_array_op.specs.Greatest.{number_at, number_in_expr, number_in_stmt}
use Rattle.pass_array_op.proofs.Loops.{stmt_there}
use Rattle.pass_array_op.proofs.greatest.node_number.Goals as goal

pub expr-requires : goal.expr-requires
expr-requires c = has_expr c.args.asr.now c.in-Expr.id (ap (λ node. there c.args.asr.now (key_of node ∷ [])) (sym c.in-Expr.is) ∙ c.requires)

pub stmt-requires : goal.stmt-requires
stmt-requires c = stmt_there c.args.asr.now c.in-Stmt.id (ap (λ node. there c.args.asr.now (key_of node ∷ [])) (sym c.in-Stmt.is) ∙ c.requires)

pub returns-in-Expr : goal.returns-in-Expr
returns-in-Expr c = c.expr_number.ensures ∙ sym (ap (made number_in_expr 0) c.expr.ensures.node) ∙ ap (λ node. number_at c.args.asr.now (key_of node)) (sym c.in-Expr.is)

pub returns-in-Stmt : goal.returns-in-Stmt
returns-in-Stmt c = c.stmt_number.ensures ∙ sym (ap (made number_in_stmt 0) c.stmt.ensures.node) ∙ ap (λ node. number_at c.args.asr.now (key_of node)) (sym c.in-Stmt.is)

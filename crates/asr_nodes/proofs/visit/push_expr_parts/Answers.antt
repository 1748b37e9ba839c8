use Rattle.asr_nodes.specs.Keys.{expr}
use Rattle.asr_nodes.proofs.VisitSteps.{parts_listed}
use Rattle.asr_nodes.proofs.visit.push_expr_parts.Goals as goal

pub returns : goal.returns
returns c = parts_listed c.push_pieces.result c.args.asr.now (expr c.args.id) c.expr.result.now c.expr_pieces-pieces.result _ _ c.expr.ensures.node c.expr_pieces-pieces.ensures c.push_pieces.ensures

use Rattle.asr_nodes.proofs.VisitSteps.{expr_listed}
use Rattle.asr_nodes.proofs.visit.pending.push_exprs.Goals as goal

pub loop-place-preserved : goal.loop-place-preserved
loop-place-preserved c = expr_listed c.args.ids.now c.loop-place.place c.at.result _ _ _ c.at.ensures c.in_ok-push_expr.ensures c.loop-place.invariant

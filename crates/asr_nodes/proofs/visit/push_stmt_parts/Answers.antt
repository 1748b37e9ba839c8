use Rattle.asr_nodes.specs.Keys.{stmt}
use Rattle.asr_nodes.proofs.VisitSteps.{parts_listed}
use Rattle.asr_nodes.proofs.visit.push_stmt_parts.Goals as goal

pub returns : goal.returns
returns c = parts_listed c.push_pieces.result c.args.asr.now (stmt c.args.id) c.stmt.result.now c.stmt_pieces-pieces.result _ _ c.stmt.ensures.node c.stmt_pieces-pieces.ensures c.push_pieces.ensures

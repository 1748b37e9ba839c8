use Rattle.std.proofs.Common.{ap, ◌∙◌}
use Rattle.asr_nodes.specs.Visiting.{keys_of}
use Rattle.asr_nodes.proofs.VisitSteps.{keys_push}
use Rattle.asr_nodes.proofs.visit.pending.push.Goals as goal

pub returns-in-Ok : goal.returns-in-Ok
returns-in-Ok c = ap keys_of c.in-Ok.ensures.items ∙ keys_push c.args.list.now.items c.args.pending

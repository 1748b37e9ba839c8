use Rattle.std.proofs.Common.{ap, ◌∙◌}
use Rattle.asr_nodes.specs.Nodes.{there}
use Rattle.asr_nodes.specs.Visits.{visits}
use Rattle.asr_nodes.proofs.VisitSteps.{come_turned}
use Rattle.asr_nodes.proofs.visit.Visit.over.Goals as goal

pub invariant_of-result : goal.invariant_of-result
invariant_of-result c = ap (there c.args.asr.now) (come_turned c.args.listed.items c.reverse.new.self.items c.reverse.ensures.items) ∙ c.requires

pub returns : goal.returns
returns c = ap (visits c.args.asr.now) (come_turned c.args.listed.items c.reverse.new.self.items c.reverse.ensures.items)

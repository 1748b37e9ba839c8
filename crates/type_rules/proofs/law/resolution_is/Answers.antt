use Rattle.type_rules.proofs.Resolution.{resolves}
use Rattle.type_rules.proofs.law.resolution_is.Goals as goal

pub returns : goal.returns
returns c = resolves

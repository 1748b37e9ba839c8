use Rattle.type_rules.proofs.Values.{gives_constants}
use Rattle.type_rules.proofs.law.gives_constants.Goals as goal

pub returns : goal.returns
returns c = gives_constants

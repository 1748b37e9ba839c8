use Rattle.link_toy.proofs.Instance.{overflows_here, overflows_there}
use Rattle.link_toy.proofs.law.overflows_traps.Goals as goal

pub returns-clause-source : goal.returns-clause-source
returns-clause-source c = overflows_here

pub returns-clause-target : goal.returns-clause-target
returns-clause-target c = overflows_there

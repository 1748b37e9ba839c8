use Rattle.link_toy.proofs.Instance.{descends_here, descends_there, descends_numbered, descends_passed, too_shallow}
use Rattle.link_toy.proofs.law.descends_runs.Goals as goal

pub returns-clause-source : goal.returns-clause-source
returns-clause-source c = descends_here

pub returns-clause-target : goal.returns-clause-target
returns-clause-target c = descends_there

pub returns-clause-numbered : goal.returns-clause-numbered
returns-clause-numbered c = descends_numbered

pub returns-clause-passed : goal.returns-clause-passed
returns-clause-passed c = descends_passed

pub returns-clause-shallow : goal.returns-clause-shallow
returns-clause-shallow c = too_shallow

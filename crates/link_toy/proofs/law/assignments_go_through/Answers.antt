use Rattle.link_toy.proofs.Temporaries.{near_passed}
use Rattle.link_toy.proofs.Chain.{passed_fine}
use Rattle.link_toy.proofs.law.assignments_go_through.Goals as goal

pub returns-clause-near : goal.returns-clause-near
returns-clause-near c = near_passed

pub returns-clause-fine : goal.returns-clause-fine
returns-clause-fine c = passed_fine

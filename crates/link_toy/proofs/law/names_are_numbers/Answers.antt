use Rattle.link_toy.proofs.Numbers.{equal_from, near_numbered}
use Rattle.link_toy.proofs.law.names_are_numbers.Goals as goal

pub returns-clause-same : goal.returns-clause-same
returns-clause-same c = equal_from

pub returns-clause-near : goal.returns-clause-near
returns-clause-near c = near_numbered

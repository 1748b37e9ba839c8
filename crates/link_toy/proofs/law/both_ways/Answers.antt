use Rattle.link_toy.proofs.Nearness.{near}
use Rattle.link_toy.proofs.law.both_ways.Goals as goal

pub returns : goal.returns
returns c = near

use Rattle.link_toy.specs.Meaning.{by_name}
use Rattle.link_toy.proofs.Larger.{source_larger, target_larger}
use Rattle.link_toy.proofs.law.larger_bounds.Goals as goal

pub returns-clause-source : goal.returns-clause-source
returns-clause-source c = source_larger by_name

pub returns-clause-target : goal.returns-clause-target
returns-clause-target c = target_larger

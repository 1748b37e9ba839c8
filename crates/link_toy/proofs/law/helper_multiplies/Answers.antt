use Rattle.link_toy.proofs.Multiplying.{gives_product, at_all_bounds}
use Rattle.link_toy.proofs.law.helper_multiplies.Goals as goal

pub returns-clause-enough : goal.returns-clause-enough
returns-clause-enough c = gives_product

pub returns-clause-every : goal.returns-clause-every
returns-clause-every c = at_all_bounds

use Rattle.link_toy.proofs.Chain.{both_links}
use Rattle.link_toy.proofs.law.links_add_up.Goals as goal

pub returns : goal.returns
returns c = both_links

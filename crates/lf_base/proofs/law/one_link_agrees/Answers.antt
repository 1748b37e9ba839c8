use Rattle.lf_base.proofs.Links.{one_link}
use Rattle.lf_base.proofs.law.one_link_agrees.Goals as goal

pub returns : goal.returns
returns c = one_link

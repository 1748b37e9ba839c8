use Rattle.lf_base.proofs.Links.{seven_links}
use Rattle.lf_base.proofs.law.seven_links_agree.Goals as goal

pub returns : goal.returns
returns c = seven_links

use Rattle.lf_base.proofs.Samples.{same_inside}
use Rattle.lf_base.proofs.law.test_inside.Goals as goal

pub returns : goal.returns
returns g c = same_inside

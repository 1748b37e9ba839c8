use Rattle.lf_base.specs.Outcome.{Never}
use Rattle.lf_base.proofs.Nearby.{near_of_equal}
use Rattle.lf_base.proofs.law.near_by_equality.Goals as goal

pub returns : goal.returns
returns c = near_of_equal Never

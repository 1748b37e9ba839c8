use Rattle.lf_base.proofs.Depths.{calls_no_shorter}
use Rattle.lf_base.proofs.law.deeper_calls.Goals as goal

pub returns : goal.returns
returns g c = calls_no_shorter

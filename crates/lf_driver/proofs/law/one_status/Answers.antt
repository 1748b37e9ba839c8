use Rattle.lf_driver.proofs.OneStatus.{one_status}
use Rattle.lf_driver.proofs.law.one_status.Goals as goal

pub returns : goal.returns
returns c = one_status

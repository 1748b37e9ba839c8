use Rattle.lf_driver.proofs.Exact.{stands}
use Rattle.lf_driver.proofs.law.texts_stand.Goals as goal

pub returns : goal.returns
returns c = stands

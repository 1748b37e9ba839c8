use Rattle.lf_driver.proofs.OneFile.{files_stay}
use Rattle.lf_driver.proofs.law.files_stay.Goals as goal

pub returns : goal.returns
returns c = files_stay

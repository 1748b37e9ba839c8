use Rattle.lf_driver.proofs.OnePrint.Agrees.{agrees}
use Rattle.lf_driver.proofs.law.c_file_agrees.Goals as goal

pub returns : goal.returns
returns c = agrees

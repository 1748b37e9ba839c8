use Rattle.fortran_link.proofs.Agreement.{all_agree}
use Rattle.fortran_link.proofs.law.expressions_agree.Goals as goal

pub returns : goal.returns
returns c = all_agree

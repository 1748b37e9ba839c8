use Rattle.fortran_link.proofs.Statements as proved
use Rattle.fortran_link.proofs.law.assignments_agree.Goals as goal

pub returns : goal.returns
returns c = proved.assignments_agree

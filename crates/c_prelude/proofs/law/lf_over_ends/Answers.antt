use Rattle.c_prelude.proofs.PreludeArithmetic.{over_law}
use Rattle.c_prelude.proofs.law.lf_over_ends.Goals as goal

pub returns : goal.returns
returns c = over_law

use Rattle.c_prelude.proofs.PreludeGap.{gap_law}
use Rattle.c_prelude.proofs.law.lf_gap_parts.Goals as goal

pub returns-clause-value : goal.returns-clause-value
returns-clause-value c = gap_law

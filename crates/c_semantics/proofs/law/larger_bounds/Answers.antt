use Rattle.c_semantics.proofs.CMonotone.{meaning_monotone}
use Rattle.c_semantics.proofs.law.larger_bounds.Goals as goal

pub returns : goal.returns
returns c = meaning_monotone

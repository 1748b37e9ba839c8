use Rattle.fortran_semantics.proofs.Monotone.{meaning_monotone}
use Rattle.fortran_semantics.proofs.law.larger_bounds.Goals as goal

pub returns : goal.returns
returns c = meaning_monotone

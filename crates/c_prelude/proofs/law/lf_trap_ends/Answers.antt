use Rattle.std.proofs.Common.{refl}
use Rattle.std.specs.Fmt.{digits}
use Rattle.lf_base.specs.Contents.{joined}
use Rattle.c_prelude.proofs.PreludeTrapLaw.{trap_law}
use Rattle.c_prelude.proofs.law.lf_trap_ends.Goals as goal

pub returns-clause-ends : goal.returns-clause-ends
returns-clause-ends c = trap_law

pub returns-clause-text : goal.returns-clause-text
unfolding joined digits
returns-clause-text c s = refl

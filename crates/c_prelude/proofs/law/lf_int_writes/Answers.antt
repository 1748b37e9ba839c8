use Rattle.std.proofs.Common.{refl}
use Rattle.std.specs.Fmt.{digits}
use Rattle.c_prelude.proofs.PreludeInts.{int_law}
use Rattle.c_prelude.proofs.law.lf_int_writes.Goals as goal

pub returns-clause-value : goal.returns-clause-value
returns-clause-value c = int_law

pub returns-clause-zero : goal.returns-clause-zero
unfolding digits
returns-clause-zero c = refl

pub returns-clause-greatest : goal.returns-clause-greatest
unfolding digits
returns-clause-greatest c = refl

pub returns-clause-least : goal.returns-clause-least
unfolding digits
returns-clause-least c = refl

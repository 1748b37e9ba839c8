use Rattle.std.proofs.Common.{refl}
use Rattle.c_prelude.proofs.PreludeMultiply.{sub_law}
use Rattle.c_prelude.proofs.law.lf_sub_subtracts.Goals as goal

pub returns-clause-value : goal.returns-clause-value
returns-clause-value c = sub_law

pub returns-clause-greatest : goal.returns-clause-greatest
returns-clause-greatest c = record { value = refl; trap = refl }

pub returns-clause-least : goal.returns-clause-least
returns-clause-least c = record { value = refl; trap = refl }

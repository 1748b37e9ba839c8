use Rattle.c_prelude.proofs.PreludeLocation.{location_law}
use Rattle.c_prelude.proofs.law.location_is_set.Goals as goal

pub returns : goal.returns
returns c = location_law

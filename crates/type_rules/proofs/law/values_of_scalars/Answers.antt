use Rattle.type_rules.proofs.Arrays.{at_scalars}
use Rattle.type_rules.proofs.law.values_of_scalars.Goals as goal

pub returns : goal.returns
returns c = at_scalars

use Rattle.type_rules.proofs.Arrays.{of_empty}
use Rattle.type_rules.proofs.law.reductions_of_nothing.Goals as goal

pub returns : goal.returns
returns c = of_empty

use Rattle.type_rules.proofs.Dims.{of_two}
use Rattle.type_rules.proofs.law.unified_is_type.Goals as goal

pub returns : goal.returns
returns c = of_two

use Rattle.type_rules.proofs.Bindings.{empty_dimension}
use Rattle.type_rules.proofs.law.empty_dimension.Goals as goal

pub returns : goal.returns
returns c = empty_dimension

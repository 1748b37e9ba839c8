use Rattle.type_rules.proofs.Shapes.{is_value_by_shape}
use Rattle.type_rules.proofs.law.type_is_of_shape.Goals as goal

pub returns : goal.returns
returns c = is_value_by_shape

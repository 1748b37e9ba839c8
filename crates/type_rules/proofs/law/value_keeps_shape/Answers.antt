use Rattle.type_rules.proofs.Shapes.{value_keeps}
use Rattle.type_rules.proofs.law.value_keeps_shape.Goals as goal

pub returns : goal.returns
returns c = value_keeps

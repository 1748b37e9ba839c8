use Rattle.type_rules.proofs.Shapes.{shape_of_value_at}
use Rattle.type_rules.proofs.law.part_has_shape.Goals as goal

pub returns : goal.returns
returns c = shape_of_value_at

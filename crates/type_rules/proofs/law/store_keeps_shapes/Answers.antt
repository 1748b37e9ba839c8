use Rattle.type_rules.proofs.Shapes.{write_keeps}
use Rattle.type_rules.proofs.law.store_keeps_shapes.Goals as goal

pub returns : goal.returns
returns c = write_keeps

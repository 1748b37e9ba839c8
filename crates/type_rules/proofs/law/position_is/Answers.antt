use Rattle.type_rules.proofs.Bindings.{is_position}
use Rattle.type_rules.proofs.law.position_is.Goals as goal

pub returns : goal.returns
returns c = is_position

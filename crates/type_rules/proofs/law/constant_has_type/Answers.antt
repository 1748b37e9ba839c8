use Rattle.type_rules.specs.Identities.{constant_is_value}
use Rattle.type_rules.proofs.law.constant_has_type.Goals as goal

pub returns : goal.returns
returns c = constant_is_value

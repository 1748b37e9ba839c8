use Rattle.type_rules.specs.Identities.{type_decided}
use Rattle.type_rules.proofs.law.types_decided.Goals as goal

pub returns : goal.returns
returns c = type_decided

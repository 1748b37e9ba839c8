use Rattle.type_rules.specs.Identities.{constant_decided}
use Rattle.type_rules.proofs.law.constants_decided.Goals as goal

pub returns : goal.returns
returns c = constant_decided

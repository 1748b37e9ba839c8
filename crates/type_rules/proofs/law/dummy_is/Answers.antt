use Rattle.type_rules.proofs.Bindings.{bound_is}
use Rattle.type_rules.proofs.law.dummy_is.Goals as goal

pub returns : goal.returns
returns c = bound_is

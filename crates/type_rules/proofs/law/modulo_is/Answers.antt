use Rattle.type_rules.proofs.Divisions.{is_modulo}
use Rattle.type_rules.proofs.law.modulo_is.Goals as goal

pub returns : goal.returns
returns c = is_modulo

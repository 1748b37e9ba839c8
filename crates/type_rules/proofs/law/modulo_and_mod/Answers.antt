use Rattle.type_rules.proofs.Divisions.{differ_by_multiple}
use Rattle.type_rules.proofs.law.modulo_and_mod.Goals as goal

pub returns : goal.returns
returns c = differ_by_multiple

use Rattle.type_rules.proofs.Divisions.{is_division}
use Rattle.type_rules.proofs.law.division_is.Goals as goal

pub returns : goal.returns
returns c = is_division

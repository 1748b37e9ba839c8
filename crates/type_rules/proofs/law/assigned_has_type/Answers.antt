use Rattle.type_rules.proofs.Targets.{assigned_fits}
use Rattle.type_rules.proofs.law.assigned_has_type.Goals as goal

pub returns : goal.returns
returns c = assigned_fits

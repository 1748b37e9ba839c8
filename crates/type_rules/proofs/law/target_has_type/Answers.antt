use Rattle.type_rules.proofs.Targets.{assigned_ends}
use Rattle.type_rules.proofs.law.target_has_type.Goals as goal

pub returns : goal.returns
returns c = assigned_ends

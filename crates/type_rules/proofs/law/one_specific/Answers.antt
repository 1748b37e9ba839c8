use Rattle.type_rules.proofs.Matches.{never_both}
use Rattle.type_rules.proofs.law.one_specific.Goals as goal

pub returns : goal.returns
returns c = never_both

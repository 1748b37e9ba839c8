use Rattle.type_rules.proofs.Sections.{within_bounds}
use Rattle.type_rules.proofs.law.sections_are_within.Goals as goal

pub returns : goal.returns
returns c = within_bounds

use Rattle.type_rules.proofs.TextLaws.{is_trimmed}
use Rattle.type_rules.proofs.law.trimmed_is.Goals as goal

pub returns : goal.returns
returns c = is_trimmed

use Rattle.type_rules.proofs.TextLaws.{differ_at}
use Rattle.type_rules.proofs.law.first_difference_is.Goals as goal

pub returns : goal.returns
returns c = differ_at

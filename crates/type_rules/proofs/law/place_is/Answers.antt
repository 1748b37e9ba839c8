use Rattle.type_rules.proofs.TextLaws.{is_place}
use Rattle.type_rules.proofs.law.place_is.Goals as goal

pub returns : goal.returns
returns c = is_place

use Rattle.type_rules.proofs.Right.{wrong}
use Rattle.type_rules.proofs.law.wrong_types_give_none.Goals as goal

pub returns : goal.returns
returns c = wrong

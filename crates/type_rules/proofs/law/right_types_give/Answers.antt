use Rattle.type_rules.proofs.Right.{right}
use Rattle.type_rules.proofs.law.right_types_give.Goals as goal

pub returns : goal.returns
returns c = right

use Rattle.ff_expressions.proofs.Matching.{items_are_spelled}
use Rattle.ff_expressions.proofs.law.items_are_spelled.Goals as goal

pub returns : goal.returns
returns c = items_are_spelled

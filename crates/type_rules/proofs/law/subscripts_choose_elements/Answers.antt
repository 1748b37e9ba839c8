use Rattle.type_rules.proofs.Bindings.{are_elements}
use Rattle.type_rules.proofs.law.subscripts_choose_elements.Goals as goal

pub returns : goal.returns
returns c = are_elements

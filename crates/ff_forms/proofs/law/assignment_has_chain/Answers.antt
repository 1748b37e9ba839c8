use Rattle.ff_forms.proofs.Chained.{assigned_is, is_assigned_by_chain}
use Rattle.ff_forms.proofs.law.assignment_has_chain.Goals as goal

pub returns : goal.returns
returns c = λ items. (is_assigned_by_chain items, assigned_is items)

use Rattle.ff_forms.proofs.Cases.{found}
use Rattle.ff_forms.proofs.law.found_is_form.Goals as goal

pub returns : goal.returns
returns c = found

use Rattle.ff_forms.proofs.Written.{one}
use Rattle.ff_forms.proofs.law.one_form.Goals as goal

pub returns : goal.returns
returns c = one

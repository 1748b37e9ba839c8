use Rattle.ff_forms.proofs.Written.{back}
use Rattle.ff_forms.proofs.law.form_is_found.Goals as goal

pub returns : goal.returns
returns c = back

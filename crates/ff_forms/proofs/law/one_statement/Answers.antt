use Rattle.ff_forms.proofs.Written.{one_statement}
use Rattle.ff_forms.proofs.law.one_statement.Goals as goal

pub returns : goal.returns
returns c = one_statement

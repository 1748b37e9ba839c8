use Rattle.ff_forms.proofs.Written.{is_written, is_statement}
use Rattle.ff_forms.proofs.law.statement_is_written.Goals as goal

pub returns : goal.returns
returns c = λ line tokens formed. (is_written line tokens formed, is_statement line tokens formed)

use Rattle.type_rules.proofs.Places.{written_is_read}
use Rattle.type_rules.proofs.law.written_is_read.Goals as goal

pub returns : goal.returns
returns c = written_is_read

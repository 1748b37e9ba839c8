use Rattle.ff_lexer.proofs.Telling.{one_list}
use Rattle.ff_lexer.proofs.law.one_list.Goals as goal

pub returns : goal.returns
returns c = one_list

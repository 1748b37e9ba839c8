use Rattle.ff_lexer.proofs.HeldAll.{all_covered}
use Rattle.ff_lexer.proofs.HeldSpelled.{all_spelled}
use Rattle.ff_lexer.proofs.Telling.{only_source}
use Rattle.ff_lexer.proofs.law.tokens_cover_text.Goals as goal

pub returns-clause-bytes : goal.returns-clause-bytes
returns-clause-bytes c = all_covered

pub returns-clause-spelled : goal.returns-clause-spelled
returns-clause-spelled c = λ text statements h. all_spelled text statements (only_source text statements h)

use Rattle.ff_lexer.proofs.Covered as covered
use Rattle.ff_lexer.proofs.law.tokens_cover.Goals as goal

pub returns : goal.returns
returns c = covered.tokens_cover

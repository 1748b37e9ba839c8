use Rattle.ff_lexer.proofs.Lexing.{none_begun}
use Rattle.ff_lexer.proofs.reader.Reader.end.Goals as goal

pub returns : goal.returns
returns c = none_begun c.args.self c.if-self.false

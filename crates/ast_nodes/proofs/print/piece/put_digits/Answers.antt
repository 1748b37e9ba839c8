use Rattle.std.proofs.lemmas.Fmt.{decimal_digit}
use Rattle.ast_nodes.proofs.print.piece.put_digits.Goals as goal

pub returns-then-number-lt10 : goal.returns-then-number-lt10
returns-then-number-lt10 g c = rw (decimal_digit _ c.if-number-lt10.true) c.put.ensures

use Rattle.ast_nodes.proofs.Pieces.{digit_behind}
use Rattle.ast_nodes.proofs.print.piece.put_number.Goals as goal

pub returns-then-number-lt10 : goal.returns-then-number-lt10
returns-then-number-lt10 g c = rw (digit_behind _ c.if-number-lt10.true) c.put.ensures

use Rattle.ast_nodes.proofs.Pieces.{no_suffix}
use Rattle.ast_nodes.proofs.print.piece.put_suffix.Goals as goal

pub returns-then-suffix-eq0 : goal.returns-then-suffix-eq0
returns-then-suffix-eq0 g c = rw c.if-suffix-eq0.true (rw no_suffix c.put.ensures)

use Rattle.ast_nodes.proofs.Pieces.{cut_text}
use Rattle.ast_nodes.proofs.print.piece.put_opened.Goals as goal

pub returns : goal.returns
returns g c = rw (cut_text _) c.put.ensures

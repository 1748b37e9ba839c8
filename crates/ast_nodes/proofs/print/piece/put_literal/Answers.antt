use Rattle.ast_nodes.proofs.Chains.{prints_none, prints_more}
use Rattle.ast_nodes.proofs.Pieces.{literal_behind}
use Rattle.ast_nodes.proofs.print.piece.put_literal.Goals as goal

pub returns : goal.returns
returns g c = rw (literal_behind _ _) (prints_more _ _ _ _ _ _ _ _ _ _ _ _ _ c.put-ended.ensures (prints_more _ _ _ _ _ _ _ _ _ _ _ _ _ c.put_bytes-ended.ensures (prints_more _ _ _ _ _ _ _ _ _ _ _ _ _ c.put_suffix.ensures (prints_none _ _ _ _ _ _ _))))

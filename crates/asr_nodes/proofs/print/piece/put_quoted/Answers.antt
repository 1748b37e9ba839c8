use Rattle.ast_nodes.proofs.Chains.{prints_none, prints_more}
use Rattle.ast_nodes.proofs.Pieces.{quoted_behind}
use Rattle.asr_nodes.proofs.print.piece.put_quoted.Goals as goal

pub returns : goal.returns
returns g c = rw (quoted_behind _) (prints_more _ _ _ _ _ _ _ _ _ _ _ _ _ c.put-ended.ensures (prints_more _ _ _ _ _ _ _ _ _ _ _ _ _ c.put_bytes-ended.ensures (prints_more _ _ _ _ _ _ _ _ _ _ _ _ _ c.put.ensures (prints_none _ _ _ _ _ _ _))))

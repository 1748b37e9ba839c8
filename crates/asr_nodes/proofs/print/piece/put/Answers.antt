use Rattle.ast_nodes.proofs.Chains.{prints_put}
use Rattle.asr_nodes.proofs.print.piece.put.Goals as goal

pub returns : goal.returns
returns g c = prints_put _ _ _ _ _ _ _ _ _ _ g.met.O.Sink.keeps_further c.put_behind.ensures.text c.put_behind.ensures.cause c.put_behind.ensures.keeps

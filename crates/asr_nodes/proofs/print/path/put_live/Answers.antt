use Rattle.ast_nodes.proofs.Chains.{prints_none}
use Rattle.asr_nodes.proofs.Missing.{refuted, is_none}
use Rattle.asr_nodes.proofs.PathTexts.{path_dead, text_dead}
use Rattle.asr_nodes.proofs.print.path.put_live.Goals as goal

pub returns-else-live : goal.returns-else-live
returns-else-live g c = rw (text_dead _ (path_dead c.args.arena.now c.args.symbol (is_none _ (refuted _ c.live.ensures c.if-live.false)))) (prints_none _ _ _ _ _ _ _)

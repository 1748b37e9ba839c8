use Rattle.ast_nodes.proofs.Chains.{awaits_rest}
use Rattle.asr_nodes.proofs.Chained.{closers_left}
use Rattle.asr_nodes.proofs.print.link.put_closers.Goals as goal

pub loop-link-preserved : goal.loop-link-preserved
loop-link-preserved g c = awaits_rest _ _ _ _ _ _ _ _ _ _ _ _ _ _ (rw (closers_left c.args.links c.loop-link._link c.loop-link-test.true) at c.loop-link.invariant) c.put-ended.ensures

use Rattle.asr_nodes.proofs.Splicing.{numbered_more}
use Rattle.asr_nodes.proofs.asr.splice.numbered.Goals as goal

pub loop-place-preserved : goal.loop-place-preserved
loop-place-preserved c = numbered_more c.loop-place.ids.items _ _ c.args.first c.loop-place.place c.args.count c.loop-place-test.true c.in-Ok.ensures.items c.loop-place.invariant

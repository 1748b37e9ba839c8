use Rattle.std.proofs.Common.{take, subst, arith, length-drop}
use Rattle.std.proofs.lemmas.List.{take_rest}
use Rattle.lf_base.specs.Contents.{Appends}
use Rattle.lf_outside.proofs.Streams.{goes_on}
use Rattle.lf_outside.proofs.writer.write_whole.Goals as goal

pub loop-preserved : goal.loop-preserved
loop-preserved g c =
    let gave = c.in_ok-done.ensures in
    let before = g.W.Write.contents c.loop.stream in
    let after = g.W.Write.contents c.write_once.new.stream in
    let more = subst (λ t. Appends before after (take c.in_ok-done.field-0 t)) (take_rest c.args.piece.now c.loop.done) gave.ok in
    (omega (arith, gave.bound, c.loop.invariant.0, length-drop c.loop.done c.args.piece.now), goes_on (g.W.Write.contents c.args.stream.now) before after c.loop.done c.in_ok-done.field-0 c.args.piece.now c.loop.invariant.1 more)

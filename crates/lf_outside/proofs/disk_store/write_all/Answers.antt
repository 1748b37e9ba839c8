use Rattle.std.proofs.Common.{◌∙◌, take, subst, arith, length-drop}
use Rattle.std.proofs.lemmas.List.{take_rest}
use Rattle.lf_base.specs.Contents.{Appends}
use Rattle.lf_outside.specs.Disk.{held}
use Rattle.lf_outside.proofs.Streams.{goes_on}
use Rattle.lf_outside.proofs.disk_store.write_all.Goals as goal

pub loop-preserved : goal.loop-preserved
loop-preserved g c =
    let gave = c.in_ok-done.ensures in
    let name = c.args.name.now in
    let before = held (g.D.Disk.history c.loop.disk) name in
    let after = held (g.D.Disk.history c.write_some.new.disk) name in
    let more = subst (λ t. Appends before after (take c.in_ok-done.field-0 t)) (take_rest c.args.piece.now c.loop.done) gave.ok in
    record {
      within = omega (arith, gave.bound, c.loop.invariant.within, length-drop c.loop.done c.args.piece.now);
      told = gave.told ∙ c.loop.invariant.told;
      front = goes_on (held (g.D.Disk.history c.args.disk.now) name) before after c.loop.done c.in_ok-done.field-0 c.args.piece.now c.loop.invariant.front more;
    }

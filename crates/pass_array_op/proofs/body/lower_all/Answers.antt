use Rattle.std.proofs.Common.{◌≡◌, ◌+◌, subst, drop, suc, arith}
use Rattle.std.proofs.lemmas.List.{drop_more}
use Rattle.pass_array_op.specs.Bodies.{Midway}
use Rattle.pass_array_op.proofs.Loops.{next_midway}
use Rattle.pass_array_op.proofs.body.lower_all.Goals as goal

pub loop-id-preserved : goal.loop-id-preserved
loop-id-preserved c =
    let d = drop_more c.args.ids.now c.loop-id.id-index (record { 0 = 0 }) c.loop-id-test.true in
    let m = subst (λ l. Midway c.args.asr.now c.loop-id.asr c.args.ids.now l c.args.number c.loop-id.next) d c.loop-id.invariant in
    let p = c.in-Some.ensures.1 in
    let e : suc c.loop-id.next ≡ c.in-Some.more = omega (arith, p) in
    subst (λ n. Midway c.args.asr.now c.lower_print.new.asr c.args.ids.now (drop (c.loop-id.id-index + 1) c.args.ids.now) c.args.number n) e
    (next_midway _ _ _ _ _ _ _ m c.sound.ensures _ c.in_ok-lower_print.ensures)

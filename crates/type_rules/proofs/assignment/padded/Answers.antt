use Rattle.std.proofs.Common.{◌∙◌, arith}
use Rattle.type_rules.proofs.Targets.{one_more_blank}
use Rattle.type_rules.proofs.assignment.padded.Goals as goal

pub loop-i-preserved : goal.loop-i-preserved
loop-i-preserved c =
    let i = c.loop-i.auto.i in
    c.in_ok-push.ensures.items ∙ one_more_blank c.args.bytes.now c.loop-i.all.items c.loop-i.i (omega (arith, i)) c.loop-i.invariant

use Rattle.std.proofs.Common.{◌≡◌, ◌+◌, ◌-◌, length, drop, take, arith, ap, ◌∙◌, length-drop}
use Rattle.lf_base.proofs.Fronts.{hands_over}
use Rattle.lf_base.proofs.sure_source.hand_over.Goals as goal

pub returns-clause-handed : goal.returns-clause-handed
returns-clause-handed c =
    let n = c.min-n.result in
    let left = drop c.args.taken c.args.bytes.now in
    let all : (c.args.taken + n) - c.args.taken ≡ n = omega arith in
    let copied = c.copy_from_slice.ensures.after ∙ ap (λ k. take k left) all in
    hands_over c.args.bytes.now c.copy_from_slice.new.self (drop n c.args.buf.now) c.args.taken n (length c.args.buf.now) c.requires c.min-n.ensures copied (length-drop n c.args.buf.now)

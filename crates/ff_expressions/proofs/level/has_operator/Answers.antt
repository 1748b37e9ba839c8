use Rattle.std.proofs.Common.{◌≡◌, ◌<◌, ◌∙◌, sym, length, true, false, slice_get, arith}
use Rattle.ff_expressions.specs.Pieces.{there}
use Rattle.ff_expressions.specs.Expressions.{is_at}
use Rattle.ff_expressions.proofs.Gathering.{any_more, any_here}
use Rattle.ff_expressions.proofs.level.has_operator.Goals as goal

pub returns-then-is_at : goal.returns-then-is_at
returns-then-is_at c =
    let xs = c.args.items.now in
    let h : c.loop-at.at < length xs = omega arith in
    let e : there (is_at c.args.level) (slice_get xs c.loop-at.at) ≡ true = cc in
    sym (any_here (is_at c.args.level) xs c.loop-at.at h e) ∙ c.loop-at.invariant

pub loop-at-preserved : goal.loop-at-preserved
loop-at-preserved c =
    let xs = c.args.items.now in
    let h : c.loop-at.at < length xs = omega arith in
    let e : there (is_at c.args.level) (slice_get xs c.loop-at.at) ≡ false = cc in
    sym (any_more (is_at c.args.level) xs c.loop-at.at h e) ∙ c.loop-at.invariant

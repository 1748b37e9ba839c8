use Rattle.std.proofs.Common.{◌≡◌, ◌<◌, ◌∙◌, sym, length, true, false, slice_get, arith}
use Rattle.ff_expressions.specs.Pieces.{is_mark, there}
use Rattle.ff_expressions.proofs.Gathering.{any_more, any_here}
use Rattle.ff_expressions.proofs.piece.has_mark.Goals as goal

pub returns-then-stands : goal.returns-then-stands
returns-then-stands c =
    let xs = c.args.items.now in
    let h : c.loop-at.at < length xs = omega arith in
    let e : there (is_mark c.args.mark) (slice_get xs c.loop-at.at) ≡ true = cc in
    sym (any_here (is_mark c.args.mark) xs c.loop-at.at h e) ∙ c.loop-at.invariant

pub loop-at-preserved : goal.loop-at-preserved
loop-at-preserved c =
    let xs = c.args.items.now in
    let h : c.loop-at.at < length xs = omega arith in
    let e : there (is_mark c.args.mark) (slice_get xs c.loop-at.at) ≡ false = cc in
    sym (any_more (is_mark c.args.mark) xs c.loop-at.at h e) ∙ c.loop-at.invariant

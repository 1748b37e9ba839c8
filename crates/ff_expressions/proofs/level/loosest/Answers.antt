use Rattle.std.proofs.Common.{◌≡◌, ◌+◌, ◌<◌, ◌∙◌, sym, ap, length, drop, slice_get, arith}
use Rattle.std.specs.Prelude.{max}
use Rattle.ff_expressions.specs.Binding.{looseness_at, loosest_from}
use Rattle.ff_expressions.proofs.Binding.{loosest_more}
use Rattle.ff_expressions.proofs.level.loosest.Goals as goal

pub loop-at-preserved : goal.loop-at-preserved
loop-at-preserved c =
    let xs = c.args.items.now in
    let h : c.loop-at.at < length xs = omega arith in
    let e : c.looser-found.result ≡ max c.loop-at.found (looseness_at (slice_get xs c.loop-at.at)) = c.looser-found.ensures ∙ ap (max c.loop-at.found) c.looseness_at.ensures in
    ap (λ found. loosest_from found (drop (c.loop-at.at + 1) xs)) e ∙ sym (loosest_more xs c.loop-at.at c.loop-at.found h) ∙ c.loop-at.invariant

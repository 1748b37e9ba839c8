use Rattle.std.proofs.Common.{◌<◌, ◌≤◌, ◌∙◌, ap, subst, sym, arith}
use Rattle.ff_expressions.specs.Expressions.{operand_of}
use Rattle.ff_expressions.specs.Binding.{rank, loosest}
use Rattle.ff_expressions.proofs.Binding.{one_down, tighter_below}
use Rattle.ff_expressions.proofs.level.nearest.Goals as goal

pub loop-level-preserved : goal.loop-level-preserved
loop-level-preserved c =
    let level = c.loop-level.level in
    let items = c.args.items.now in
    let h : loosest items < rank level = omega arith in
    let e = c.tighter-level.ensures in
    record {
      same = ap (λ l. operand_of l items) e ∙ one_down level items h ∙ c.loop-level.invariant.same;
      tighter =
          let below : rank c.tighter-level.result ≤ rank level = subst (λ l. rank l ≤ rank level) (sym e) (tighter_below level) in
          omega arith;
    }

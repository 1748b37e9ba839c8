use Rattle.std.proofs.Common.{◌≡◌, ◌++◌, true, sym, ap, subst, ◌∙◌}
use Rattle.asr_nodes.specs.Keys.{stmts}
use Rattle.asr_nodes.specs.Nodes.{there}
use Rattle.asr_nodes.proofs.VisitLists.{visited_there}
use Rattle.pass_array_op.specs.Prints.{prints}
use Rattle.pass_array_op.proofs.body.prints_below.Goals as goal

pub loop-found-init : goal.loop-found-init
loop-found-init c = record {
  there = subst (λ v. there c.args.asr.now v ≡ true) (sym c.in_ok-visit.ensures) (visited_there c.args.asr.now (stmts c.args.body.now));
  are = ap (λ l. l ++ prints c.args.asr.now c.in_ok-visit.visit) c.new-found.ensures.items ∙ ap (prints c.args.asr.now) c.in_ok-visit.ensures;
}

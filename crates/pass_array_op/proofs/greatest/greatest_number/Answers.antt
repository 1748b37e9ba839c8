use native.Mathlib.Numerals.{unary_clauses}
use Rattle.std.proofs.Common.{◌≡◌, true, sym, ap, subst}
use Rattle.asr_nodes.specs.Keys.{stmts}
use Rattle.asr_nodes.specs.Nodes.{there}
use Rattle.asr_nodes.proofs.VisitLists.{visited_there}
use Rattle.pass_array_op.specs.Greatest.{greatest_at}
use Rattle.pass_array_op.proofs.greatest.greatest_number.Goals as goal

pub loop-visit-init : goal.loop-visit-init
loop-visit-init c = record {
  there = subst (λ v. there c.args.asr.now v ≡ true) (sym c.in_ok-visit.ensures) (visited_there c.args.asr.now (stmts c.args.body.now));
  are = simp unary_clauses (ap (greatest_at c.args.asr.now) c.in_ok-visit.ensures);
}

use Rattle.std.specs.Prelude.{◌≡◌, max, true, length}
use Rattle.asr_nodes.specs.Keys.{stmts}
use Rattle.asr_nodes.specs.Nodes.{there}
use Rattle.asr_nodes.specs.Visits.{visits}
use Rattle.pass_array_op.specs.Greatest.{greatest_at}
use Rattle.pass_array_op.proofs.greatest.greatest_number.Given as goal

abbrev pub invariant-loop-visit : goal.invariant-loop-visit
invariant-loop-visit l = record {
  there : there l.asr l.visit ≡ true;
  are : max l.number (greatest_at l.asr l.visit) ≡ greatest_at l.asr (visits l.asr (stmts l.body));
}

abbrev pub decreases-loop-visit : goal.decreases-loop-visit
decreases-loop-visit l = length l.visit

use Rattle.std.specs.Prelude.{◌≡◌, ◌++◌, true, length}
use Rattle.asr_nodes.specs.Keys.{stmts}
use Rattle.asr_nodes.specs.Nodes.{there}
use Rattle.asr_nodes.specs.Visits.{visits}
use Rattle.pass_array_op.specs.Prints.{prints}
use Rattle.pass_array_op.proofs.body.prints_below.Given as goal

abbrev pub invariant-loop-found : goal.invariant-loop-found
invariant-loop-found l = record {
  there : there l.asr l.visit ≡ true;
  are : l.found.items ++ prints l.asr l.visit ≡ prints l.asr (visits l.asr (stmts l.body));
}

abbrev pub decreases-loop-found : goal.decreases-loop-found
decreases-loop-found l = length l.visit

use Rattle.std.proofs.Common.{◌≡◌, ◌≤◌}
use Rattle.ff_expressions.specs.Expressions.{operand_of}
use Rattle.ff_expressions.specs.Binding.{rank}
use Rattle.ff_expressions.proofs.level.nearest.Given as goal

abbrev pub invariant-loop-level : goal.invariant-loop-level
invariant-loop-level l = record {
  same : operand_of l.level l.items ≡ operand_of l.fn.level l.items;
  tighter : rank l.level ≤ rank l.fn.level;
}

abbrev pub decreases-loop-level : goal.decreases-loop-level
decreases-loop-level l = rank l.level

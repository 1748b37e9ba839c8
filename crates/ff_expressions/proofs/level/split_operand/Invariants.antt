use Rattle.std.proofs.Common.{◌≡◌, ◌++◌, ◌≤◌, length}
use Rattle.ff_expressions.specs.Expressions.{first_operand, other_operands}
use Rattle.ff_expressions.proofs.level.split_operand.Given as goal

abbrev pub invariant-loop-item : goal.invariant-loop-item
invariant-loop-item l = record {
  operand : l.operand ++ first_operand l.level l.items ≡ first_operand l.level l.fn.items;
  others : other_operands l.level l.items ≡ other_operands l.level l.fn.items;
  shorter : length l.items ≤ length l.fn.items;
}

abbrev pub decreases-loop-item : goal.decreases-loop-item
decreases-loop-item l = length l.items

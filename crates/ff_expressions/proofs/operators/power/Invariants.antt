use Rattle.std.proofs.Common.{◌≡◌}
use Rattle.ff_expressions.specs.declared.level.Level.TheVariants.{Power}
use Rattle.ff_expressions.specs.Expressions.{raised, to_right, primary_of, others_after, still_left, power_of}
use Rattle.ff_expressions.proofs.operators.power.Given as goal

abbrev pub invariant-loop-operator : goal.invariant-loop-operator
invariant-loop-operator l = raised l.bases (to_right primary_of l.operand (others_after Power l.operator l.items)) ≡ power_of l.fn.items

abbrev pub decreases-loop-operator : goal.decreases-loop-operator
decreases-loop-operator l = still_left l.operator l.items

use Rattle.std.proofs.Common.{◌≡◌, ◌+◌, ◌*◌}
use Rattle.ff_expressions.specs.Binding.{rank}
use Rattle.ff_expressions.specs.Expressions.{to_left, operand_of, others_after, still_left}
use Rattle.ff_expressions.proofs.operators.+level.Given as goal

abbrev pub decreases-operand : goal.decreases-operand
decreases-operand l = 4 * rank l.level

abbrev pub decreases-to_left : goal.decreases-to_left
decreases-to_left l = 4 * rank l.level + 1

abbrev pub decreases-left_level : goal.decreases-left_level
decreases-left_level l = 4 * rank l.level + 2

abbrev pub decreases-sum : goal.decreases-sum
decreases-sum l = 10

abbrev pub decreases-related : goal.decreases-related
decreases-related l = 17

abbrev pub decreases-relation : goal.decreases-relation
decreases-relation l = 18

abbrev pub decreases-negation : goal.decreases-negation
decreases-negation l = 19

abbrev pub invariant-to_left-loop-operator : goal.invariant-to_left-loop-operator
invariant-to_left-loop-operator l =
    to_left (operand_of l.level) l.left (others_after l.level l.operator l.items) ≡ to_left (operand_of l.level) l.fn.first (others_after l.level l.fn.first_operator l.fn.items)

abbrev pub decreases-to_left-loop-operator : goal.decreases-to_left-loop-operator
decreases-to_left-loop-operator l = still_left l.operator l.items

use Rattle.std.proofs.Common.{◌≡◌, ◌+◌, ◌*◌, map, drop}
use Rattle.c_printer.specs.Lowered.{expression_of}
use Rattle.c_printer.specs.Values.{each_value}
use Rattle.c_printer.specs.Writing.{from, location}
use Rattle.c_printer.proofs.Depths.{total, depth_of, depth_at}
use Rattle.c_printer.proofs.Writes.{behind_values}
use Rattle.c_printer.proofs.values.+value.Given as goal

-- a part is not as deep as what it is part of
abbrev pub decreases-value : goal.decreases-value
decreases-value l = 8 * depth_of l.scope.now l.id + 1

abbrev pub decreases-node_value : goal.decreases-node_value
decreases-node_value l = 8 * depth_at l.scope.now l.node.now

abbrev pub decreases-unary : goal.decreases-unary
decreases-unary l = 8 * depth_of l.scope.now l.operand + 2

abbrev pub decreases-converted : goal.decreases-converted
decreases-converted l = 8 * depth_of l.scope.now l.operand + 2

abbrev pub decreases-binary : goal.decreases-binary
decreases-binary l = 8 * (depth_of l.scope.now l.left + depth_of l.scope.now l.right) + 5

abbrev pub decreases-helped : goal.decreases-helped
decreases-helped l = 8 * (depth_of l.scope.now l.left + depth_of l.scope.now l.right) + 4

abbrev pub decreases-plain : goal.decreases-plain
decreases-plain l = 8 * (depth_of l.scope.now l.left + depth_of l.scope.now l.right) + 4

abbrev pub decreases-swapped : goal.decreases-swapped
decreases-swapped l = 8 * (depth_of l.scope.now l.left + depth_of l.scope.now l.right) + 4

abbrev pub decreases-where_true : goal.decreases-where_true
decreases-where_true l = 8 * (depth_of l.scope.now l.left + depth_of l.scope.now l.right) + 4

abbrev pub decreases-where_false : goal.decreases-where_false
decreases-where_false l = 8 * (depth_of l.scope.now l.left + depth_of l.scope.now l.right) + 4

abbrev pub decreases-where_open : goal.decreases-where_open
decreases-where_open l = 8 * depth_of l.scope.now l.right + 3

abbrev pub decreases-assigned : goal.decreases-assigned
decreases-assigned l = 8 * depth_of l.scope.now l.right + 2

abbrev pub decreases-intrinsic : goal.decreases-intrinsic
decreases-intrinsic l = 8 * total (map (depth_of l.scope.now) l.arguments.now) + 3

abbrev pub decreases-each_value : goal.decreases-each_value
decreases-each_value l = 8 * total (map (depth_of l.scope.now) l.arguments.now) + 2

-- the values that were computed, and what is left to compute
abbrev pub invariant-each_value-loop-place : goal.invariant-each_value-loop-place
invariant-each_value-loop-place l =
    from l.fn.writer (each_value (location l.here) (map (expression_of l.scope) l.arguments)) ≡ behind_values l.values (from l.writer (each_value (location l.here) (map (expression_of l.scope) (drop l.place l.arguments))))

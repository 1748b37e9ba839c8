use Rattle.std.proofs.Common.{◌≡◌, ◌≤◌, ◌+◌, ◌*◌, drop}
use Rattle.c_printer.specs.Chains.{all_closed, chosen_by}
use Rattle.c_printer.specs.Laid.{body_of}
use Rattle.c_printer.specs.Writing.{from}
use Rattle.c_printer.proofs.StatementDepths.{depth_of, depths_of, depth_at}
use Rattle.c_printer.proofs.statements.+statements.Given as goal

-- a part is not as deep as what it is part of
abbrev pub decreases-statements : goal.decreases-statements
decreases-statements l = 16 * depths_of l.scope.now l.ids.now + 2

abbrev pub decreases-statement : goal.decreases-statement
decreases-statement l = 16 * depth_of l.scope.now l.id + 1

abbrev pub decreases-node : goal.decreases-node
decreases-node l = 16 * depth_at l.scope.now l.node.now

abbrev pub decreases-in_block : goal.decreases-in_block
decreases-in_block l = 16 * depths_of l.scope.now l.ids.now + 3

abbrev pub decreases-open_arm : goal.decreases-open_arm
decreases-open_arm l = 16 * depths_of l.scope.now l.choice.then_block.now + 3

abbrev pub decreases-chain : goal.decreases-chain
decreases-chain l = 16 * (depths_of l.scope.now l.choice.then_block.now + depths_of l.scope.now l.choice.else_block.now) + 4

abbrev pub decreases-turn : goal.decreases-turn
decreases-turn l = 16 * depths_of l.scope.now l.body.now + 4

abbrev pub decreases-while_loop : goal.decreases-while_loop
decreases-while_loop l = 16 * depths_of l.scope.now l.body.now + 6

abbrev pub decreases-counted_turns : goal.decreases-counted_turns
decreases-counted_turns l = 16 * depths_of l.scope.now l.body.now + 5

abbrev pub decreases-counted_loop : goal.decreases-counted_loop
decreases-counted_loop l = 16 * depths_of l.scope.now l.body.now + 6

-- what is left to be done
abbrev pub invariant-statements-loop-id : goal.invariant-statements-loop-id
invariant-statements-loop-id l = from l.fn.writer (body_of l.scope l.ids l.source) ≡ from l.writer (body_of l.scope (drop l.id-index l.ids) l.source)

-- the arms that are open, and the else part that is left to be written, which is less deep than the whole
abbrev pub invariant-chain-loop-inner : goal.invariant-chain-loop-inner
invariant-chain-loop-inner l =
    (from l.fn.writer (chosen_by l.scope l.fn.choice l.source) ≡ all_closed l.arms (from l.writer (body_of l.scope l.rest l.source)))
    × (depths_of l.scope l.rest ≤ depths_of l.scope l.fn.choice.else_block.now)

abbrev pub decreases-chain-loop-inner : goal.decreases-chain-loop-inner
decreases-chain-loop-inner l = depths_of l.scope l.rest

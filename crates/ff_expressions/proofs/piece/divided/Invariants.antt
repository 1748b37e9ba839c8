use Rattle.std.proofs.Common.{◌≡◌, ◌++◌, length}
use Rattle.ff_expressions.specs.Pieces.{pieces_from, pieces_of}
use Rattle.ff_expressions.proofs.piece.divided.Given as goal

abbrev pub invariant-loop-item : goal.invariant-loop-item
invariant-loop-item l = l.done ++ pieces_from l.mark l.piece l.items ≡ pieces_of l.mark l.fn.items

abbrev pub decreases-loop-item : goal.decreases-loop-item
decreases-loop-item l = length l.items

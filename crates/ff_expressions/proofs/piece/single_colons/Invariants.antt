use Rattle.std.proofs.Common.{◌≡◌, ◌++◌, length}
use Rattle.ff_expressions.specs.Pieces.{single_colons}
use Rattle.ff_expressions.proofs.piece.single_colons.Given as goal

abbrev pub invariant-loop-item : goal.invariant-loop-item
invariant-loop-item l = l.done ++ single_colons l.items ≡ single_colons l.fn.items

abbrev pub decreases-loop-item : goal.decreases-loop-item
decreases-loop-item l = length l.items

use Rattle.std.proofs.Common.{◌≡◌, length}
use Rattle.ff_expressions.specs.Pieces.{each, behind}
use Rattle.ff_expressions.specs.Items.{part_of}
use Rattle.ff_expressions.proofs.part.parts_in.Given as goal

abbrev pub invariant-loop-piece : goal.invariant-loop-piece
invariant-loop-piece l = behind l.done (each part_of l.pieces) ≡ each part_of l.fn.pieces

abbrev pub decreases-loop-piece : goal.decreases-loop-piece
decreases-loop-piece l = length l.pieces

use Rattle.std.proofs.Common.{◌≡◌, length}
use Rattle.ff_forms.specs.Answers.{each}
use Rattle.ff_forms.specs.Shapes.{output_in}
use Rattle.ff_forms.proofs.Lists.{ahead}
use Rattle.ff_forms.proofs.output.each_output.Given as goal

abbrev pub invariant-loop-piece : goal.invariant-loop-piece
invariant-loop-piece l = ahead l.list l.depth (each output_in l.pieces) ≡ each output_in l.fn.pieces

abbrev pub decreases-loop-piece : goal.decreases-loop-piece
decreases-loop-piece l = length l.pieces

use Rattle.std.proofs.Common.{◌≡◌, length}
use Rattle.ff_forms.specs.Answers.{each}
use Rattle.ff_forms.specs.Types.{attribute_of}
use Rattle.ff_forms.proofs.Lists.{ahead}
use Rattle.ff_forms.proofs.declarations.each_attribute.Given as goal

abbrev pub invariant-loop-piece : goal.invariant-loop-piece
invariant-loop-piece l = ahead l.attributes l.depth (each attribute_of l.pieces) ≡ each attribute_of l.fn.pieces

abbrev pub decreases-loop-piece : goal.decreases-loop-piece
decreases-loop-piece l = length l.pieces

use Rattle.std.proofs.Common.{◌≡◌, length}
use Rattle.ff_forms.specs.Answers.{each}
use Rattle.ff_forms.specs.Declarations.{entity_of}
use Rattle.ff_forms.proofs.Lists.{ahead}
use Rattle.ff_forms.proofs.declarations.each_entity.Given as goal

abbrev pub invariant-loop-piece : goal.invariant-loop-piece
invariant-loop-piece l = ahead l.entities l.depth (each (entity_of l.may) l.pieces) ≡ each (entity_of l.may) l.fn.pieces

abbrev pub decreases-loop-piece : goal.decreases-loop-piece
decreases-loop-piece l = length l.pieces

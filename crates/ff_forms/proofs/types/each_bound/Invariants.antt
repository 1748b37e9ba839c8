use Rattle.std.proofs.Common.{◌≡◌, length}
use Rattle.ff_forms.specs.Answers.{each}
use Rattle.ff_forms.specs.Types.{bound_of}
use Rattle.ff_forms.proofs.Lists.{ahead}
use Rattle.ff_forms.proofs.types.each_bound.Given as goal

abbrev pub invariant-loop-part : goal.invariant-loop-part
invariant-loop-part l = ahead l.bounds l.depth (each bound_of l.parts) ≡ each bound_of l.fn.parts

abbrev pub decreases-loop-part : goal.decreases-loop-part
decreases-loop-part l = length l.parts

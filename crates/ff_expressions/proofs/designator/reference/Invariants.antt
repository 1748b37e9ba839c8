use Rattle.std.proofs.Common.{◌≡◌, length}
use Rattle.ff_expressions.specs.Expressions.{designator_behind, reference_of}
use Rattle.ff_expressions.proofs.designator.reference.Given as goal

abbrev pub invariant-loop-item : goal.invariant-loop-item
invariant-loop-item l = designator_behind l.due l.reference l.items ≡ reference_of l.fn.items

abbrev pub decreases-loop-item : goal.decreases-loop-item
decreases-loop-item l = length l.items

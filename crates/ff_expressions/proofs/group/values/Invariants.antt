use Rattle.std.proofs.Common.{◌≡◌, length}
use Rattle.ff_expressions.specs.Expressions.{values_behind, values_of}
use Rattle.ff_expressions.proofs.group.values.Given as goal

abbrev pub invariant-loop-part : goal.invariant-loop-part
invariant-loop-part l = values_behind l.role l.values l.parts ≡ values_of l.role l.fn.parts

abbrev pub decreases-loop-part : goal.decreases-loop-part
decreases-loop-part l = length l.parts

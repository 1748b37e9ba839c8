use Rattle.std.proofs.Common.{◌≡◌, length}
use Rattle.ff_expressions.specs.Expressions.{loop_behind, loop_of}
use Rattle.ff_expressions.proofs.primary.loop_of.Given as goal

abbrev pub invariant-loop-part : goal.invariant-loop-part
invariant-loop-part l = loop_behind l.items l.parts ≡ loop_of l.fn.parts

abbrev pub decreases-loop-part : goal.decreases-loop-part
decreases-loop-part l = length l.parts

use Rattle.std.proofs.Common.{◌≡◌, length}
use Rattle.ff_expressions.specs.Pieces.{each, behind}
use Rattle.ff_expressions.specs.Expressions.{plain}
use Rattle.ff_expressions.proofs.group.plains.Given as goal

abbrev pub invariant-loop-part : goal.invariant-loop-part
invariant-loop-part l = behind l.values (each plain l.parts) ≡ each plain l.fn.parts

abbrev pub decreases-loop-part : goal.decreases-loop-part
decreases-loop-part l = length l.parts

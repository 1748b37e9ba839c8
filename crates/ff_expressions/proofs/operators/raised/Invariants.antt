use Rattle.std.proofs.Common.{◌≡◌, length}
use Rattle.ff_expressions.specs.Expressions.{raised}
use Rattle.ff_expressions.proofs.operators.raised.Given as goal

abbrev pub invariant-loop-base : goal.invariant-loop-base
invariant-loop-base l = raised l.bases l.value ≡ raised l.fn.bases l.fn.exponent

abbrev pub decreases-loop-base : goal.decreases-loop-base
decreases-loop-base l = length l.bases

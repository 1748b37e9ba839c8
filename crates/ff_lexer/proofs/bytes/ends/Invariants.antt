use Rattle.std.proofs.Common.{◌≡◌, length}
use Rattle.ff_lexer.specs.Bytes.{ends}
use Rattle.ff_lexer.proofs.bytes.ends.Given as goal

abbrev pub invariant-loop-rest : goal.invariant-loop-rest
invariant-loop-rest l = ends l.context l.rest ≡ ends l.context l.bytes

abbrev pub decreases-loop-rest : goal.decreases-loop-rest
decreases-loop-rest l = length l.rest

use Rattle.std.proofs.Common.{◌≡◌, drop}
use Rattle.ff_expressions.specs.Signs.{suffix_of}
use Rattle.ff_expressions.proofs.spelling.suffix.Given as goal

abbrev pub invariant-loop-at : goal.invariant-loop-at
invariant-loop-at l = suffix_of (drop l.at l.bytes) ≡ suffix_of l.bytes

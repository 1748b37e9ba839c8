use Rattle.std.proofs.Common.{◌≡◌, ◌++◌, drop}
use Rattle.ff_expressions.specs.Signs.{digits_of}
use Rattle.ff_expressions.proofs.spelling.digits.Given as goal

abbrev pub invariant-loop-byte : goal.invariant-loop-byte
invariant-loop-byte l = l.digits ++ digits_of (drop l.byte-index l.bytes) ≡ digits_of l.bytes

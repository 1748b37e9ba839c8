use Rattle.std.proofs.Common.{◌≡◌, ◌+◌, length, take, drop, ◌++◌}
use Rattle.ff_lexer.specs.Reads.{first_line}
use Rattle.ff_lexer.proofs.reader.line_length.Given as goal

abbrev pub invariant-loop-rest : goal.invariant-loop-rest
invariant-loop-rest l = record {
  left : first_line l.bytes ≡ take l.count l.bytes ++ first_line l.rest;
  rest : l.rest ≡ drop l.count l.bytes;
  size : l.count + length l.rest ≡ length l.bytes;
}

abbrev pub decreases-loop-rest : goal.decreases-loop-rest
decreases-loop-rest l = length l.rest

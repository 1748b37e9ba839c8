use Rattle.std.proofs.Common.{◌≡◌, ◌+◌, length}
use Rattle.ff_lexer.specs.Lines.{behind_blanks}
use Rattle.ff_lexer.proofs.reader.behind_blanks.Given as goal

abbrev pub invariant-loop-byte : goal.invariant-loop-byte
invariant-loop-byte l = record {
  left : behind_blanks l.at l.rest ≡ behind_blanks l.start l.whole;
  size : l.at + length l.rest ≡ l.start + length l.whole;
}

abbrev pub decreases-loop-byte : goal.decreases-loop-byte
decreases-loop-byte l = length l.rest

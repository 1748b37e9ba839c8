use Rattle.std.proofs.Common.{◌≡◌, ◌+◌, ◌<◌, ◌^◌, List, length}
use Rattle.ff_lexer.specs.Lines.{Draft, on_rest}
use Rattle.ff_lexer.specs.Reads.{draft, left}
use Rattle.ff_lexer.proofs.reader.Reader.read_rest.Given as goal

abbrev pub invariant-loop-byte : goal.invariant-loop-byte
invariant-loop-byte l = record {
  left : (more : Draft → List Draft) → left l.self (on_rest l.fn.self.line (draft l.self) l.at l.rest more) ≡ left l.fn.self (on_rest l.fn.self.line (draft l.fn.self) l.fn.at l.bytes more);
  at : l.at + length l.rest < 2 ^ 24;
  line : l.self.line ≡ l.fn.self.line;
}

abbrev pub decreases-loop-byte : goal.decreases-loop-byte
decreases-loop-byte l = length l.rest

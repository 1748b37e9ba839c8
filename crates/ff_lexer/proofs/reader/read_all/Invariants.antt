use Rattle.std.proofs.Common.{◌≡◌, ◌+◌, ◌≤◌, length}
use Rattle.ff_lexer.specs.Lines.{lines_from, statements_from}
use Rattle.ff_lexer.specs.Reads.{draft, left}
use Rattle.ff_lexer.specs.Spans.{token_as}
use Rattle.ff_lexer.specs.Statements.{drafts_of, found_in}
use Rattle.ff_lexer.proofs.reader.read_all.Given as goal

abbrev pub invariant-loop-rest : goal.invariant-loop-rest
invariant-loop-rest l = record {
  left : left l.reader (statements_from l.reader.line (draft l.reader) (lines_from l.at l.rest)) ≡ found_in token_as (drafts_of l.source);
  at : l.at + length l.rest ≡ length l.source;
  line : l.reader.line ≤ l.at + 1;
}

abbrev pub decreases-loop-rest : goal.decreases-loop-rest
decreases-loop-rest l = length l.rest

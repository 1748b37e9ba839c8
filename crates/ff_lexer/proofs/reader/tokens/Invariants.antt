use Rattle.std.proofs.Common.{◌≡◌, ◌≤◌, [], length}
use Rattle.ff_lexer.specs.Lexemes.{so_far, both, tokens_behind}
use Rattle.ff_lexer.specs.Spans.{token_as}
use Rattle.ff_lexer.proofs.reader.tokens.Given as goal

abbrev pub invariant-loop-first : goal.invariant-loop-first
invariant-loop-first l = record {
  left : both (so_far l.tokens.items l.fault) (tokens_behind token_as 0 l.rest) ≡ both (so_far [] l.fn.fault) (tokens_behind token_as 0 l.text);
  size : length l.rest ≤ length l.text;
}

abbrev pub decreases-loop-first : goal.decreases-loop-first
decreases-loop-first l = length l.rest

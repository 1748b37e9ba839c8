use Rattle.std.proofs.Common.{◌≡◌, ◌+◌, drop}
use Rattle.ff_lexer.specs.Bytes.{is_letter}
use Rattle.ff_lexer.specs.Lexemes.{front}
use Rattle.ff_lexer.proofs.lexeme.letters.Given as goal

abbrev pub invariant-loop-placed : goal.invariant-loop-placed
invariant-loop-placed l = record {
  count : l.count ≡ l.placed-index;
  left : front is_letter l.bytes ≡ l.count + front is_letter (drop l.placed-index l.bytes);
}

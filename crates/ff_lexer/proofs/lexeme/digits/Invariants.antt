use Rattle.std.proofs.Common.{◌≡◌, ◌+◌, drop}
use Rattle.ff_lexer.specs.Bytes.{is_digit}
use Rattle.ff_lexer.specs.Lexemes.{front}
use Rattle.ff_lexer.proofs.lexeme.digits.Given as goal

abbrev pub invariant-loop-placed : goal.invariant-loop-placed
invariant-loop-placed l = record {
  count : l.count ≡ l.placed-index;
  left : front is_digit l.bytes ≡ l.count + front is_digit (drop l.placed-index l.bytes);
}

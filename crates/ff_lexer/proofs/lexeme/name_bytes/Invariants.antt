use Rattle.std.proofs.Common.{◌≡◌, ◌+◌, drop}
use Rattle.ff_lexer.specs.Bytes.{is_name_byte}
use Rattle.ff_lexer.specs.Lexemes.{front}
use Rattle.ff_lexer.proofs.lexeme.name_bytes.Given as goal

abbrev pub invariant-loop-placed : goal.invariant-loop-placed
invariant-loop-placed l = record {
  count : l.count ≡ l.placed-index;
  left : front is_name_byte l.bytes ≡ l.count + front is_name_byte (drop l.placed-index l.bytes);
}

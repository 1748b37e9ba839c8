use Rattle.std.proofs.Common.{◌≡◌, drop, false}
use Rattle.ff_lexer.specs.Lexemes.{constant}
use Rattle.ff_lexer.proofs.lexeme.constant.Given as goal

abbrev pub invariant-loop-placed : goal.invariant-loop-placed
invariant-loop-placed l = record {
  more : l.more ≡ l.placed-index;
  left : constant l.delimiter l.may_be_over l.more (drop l.placed-index l.bytes) ≡ constant l.delimiter false 0 l.bytes;
}

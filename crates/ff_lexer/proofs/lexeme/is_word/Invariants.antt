use Rattle.std.proofs.Common.{◌≡◌, length}
use Rattle.ff_lexer.specs.Lexemes.{is_word}
use Rattle.ff_lexer.proofs.lexeme.is_word.Given as goal

abbrev pub invariant-loop-letters : goal.invariant-loop-letters
invariant-loop-letters l = is_word l.letters l.rest ≡ is_word l.word l.bytes

abbrev pub decreases-loop-letters : goal.decreases-loop-letters
decreases-loop-letters l = length l.letters

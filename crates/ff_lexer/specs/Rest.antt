-- What is left of a token's bytes.
use Rattle.std.specs.Prelude.{ℕ, Bool, false, not, List, if◌then◌else◌, ◌==◌}
use Rattle.ff_lexer.specs.declared.unbroken.Reading.{Reading}
use Rattle.ff_lexer.specs.declared.unbroken.Reading.TheVariants as reading
use Rattle.ff_lexer.specs.declared.unbroken.Spelled.{Spelled}
use Rattle.ff_lexer.specs.Bytes.{behind, is_continued}
use Rattle.ff_lexer.specs.Spans.{at_front, unbroken}
use Rattle.ff_lexer.specs.Statements.{written}

abbrev pub next_reading : Reading → ℕ → List ℕ → Reading
next_reading (reading.Body context) b bs = if is_continued context b bs then reading.Tail context else reading.Body (behind context b)
next_reading (reading.Tail context) b bs = if b == 10 then reading.Front context else reading.Tail context
next_reading (reading.Front context) b bs = at_front context b bs

abbrev pub is_told : Reading → ℕ → List ℕ → Bool
is_told (reading.Body context) b bs = not (is_continued context b bs)
is_told (reading.Tail context) b bs = false
is_told (reading.Front context) b bs = false

abbrev pub spelling_left : Spelled → List ℕ
spelling_left s = written s.kind (unbroken s.left s.reading s.bytes.now)

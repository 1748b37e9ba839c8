-- How the lines of a source and their statements are written (ISO/IEC 1539-1:2018, 6.3.2), said without reading them.
use Rattle.std.specs.Prelude.{◌≡◌, ◌⊎◌, ℕ, ◌+◌, Bool, true, false, List, [], ◌∷◌, ◌++◌, length, map, ◌==◌, ◌&&◌, ◌||◌}
use Rattle.std.specs.List.{list_all, list_any}
use Rattle.ff_lexer.specs.declared.bytes.Context.{Context}
use Rattle.ff_lexer.specs.declared.bytes.Context.TheVariants.{Code}
use Rattle.ff_lexer.specs.declared.lexeme.Placed.{Placed}
use Rattle.ff_lexer.specs.Bytes.{is_blank, is_code, behind}
use Rattle.ff_lexer.specs.Lines.{Line, placed, Body, Draft, fresh, begins, Taken, earlier}
use Rattle.ff_lexer.specs.Statements.{byte_of}

-- what ends a line: a newline, or a carriage return and a newline
pub data LineEnd : Type 0 where
  Newline : LineEnd
  ReturnNewline : LineEnd

abbrev pub end_bytes : LineEnd → List ℕ
end_bytes LineEnd.Newline = 10 ∷ []
end_bytes LineEnd.ReturnNewline = 13 ∷ 10 ∷ []

-- a line, and what ends it
abbrev pub Ended : Type 0
Ended = List ℕ × LineEnd

abbrev pub ended_bytes : Ended → List ℕ
ended_bytes line = line.0 ++ end_bytes line.1

-- the text of lines that end, and of a last one that does not
abbrev pub text_of : List Ended → List ℕ → List ℕ
text_of [] last = last
text_of (line ∷ lines) last = ended_bytes line ++ text_of lines last

-- the byte is among these
abbrev pub holds : ℕ → List ℕ → Bool
holds byte [] = false
holds byte (b ∷ bs) = b == byte || holds byte bs

-- the byte is the last of these
abbrev pub closes_with : ℕ → List ℕ → Bool
closes_with byte [] = false
closes_with byte (b ∷ []) = b == byte
closes_with byte (b ∷ c ∷ bs) = closes_with byte (c ∷ bs)

-- A carriage return in front of a newline belongs to the end.
abbrev pub Fits : LineEnd → List ℕ → Type 0
Fits LineEnd.Newline bytes = closes_with 13 bytes ≡ false
Fits LineEnd.ReturnNewline bytes = Unit {0}

-- A line holds no newline.
abbrev pub AreLines : List Ended → List ℕ → Type 0
AreLines [] last = holds 10 last ≡ false
AreLines (line ∷ lines) last = (holds 10 line.0 ≡ false) × Fits line.1 line.0 × AreLines lines last

-- Each line without its end, behind the place where it begins. A last line without bytes is none.
abbrev pub lines_at : ℕ → List Ended → List ℕ → List Line
lines_at at [] [] = []
lines_at at [] (b ∷ bs) = (at, b ∷ bs) ∷ []
lines_at at (line ∷ lines) last = (at, line.0) ∷ lines_at (at + length (ended_bytes line)) lines last

-- The text that begins at this place has these lines.
pub record HasLines (at : ℕ) (text : List ℕ) (lines : List Line) : Type 0 where
  pub ended : List Ended
  pub last : List ℕ
  pub are_lines : AreLines ended last
  pub text_is : text ≡ text_of ended last
  pub lines_are : lines ≡ lines_at at ended last

-- where the byte behind these stands
abbrev pub behind_all : Context → List ℕ → Context
behind_all context [] = context
behind_all context (b ∷ bs) = behind_all (behind context b) bs

-- A comment goes from a `!` outside character constants to the end of its line (6.3.2.3).
abbrev pub IsComment : Context → List ℕ → Type 0
IsComment context [] = ⊥
IsComment context (b ∷ bs) = (b ≡ 33) × (context ≡ Code)

-- blanks alone, or blanks and a comment
pub record IsBlank (context : Context) (bytes : List ℕ) : Type 0 where
  pub blanks : List ℕ
  pub rest : List ℕ
  pub are_blanks : list_all is_blank blanks ≡ true
  pub rest_is : (rest ≡ []) ⊎ IsComment context rest
  pub bytes_are : bytes ≡ blanks ++ rest

-- An `&` continues its line if nothing else is behind it (6.3.2.4).
abbrev pub IsContinued : Context → List ℕ → Type 0
IsContinued context [] = ⊥
IsContinued context (b ∷ bs) = (b ≡ 38) × IsBlank context bs

-- What stands behind the body of a line: the `&` with which it goes on, or else a comment or nothing.
abbrev pub IsRest : Context → Bool → List ℕ → Type 0
IsRest context true rest = IsContinued context rest
IsRest context false rest = (rest ≡ []) ⊎ IsComment context rest

-- Neither a comment nor an `&` that continues the line begins in the body, behind which this rest stands.
abbrev pub NoneCuts : Context → List ℕ → List ℕ → Type 0
NoneCuts context [] rest = Unit {0}
NoneCuts context (b ∷ bs) rest = ((IsComment context (b ∷ bs ++ rest) ⊎ IsContinued context (b ∷ bs ++ rest)) → ⊥) × NoneCuts (behind context b) bs rest

-- bytes with their places, from this one on
abbrev pub placed_from : ℕ → List ℕ → List Placed
placed_from at [] = []
placed_from at (b ∷ bs) = placed at b ∷ placed_from (at + 1) bs

-- The line, whose first byte stands here, is a body and what cuts it off.
pub record IsCut (context : Context) (at : ℕ) (line : List ℕ) (body : Body) : Type 0 where
  pub bytes : List ℕ
  pub rest : List ℕ
  pub none_cuts : NoneCuts context bytes rest
  pub rest_is : IsRest (behind_all context bytes) body.1 rest
  pub line_is : line ≡ bytes ++ rest
  pub body_is : body.0 ≡ placed_from at bytes

-- A `;` outside character constants ends a statement that has begun (6.3.2.5).
abbrev pub ends_statement : Context → Bool → ℕ → Bool
ends_statement context has_begun byte = byte == 59 && is_code context && has_begun

-- None of these bytes ends a statement.
abbrev pub NoneEnds : Context → Bool → List Placed → Type 0
NoneEnds context has_begun [] = Unit {0}
NoneEnds context has_begun (b ∷ bs) = (ends_statement context has_begun b.byte ≡ false) × NoneEnds (behind context b.byte) (has_begun || begins b.byte) bs

-- None of these bytes ends a statement, and the byte behind them does.
abbrev pub EndsAt : Context → Bool → List Placed → ℕ → Type 0
EndsAt context has_begun [] byte = ends_statement context has_begun byte ≡ true
EndsAt context has_begun (b ∷ bs) byte = (ends_statement context has_begun b.byte ≡ false) × EndsAt (behind context b.byte) (has_begun || begins b.byte) bs byte

-- the bytes of a statement, and the `;` that ends it
abbrev pub Segment : Type 0
Segment = List Placed × Placed

-- The first piece goes on with a statement of which this is known, and the others begin one.
abbrev pub AreSplit : Context → Bool → List Segment → List Placed → Type 0
AreSplit context has_begun [] last = NoneEnds context has_begun last
AreSplit context has_begun (piece ∷ pieces) last = EndsAt context has_begun piece.0 piece.1.byte × AreSplit Code false pieces last

-- the body that the pieces make, and what the last `;` stands in front of
abbrev pub body_with : List Segment → List Placed → List Placed
body_with [] last = last
body_with (piece ∷ pieces) last = piece.0 ++ piece.1 ∷ body_with pieces last

-- a statement with more of its bytes
abbrev pub longer : Draft → List Placed → Draft
longer d bytes =
    record {
      line = d.line;
      text = d.text ++ bytes;
      context = behind_all d.context (map byte_of bytes);
      has_begun = d.has_begun || list_any begins (map byte_of bytes);
      continuations = d.continuations;
      fault = d.fault;
    }

-- the statements of which these are the bytes, the open one and others that begin on this line
abbrev pub statements_with : ℕ → Draft → List Segment → List Placed → Taken
statements_with line d [] last = ([], longer d last)
statements_with line d (piece ∷ pieces) last = earlier (longer d piece.0) (statements_with line (fresh line) pieces last)

-- Behind an open statement the body of this line has these statements.
pub record HasStatements (line : ℕ) (open_one : Draft) (body : List Placed) (statements : Taken) : Type 0 where
  pub pieces : List Segment
  pub last : List Placed
  pub are_split : AreSplit open_one.context open_one.has_begun pieces last
  pub body_is : body ≡ body_with pieces last
  pub statements_are : statements ≡ statements_with line open_one pieces last

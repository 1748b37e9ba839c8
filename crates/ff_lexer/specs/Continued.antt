-- How statements go on from line to line (ISO/IEC 1539-1:2018, 6.3.2.4), said without reading the lines.
use Rattle.std.specs.Prelude.{◌≡◌, ℕ, ◌+◌, Bool, true, false, List, [], ◌∷◌, ◌++◌, length}
use Rattle.std.specs.List.{list_all}
use Rattle.lf_base.specs.declared.rule.Rule.TheVariants.{E106}
use Rattle.ff_lexer.specs.Bytes.{is_blank}
use Rattle.ff_lexer.specs.Lines.{Line, Body, Draft, fresh, broken, measured, continued, parted, Taken}
use Rattle.ff_lexer.specs.Written.{HasLines, IsBlank, IsCut, HasStatements}

-- what the lines behind give, where this is the open statement
abbrev pub Onward : Type 1
Onward = Draft → List Draft → Type 0

-- The end of a line with these statements, where the line goes on or not.
pub data AtEnd (line : ℕ) (statements : Taken) (onward : Onward) (drafts : List Draft) : Bool → Type 0 where
  Ends : (more : List Draft) → onward (fresh (line + 1)) more → drafts ≡ statements.0 ++ statements.1 ∷ more → AtEnd line statements onward drafts false
  GoesOn : (more : List Draft) → statements.1.has_begun ≡ true → onward statements.1 more → drafts ≡ statements.0 ++ more → AtEnd line statements onward drafts true
  -- an `&` with which nothing goes on is at fault
  NothingGoesOn : (more : List Draft) → statements.1.has_begun ≡ false → onward (fresh (line + 1)) more → drafts ≡ statements.0 ++ broken E106 statements.1 ∷ more → AtEnd line statements onward drafts true

-- The rest of a line, from this place on, behind an open statement.
pub record IsRead (line : ℕ) (open_one : Draft) (at : ℕ) (bytes : List ℕ) (onward : Onward) (drafts : List Draft) : Type 0 where
  pub body : Body
  pub statements : Taken
  pub cut : IsCut open_one.context at bytes body
  pub split : HasStatements line open_one body.0 statements
  pub end : AtEnd line statements onward drafts body.1

-- the leading blanks of a line, and what follows them
pub record Indented (line rest : List ℕ) : Type 0 where
  pub blanks : List ℕ
  pub are_blanks : list_all is_blank blanks ≡ true
  pub line_is : line ≡ blanks ++ rest

-- A line behind the statement that is open, which has begun if the line in front goes on.
pub data OnLine (line : ℕ) (open_one : Draft) (whole : Line) (onward : Onward) (drafts : List Draft) : Type 0 where
  -- no statement goes on
  Begins : open_one.has_begun ≡ false → IsRead line open_one whole.0 whole.1 onward drafts → OnLine line open_one whole onward drafts
  -- an empty line and a comment are passed
  Empty : open_one.has_begun ≡ true → Indented whole.1 [] → onward open_one drafts → OnLine line open_one whole onward drafts
  Comment : open_one.has_begun ≡ true → (text : List ℕ) → Indented whole.1 (33 ∷ text) → onward open_one drafts → OnLine line open_one whole onward drafts
  -- an `&` alone is at fault
  Alone : open_one.has_begun ≡ true → (rest : List ℕ) → Indented whole.1 (38 ∷ rest) → IsBlank open_one.context rest → onward (broken E106 (continued open_one)) drafts → OnLine line open_one whole onward drafts
  -- behind another `&` the statement goes on, within a character constant too
  Marked : open_one.has_begun ≡ true → (rest : List ℕ) (indent : Indented whole.1 (38 ∷ rest)) → (IsBlank open_one.context rest → ⊥) → IsRead line (continued open_one) (whole.0 + length indent.blanks + 1) rest onward drafts → OnLine line open_one whole onward drafts
  -- without an `&` it goes on with the whole line, as behind a blank
  Unmarked : open_one.has_begun ≡ true → (b : ℕ) (rest : List ℕ) → Indented whole.1 (b ∷ rest) → is_blank b ≡ false → (b ≡ 33 → ⊥) → (b ≡ 38 → ⊥) → IsRead line (parted whole.0 (continued open_one)) whole.0 whole.1 onward drafts → OnLine line open_one whole onward drafts

-- Behind the last line an open statement lacks its end.
pub data Left (open_one : Draft) (drafts : List Draft) : Type 0 where
  Nothing : open_one.has_begun ≡ false → drafts ≡ [] → Left open_one drafts
  Unended : open_one.has_begun ≡ true → drafts ≡ broken E106 open_one ∷ [] → Left open_one drafts

-- The lines, of which the first has this number, give these statements behind the open one.
abbrev pub AreStatements : ℕ → Draft → List Line → List Draft → Type 0
AreStatements line open_one [] drafts = Left open_one drafts
AreStatements line open_one (whole ∷ lines) drafts = OnLine line (measured whole.1 open_one) whole (λ next more. AreStatements (line + 1) next lines more) drafts

-- A text has these statements: those of its lines.
pub record HasDrafts (text : List ℕ) (drafts : List Draft) : Type 0 where
  pub lines : List Line
  pub has_lines : HasLines 0 text lines
  pub are_statements : AreStatements 1 (fresh 1) lines drafts

-- What the lines of a source hold: the bytes in character constants, and those outside that are neither blanks nor a `;`,
-- of each line up to its comment or to the `&` with which it goes on (ISO/IEC 1539-1:2018, 6.3.2.3 to 6.3.2.5).
use Rattle.std.specs.Prelude.{ℕ, ◌+◌, Bool, true, List, [], ◌∷◌, ◌++◌, map, if◌then◌else◌, ◌==◌}
use Rattle.ff_lexer.specs.declared.bytes.Context.{Context}
use Rattle.ff_lexer.specs.declared.bytes.Context.TheVariants.{Code}
use Rattle.ff_lexer.specs.Bytes.{ends}
use Rattle.ff_lexer.specs.Lines.{Line, Body, body_of, behind_blanks}
use Rattle.ff_lexer.specs.Solid.{solid}
use Rattle.ff_lexer.specs.Statements.{Spelled, byte_of}
use Rattle.ff_lexer.specs.Written.{behind_all}

-- what the next lines hold, told whether the line in front of them goes on and where its last byte leaves off
abbrev pub Behind : Type 0
Behind = Bool → Context → List ℕ

abbrev pub body_holds : Context → Body → Behind → List ℕ
body_holds context body more = solid context body.0 ++ more body.1 (behind_all context (map byte_of body.0))

-- A line behind one that goes on, of which this is left behind its leading blanks: a comment and an `&` alone hold
-- nothing; behind another `&` a character constant goes on; without one it is read from its first byte on.
abbrev pub continuation_holds : Context → Line → ℕ → List ℕ → Behind → List ℕ
continuation_holds context line at [] more = more true context
continuation_holds context line at (b ∷ bs) more =
    if b == 33 then more true context
    else if b == 38 then (if ends context bs then more true context else body_holds context (body_of context (at + 1) bs) more)
    else body_holds Code (body_of Code line.0 line.1) more

abbrev pub line_holds : Bool → Context → Line → Behind → List ℕ
line_holds goes_on context line more =
    if goes_on then continuation_holds context line (behind_blanks line.0 line.1).0 (behind_blanks line.0 line.1).1 more
    else body_holds Code (body_of Code line.0 line.1) more

-- The first of the lines goes on what is in front of it, or not.
abbrev pub lines_hold : Bool → Context → List Line → List ℕ
lines_hold goes_on context [] = []
lines_hold goes_on context (line ∷ lines) = line_holds goes_on context line (λ goes_on context. lines_hold goes_on context lines)

-- the tokens of statements
abbrev pub tokens_in : {T : Type 0} → List (ℕ × List T) → List T
tokens_in [] = []
tokens_in (statement ∷ statements) = statement.1 ++ tokens_in statements

-- the bytes of tokens, one behind the other
abbrev pub spelled_text : List Spelled → List ℕ
spelled_text [] = []
spelled_text (token ∷ tokens) = token.1 ++ spelled_text tokens

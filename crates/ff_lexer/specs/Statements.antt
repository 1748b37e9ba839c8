-- The statements of a source (ISO/IEC 1539-1:2018, 6.2 and 6.3.2), or its first lexical fault.
use Rattle.std.specs.Prelude.{◌≡◌, ℕ, List, [], ◌∷◌, ◌++◌, map, length, Result, Ok, Err, if◌then◌else◌, nat_lt}
use Rattle.lf_base.specs.declared.rule.Rule.{Rule}
use Rattle.lf_base.specs.declared.rule.Rule.TheVariants.{E108}
use Rattle.ff_lexer.specs.declared.token.Kind.{Kind}
use Rattle.ff_lexer.specs.declared.token.Kind.TheVariants.{Word, Number, Text, Mark}
use Rattle.ff_lexer.specs.declared.lexeme.Placed.{Placed}
use Rattle.ff_lexer.specs.Bytes.{lowered}
use Rattle.ff_lexer.specs.Lexemes.{Made, Lexed, lexed}
use Rattle.ff_lexer.specs.Lines.{Draft, fresh, lines_from, statements_from}

-- the most bytes of a source
abbrev pub greatest_source : ℕ
greatest_source = 1048576

-- a token: what it is, and its bytes
abbrev pub Spelled : Type 0
Spelled = Kind × List ℕ

-- the letters of names are small ones
abbrev pub cased : Kind → ℕ → ℕ
cased Word byte = lowered byte
cased Number byte = byte
cased Text byte = byte
cased Mark byte = byte

abbrev pub written : Kind → List ℕ → List ℕ
written kind = map (cased kind)

abbrev pub byte_of : Placed → ℕ
byte_of b = b.byte

abbrev pub spelled_as : Made Spelled
spelled_as kind bytes = (kind, written kind (map byte_of bytes))

-- statements with their lines, or the line and the rule of the first fault
abbrev pub Found : Type 0 → Type 0
Found T = Result (List (ℕ × List T)) (ℕ × Rule)

abbrev pub ahead : {T : Type 0} → List (ℕ × List T) → Found T → Found T
ahead statements (Ok found) = Ok (statements ++ found)
ahead statements (Err fault) = Err fault

-- what a statement on this line gives, with what those behind it give: without a token it is none
abbrev pub told : {T : Type 0} → ℕ → Lexed T → Found T → Found T
told line (Err rule) rest = Err (line, rule)
told line (Ok []) rest = rest
told line (Ok (token ∷ tokens)) rest = ahead ((line, token ∷ tokens) ∷ []) rest

-- the statements in reading order, or the first of them that breaks a rule
abbrev pub found_in : {T : Type 0} → Made T → List Draft → Found T
found_in made [] = Ok []
found_in made (d ∷ ds) = told d.line (lexed made d) (found_in made ds)

abbrev pub drafts_of : List ℕ → List Draft
drafts_of text = statements_from 1 (fresh 1) (lines_from 0 text)

-- the statements of a text
abbrev pub statements_of : List ℕ → Found Spelled
statements_of text = if nat_lt greatest_source (length text) then Err (1, E108) else found_in spelled_as (drafts_of text)

-- This is the first lexical fault of the text: the line that is told, and the rule.
abbrev pub FaultOf : List ℕ → ℕ × Rule → Type 0
FaultOf text fault = statements_of text ≡ Err fault

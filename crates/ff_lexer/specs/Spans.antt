-- Where the tokens of a source lie in it, and what the answer of a scanner tells of the source.
use Rattle.std.specs.Prelude.{◌≡◌, ℕ, zero, suc, ◌-◌, ◌<◌, ◌≤◌, List, [], ◌∷◌, map, drop, Result, Ok, Err, if◌then◌else◌, ◌==◌}
use Rattle.lf_base.specs.declared.fault.LexFault.{LexFault}
use Rattle.lf_base.specs.declared.fault.LexFault.TheVariants.{At, Memory}
use Rattle.ff_lexer.specs.declared.bytes.Context.{Context}
use Rattle.ff_lexer.specs.declared.bytes.Context.TheVariants.{Code}
use Rattle.ff_lexer.specs.declared.lexeme.Placed.{Placed}
use Rattle.ff_lexer.specs.declared.unbroken.Reading.{Reading}
use Rattle.ff_lexer.specs.declared.unbroken.Reading.TheVariants as reading
use Rattle.ff_lexer.specs.declared.token.Token.{Token}
use Rattle.ff_lexer.specs.declared.token.Stmt.{Stmt}
use Rattle.ff_lexer.specs.Bytes.{behind, ends, is_continued}
use Rattle.ff_lexer.specs.Lexemes.{Made}
use Rattle.ff_lexer.specs.Statements.{Spelled, Found, written}

-- The bytes of a span without its continuations (ISO/IEC 1539-1:2018, 6.3.2.4). A continuation begins with an `&`
-- that ends its line, and goes on to the `&` in front of a line on which more stands; the lines between them are
-- blank, comments, or an `&` alone.
abbrev pub at_front : Context → ℕ → List ℕ → Reading
at_front context b bs =
    if b == 38 then (if ends context bs then reading.Tail context else reading.Body context)
    else if b == 33 then reading.Tail context
    else reading.Front context

-- of this many bytes of the source, from here on
abbrev pub unbroken : ℕ → Reading → List ℕ → List ℕ
unbroken zero at bs = []
unbroken (suc n) at [] = []
unbroken (suc n) (reading.Body context) (b ∷ bs) =
    if is_continued context b bs then unbroken n (reading.Tail context) bs else b ∷ unbroken n (reading.Body (behind context b)) bs
unbroken (suc n) (reading.Tail context) (b ∷ bs) = unbroken n (if b == 10 then reading.Front context else reading.Tail context) bs
unbroken (suc n) (reading.Front context) (b ∷ bs) = unbroken n (at_front context b bs) bs

-- a token as it is spelled in the source
abbrev pub spelled : List ℕ → Token → Spelled
spelled source token = (token.kind, written token.kind (unbroken (token.to - token.from) (reading.Body Code) (drop token.from source)))

-- the place behind the last byte, or else this one
abbrev pub end_of : ℕ → List Placed → ℕ
end_of place [] = place
end_of place (b ∷ bs) = end_of b.end bs

-- the place of the first byte
abbrev pub start_of : List Placed → ℕ
start_of [] = 0
start_of (b ∷ bs) = b.end - 1

abbrev pub token_as : Made Token
token_as kind bytes = record { kind = kind; from = start_of bytes; to = end_of 0 bytes }

-- a statement without where it lies in memory
abbrev pub view : Stmt → ℕ × List Token
view statement = (statement.line, statement.tokens.items)

abbrev pub views : List Stmt → List (ℕ × List Token)
views = map view

abbrev pub spelled_statement : List ℕ → ℕ × List Token → ℕ × List Spelled
spelled_statement source statement = (statement.0, map (spelled source) statement.1)

-- statements as they are spelled in the source
abbrev pub spelled_statements : List ℕ → List Stmt → List (ℕ × List Spelled)
spelled_statements source statements = map (spelled_statement source) (views statements)

-- The tokens lie between the two places, one behind the other, and none is empty.
abbrev pub TokensLie : ℕ → ℕ → List Token → Type 0
TokensLie low high [] = low ≤ high
TokensLie low high (token ∷ tokens) = (low ≤ token.from) × (token.from < token.to) × TokensLie token.to high tokens

-- The statements lie between the two places, one behind the other.
abbrev pub StatementsLie : ℕ → ℕ → List (ℕ × List Token) → Type 0
StatementsLie low high [] = low ≤ high
StatementsLie low high (statement ∷ statements) = (end : ℕ) × TokensLie low end statement.1 × StatementsLie end high statements

-- What was told is the fault, unless memory ran out.
abbrev pub Tells : {T : Type 0} → LexFault → Found T → Type 0
Tells Memory there = Unit {0}
Tells (At line rule) there = there ≡ Err (line, rule)

-- What was answered is what there is, unless memory ran out.
abbrev pub Answers : {T V : Type 0} → (V → Found T) → Result V LexFault → Found T → Type 0
Answers found (Ok v) there = there ≡ found v
Answers found (Err fault) there = Tells fault there

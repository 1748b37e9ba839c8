-- The tokens of a statement (ISO/IEC 1539-1:2018, 6.2), by longest match in its text.
use Rattle.std.specs.Prelude.{ℕ, zero, suc, ◌+◌, Bool, true, false, not, List, [], ◌∷◌, ◌++◌, take, drop, codes, Option, Some, None, Result, Ok, Err, if◌then◌else◌, ◌==◌, ◌&&◌, ◌||◌, nat_lt}
use Rattle.lf_base.specs.declared.rule.Rule.{Rule}
use Rattle.lf_base.specs.declared.rule.Rule.TheVariants.{E101, E102, E105, E106, E107}
use Rattle.ff_lexer.specs.declared.token.Kind.{Kind}
use Rattle.ff_lexer.specs.declared.token.Kind.TheVariants.{Word, Number, Text, Mark}
use Rattle.ff_lexer.specs.declared.lexeme.Placed.{Placed}
use Rattle.ff_lexer.specs.declared.lexeme.What.{What}
use Rattle.ff_lexer.specs.declared.lexeme.What.TheVariants.{Gap, Is, Breaks}
use Rattle.ff_lexer.specs.declared.lexeme.Lexeme.{Lexeme}
use Rattle.ff_lexer.specs.Bytes.{is_letter, is_digit, is_name_byte, is_blank, is_quote, lowered}
use Rattle.ff_lexer.specs.Lines.{Draft, lesser}

-- how many bytes in front pass the test
abbrev pub front : (ℕ → Bool) → List Placed → ℕ
front test [] = 0
front test (b ∷ bs) = if test b.byte then front test bs + 1 else 0

-- the byte in front, or 0
abbrev pub first_byte : List Placed → ℕ
first_byte [] = 0
first_byte (b ∷ bs) = b.byte

abbrev pub lexeme : ℕ → What → Lexeme
lexeme more what = record { more = more; what = what }

-- the letters, in either case
abbrev pub is_word : List ℕ → List Placed → Bool
is_word [] [] = true
is_word [] (b ∷ bs) = false
is_word (letter ∷ letters) [] = false
is_word (letter ∷ letters) (b ∷ bs) = lowered b.byte == letter && is_word letters bs

abbrev pub is_one_of : List (List ℕ) → List Placed → Bool
is_one_of [] bs = false
is_one_of (word ∷ words) bs = is_word word bs || is_one_of words bs

-- the relations that are words between two points (R1013)
abbrev pub is_relation : List Placed → Bool
is_relation = is_one_of (codes "eq" ∷ codes "ne" ∷ codes "lt" ∷ codes "le" ∷ codes "gt" ∷ codes "ge" ∷ [])

-- the logical operators and constants (R1018 to R1021, R725)
abbrev pub is_logical : List Placed → Bool
is_logical = is_one_of (codes "not" ∷ codes "and" ∷ codes "or" ∷ codes "eqv" ∷ codes "neqv" ∷ codes "true" ∷ codes "false" ∷ [])

-- what stands behind a point is the rest of such a word, with its second point
abbrev pub is_dotted : List Placed → Bool
is_dotted bs = first_byte (drop (front is_letter bs) bs) == 46 && (is_relation (take (front is_letter bs) bs) || is_logical (take (front is_letter bs) bs))

-- A name has at most 63 bytes.
abbrev pub name : ℕ → Lexeme
name more = if nat_lt more 63 then lexeme more (Is Word) else lexeme more (Breaks E105)

-- behind the digits and an underscore: `4` or `8` alone
abbrev pub is_kind : List Placed → Bool
is_kind bs = front is_name_byte bs == 1 && (first_byte bs == 52 || first_byte bs == 56)

abbrev pub suffixed : ℕ → List Placed → Lexeme
suffixed more bs = if is_kind bs then lexeme (more + 2) (Is Number) else lexeme (more + 1 + front is_name_byte bs) (Breaks E107)

-- An integer literal (R708), of which these bytes come behind the first digit, and what follows them.
abbrev pub number : ℕ → List Placed → Lexeme
number more [] = lexeme more (Is Number)
number more (b ∷ bs) =
    if b.byte == 95 then suffixed more bs
    else if is_letter b.byte then lexeme more (Breaks E107)
    else if b.byte == 46 && not (is_dotted bs) then lexeme (more + 1) (Breaks E107)
    else lexeme more (Is Number)

-- A character constant (R724), of which these bytes come behind its delimiter. One that may be over ends where the
-- delimiter does not follow at once; one that is not over takes the rest of its line.
abbrev pub constant : ℕ → Bool → ℕ → List Placed → Lexeme
constant delimiter may_be_over more [] = if may_be_over then lexeme more (Is Text) else lexeme more (Breaks E102)
constant delimiter may_be_over more (b ∷ bs) =
    if b.byte == delimiter then constant delimiter (not may_be_over) (more + 1) bs
    else if may_be_over then lexeme more (Is Text)
    else if b.byte == 10 then lexeme more (Breaks E102)
    else constant delimiter false (more + 1) bs

-- `**`, `//`, `/=`, `/)`, `(/`, `==`, `=>`, `<=`, `>=` and `::`
abbrev pub is_pair : ℕ → ℕ → Bool
is_pair a b =
    if a == 42 then b == 42
    else if a == 47 then b == 47 || b == 61 || b == 41
    else if a == 40 then b == 47
    else if a == 61 then b == 61 || b == 62
    else if a == 60 || a == 62 then b == 61
    else a == 58 && b == 58

-- `%`, `(`, `)`, `*`, `+`, `,`, `-`, `/`, `:`, `<`, `=`, `>`, `[` and `]`
abbrev pub is_mark : ℕ → Bool
is_mark b =
    b == 37 || b == 40 || b == 41 || b == 42 || b == 43 || b == 44 || b == 45 || b == 47 || b == 58 || b == 60 || b == 61 || b == 62
    || b == 91 || b == 93

-- a word between two points, of which this stands behind the first one
abbrev pub point : List Placed → Lexeme
point bs = if is_dotted bs then lexeme (front is_letter bs + 1) (Is Mark) else lexeme 0 (Breaks E101)

abbrev pub mark : ℕ → List Placed → Lexeme
mark b bs =
    if b == 46 then point bs
    else if is_pair b (first_byte bs) then lexeme 1 (Is Mark)
    else if is_mark b then lexeme 0 (Is Mark)
    else lexeme 0 (Breaks E101)

-- The longest lexeme that begins with this byte: a blank, a token, or bytes that break a rule.
abbrev pub lexeme_at : ℕ → List Placed → Lexeme
lexeme_at b bs =
    if is_letter b then name (front is_name_byte bs)
    else if is_digit b then number (front is_digit bs) (drop (front is_digit bs) bs)
    else if is_quote b then constant b false 0 bs
    else if is_blank b || b == 10 || b == 59 then lexeme 0 Gap
    else if b == 38 then lexeme 0 (Breaks E106)
    else mark b bs

-- tokens, or the least rule that is broken
abbrev pub Lexed : Type 0 → Type 0
Lexed T = Result (List T) Rule

abbrev pub both : {T : Type 0} → Lexed T → Lexed T → Lexed T
both (Ok first) (Ok second) = Ok (first ++ second)
both (Ok first) (Err rule) = Err rule
both (Err rule) (Ok second) = Err rule
both (Err rule) (Err least) = Err (lesser rule least)

-- how a token is made of its kind and its bytes
abbrev pub Made : Type 0 → Type 0
Made T = Kind → List Placed → T

abbrev pub meaning : {T : Type 0} → Made T → What → List Placed → Lexed T
meaning made Gap bytes = Ok []
meaning made (Is kind) bytes = Ok (made kind bytes ∷ [])
meaning made (Breaks rule) bytes = Err rule

-- a lexeme with its bytes, and what comes behind it
abbrev pub then_behind : {T : Type 0} → Made T → Lexeme → List Placed → (ℕ → Lexed T) → Lexed T
then_behind made l bytes behind = both (meaning made l.what (take (l.more + 1) bytes)) (behind l.more)

-- the tokens from behind these many bytes on
abbrev pub tokens_behind : {T : Type 0} → Made T → ℕ → List Placed → Lexed T
tokens_behind made passed [] = Ok []
tokens_behind made (suc passed) (b ∷ bs) = tokens_behind made passed bs
tokens_behind made zero (b ∷ bs) = then_behind made (lexeme_at b.byte bs) (b ∷ bs) (λ more. tokens_behind made more bs)

-- what the lines of a statement break
abbrev pub so_far : {T : Type 0} → List T → Option Rule → Lexed T
so_far tokens None = Ok tokens
so_far tokens (Some rule) = Err rule

-- the tokens of a statement, or the least rule that it breaks
abbrev pub lexed : {T : Type 0} → Made T → Draft → Lexed T
lexed made d = both (so_far [] d.fault) (tokens_behind made 0 d.text)

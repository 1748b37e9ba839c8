-- The bytes of a source (ISO/IEC 1539-1:2018, 6.1), and what stands behind them on a line.
use Rattle.std.specs.Prelude.{ℕ, ◌+◌, Bool, true, false, List, [], ◌∷◌, if◌then◌else◌, ◌==◌, ◌&&◌, ◌||◌, nat_le}
use Rattle.ff_lexer.specs.declared.bytes.Context.{Context}
use Rattle.ff_lexer.specs.declared.bytes.Context.TheVariants.{Code, Constant}

-- a letter, in either case; a digit; an underscore
abbrev pub is_capital : ℕ → Bool
is_capital byte = nat_le 65 byte && nat_le byte 90

abbrev pub is_letter : ℕ → Bool
is_letter byte = (nat_le 97 byte && nat_le byte 122) || is_capital byte

abbrev pub is_digit : ℕ → Bool
is_digit byte = nat_le 48 byte && nat_le byte 57

-- what a name goes on with (R601, R603)
abbrev pub is_name_byte : ℕ → Bool
is_name_byte byte = is_letter byte || is_digit byte || byte == 95

-- a space or a tab
abbrev pub is_blank : ℕ → Bool
is_blank byte = byte == 32 || byte == 9

-- an apostrophe or a quote
abbrev pub is_quote : ℕ → Bool
is_quote byte = byte == 39 || byte == 34

abbrev pub lowered : ℕ → ℕ
lowered byte = if is_capital byte then byte + 32 else byte

-- whether a place is outside character constants
abbrev pub is_code : Context → Bool
is_code Code = true
is_code (Constant delimiter) = false

-- where the next byte stands: a delimiter begins or ends a character constant (R724)
abbrev pub behind : Context → ℕ → Context
behind Code byte = if is_quote byte then Constant byte else Code
behind (Constant delimiter) byte = if byte == delimiter then Code else Constant delimiter

abbrev pub begins_with : ℕ → List ℕ → Bool
begins_with byte [] = false
begins_with byte (b ∷ bs) = b == byte

-- a carriage return that is dropped: it stands in front of a newline
abbrev pub is_dropped : ℕ → List ℕ → Bool
is_dropped b bs = b == 13 && begins_with 10 bs

-- nothing but blanks stands on the rest of the line, a comment outside character constants aside
abbrev pub ends : Context → List ℕ → Bool
ends context [] = true
ends context (b ∷ bs) =
    if b == 10 || is_dropped b bs then true
    else if is_blank b then ends context bs
    else b == 33 && is_code context

-- An `&` with which its line ends (ISO/IEC 1539-1:2018, 6.3.2.4).
abbrev pub is_continued : Context → ℕ → List ℕ → Bool
is_continued context b bs = b == 38 && ends context bs

-- a `!` with which a comment begins (6.3.2.3)
abbrev pub is_comment : Context → ℕ → Bool
is_comment context b = b == 33 && is_code context

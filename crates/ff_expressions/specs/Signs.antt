-- What the tokens of a statement are by themselves (ISO/IEC 1539-1:2018, 6.2 and 10.1.5).
use Rattle.std.specs.Prelude.{ℕ, Bool, true, false, ◌==◌, ◌&&◌, if◌then◌else◌, List, [], ◌∷◌, map, codes, bytes_eq, Option, Some, None}
use Rattle.std.specs.Char.{to_ascii_lowercase}
use Rattle.ff_expressions.specs.declared.item.Mark.TheVariants.{Operator, Comma, Colon, DoubleColon, Equals, Arrow, Percent}
use Rattle.ff_expressions.specs.declared.item.Bracket.TheVariants.{Round, Square}
use Rattle.ff_expressions.specs.declared.sign.Sign.{Sign}
use Rattle.ff_expressions.specs.declared.sign.Sign.TheVariants as sign

abbrev pub operator : ℕ → Option Sign
operator code = Some (sign.Mark (Operator code))

-- marks of one byte
abbrev pub of_one : ℕ → Option Sign
of_one byte =
    if byte == 43 then operator 0
    else if byte == 45 then operator 1
    else if byte == 42 then operator 2
    else if byte == 47 then operator 3
    else if byte == 60 then operator 8
    else if byte == 62 then operator 10
    else if byte == 40 then Some (sign.Opening Round)
    else if byte == 41 then Some (sign.Closing Round)
    else if byte == 91 then Some (sign.Opening Square)
    else if byte == 93 then Some (sign.Closing Square)
    else if byte == 44 then Some (sign.Mark Comma)
    else if byte == 58 then Some (sign.Mark Colon)
    else if byte == 61 then Some (sign.Mark Equals)
    else if byte == 37 then Some (sign.Mark Percent)
    else None

-- marks of two bytes: one byte twice, a relation, and those that begin or end with a slash or a bracket
abbrev pub of_twice : ℕ → Option Sign
of_twice byte =
    if byte == 42 then operator 4
    else if byte == 47 then operator 5
    else if byte == 61 then operator 6
    else if byte == 58 then Some (sign.Mark DoubleColon)
    else None

abbrev pub of_relation : ℕ → Option Sign
of_relation byte =
    if byte == 47 then operator 7
    else if byte == 60 then operator 9
    else if byte == 62 then operator 11
    else None

abbrev pub of_pair : ℕ → ℕ → Option Sign
of_pair first second =
    if first == 40 && second == 47 then Some (sign.Opening Square)
    else if first == 47 && second == 41 then Some (sign.Closing Square)
    else if first == 61 && second == 62 then Some (sign.Mark Arrow)
    else None

abbrev pub of_two : ℕ → ℕ → Option Sign
of_two first second =
    if first == second then of_twice first
    else if second == 61 then of_relation first
    else of_pair first second

-- words between dots, in any case
abbrev pub same_word : List ℕ → List ℕ → Bool
same_word bytes word = bytes_eq (map to_ascii_lowercase bytes) (map to_ascii_lowercase word)

abbrev pub of_relation_word : List ℕ → Option Sign
of_relation_word bytes =
    if same_word bytes (codes ".eq.") then operator 6
    else if same_word bytes (codes ".ne.") then operator 7
    else if same_word bytes (codes ".lt.") then operator 8
    else if same_word bytes (codes ".le.") then operator 9
    else if same_word bytes (codes ".gt.") then operator 10
    else if same_word bytes (codes ".ge.") then operator 11
    else None

abbrev pub of_word : List ℕ → Option Sign
of_word bytes =
    if same_word bytes (codes ".and.") then operator 12
    else if same_word bytes (codes ".or.") then operator 13
    else if same_word bytes (codes ".eqv.") then operator 14
    else if same_word bytes (codes ".neqv.") then operator 15
    else if same_word bytes (codes ".not.") then operator 16
    else if same_word bytes (codes ".false.") then Some (sign.Truth 0)
    else if same_word bytes (codes ".true.") then Some (sign.Truth 1)
    else of_relation_word bytes

abbrev pub sign_of : List ℕ → Option Sign
sign_of (byte ∷ []) = of_one byte
sign_of (first ∷ second ∷ []) = of_two first second
sign_of bytes = of_word bytes

-- an integer literal (7.4.3.1): its digits, and the suffix behind an underscore
abbrev pub digits_of : List ℕ → List ℕ
digits_of [] = []
digits_of (byte ∷ bytes) = if byte == 95 then [] else byte ∷ digits_of bytes

abbrev pub kind_of : List ℕ → ℕ
kind_of (byte ∷ []) = if byte == 52 then 4 else if byte == 56 then 8 else 0
kind_of _ = 0

abbrev pub suffix_of : List ℕ → ℕ
suffix_of [] = 0
suffix_of (byte ∷ bytes) = if byte == 95 then kind_of bytes else suffix_of bytes

-- A character literal (7.4.4) without its delimiters: of a delimiter, the byte behind it stands for itself.
abbrev pub text_behind : ℕ → Bool → List ℕ → List ℕ
text_behind delimiter true [] = []
text_behind delimiter false [] = []
text_behind delimiter true (byte ∷ bytes) = byte ∷ text_behind delimiter false bytes
text_behind delimiter false (byte ∷ bytes) =
    if byte == delimiter then text_behind delimiter true bytes else byte ∷ text_behind delimiter false bytes

abbrev pub text_value : List ℕ → List ℕ
text_value [] = []
text_value (delimiter ∷ bytes) = text_behind delimiter false bytes

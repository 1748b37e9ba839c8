-- The text of a statement without what parts its tokens.
use Rattle.std.specs.Prelude.{ℕ, Bool, List, [], ◌∷◌, ◌++◌, map, if◌then◌else◌, ◌==◌, ◌&&◌, ◌||◌}
use Rattle.ff_lexer.specs.declared.bytes.Context.{Context}
use Rattle.ff_lexer.specs.declared.bytes.Context.TheVariants.{Code}
use Rattle.ff_lexer.specs.declared.lexeme.Placed.{Placed}
use Rattle.ff_lexer.specs.Bytes.{is_blank, is_code, behind}
use Rattle.ff_lexer.specs.Lexemes.{Made}
use Rattle.ff_lexer.specs.Statements.{byte_of}

-- a blank, or a `;` in front of a statement
abbrev pub is_gap : ℕ → Bool
is_gap b = is_blank b || b == 59

-- the bytes in character constants, and those outside that are no blanks
abbrev pub solid : Context → List Placed → List ℕ
solid context [] = []
solid context (b ∷ bs) =
    if b.byte == 10 then solid Code bs
    else if is_code context && is_gap b.byte then solid context bs
    else b.byte ∷ solid (behind context b.byte) bs

-- a token as it stands in the text
abbrev pub bytes_as : Made (List ℕ)
bytes_as kind bytes = map byte_of bytes

abbrev pub joined : List (List ℕ) → List ℕ
joined [] = []
joined (piece ∷ pieces) = piece ++ joined pieces

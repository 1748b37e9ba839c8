-- What a reader has read of a source.
use Rattle.std.specs.Prelude.{◌≡◌, ℕ, ◌+◌, List, [], ◌∷◌, length, drop, Result, Ok, Err, if◌then◌else◌, ◌==◌, ◌||◌}
use Rattle.ff_lexer.specs.declared.reader.Reader.{Reader}
use Rattle.ff_lexer.specs.declared.reader.Refusal.{Refusal}
use Rattle.ff_lexer.specs.declared.reader.Refusal.TheVariants.{Broken, Memory}
use Rattle.ff_lexer.specs.declared.token.Token.{Token}
use Rattle.ff_lexer.specs.Bytes.{is_dropped}
use Rattle.ff_lexer.specs.Lexemes.{Lexed}
use Rattle.ff_lexer.specs.Lines.{Draft}
use Rattle.ff_lexer.specs.Statements.{Found, ahead, found_in}
use Rattle.ff_lexer.specs.Spans.{token_as, views}

-- the statement that is open
abbrev pub draft : Reader → Draft
draft r = record { line = r.start; text = r.text.items; context = r.context; has_begun = r.has_begun; continuations = r.continuations; fault = r.fault }

-- what the source gives, where these are the statements from the open one on
abbrev pub left : Reader → List Draft → Found Token
left r drafts = ahead (views r.done.items) (found_in token_as drafts)

-- the first line of these bytes, and how many bytes end a line
abbrev pub first_line : List ℕ → List ℕ
first_line [] = []
first_line (b ∷ bs) = if b == 10 || is_dropped b bs then [] else b ∷ first_line bs

abbrev pub ending : List ℕ → ℕ
ending [] = 0
ending (b ∷ []) = 1
ending (b ∷ c ∷ bs) = if b == 13 then 2 else 1

-- how many bytes the first line has with what ends it
abbrev pub line_size : List ℕ → ℕ
line_size bs = length (first_line bs) + ending (drop (length (first_line bs)) bs)

-- What was answered is what there is, unless memory ran out.
abbrev pub Gives : {T V : Type 0} → (V → Lexed T) → Result V Refusal → Lexed T → Type 0
Gives found (Ok v) there = there ≡ found v
Gives found (Err Memory) there = Unit {0}
Gives found (Err (Broken rule)) there = there ≡ Err rule

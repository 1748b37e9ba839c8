-- The lines of a source, and the statements that they hold (ISO/IEC 1539-1:2018, 6.3.2).
use Rattle.std.specs.Prelude.{ℕ, ◌+◌, Bool, true, false, not, List, [], ◌∷◌, ◌++◌, length, Option, Some, None, if◌then◌else◌, ◌==◌, ◌&&◌, ◌||◌, nat_lt}
use Rattle.lf_base.specs.Rules.{number_of}
use Rattle.lf_base.specs.declared.rule.Rule.{Rule}
use Rattle.lf_base.specs.declared.rule.Rule.TheVariants.{E103, E104, E106}
use Rattle.ff_lexer.specs.declared.bytes.Context.{Context}
use Rattle.ff_lexer.specs.declared.bytes.Context.TheVariants.{Code}
use Rattle.ff_lexer.specs.declared.lexeme.Placed.{Placed}
use Rattle.ff_lexer.specs.Bytes.{is_blank, is_code, behind, is_dropped, ends, is_continued, is_comment}

-- a line: the place of its first byte in the source, and its bytes
abbrev pub Line : Type 0
Line = ℕ × List ℕ

-- the first line begins here
abbrev pub begun_at : ℕ → List Line → List Line
begun_at at [] = (at, []) ∷ []
begun_at at (line ∷ lines) = (at, line.1) ∷ lines

-- one more byte in front of the first line
abbrev pub onto : ℕ → ℕ → List Line → List Line
onto at b [] = (at, b ∷ []) ∷ []
onto at b (line ∷ lines) = (at, b ∷ line.1) ∷ lines

-- The lines of the source from this place on. They end with newlines, and a carriage return in front of one is dropped.
abbrev pub lines_from : ℕ → List ℕ → List Line
lines_from at [] = []
lines_from at (b ∷ bs) =
    if b == 10 then (at, []) ∷ lines_from (at + 1) bs
    else if is_dropped b bs then begun_at at (lines_from (at + 1) bs)
    else onto at b (lines_from (at + 1) bs)

abbrev pub placed : ℕ → ℕ → Placed
placed at b = record { byte = b; end = at + 1 }

-- what a line gives to its statements, and whether it goes on in the next line
abbrev pub Body : Type 0
Body = List Placed × Bool

abbrev pub in_front : Placed → Body → Body
in_front b body = (b ∷ body.0, body.1)

-- A line from here on, up to its comment (6.3.2.3), or up to the `&` with which it ends (6.3.2.4).
abbrev pub body_of : Context → ℕ → List ℕ → Body
body_of context at [] = ([], false)
body_of context at (b ∷ bs) =
    if is_continued context b bs then ([], true)
    else if is_comment context b then ([], false)
    else in_front (placed at b) (body_of (behind context b) (at + 1) bs)

-- the rule with the smaller number, the first one of two that are equal
abbrev pub lesser : Rule → Rule → Rule
lesser first second = if nat_lt (number_of second) (number_of first) then second else first

-- the least rule that is broken, where this one is too
abbrev pub breaking : Rule → Option Rule → Option Rule
breaking rule None = Some rule
breaking rule (Some least) = Some (lesser least rule)

-- A statement as far as its lines have been read: the line on which it begins; its text, in which a newline stands
-- where it goes on in a line without a leading `&`; where the next byte of it stands; whether anything but blanks and
-- `&` is in it; its continuation lines; and the least rule that its lines break.
pub record Draft : Type 0 where
  pub line : ℕ
  pub text : List Placed
  pub context : Context
  pub has_begun : Bool
  pub continuations : ℕ
  pub fault : Option Rule

abbrev pub fresh : ℕ → Draft
fresh line = record { line = line; text = []; context = Code; has_begun = false; continuations = 0; fault = None }

abbrev pub broken : Rule → Draft → Draft
broken rule d = record { line = d.line; text = d.text; context = d.context; has_begun = d.has_begun; continuations = d.continuations; fault = breaking rule d.fault }

-- a line has at most 132 bytes
abbrev pub measured : List ℕ → Draft → Draft
measured bytes d = if nat_lt 132 (length bytes) then broken E103 d else d

-- a statement has at most 255 continuation lines
abbrev pub continued : Draft → Draft
continued d =
    if nat_lt d.continuations 255
    then record { line = d.line; text = d.text; context = d.context; has_begun = d.has_begun; continuations = d.continuations + 1; fault = d.fault }
    else broken E104 d

-- The next line has no leading `&`: its tokens are parted from those before, and no constant goes on.
abbrev pub parted : ℕ → Draft → Draft
parted at d = record { line = d.line; text = d.text ++ record { byte = 10; end = at } ∷ []; context = Code; has_begun = d.has_begun; continuations = d.continuations; fault = d.fault }

-- a byte with which a statement begins
abbrev pub begins : ℕ → Bool
begins byte = not (is_blank byte || byte == 38 || byte == 59)

abbrev pub added : Draft → Placed → Draft
added d b = record { line = d.line; text = d.text ++ b ∷ []; context = behind d.context b.byte; has_begun = d.has_begun || begins b.byte; continuations = d.continuations; fault = d.fault }

-- A `;` outside constants ends a statement (6.3.2.5). Where none is open in front of it, it counts as a blank.
abbrev pub is_end : Draft → ℕ → Bool
is_end d byte = byte == 59 && is_code d.context && d.has_begun

-- the statements that end, and the one that is open
abbrev pub Taken : Type 0
Taken = List Draft × Draft

abbrev pub earlier : Draft → Taken → Taken
earlier d taken = (d ∷ taken.0, taken.1)

abbrev pub then_more : Taken → (Draft → List Draft) → List Draft
then_more taken more = taken.0 ++ more taken.1

-- the statements of a body on this line
abbrev pub in_body : ℕ → Draft → List Placed → Taken
in_body line d [] = ([], d)
in_body line d (b ∷ bs) = if is_end d b.byte then earlier d (in_body line (fresh line) bs) else in_body line (added d b) bs

-- At the end of a line the statement ends with it, or goes on. An `&` behind which nothing can go on is at fault.
abbrev pub at_end : ℕ → Draft → Bool → Taken
at_end line d goes_on =
    if goes_on then (if d.has_begun then ([], d) else (broken E106 d ∷ [], fresh (line + 1)))
    else (d ∷ [], fresh (line + 1))

abbrev pub on_body : ℕ → Draft → Body → (Draft → List Draft) → List Draft
on_body line d body more = then_more (in_body line d body.0) (λ next. then_more (at_end line next body.1) more)

-- the rest of a line, from this place on
abbrev pub on_rest : ℕ → Draft → ℕ → List ℕ → (Draft → List Draft) → List Draft
on_rest line d at bytes more = on_body line d (body_of d.context at bytes) more

-- A line behind one that ends in `&`, of which this is left behind its leading blanks: nothing or a comment, which is
-- passed; an `&` alone; an `&` with what goes on directly behind it; or what goes on as behind a blank.
abbrev pub on_continuation : ℕ → Draft → Line → ℕ → List ℕ → (Draft → List Draft) → List Draft
on_continuation line d whole at [] more = more d
on_continuation line d whole at (b ∷ bs) more =
    if b == 33 then more d
    else if b == 38 then (if ends d.context bs then more (broken E106 (continued d)) else on_rest line (continued d) (at + 1) bs more)
    else on_rest line (parted whole.0 (continued d)) whole.0 whole.1 more

-- a line behind its leading blanks, and the place where that begins
abbrev pub behind_blanks : ℕ → List ℕ → Line
behind_blanks at [] = (at, [])
behind_blanks at (b ∷ bs) = if is_blank b then behind_blanks (at + 1) bs else (at, b ∷ bs)

abbrev pub on_line : ℕ → Draft → Line → (Draft → List Draft) → List Draft
on_line line d whole more =
    if d.has_begun then on_continuation line (measured whole.1 d) whole (behind_blanks whole.0 whole.1).0 (behind_blanks whole.0 whole.1).1 more
    else on_rest line (measured whole.1 d) whole.0 whole.1 more

-- The statements of the lines from this one on. Where the last one does not end, its `&` continues nothing.
abbrev pub statements_from : ℕ → Draft → List Line → List Draft
statements_from line d [] = if d.has_begun then broken E106 d ∷ [] else []
statements_from line d (whole ∷ lines) = on_line line d whole (λ next. statements_from (line + 1) next lines)

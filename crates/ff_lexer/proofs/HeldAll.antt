-- The tokens of all statements are what the lines hold.
use Rattle.std.proofs.Common.{◌≡◌, ℕ, ◌+◌, Bool, true, false, List, [], ◌∷◌, ◌++◌, length, map, Option, Some, None, Ok, Err, refl, sym, ap, ◌∙◌, subst, append_assoc, append-nil, arith}
use Rattle.std.specs.Prelude.{if◌then◌else◌, ◌==◌, ◌&&◌, nat_lt}
use Rattle.std.proofs.lemmas.Bool.Decides.{nat_tests}
use Rattle.lf_base.specs.declared.rule.Rule.{Rule}
use Rattle.lf_base.specs.declared.rule.Rule.TheVariants.{E103, E104, E106}
use Rattle.ff_lexer.specs.declared.bytes.Context.{Context}
use Rattle.ff_lexer.specs.declared.bytes.Context.TheVariants.{Code, Constant}
use Rattle.ff_lexer.specs.declared.lexeme.Placed.{Placed}
use Rattle.ff_lexer.specs.Bytes.{is_blank, is_code, behind, ends, is_continued, is_comment}
use Rattle.ff_lexer.specs.Held.{Behind, body_holds, continuation_holds, line_holds, lines_hold, tokens_in}
use Rattle.ff_lexer.specs.Lexemes.{Lexed, both, so_far, tokens_behind, lexed}
use Rattle.ff_lexer.specs.Lines.{Line, placed, in_front, body_of, breaking, Draft, fresh, broken, measured, continued, parted, added, is_end, earlier, then_more, in_body, at_end, on_rest, on_continuation, behind_blanks, on_line, statements_from, lines_from}
use Rattle.ff_lexer.specs.Solid.{is_gap, solid, bytes_as, joined}
use Rattle.ff_lexer.specs.Statements.{byte_of, Found, told, found_in, drafts_of}
use Rattle.ff_lexer.specs.Written.{holds, behind_all, Ended, ended_bytes, AreLines, lines_at}
use Rattle.ff_lexer.proofs.Covered.{tokens_cover}
use Rattle.ff_lexer.proofs.LineText.{either_left, either_right, lines_there}

-- where the byte behind a text stands
abbrev context_in : Context → List Placed → Context
context_in context [] = context
context_in context (b ∷ bs) = if b.byte == 10 then context_in Code bs else context_in (behind context b.byte) bs

stays : (context : Context) (b : ℕ) → (is_code context && is_gap b) ≡ true → behind context b ≡ context
stays Code b h = ap (λ t. if t then Constant b else Code) {y = false} (grind (arith, nat_tests, h))
stays (Constant delimiter) b h = cc

solid_append : (context : Context) (xs ys : List Placed) → solid context (xs ++ ys) ≡ solid context xs ++ solid (context_in context xs) ys
solid_append context [] ys = refl
solid_append context (b ∷ bs) ys = by (b.byte == 10) (is_code context && is_gap b.byte) refl (solid_append Code bs ys) (solid_append context bs ys) (solid_append (behind context b.byte) bs ys)
  where
    by : (t u : Bool) → (is_code context && is_gap b.byte) ≡ u → solid Code (bs ++ ys) ≡ solid Code bs ++ solid (context_in Code bs) ys → solid context (bs ++ ys) ≡ solid context bs ++ solid (context_in context bs) ys → solid (behind context b.byte) (bs ++ ys) ≡ solid (behind context b.byte) bs ++ solid (context_in (behind context b.byte) bs) ys → (if t then solid Code (bs ++ ys) else if u then solid context (bs ++ ys) else b.byte ∷ solid (behind context b.byte) (bs ++ ys)) ≡ (if t then solid Code bs else if u then solid context bs else b.byte ∷ solid (behind context b.byte) bs) ++ solid (if t then context_in Code bs else context_in (behind context b.byte) bs) ys
    by true u e x y z = x
    by false true e x y z = y ∙ ap (λ c. solid context bs ++ solid (context_in c bs) ys) (sym (stays context b.byte e))
    by false false e x y z = ap (λ l. b.byte ∷ l) z

context_append : (context : Context) (xs ys : List Placed) → context_in context (xs ++ ys) ≡ context_in (context_in context xs) ys
context_append context [] ys = refl
context_append context (b ∷ bs) ys = by (b.byte == 10) (context_append Code bs ys) (context_append (behind context b.byte) bs ys)
  where
    by : (t : Bool) → context_in Code (bs ++ ys) ≡ context_in (context_in Code bs) ys → context_in (behind context b.byte) (bs ++ ys) ≡ context_in (context_in (behind context b.byte) bs) ys → (if t then context_in Code (bs ++ ys) else context_in (behind context b.byte) (bs ++ ys)) ≡ context_in (if t then context_in Code bs else context_in (behind context b.byte) bs) ys
    by true x y = x
    by false x y = y

-- no newline is among these
abbrev OneLine : List Placed → Type 0
OneLine [] = Unit {0}
OneLine (b ∷ bs) = ((b.byte == 10) ≡ false) × OneLine bs

body_one : (context : Context) (at : ℕ) (bs : List ℕ) → holds 10 bs ≡ false → OneLine (body_of context at bs).0
body_one context at [] h = tt
body_one context at (b ∷ bs) h = by (is_continued context b bs) (is_comment context b) (body_one (behind context b) (at + 1) bs (either_right (b == 10) (holds 10 bs) h))
  where
    by : (t u : Bool) → OneLine (body_of (behind context b) (at + 1) bs).0 → OneLine (if t then ([], true) else if u then ([], false) else in_front (placed at b) (body_of (behind context b) (at + 1) bs)).0
    by true u x = tt
    by false true x = tt
    by false false x = (either_left (b == 10) (holds 10 bs) h, x)

pub blanks_one : (at : ℕ) (bs : List ℕ) → holds 10 bs ≡ false → holds 10 (behind_blanks at bs).1 ≡ false
blanks_one at [] h = refl
blanks_one at (b ∷ bs) h = by (is_blank b) (blanks_one (at + 1) bs (either_right (b == 10) (holds 10 bs) h))
  where
    by : (t : Bool) → holds 10 (behind_blanks (at + 1) bs).1 ≡ false → holds 10 (if t then behind_blanks (at + 1) bs else (at, b ∷ bs)).1 ≡ false
    by true x = x
    by false x = h

-- the open statement stands where its text leaves off
abbrev Fits : Draft → Type 0
Fits d = context_in Code d.text ≡ d.context

-- between two lines, one that has not begun is fresh
record Ready (d : Draft) : Type 0 where
  pub fits : Fits d
  pub none : d.has_begun ≡ false → (d.text ≡ []) × (d.context ≡ Code)

abbrev solids : List Draft → List ℕ
solids [] = []
solids (d ∷ ds) = solid Code d.text ++ solids ds

-- the lines of none break a rule
abbrev Sound : List Draft → Type 0
Sound [] = Unit {0}
Sound (d ∷ ds) = (d.fault ≡ None) × Sound ds

unsound : (rule : Rule) (fault : Option Rule) → breaking rule fault ≡ None → ⊥
unsound rule None h = cc
unsound rule (Some least) h = cc

-- one more byte of a statement

one_fits : (d : Draft) (b : Placed) → (b.byte == 10) ≡ false → Fits d → Fits (added d b)
one_fits d b n f =
    context_append Code d.text (b ∷ [])
    ∙ ap (λ c. context_in c (b ∷ [])) f
    ∙ ap (λ t. if t then Code else behind d.context b.byte) n

one_solid : (d : Draft) (b : Placed) (bs : List Placed) → (b.byte == 10) ≡ false → Fits d → solid Code (added d b).text ++ solid (added d b).context bs ≡ solid Code d.text ++ solid d.context (b ∷ bs)
one_solid d b bs n f =
    ap (λ c. solid Code (added d b).text ++ solid c bs) (sym (one_fits d b n f))
    ∙ sym (solid_append Code (added d b).text bs)
    ∙ ap (solid Code) (append_assoc d.text (b ∷ []) bs)
    ∙ solid_append Code d.text (b ∷ bs)
    ∙ ap (λ c. solid Code d.text ++ solid c (b ∷ bs)) f

outside : (context : Context) → is_code context ≡ true → context ≡ Code
outside Code h = refl
outside (Constant delimiter) h = cc

-- a `;` that ends a statement
module _ (d : Draft) (b : Placed) (bs : List Placed) (e : is_end d b.byte ≡ true) where
  end_byte : b.byte ≡ 59
  end_byte = grind (arith, nat_tests, e)

  end_code : d.context ≡ Code
  end_code = outside d.context (grind (arith, nat_tests, e))

  end_context : behind d.context b.byte ≡ Code
  end_context = ap (λ c. behind c b.byte) end_code ∙ ap (behind Code) end_byte

  solid_end : solid d.context (b ∷ bs) ≡ solid Code bs
  solid_end = ap (λ c. solid c (b ∷ bs)) end_code ∙ ap (λ x. if x == 10 then solid Code bs else if is_gap x then solid Code bs else x ∷ solid (behind Code x) bs) end_byte

-- what comes behind the statements of a body
abbrev Then : Context → List Placed → (Draft → List Draft) → List ℕ → Type 0
Then context bs k rest = (next : Draft) → Fits next → next.context ≡ behind_all context (map byte_of bs) → Sound (k next) → solids (k next) ≡ solid Code next.text ++ rest

body_solid : (line : ℕ) (bs : List Placed) (d : Draft) (k : Draft → List Draft) (rest : List ℕ) → OneLine bs → Fits d → Then d.context bs k rest → Sound (then_more (in_body line d bs) k) → solids (then_more (in_body line d bs) k) ≡ (solid Code d.text ++ solid d.context bs) ++ rest
body_solid line [] d k rest n f go s = go d f refl s ∙ ap (λ l. l ++ rest) (sym (append-nil (solid Code d.text)))
body_solid line (b ∷ bs) d k rest n f go s = by (is_end d b.byte) refl s (λ e. body_solid line bs e k rest n.1)
  where
    by : (t : Bool) → is_end d b.byte ≡ t → Sound (then_more (if t then earlier d (in_body line (fresh line) bs) else in_body line (added d b) bs) k) → ((e : Draft) → Fits e → Then e.context bs k rest → Sound (then_more (in_body line e bs) k) → solids (then_more (in_body line e bs) k) ≡ (solid Code e.text ++ solid e.context bs) ++ rest) → solids (then_more (if t then earlier d (in_body line (fresh line) bs) else in_body line (added d b) bs) k) ≡ (solid Code d.text ++ solid d.context (b ∷ bs)) ++ rest
    by true e s more =
        ap (λ l. solid Code d.text ++ l) (more (fresh line) refl (λ next g c. go next g (c ∙ ap (λ x. behind_all x (map byte_of bs)) (sym (end_context d b bs e)))) s.1)
        ∙ sym (append_assoc (solid Code d.text) (solid Code bs) rest)
        ∙ ap (λ l. (solid Code d.text ++ l) ++ rest) (sym (solid_end d b bs e))
    by false e s more = more (added d b) (one_fits d b n.0 f) go s ∙ ap (λ l. l ++ rest) (one_solid d b bs n.0 f)

-- the lines behind
abbrev Goes : List Line → (Draft → List Draft) → Type 0
Goes lines more = (d : Draft) → Ready d → Sound (more d) → solids (more d) ≡ solid Code d.text ++ lines_hold d.has_begun d.context lines

no_context : (context : Context) (lines : List Line) → lines_hold false Code lines ≡ lines_hold false context lines
no_context context [] = refl
no_context context (line ∷ lines) = refl

end_solid : (line : ℕ) (next : Draft) (goes_on : Bool) (context : Context) (lines : List Line) (more : Draft → List Draft) → Fits next → next.context ≡ context → Goes lines more → Sound (then_more (at_end line next goes_on) more) → solids (then_more (at_end line next goes_on) more) ≡ solid Code next.text ++ lines_hold goes_on context lines
end_solid line next false context lines more f c go s =
    ap (λ l. solid Code next.text ++ l) (go (fresh (line + 1)) (record { fits = refl; none = λ _. (refl, refl) }) s.1 ∙ no_context context lines)
end_solid line next true context lines more f c go s = by next.has_begun refl s
  where
    by : (t : Bool) → next.has_begun ≡ t → Sound (then_more (if t then ([], next) else (broken E106 next ∷ [], fresh (line + 1))) more) → solids (then_more (if t then ([], next) else (broken E106 next ∷ [], fresh (line + 1))) more) ≡ solid Code next.text ++ lines_hold true context lines
    by true e s =
        go next (record { fits = f; none = λ x. absurd (cc (x, e)) }) s
        ∙ ap (λ t. solid Code next.text ++ lines_hold t next.context lines) e
        ∙ ap (λ x. solid Code next.text ++ lines_hold true x lines) c
    by false e s = absurd (unsound E106 next.fault s.0)

abbrev behind_lines : List Line → Behind
behind_lines lines = λ goes_on context. lines_hold goes_on context lines

rest_solid : (line : ℕ) (d : Draft) (at : ℕ) (bytes : List ℕ) (lines : List Line) (more : Draft → List Draft) → holds 10 bytes ≡ false → Fits d → Goes lines more → Sound (on_rest line d at bytes more) → solids (on_rest line d at bytes more) ≡ solid Code d.text ++ body_holds d.context (body_of d.context at bytes) (behind_lines lines)
rest_solid line d at bytes lines more n f go s =
    let body = body_of d.context at bytes in
    let context = behind_all d.context (map byte_of body.0) in
    body_solid line body.0 d (λ next. then_more (at_end line next body.1) more) (lines_hold body.1 context lines) (body_one d.context at bytes n) f (λ next g c s. end_solid line next body.1 context lines more g c go s) s
    ∙ append_assoc (solid Code d.text) (solid d.context body.0) (lines_hold body.1 context lines)

-- what a line breaks changes no text

pub measured_as : (P : Draft → Type 0) (bytes : List ℕ) (d : Draft) → P (broken E103 d) → P d → P (measured bytes d)
measured_as P bytes d x y = elim (nat_lt 132 (length bytes)) as (λ t. P (if t then broken E103 d else d)) [ true ↦ x | false ↦ y ]

abbrev one_further : Draft → Draft
one_further d = record { line = d.line; text = d.text; context = d.context; has_begun = d.has_begun; continuations = d.continuations + 1; fault = d.fault }

continued_as : (P : Draft → Type 0) (d : Draft) → P (one_further d) → P (broken E104 d) → P (continued d)
continued_as P d x y = elim (nat_lt d.continuations 255) as (λ t. P (if t then one_further d else broken E104 d)) [ true ↦ x | false ↦ y ]

-- a line behind one that goes on
module _ (line : ℕ) (whole : Line) (lines : List Line) (more : Draft → List Draft) (n : holds 10 whole.1 ≡ false) (go : Goes lines more) where
  passed_solid : (d : Draft) → d.has_begun ≡ true → Fits d → Sound (more d) → solids (more d) ≡ solid Code d.text ++ lines_hold true d.context lines
  passed_solid d b f s = go d (record { fits = f; none = λ x. absurd (cc (x, b)) }) s ∙ ap (λ t. solid Code d.text ++ lines_hold t d.context lines) b

  alone_solid : (d : Draft) → d.has_begun ≡ true → Fits d → Sound (more (broken E106 (continued d))) → solids (more (broken E106 (continued d))) ≡ solid Code d.text ++ lines_hold true d.context lines
  alone_solid d b f = continued_as (λ e. Sound (more (broken E106 e)) → solids (more (broken E106 e)) ≡ solid Code d.text ++ lines_hold true d.context lines) d (passed_solid (broken E106 (one_further d)) b f) (passed_solid (broken E106 (broken E104 d)) b f)

  marked_solid : (d : Draft) (at : ℕ) (bs : List ℕ) → holds 10 bs ≡ false → Fits d → Sound (on_rest line (continued d) at bs more) → solids (on_rest line (continued d) at bs more) ≡ solid Code d.text ++ body_holds d.context (body_of d.context at bs) (behind_lines lines)
  marked_solid d at bs m f =
      continued_as (λ e. Sound (on_rest line e at bs more) → solids (on_rest line e at bs more) ≡ solid Code d.text ++ body_holds d.context (body_of d.context at bs) (behind_lines lines)) d
      (rest_solid line (one_further d) at bs lines more m f go) (rest_solid line (broken E104 d) at bs lines more m f go)

  parted_at : (d : Draft) → Sound (on_rest line (parted whole.0 d) whole.0 whole.1 more) → solids (on_rest line (parted whole.0 d) whole.0 whole.1 more) ≡ solid Code d.text ++ body_holds Code (body_of Code whole.0 whole.1) (behind_lines lines)
  parted_at d s =
      rest_solid line (parted whole.0 d) whole.0 whole.1 lines more n (context_append Code d.text (record { byte = 10; end = whole.0 } ∷ [])) go s
      ∙ ap (λ l. l ++ body_holds Code (body_of Code whole.0 whole.1) (behind_lines lines)) (solid_append Code d.text (record { byte = 10; end = whole.0 } ∷ []) ∙ append-nil (solid Code d.text))

  parted_solid : (d : Draft) → Sound (on_rest line (parted whole.0 (continued d)) whole.0 whole.1 more) → solids (on_rest line (parted whole.0 (continued d)) whole.0 whole.1 more) ≡ solid Code d.text ++ body_holds Code (body_of Code whole.0 whole.1) (behind_lines lines)
  parted_solid d =
      continued_as (λ e. Sound (on_rest line (parted whole.0 e) whole.0 whole.1 more) → solids (on_rest line (parted whole.0 e) whole.0 whole.1 more) ≡ solid Code d.text ++ body_holds Code (body_of Code whole.0 whole.1) (behind_lines lines)) d
      (parted_at (one_further d)) (parted_at (broken E104 d))

  continuation_solid : (d : Draft) (at : ℕ) (bs : List ℕ) → holds 10 bs ≡ false → d.has_begun ≡ true → Fits d → Sound (on_continuation line d whole at bs more) → solids (on_continuation line d whole at bs more) ≡ solid Code d.text ++ continuation_holds d.context whole at bs (behind_lines lines)
  continuation_solid d at [] m b f s = passed_solid d b f s
  continuation_solid d at (c ∷ cs) m b f s = by (c == 33) (c == 38) (ends d.context cs) s
    where
      by : (t u v : Bool) → Sound (if t then more d else if u then (if v then more (broken E106 (continued d)) else on_rest line (continued d) (at + 1) cs more) else on_rest line (parted whole.0 (continued d)) whole.0 whole.1 more) → solids (if t then more d else if u then (if v then more (broken E106 (continued d)) else on_rest line (continued d) (at + 1) cs more) else on_rest line (parted whole.0 (continued d)) whole.0 whole.1 more) ≡ solid Code d.text ++ (if t then lines_hold true d.context lines else if u then (if v then lines_hold true d.context lines else body_holds d.context (body_of d.context (at + 1) cs) (behind_lines lines)) else body_holds Code (body_of Code whole.0 whole.1) (behind_lines lines))
      by true u v s = passed_solid d b f s
      by false true true s = alone_solid d b f s
      by false true false s = marked_solid d (at + 1) cs (either_right (c == 10) (holds 10 cs) m) f s
      by false false v s = parted_solid d s

  first_solid : (d : Draft) → Fits d → (d.text ≡ []) × (d.context ≡ Code) → Sound (on_rest line d whole.0 whole.1 more) → solids (on_rest line d whole.0 whole.1 more) ≡ solid Code d.text ++ body_holds Code (body_of Code whole.0 whole.1) (behind_lines lines)
  first_solid d f h s = rest_solid line d whole.0 whole.1 lines more n f go s ∙ ap (λ c. solid Code d.text ++ body_holds c (body_of c whole.0 whole.1) (behind_lines lines)) h.1

  line_solid : (d : Draft) → Ready d → Sound (on_line line d whole more) → solids (on_line line d whole more) ≡ solid Code d.text ++ line_holds d.has_begun d.context whole (behind_lines lines)
  line_solid d r s = by d.has_begun refl s
    where
      m : holds 10 (behind_blanks whole.0 whole.1).1 ≡ false
      m = blanks_one whole.0 whole.1 n

      by : (t : Bool) → d.has_begun ≡ t → Sound (if t then on_continuation line (measured whole.1 d) whole (behind_blanks whole.0 whole.1).0 (behind_blanks whole.0 whole.1).1 more else on_rest line (measured whole.1 d) whole.0 whole.1 more) → solids (if t then on_continuation line (measured whole.1 d) whole (behind_blanks whole.0 whole.1).0 (behind_blanks whole.0 whole.1).1 more else on_rest line (measured whole.1 d) whole.0 whole.1 more) ≡ solid Code d.text ++ line_holds t d.context whole (behind_lines lines)
      by true e =
          measured_as (λ x. Sound (on_continuation line x whole (behind_blanks whole.0 whole.1).0 (behind_blanks whole.0 whole.1).1 more) → solids (on_continuation line x whole (behind_blanks whole.0 whole.1).0 (behind_blanks whole.0 whole.1).1 more) ≡ solid Code d.text ++ line_holds true d.context whole (behind_lines lines)) whole.1 d
          (continuation_solid (broken E103 d) (behind_blanks whole.0 whole.1).0 (behind_blanks whole.0 whole.1).1 m e r.fits)
          (continuation_solid d (behind_blanks whole.0 whole.1).0 (behind_blanks whole.0 whole.1).1 m e r.fits)
      by false e =
          measured_as (λ x. Sound (on_rest line x whole.0 whole.1 more) → solids (on_rest line x whole.0 whole.1 more) ≡ solid Code d.text ++ line_holds false d.context whole (behind_lines lines)) whole.1 d
          (first_solid (broken E103 d) r.fits (r.none e)) (first_solid d r.fits (r.none e))

-- no line holds a newline
abbrev pub AreOne : List Line → Type 0
AreOne [] = Unit {0}
AreOne (line ∷ lines) = (holds 10 line.1 ≡ false) × AreOne lines

lines_goes : (lines : List Line) (line : ℕ) → AreOne lines → Goes lines (λ d. statements_from line d lines)
lines_goes [] line n d r s = by d.has_begun refl s
  where
    by : (t : Bool) → d.has_begun ≡ t → Sound (if t then broken E106 d ∷ [] else []) → solids (if t then broken E106 d ∷ [] else []) ≡ solid Code d.text ++ []
    by true e s = absurd (unsound E106 d.fault s.0)
    by false e s = ap (λ l. solid Code l ++ []) (sym (r.none e).0)
lines_goes (whole ∷ lines) line n d r s = line_solid line whole lines (λ next. statements_from (line + 1) next lines) n.0 (lines_goes lines (line + 1) n.1) d r s

lines_one : (at : ℕ) (ended : List Ended) (last : List ℕ) → AreLines ended last → AreOne (lines_at at ended last)
lines_one at [] [] h = tt
lines_one at [] (b ∷ bs) h = (h, tt)
lines_one at (line ∷ lines) last h = (h.0, lines_one (at + length (ended_bytes line)) lines last h.2)

pub text_one : (text : List ℕ) → AreOne (lines_from 0 text)
text_one text = let h = lines_there 0 text in subst AreOne (sym h.lines_are) (lines_one 0 h.ended h.last h.are_lines)

-- the tokens of all statements

pub joined_append : (xs ys : List (List ℕ)) → joined (xs ++ ys) ≡ joined xs ++ joined ys
joined_append [] ys = refl
joined_append (x ∷ xs) ys = ap (λ l. x ++ l) (joined_append xs ys) ∙ sym (append_assoc x (joined xs) (joined ys))

no_fault : (d : Draft) (pieces : List (List ℕ)) → lexed bytes_as d ≡ Ok pieces → d.fault ≡ None
no_fault d pieces = by d.fault (tokens_behind bytes_as 0 d.text)
  where
    by : (fault : Option Rule) (r : Lexed (List ℕ)) → both (so_far [] fault) r ≡ Ok pieces → fault ≡ None
    by None r e = refl
    by (Some least) (Ok ts) e = cc
    by (Some least) (Err rule) e = cc

record Covers (ds : List Draft) (statements : List (ℕ × List (List ℕ))) : Type 0 where
  pub sound : Sound ds
  pub same : joined (tokens_in statements) ≡ solids ds

abbrev as_found : List (ℕ × List (List ℕ)) → Found (List ℕ)
as_found statements = Ok statements

same_found : (xs ys : List (ℕ × List (List ℕ))) → as_found xs ≡ as_found ys → xs ≡ ys
same_found xs ys e = cc

found_covers : (ds : List Draft) (statements : List (ℕ × List (List ℕ))) → found_in bytes_as ds ≡ Ok statements → Covers ds statements
found_covers [] statements e = record { sound = tt; same = ap (λ s. joined (tokens_in s)) (sym (same_found [] statements e)) }
found_covers (d ∷ ds) statements e = by (lexed bytes_as d) refl (found_in bytes_as ds) refl e (found_covers ds)
  where
    by : (r : Lexed (List ℕ)) → lexed bytes_as d ≡ r → (f : Found (List ℕ)) → found_in bytes_as ds ≡ f → told d.line r f ≡ Ok statements → ((ss : List (ℕ × List (List ℕ))) → found_in bytes_as ds ≡ Ok ss → Covers ds ss) → Covers (d ∷ ds) statements
    by (Err rule) h f k e more = cc
    by (Ok []) h f k e more =
        let c = more statements (k ∙ e) in
        record { sound = (no_fault d [] h, c.sound); same = c.same ∙ ap (λ l. l ++ solids ds) (tokens_cover d [] h) }
    by (Ok (t ∷ ts)) h (Err fault) k e more = cc
    by (Ok (t ∷ ts)) h (Ok ss) k e more =
        let c = more ss k in
        record {
          sound = (no_fault d (t ∷ ts) h, c.sound);
          same =
              ap (λ s. joined (tokens_in s)) (sym (same_found ((d.line, t ∷ ts) ∷ ss) statements e))
              ∙ joined_append (t ∷ ts) (tokens_in ss)
              ∙ ap (λ l. l ++ joined (tokens_in ss)) (tokens_cover d (t ∷ ts) h)
              ∙ ap (λ l. solid Code d.text ++ l) c.same;
        }

pub all_covered : (text : List ℕ) (statements : List (ℕ × List (List ℕ))) → found_in bytes_as (drafts_of text) ≡ Ok statements → joined (tokens_in statements) ≡ lines_hold false Code (lines_from 0 text)
all_covered text statements e =
    let c = found_covers (drafts_of text) statements e in
    c.same ∙ lines_goes (lines_from 0 text) 1 (text_one text) (fresh 1) (record { fits = refl; none = λ _. (refl, refl) }) c.sound

-- The lines that are found in a text are those that it has.
use Rattle.std.proofs.Common.{◌≡◌, ℕ, ◌+◌, Bool, true, false, List, [], ◌∷◌, ◌++◌, length, refl, sym, ap, ◌∙◌, subst, arith}
use Rattle.std.specs.Prelude.{if◌then◌else◌, ◌==◌, ◌&&◌, ◌||◌}
use Rattle.std.proofs.lemmas.Bool.{eqb-true}
use Rattle.ff_lexer.specs.Bytes.{begins_with, is_dropped}
use Rattle.ff_lexer.specs.Lines.{Line, begun_at, onto, lines_from}
use Rattle.ff_lexer.specs.Written.{LineEnd, end_bytes, Ended, ended_bytes, text_of, holds, Fits, AreLines, lines_at, HasLines}

abbrev next_line : ℕ → ℕ → List ℕ → Bool → Bool → List Line
next_line at b bs t u =
    if t then (at, []) ∷ lines_from (at + 1) bs
    else if u then begun_at at (lines_from (at + 1) bs)
    else onto at b (lines_from (at + 1) bs)

next_is : (at b : ℕ) (bs : List ℕ) {t u : Bool} → (b == 10) ≡ t → is_dropped b bs ≡ u → lines_from at (b ∷ bs) ≡ next_line at b bs t u
next_is at b bs {t} e h = ap (λ t. next_line at b bs t (is_dropped b bs)) e ∙ ap (next_line at b bs t) h

pub either_left : (a b : Bool) → (a || b) ≡ false → a ≡ false
either_left true b h = h
either_left false b h = refl

pub either_right : (a b : Bool) → (a || b) ≡ false → b ≡ false
either_right true b h = cc
either_right false b h = h

pub both_false : (a b : Bool) → b ≡ false → (a && b) ≡ false
both_false true b h = h
both_false false b h = refl

-- no newline follows
pub dropped : (b : ℕ) (bs : List ℕ) → holds 10 bs ≡ false → is_dropped b bs ≡ false
dropped b [] h = both_false (b == 13) false refl
dropped b (c ∷ cs) h = both_false (b == 13) (c == 10) (either_left (c == 10) (holds 10 cs) h)

-- what is written is found

-- the first byte of a line
module _ (b : ℕ) (bs : List ℕ) (end : LineEnd) (rest : List ℕ) where
  not_dropped : (holds 10 (b ∷ bs) ≡ false) → Fits end (b ∷ bs) → is_dropped b (bs ++ end_bytes end ++ rest) ≡ false
  not_dropped = by bs end
    where
      by : (bs : List ℕ) (end : LineEnd) → (holds 10 (b ∷ bs) ≡ false) → Fits end (b ∷ bs) → is_dropped b (bs ++ end_bytes end ++ rest) ≡ false
      by [] LineEnd.Newline h f = ap (λ t. t && true) f
      by [] LineEnd.ReturnNewline h f = both_false (b == 13) false refl
      by (c ∷ cs) end h f = both_false (b == 13) (c == 10) (either_left (c == 10) (holds 10 cs) (either_right (b == 10) (holds 10 (c ∷ cs)) h))

fits_behind : (end : LineEnd) (b : ℕ) (bs : List ℕ) → Fits end (b ∷ bs) → Fits end bs
fits_behind LineEnd.Newline b [] f = refl
fits_behind LineEnd.Newline b (c ∷ cs) f = f
fits_behind LineEnd.ReturnNewline b bs f = tt

last_found : (at : ℕ) (bs : List ℕ) → holds 10 bs ≡ false → lines_from at bs ≡ lines_at at [] bs
last_found at [] h = refl
last_found at (b ∷ bs) h = next_is at b bs (either_left (b == 10) (holds 10 bs) h) (dropped b bs (either_right (b == 10) (holds 10 bs) h)) ∙ ap (onto at b) (last_found (at + 1) bs (either_right (b == 10) (holds 10 bs) h)) ∙ one bs
  where
    one : (bs : List ℕ) → onto at b (lines_at (at + 1) [] bs) ≡ lines_at at [] (b ∷ bs)
    one [] = refl
    one (c ∷ cs) = refl

line_found : (at : ℕ) (bs : List ℕ) (end : LineEnd) (rest : List ℕ) → holds 10 bs ≡ false → Fits end bs → lines_from at (bs ++ end_bytes end ++ rest) ≡ (at, bs) ∷ lines_from (at + length (bs ++ end_bytes end)) rest
line_found at [] LineEnd.Newline rest h f = refl
line_found at [] LineEnd.ReturnNewline rest h f = ap (λ n. (at, []) ∷ lines_from n rest) (omega arith)
line_found at (b ∷ bs) end rest h f =
    next_is at b (bs ++ end_bytes end ++ rest) (either_left (b == 10) (holds 10 bs) h) (not_dropped b bs end rest h f)
    ∙ ap (onto at b) (line_found (at + 1) bs end rest (either_right (b == 10) (holds 10 bs) h) (fits_behind end b bs f))
    ∙ ap (λ n. (at, b ∷ bs) ∷ lines_from n rest) (omega arith)

found : (at : ℕ) (lines : List Ended) (last : List ℕ) → AreLines lines last → lines_from at (text_of lines last) ≡ lines_at at lines last
found at [] last h = last_found at last h
found at (line ∷ lines) last h =
    line_found at line.0 line.1 (text_of lines last) h.0 h.1
    ∙ ap (λ ls. (at, line.0) ∷ ls) (found (at + length (ended_bytes line)) lines last h.2)

pub only_lines : (at : ℕ) (text : List ℕ) (lines : List Line) → HasLines at text lines → lines ≡ lines_from at text
only_lines at text lines h = h.lines_are ∙ sym (found at h.ended h.last h.are_lines) ∙ ap (lines_from at) (sym h.text_is)

-- each text is written so

record Splits (text : List ℕ) : Type 0 where
  pub ended : List Ended
  pub last : List ℕ
  pub are_lines : AreLines ended last
  pub text_is : text ≡ text_of ended last

one_more : (b : ℕ) (bs : List ℕ) → (b == 10) ≡ false → is_dropped b bs ≡ false → Splits bs → Splits (b ∷ bs)
one_more b bs e d s = by s.ended s.last s.are_lines s.text_is
  where
    by : (ended : List Ended) (last : List ℕ) → AreLines ended last → bs ≡ text_of ended last → Splits (b ∷ bs)
    by [] last h k = record { ended = []; last = b ∷ last; are_lines = ap (λ t. t || holds 10 last) e ∙ h; text_is = ap (λ l. b ∷ l) k }
    by (line ∷ lines) last h k =
        record {
          ended = (b ∷ line.0, line.1) ∷ lines;
          last = last;
          are_lines = (ap (λ t. t || holds 10 line.0) e ∙ h.0, fits line.0 line.1 h.1 k, h.2);
          text_is = ap (λ l. b ∷ l) k;
        }
      where
        fits : (l : List ℕ) (end : LineEnd) → Fits end l → bs ≡ (l ++ end_bytes end) ++ text_of lines last → Fits end (b ∷ l)
        fits [] LineEnd.Newline f k = alone (b == 13) (sym (ap (λ l. b == 13 && begins_with 10 l) k) ∙ d)
          where
            alone : (t : Bool) → (t && true) ≡ false → t ≡ false
            alone true h = h
            alone false h = h
        fits (c ∷ cs) LineEnd.Newline f k = f
        fits l LineEnd.ReturnNewline f k = tt

ended_by : (end : LineEnd) (bs : List ℕ) → Splits bs → Splits (end_bytes end ++ bs)
ended_by end bs s = record { ended = ([], end) ∷ s.ended; last = s.last; are_lines = (refl, fits end, s.are_lines); text_is = ap (λ l. end_bytes end ++ l) s.text_is }
  where
    fits : (end : LineEnd) → Fits end []
    fits LineEnd.Newline = refl
    fits LineEnd.ReturnNewline = tt

split_one : (b : ℕ) → Splits [] → Splits (b ∷ [])
split_one b s = by (b == 10) refl
  where
    by : (t : Bool) → (b == 10) ≡ t → Splits (b ∷ [])
    by true e = subst (λ x. Splits (x ∷ [])) (sym (eqb-true b 10 e)) (ended_by LineEnd.Newline [] s)
    by false e = one_more b [] e (both_false (b == 13) false refl) s

split_more : (b c : ℕ) (cs : List ℕ) → Splits (c ∷ cs) → Splits cs → Splits (b ∷ c ∷ cs)
split_more b c cs s r = by (b == 10) refl (b == 13) refl (c == 10) refl
  where
    by : (t : Bool) → (b == 10) ≡ t → (u : Bool) → (b == 13) ≡ u → (v : Bool) → (c == 10) ≡ v → Splits (b ∷ c ∷ cs)
    by true e u h v k = subst (λ x. Splits (x ∷ c ∷ cs)) (sym (eqb-true b 10 e)) (ended_by LineEnd.Newline (c ∷ cs) s)
    by false e true h true k = subst (λ x. Splits (x ∷ c ∷ cs)) (sym (eqb-true b 13 h)) (subst (λ x. Splits (13 ∷ x ∷ cs)) (sym (eqb-true c 10 k)) (ended_by LineEnd.ReturnNewline cs r))
    by false e false h v k = one_more b (c ∷ cs) e (ap (λ t. t && (c == 10)) h) s
    by false e true h false k = one_more b (c ∷ cs) e (both_false (b == 13) (c == 10) k) s

splits : (text : List ℕ) → Splits text
splits [] = record { ended = []; last = []; are_lines = refl; text_is = refl }
splits (b ∷ []) = split_one b (splits [])
splits (b ∷ c ∷ cs) = split_more b c cs (splits (c ∷ cs)) (splits cs)

pub lines_there : (at : ℕ) (text : List ℕ) → HasLines at text (lines_from at text)
lines_there at text =
    let s = splits text in
    record { ended = s.ended; last = s.last; are_lines = s.are_lines; text_is = s.text_is; lines_are = ap (lines_from at) s.text_is ∙ found at s.ended s.last s.are_lines }

-- Where the lines of a source lie in it, and how reading passes over them.
use Rattle.std.proofs.Common.{◌≡◌, ℕ, zero, suc, ◌+◌, ◌≤◌, Bool, true, false, List, [], ◌∷◌, length, drop, refl, sym, ap, ◌∙◌, subst, arith}
use Rattle.std.specs.Prelude.{if◌then◌else◌, ◌==◌, ◌&&◌, ◌||◌, not}
use Rattle.std.proofs.lemmas.Bool.Decides.{nat_tests}
use Rattle.ff_lexer.specs.declared.bytes.Context.{Context}
use Rattle.ff_lexer.specs.declared.lexeme.Placed.{Placed}
use Rattle.ff_lexer.specs.declared.unbroken.Reading.{Reading}
use Rattle.ff_lexer.specs.declared.unbroken.Reading.TheVariants as reading
use Rattle.ff_lexer.specs.Bytes.{is_blank, is_code, begins_with, behind, is_dropped, ends, is_continued, is_comment}
use Rattle.ff_lexer.specs.Lines.{Line, begun_at, onto, lines_from, placed, in_front, body_of, behind_blanks}
use Rattle.ff_lexer.specs.Spans.{at_front}
use Rattle.ff_lexer.proofs.Paths.{Passes, passes_none, passes_more, passes_byte, has_byte, Told, Run}

tail_of : List ℕ → List ℕ
tail_of [] = []
tail_of (b ∷ bs) = bs

next_suc : (source : List ℕ) (p b : ℕ) (bs : List ℕ) → drop p source ≡ b ∷ bs → drop (suc p) source ≡ bs
next_suc [] zero b bs h = cc
next_suc [] (suc p) b bs h = cc
next_suc (x ∷ xs) zero b bs h = unfolding_tail h
  where
    unfolding_tail : x ∷ xs ≡ b ∷ bs → xs ≡ bs
    unfolding_tail e = cc
next_suc (x ∷ xs) (suc p) b bs h = next_suc xs p b bs h

drop_next : (source : List ℕ) (p b : ℕ) (bs : List ℕ) → drop p source ≡ b ∷ bs → drop (p + 1) source ≡ bs
drop_next source p b bs h = ap (λ n. drop n source) {y = suc p} (omega arith) ∙ next_suc source p b bs h

-- these bytes of a line lie here
abbrev pub LineAt : List ℕ → ℕ → List ℕ → Type 0
LineAt source p [] = Unit {0}
LineAt source p (b ∷ bs) =
    (drop p source ≡ b ∷ drop (p + 1) source) × ((b == 10) ≡ false) × (is_dropped b (drop (p + 1) source) ≡ false) × (is_dropped b bs ≡ false)
    × LineAt source (p + 1) bs

-- a line ends here
abbrev pub EndsLine : List ℕ → ℕ → Type 0
EndsLine source q = (context : Context) → ends context (drop q source) ≡ true

-- the next line lies behind this place
abbrev pub NextLine : List ℕ → ℕ → List Line → Type 0
NextLine source q [] = Unit {0}
NextLine source q (l ∷ ls) =
    ((context : Context) → Passes source (reading.Tail context) q (reading.Front context) l.0)
    × ((context : Context) → Passes source (reading.Front context) q (reading.Front context) l.0)

abbrev pub LinesAt : List ℕ → List Line → Type 0
LinesAt source [] = Unit {0}
LinesAt source (l ∷ ls) =
    LineAt source l.0 l.1 × EndsLine source (l.0 + length l.1) × NextLine source (l.0 + length l.1) ls × (l.0 ≤ length source) × LinesAt source ls

abbrev Starts : ℕ → List Line → Type 0
Starts p [] = Unit {0}
Starts p (l ∷ ls) = l.0 ≡ p

begun_starts : (p : ℕ) (ls : List Line) → Starts p (begun_at p ls)
begun_starts p [] = refl
begun_starts p (l ∷ ls) = refl

onto_starts : (p b : ℕ) (ls : List Line) → Starts p (onto p b ls)
onto_starts p b [] = refl
onto_starts p b (l ∷ ls) = refl

lines_start : (p : ℕ) (bs : List ℕ) → Starts p (lines_from p bs)
lines_start p [] = tt
lines_start p (b ∷ bs) =
    elim (b == 10) as (λ t. Starts p (if t then (p, []) ∷ lines_from (p + 1) bs else if is_dropped b bs then begun_at p (lines_from (p + 1) bs) else onto p b (lines_from (p + 1) bs))) [
      | true ↦ refl
      | false ↦ elim (is_dropped b bs) as (λ t. Starts p (if t then begun_at p (lines_from (p + 1) bs) else onto p b (lines_from (p + 1) bs))) [ true ↦ begun_starts p (lines_from (p + 1) bs) | false ↦ onto_starts p b (lines_from (p + 1) bs) ]
    ]

abbrev NoneLeft : List ℕ → List Line → Type 0
NoneLeft bs [] = bs ≡ []
NoneLeft bs (l ∷ ls) = Unit {0}

begun_some : (p : ℕ) (bs : List ℕ) (ls : List Line) → NoneLeft bs (begun_at p ls)
begun_some p bs [] = tt
begun_some p bs (l ∷ ls) = tt

onto_some : (p b : ℕ) (bs : List ℕ) (ls : List Line) → NoneLeft bs (onto p b ls)
onto_some p b bs [] = tt
onto_some p b bs (l ∷ ls) = tt

none_left : (p : ℕ) (bs : List ℕ) → NoneLeft bs (lines_from p bs)
none_left p [] = refl
none_left p (b ∷ bs) =
    elim (b == 10) as (λ t. NoneLeft (b ∷ bs) (if t then (p, []) ∷ lines_from (p + 1) bs else if is_dropped b bs then begun_at p (lines_from (p + 1) bs) else onto p b (lines_from (p + 1) bs))) [
      | true ↦ tt
      | false ↦ elim (is_dropped b bs) as (λ t. NoneLeft (b ∷ bs) (if t then begun_at p (lines_from (p + 1) bs) else onto p b (lines_from (p + 1) bs))) [ true ↦ begun_some p (b ∷ bs) (lines_from (p + 1) bs) | false ↦ onto_some p b (b ∷ bs) (lines_from (p + 1) bs) ]
    ]

next_line : (source : List ℕ) (q p : ℕ) (ls : List Line) → Starts p ls → ((context : Context) → Passes source (reading.Tail context) q (reading.Front context) p) → ((context : Context) → Passes source (reading.Front context) q (reading.Front context) p) → NextLine source q ls
next_line source q p [] s t f = tt
next_line source q p (l ∷ ls) s t f = (λ context. subst (Passes source (reading.Tail context) q (reading.Front context)) (sym s) (t context), λ context. subst (Passes source (reading.Front context) q (reading.Front context)) (sym s) (f context))

module _ (source : List ℕ) (p b : ℕ) (bs : List ℕ) (h : drop p source ≡ b ∷ bs) where
  here : drop p source ≡ b ∷ drop (p + 1) source
  here = h ∙ ap (λ l. b ∷ l) (sym (drop_next source p b bs h))

  tail_newline : b ≡ 10 → (context : Context) → Passes source (reading.Tail context) p (reading.Front context) (p + 1)
  tail_newline e context = passes_byte source (reading.Tail context) (reading.Front context) p b here refl (ap (λ x. if x == 10 then reading.Front context else reading.Tail context) e)

  front_newline : b ≡ 10 → (context : Context) → Passes source (reading.Front context) p (reading.Front context) (p + 1)
  front_newline e context = passes_byte source (reading.Front context) (reading.Front context) p b here refl (ap (λ x. at_front context x (drop (p + 1) source)) e)

  tail_return : b ≡ 13 → (context : Context) → Passes source (reading.Tail context) p (reading.Tail context) (p + 1)
  tail_return e context = passes_byte source (reading.Tail context) (reading.Tail context) p b here refl (ap (λ x. if x == 10 then reading.Front context else reading.Tail context) e)

  front_return : b ≡ 13 → (context : Context) → Passes source (reading.Front context) p (reading.Front context) (p + 1)
  front_return e context = passes_byte source (reading.Front context) (reading.Front context) p b here refl (ap (λ x. at_front context x (drop (p + 1) source)) e)

  newline_ends : b ≡ 10 → EndsLine source p
  newline_ends e context = ap (ends context) h ∙ ap (λ x. if x == 10 || is_dropped x bs then true else if is_blank x then ends context bs else x == 33 && is_code context) e

  return_ends : b ≡ 13 → begins_with 10 bs ≡ true → EndsLine source p
  return_ends e k context =
      ap (ends context) h
      ∙ ap (λ x. if x == 10 || is_dropped x bs then true else if is_blank x then ends context bs else x == 33 && is_code context) e
      ∙ ap (λ t. if t then true else if is_blank 13 then ends context bs else 13 == 33 && is_code context) k

  -- one more byte in front of the first line
  in_line : (b == 10) ≡ false → is_dropped b bs ≡ false → (l : List ℕ) → LineAt source (p + 1) l → LineAt source p (b ∷ l)
  in_line e f l k = (here, e, subst (λ r. is_dropped b r ≡ false) (sym (drop_next source p b bs h)) f, before l k, k)
    where
      before : (l : List ℕ) → LineAt source (p + 1) l → is_dropped b l ≡ false
      before [] k = grind (arith, nat_tests)
      before (x ∷ xs) k = grind (arith, nat_tests, k.1)

  onto_lies : (b == 10) ≡ false → is_dropped b bs ≡ false → (ls : List Line) → Starts (p + 1) ls → NoneLeft bs ls → LinesAt source ls → LinesAt source (onto p b ls)
  onto_lies e f [] s n k =
      (in_line e f [] tt, subst (EndsLine source) {x = p + 1} (omega arith) (λ context. ap (ends context) (drop_next source p b bs h ∙ n)), tt, omega (arith, has_byte source p b bs h), tt)
  onto_lies e f (l ∷ ls) s n k =
      (in_line e f l.1 (subst (λ q. LineAt source q l.1) s k.0), subst (EndsLine source) further k.1, subst (λ q. NextLine source q ls) further k.2, omega (arith, has_byte source p b bs h), k.4)
    where
      further : l.0 + length l.1 ≡ p + length (b ∷ l.1)
      further = omega (arith, s)

-- a carriage return in front of a newline
begun_lies : (source : List ℕ) (p b : ℕ) (bs : List ℕ) → drop p source ≡ b ∷ bs → is_dropped b bs ≡ true → LinesAt source (lines_from (p + 1) bs) → LinesAt source (begun_at p (lines_from (p + 1) bs))
begun_lies source p b [] h f k = absurd (grind (arith, nat_tests, f))
begun_lies source p b (c ∷ cs) h f k = by (c == 10) refl k
  where
    return : b ≡ 13
    return = grind (arith, nat_tests, f)

    next : (ls : List Line) → NextLine source (p + 1 + 0) ls → NextLine source (p + 0) ls
    next [] x = tt
    next (l ∷ ls) x = (λ context. tails context, λ context. fronts context)
      where
        tails : (context : Context) → Passes source (reading.Tail context) (p + 0) (reading.Front context) l.0
        tails context = subst (λ q. Passes source (reading.Tail context) q (reading.Front context) l.0) {x = p} (omega arith) (passes_more source (reading.Tail context) (reading.Tail context) (reading.Front context) p (p + 1) l.0 (tail_return source p b (c ∷ cs) h return context) (subst (λ q. Passes source (reading.Tail context) q (reading.Front context) l.0) {x = p + 1 + 0} (omega arith) (x.0 context)))

        fronts : (context : Context) → Passes source (reading.Front context) (p + 0) (reading.Front context) l.0
        fronts context = subst (λ q. Passes source (reading.Front context) q (reading.Front context) l.0) {x = p} (omega arith) (passes_more source (reading.Front context) (reading.Front context) (reading.Front context) p (p + 1) l.0 (front_return source p b (c ∷ cs) h return context) (subst (λ q. Passes source (reading.Front context) q (reading.Front context) l.0) {x = p + 1 + 0} (omega arith) (x.1 context)))

    by : (t : Bool) → (c == 10) ≡ t → LinesAt source (if t then (p + 1, []) ∷ lines_from (p + 1 + 1) cs else if is_dropped c cs then begun_at (p + 1) (lines_from (p + 1 + 1) cs) else onto (p + 1) c (lines_from (p + 1 + 1) cs)) → LinesAt source (begun_at p (if t then (p + 1, []) ∷ lines_from (p + 1 + 1) cs else if is_dropped c cs then begun_at (p + 1) (lines_from (p + 1 + 1) cs) else onto (p + 1) c (lines_from (p + 1 + 1) cs)))
    by true e x = (tt, subst (EndsLine source) {x = p} (omega arith) (return_ends source p b (c ∷ cs) h return e), next (lines_from (p + 1 + 1) cs) x.2, omega (arith, has_byte source p b (c ∷ cs) h), x.4)
    by false e x = absurd (grind (arith, nat_tests, f, e))

pub lines_lie : (source bs : List ℕ) (p : ℕ) → drop p source ≡ bs → LinesAt source (lines_from p bs)
lines_lie source [] p h = tt
lines_lie source (b ∷ bs) p h = by (b == 10) refl (is_dropped b bs) refl (lines_lie source bs (p + 1) (drop_next source p b bs h))
  where
    by : (t : Bool) → (b == 10) ≡ t → (u : Bool) → is_dropped b bs ≡ u → LinesAt source (lines_from (p + 1) bs) → LinesAt source (if t then (p, []) ∷ lines_from (p + 1) bs else if u then begun_at p (lines_from (p + 1) bs) else onto p b (lines_from (p + 1) bs))
    by true e u f k =
        (tt, subst (EndsLine source) {x = p} (omega arith) (newline_ends source p b bs h newline), subst (λ q. NextLine source q (lines_from (p + 1) bs)) {x = p} (omega arith) (next_line source p (p + 1) (lines_from (p + 1) bs) (lines_start (p + 1) bs) (tail_newline source p b bs h newline) (front_newline source p b bs h newline)), omega (arith, has_byte source p b bs h), k)
      where
        newline : b ≡ 10
        newline = grind (arith, nat_tests, e)
    by false e true f k = begun_lies source p b bs h f k
    by false e false f k = onto_lies source p b bs h e f (lines_from (p + 1) bs) (lines_start (p + 1) bs) (none_left (p + 1) bs) k

-- what stands behind a place of a line
pub ends_same : (source bytes : List ℕ) (p : ℕ) (context : Context) → LineAt source p bytes → EndsLine source (p + length bytes) → ends context (drop p source) ≡ ends context bytes
ends_same source [] p context h e = ap (λ q. ends context (drop q source)) {y = p + 0} (omega arith) ∙ e context
ends_same source (b ∷ bs) p context h e =
    ap (ends context) h.0
    ∙ ap (λ t. if b == 10 || t then true else if is_blank b then ends context (drop (p + 1) source) else b == 33 && is_code context) (h.2 ∙ sym h.3)
    ∙ ap (λ x. if b == 10 || is_dropped b bs then true else if is_blank b then x else b == 33 && is_code context) (ends_same source bs (p + 1) context h.4 (subst (EndsLine source) {y = p + 1 + length bs} (omega arith) e))

-- the rest of a line is passed
pub tail_passes : (source bytes : List ℕ) (p : ℕ) (context : Context) → LineAt source p bytes → Passes source (reading.Tail context) p (reading.Tail context) (p + length bytes)
tail_passes source [] p context h = subst (Passes source (reading.Tail context) p (reading.Tail context)) {x = p} (omega arith) (passes_none source (reading.Tail context) p)
tail_passes source (b ∷ bs) p context h =
    passes_more source (reading.Tail context) (reading.Tail context) (reading.Tail context) p (p + 1) (p + length (b ∷ bs))
    (passes_byte source (reading.Tail context) (reading.Tail context) p b h.0 refl (ap (λ t. if t then reading.Front context else reading.Tail context) h.1))
    (subst (Passes source (reading.Tail context) (p + 1) (reading.Tail context)) {x = p + 1 + length bs} (omega arith) (tail_passes source bs (p + 1) context h.4))

-- blanks in front of a line are passed
pub blanks_pass : (source bytes : List ℕ) (p : ℕ) → LineAt source p bytes → LineAt source (behind_blanks p bytes).0 (behind_blanks p bytes).1 × ((behind_blanks p bytes).0 + length (behind_blanks p bytes).1 ≡ p + length bytes) × ((context : Context) → Passes source (reading.Front context) p (reading.Front context) (behind_blanks p bytes).0)
blanks_pass source [] p h = (tt, refl, λ context. passes_none source (reading.Front context) p)
blanks_pass source (b ∷ bs) p h = by (is_blank b) refl (blanks_pass source bs (p + 1) h.4)
  where
    Passed : Line → Type 0
    Passed r = LineAt source r.0 r.1 × (r.0 + length r.1 ≡ p + length (b ∷ bs)) × ((context : Context) → Passes source (reading.Front context) p (reading.Front context) r.0)

    blank : is_blank b ≡ true → (context : Context) → at_front context b (drop (p + 1) source) ≡ reading.Front context
    blank e context =
        let x : (b == 38) ≡ false = grind (arith, nat_tests, e) in
        let y : (b == 33) ≡ false = grind (arith, nat_tests, e) in
        ap (λ t. if t then (if ends context (drop (p + 1) source) then reading.Tail context else reading.Body context) else if b == 33 then reading.Tail context else reading.Front context) x
        ∙ ap (λ t. if t then reading.Tail context else reading.Front context) y

    by : (t : Bool) → is_blank b ≡ t → (LineAt source (behind_blanks (p + 1) bs).0 (behind_blanks (p + 1) bs).1 × ((behind_blanks (p + 1) bs).0 + length (behind_blanks (p + 1) bs).1 ≡ p + 1 + length bs) × ((context : Context) → Passes source (reading.Front context) (p + 1) (reading.Front context) (behind_blanks (p + 1) bs).0)) → LineAt source (if t then behind_blanks (p + 1) bs else (p, b ∷ bs)).0 (if t then behind_blanks (p + 1) bs else (p, b ∷ bs)).1 × ((if t then behind_blanks (p + 1) bs else (p, b ∷ bs)).0 + length (if t then behind_blanks (p + 1) bs else (p, b ∷ bs)).1 ≡ p + length (b ∷ bs)) × ((context : Context) → Passes source (reading.Front context) p (reading.Front context) (if t then behind_blanks (p + 1) bs else (p, b ∷ bs)).0)
    by true e k = (k.0, omega (arith, k.1), λ context. passes_more source (reading.Front context) (reading.Front context) (reading.Front context) p (p + 1) (behind_blanks (p + 1) bs).0 (passes_byte source (reading.Front context) (reading.Front context) p b h.0 refl (blank e context)) (k.2 context))
    by false e k = (h, refl, λ context. passes_none source (reading.Front context) p)

-- where the body of a line ends: behind its `&` and the blanks and the comment there, or in front of its comment
abbrev pub stop : Context → Bool → Reading
stop context goes_on = if goes_on then reading.Tail context else reading.Body context

pub record BodyRead (source bytes : List ℕ) (p : ℕ) (context : Context) (body : List Placed) (goes_on : Bool) : Type 0 where
  pub last : Context
  pub place : ℕ
  pub run : Run source (reading.Body context) p body (stop last goes_on) place
  pub far : place ≤ p + length bytes
  pub whole : goes_on ≡ true → place ≡ p + length bytes

pub body_read : (source bytes : List ℕ) (p : ℕ) (context : Context) → LineAt source p bytes → EndsLine source (p + length bytes) → BodyRead source bytes p context (body_of context p bytes).0 (body_of context p bytes).1
body_read source [] p context h e = record { last = context; place = p; run = passes_none source (reading.Body context) p; far = omega arith; whole = λ x. cc }
body_read source (b ∷ bs) p context h e = by (is_continued context b bs) refl (is_comment context b) (body_read source bs (p + 1) (behind context b) h.4 (subst (EndsLine source) {y = p + 1 + length bs} (omega arith) e))
  where
    same : is_continued context b (drop (p + 1) source) ≡ is_continued context b bs
    same = ap (λ t. b == 38 && t) (ends_same source bs (p + 1) context h.4 (subst (EndsLine source) {y = p + 1 + length bs} (omega arith) e))

    told : is_continued context b bs ≡ false → Told source (reading.Body context) p (placed p b)
    told k = record {
      passes = subst (Passes source (reading.Body context) p (reading.Body context)) {x = p} (omega arith) (passes_none source (reading.Body context) p);
      some = omega arith;
      there = ap (λ q. drop q source) {y = p} (omega arith) ∙ h.0;
      whole = same ∙ k;
      plain = h.1;
    }

    ampersand : is_continued context b bs ≡ true → Passes source (reading.Body context) p (reading.Tail context) (p + length (b ∷ bs))
    ampersand k =
        passes_more source (reading.Body context) (reading.Tail context) (reading.Tail context) p (p + 1) (p + length (b ∷ bs))
        (passes_byte source (reading.Body context) (reading.Tail context) p b h.0 (ap not (same ∙ k)) (ap (λ t. if t then reading.Tail context else reading.Body (behind context b)) (same ∙ k)))
        (subst (Passes source (reading.Tail context) (p + 1) (reading.Tail context)) {x = p + 1 + length bs} (omega arith) (tail_passes source bs (p + 1) context h.4))

    by : (t : Bool) → is_continued context b bs ≡ t → (u : Bool) → BodyRead source bs (p + 1) (behind context b) (body_of (behind context b) (p + 1) bs).0 (body_of (behind context b) (p + 1) bs).1 → BodyRead source (b ∷ bs) p context (if t then ([], true) else if u then ([], false) else in_front (placed p b) (body_of (behind context b) (p + 1) bs)).0 (if t then ([], true) else if u then ([], false) else in_front (placed p b) (body_of (behind context b) (p + 1) bs)).1
    by true k u x = record { last = context; place = p + length (b ∷ bs); run = ampersand k; far = omega arith; whole = λ _. refl }
    by false k true x = record { last = context; place = p; run = passes_none source (reading.Body context) p; far = omega arith; whole = λ y. cc }
    by false k false x = record { last = x.last; place = x.place; run = (told k, x.run); far = omega (arith, x.far); whole = λ y. omega (arith, x.whole y) }

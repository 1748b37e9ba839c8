-- The texts of the statements of a source have paths in it, one behind the other.
use Rattle.std.proofs.Common.{◌≡◌, ℕ, ◌+◌, ◌≤◌, Bool, true, false, List, [], ◌∷◌, ◌++◌, length, drop, refl, sym, ap, ◌∙◌, subst, arith, append-nil}
use Rattle.std.specs.Prelude.{if◌then◌else◌, ◌==◌, nat_lt}
use Rattle.std.proofs.lemmas.Bool.Decides.{nat_tests}
use Rattle.lf_base.specs.declared.rule.Rule.TheVariants.{E103, E104, E106}
use Rattle.ff_lexer.specs.declared.bytes.Context.{Context}
use Rattle.ff_lexer.specs.declared.bytes.Context.TheVariants.{Code, Constant}
use Rattle.ff_lexer.specs.declared.lexeme.Placed.{Placed}
use Rattle.ff_lexer.specs.declared.unbroken.Reading.{Reading}
use Rattle.ff_lexer.specs.declared.unbroken.Reading.TheVariants as reading
use Rattle.ff_lexer.specs.Bytes.{is_code, behind, ends}
use Rattle.ff_lexer.specs.Lines.{Line, Draft, fresh, broken, measured, continued, parted, added, is_end, earlier, then_more, in_body, at_end, body_of, on_rest, behind_blanks, on_continuation, on_line, statements_from}
use Rattle.ff_lexer.proofs.LinesLie.{LineAt, EndsLine, NextLine, LinesAt, ends_same, tail_passes, blanks_pass, stop, BodyRead, body_read}
use Rattle.ff_lexer.specs.Spans.{at_front}
use Rattle.ff_lexer.proofs.Paths.{context_of, Passes, passes_none, passes_more, passes_byte, Told, after, Run, Path, path_more, path_one, path_mark, path_within}

-- The text has a path from behind this place on, which ends there.
abbrev pub Holds : List ℕ → ℕ → List Placed → Context → Reading → ℕ → Type 0
Holds source low text context r p = (q : ℕ) × (low ≤ q) × (q ≤ length source) × Path source (reading.Body Code) q text r p × (context_of r ≡ context)

-- The statements have paths between the two places, one behind the other.
abbrev pub DraftsTo : List ℕ → ℕ → List Draft → ℕ → Type 0
DraftsTo source low [] high = low ≤ high
DraftsTo source low (d ∷ ds) high = (q : ℕ) × (low ≤ q) × (r : Reading) × (p : ℕ) × Path source (reading.Body Code) q d.text r p × DraftsTo source p ds high

-- the first of the lines begins behind this place
abbrev Later : List ℕ → ℕ → List Line → Type 0
Later source low [] = low ≤ length source
Later source low (l ∷ ls) = low ≤ l.0

-- the open statement has been read up to the first of the lines
abbrev AtFront : Reading → ℕ → Context → List Line → Type 0
AtFront r p context [] = Unit {0}
AtFront r p context (l ∷ ls) = (r ≡ reading.Front context) × (p ≡ l.0)

record Ready (source : List ℕ) (low : ℕ) (d : Draft) (ls : List Line) : Type 0 where
  pub begun : d.has_begun ≡ true → (r : Reading) × (p : ℕ) × Holds source low d.text d.context r p × AtFront r p d.context ls
  pub none : d.has_begun ≡ false → (d.text ≡ []) × (d.context ≡ Code) × Later source low ls

abbrev Goes : List ℕ → List Line → (Draft → List Draft) → Type 0
Goes source ls more = (d : Draft) (low : ℕ) → Ready source low d ls → DraftsTo source low (more d) (length source)

fresh_ready : (source : List ℕ) (low line : ℕ) (ls : List Line) → Later source low ls → Ready source low (fresh line) ls
fresh_ready source low line ls h = record { begun = λ e. cc; none = λ e. (refl, refl, h) }

holds_on : (source : List ℕ) (low : ℕ) (text : List Placed) (context : Context) (r s : Reading) (p q : ℕ) → Holds source low text context r p → Passes source r p s q → Holds source low text context s q
holds_on source low text context r s p q h x = (h.0, h.1, h.2, subst (λ l. Path source (reading.Body Code) h.0 l s q) (append-nil text) (path_more source (reading.Body Code) r s h.0 p q text [] h.3 x), x.same ∙ h.4)

holds_byte : (source : List ℕ) (low : ℕ) (text : List Placed) (context : Context) (r : Reading) (p : ℕ) (b : Placed) → Holds source low text context r p → Told source r p b → Holds source low (text ++ b ∷ []) (behind context b.byte) (after r b) b.end
holds_byte source low text context r p b h t = (h.0, h.1, h.2, path_more source (reading.Body Code) r (after r b) h.0 p b.end text (b ∷ []) h.3 (path_one source r p b t), ap (λ c. behind c b.byte) h.4)

-- the statements of a body
body_holds : (source : List ℕ) (line high : ℕ) (bs : List Placed) (d : Draft) (low : ℕ) (r r' : Reading) (p p' : ℕ) (k : Draft → List Draft) → Holds source low d.text d.context r p → Run source r p bs r' p' → ((next : Draft) (low : ℕ) → Holds source low next.text next.context r' p' → DraftsTo source low (k next) high) → DraftsTo source low (then_more (in_body line d bs) k) high
body_holds source line high [] d low r r' p p' k h x go = go d low (holds_on source low d.text d.context r r' p p' h x)
body_holds source line high (b ∷ bs) d low r r' p p' k h x go = by (is_end d b.byte) refl (λ e low h. body_holds source line high bs e low (after r b) r' b.end p' k h x.1 go)
  where
    outside : is_end d b.byte ≡ true → context_of (after r b) ≡ Code
    outside e =
        let n : b.byte ≡ 59 = grind (arith, nat_tests, e) in
        let c : is_code d.context ≡ true = grind (arith, nat_tests, e) in
        ap (λ c. behind c b.byte) (h.4 ∙ code d.context c) ∙ ap (behind Code) n
      where
        code : (context : Context) → is_code context ≡ true → context ≡ Code
        code Code e = refl
        code (Constant delimiter) e = cc

    by : (t : Bool) → is_end d b.byte ≡ t → ((e : Draft) (low : ℕ) → Holds source low e.text e.context (after r b) b.end → DraftsTo source low (then_more (in_body line e bs) k) high) → DraftsTo source low (then_more (if t then earlier d (in_body line (fresh line) bs) else in_body line (added d b) bs) k) high
    by true e more = (h.0, h.1, r, p, h.3, more (fresh line) p (b.end, w.0, w.1, subst (λ c. Passes source (reading.Body Code) b.end (reading.Body c) b.end) (sym (outside e)) (passes_none source (reading.Body Code) b.end), outside e))
      where
        w : (p ≤ b.end) × (b.end ≤ length source)
        w = path_within source r (after r b) p b.end (b ∷ []) (path_within source (reading.Body Code) r h.0 p d.text h.2 h.3).1 (path_one source r p b x.0)
    by false e more = more (added d b) low (holds_byte source low d.text d.context r p b h x.0)

-- a statement ends with its line
ended : (source : List ℕ) (line : ℕ) (d e : Draft) (low : ℕ) (r : Reading) (p q : ℕ) (ls : List Line) (more : Draft → List Draft) → d.text ≡ e.text → Holds source low d.text d.context r p → p ≤ q → NextLine source q ls → Goes source ls more → DraftsTo source low (e ∷ more (fresh line)) (length source)
ended source line d e low r p q ls more same h m n go =
    (h.0, h.1, r, p, subst (λ l. Path source (reading.Body Code) h.0 l r p) same h.3, go (fresh line) p (fresh_ready source p line ls (later ls n)))
  where
    later : (ls : List Line) → NextLine source q ls → Later source p ls
    later [] n = (path_within source (reading.Body Code) r h.0 p d.text h.2 h.3).1
    later (l ∷ ls) n = omega (arith, m, (n.0 Code).order)

-- a statement goes on in the next line
going_on : (source : List ℕ) (d : Draft) (low : ℕ) (context : Context) (p : ℕ) (ls : List Line) (more : Draft → List Draft) → d.has_begun ≡ true → Holds source low d.text d.context (reading.Tail context) p → NextLine source p ls → Goes source ls more → DraftsTo source low (more d) (length source)
going_on source d low context p ls more b h n go = go d low record { begun = λ _. (where_to ls n); none = λ e. cc }
  where
    where_to : (ls : List Line) → NextLine source p ls → (r : Reading) × (q : ℕ) × Holds source low d.text d.context r q × AtFront r q d.context ls
    where_to [] n = (reading.Tail context, p, h, tt)
    where_to (l ∷ ls) n = (reading.Front context, l.0, holds_on source low d.text d.context (reading.Tail context) (reading.Front context) p l.0 h (n.0 context), (ap reading.Front h.4, refl))

end_holds : (source : List ℕ) (line : ℕ) (goes_on : Bool) (d : Draft) (low : ℕ) (context : Context) (p q : ℕ) (ls : List Line) (more : Draft → List Draft) → Holds source low d.text d.context (stop context goes_on) p → p ≤ q → (goes_on ≡ true → p ≡ q) → NextLine source q ls → Goes source ls more → DraftsTo source low (then_more (at_end line d goes_on) more) (length source)
end_holds source line false d low context p q ls more h m w n go = ended source (line + 1) d d low (reading.Body context) p q ls more refl h m n go
end_holds source line true d low context p q ls more h m w n go = by d.has_begun refl
  where
    by : (t : Bool) → d.has_begun ≡ t → DraftsTo source low (then_more (if t then ([], d) else (broken E106 d ∷ [], fresh (line + 1))) more) (length source)
    by true e = going_on source d low context p ls more e h (subst (λ x. NextLine source x ls) (sym (w refl)) n) go
    by false e = ended source (line + 1) d (broken E106 d) low (reading.Tail context) p q ls more refl h m n go

rest_holds : (source : List ℕ) (line : ℕ) (d : Draft) (low at : ℕ) (bytes : List ℕ) (ls : List Line) (more : Draft → List Draft) → LineAt source at bytes → EndsLine source (at + length bytes) → NextLine source (at + length bytes) ls → Holds source low d.text d.context (reading.Body d.context) at → Goes source ls more → DraftsTo source low (on_rest line d at bytes more) (length source)
rest_holds source line d low at bytes ls more l e n h go =
    let b : BodyRead source bytes at d.context (body_of d.context at bytes).0 (body_of d.context at bytes).1 = body_read source bytes at d.context l e in
    body_holds source line (length source) (body_of d.context at bytes).0 d low (reading.Body d.context) (stop b.last (body_of d.context at bytes).1) at b.place (λ next. then_more (at_end line next (body_of d.context at bytes).1) more) h b.run
    (λ next low h. end_holds source line (body_of d.context at bytes).1 next low b.last b.place (at + length bytes) ls more h b.far b.whole n go)

-- what does not change a text
abbrev Same : Draft → Draft → Type 0
Same d e = (e.text ≡ d.text) × (e.context ≡ d.context) × (e.has_begun ≡ d.has_begun)

same_measured : (bytes : List ℕ) (d : Draft) → Same d (measured bytes d)
same_measured bytes d = elim (nat_lt 132 (length bytes)) as (λ t. Same d (if t then broken E103 d else d)) [ true ↦ (refl, refl, refl) | false ↦ (refl, refl, refl) ]

same_continued : (d : Draft) → Same d (continued d)
same_continued d =
    elim (nat_lt d.continuations 255) as (λ t. Same d (if t then record { line = d.line; text = d.text; context = d.context; has_begun = d.has_begun; continuations = d.continuations + 1; fault = d.fault } else broken E104 d)) [ true ↦ (refl, refl, refl) | false ↦ (refl, refl, refl) ]

holds_same : (source : List ℕ) (low : ℕ) (d e : Draft) (r : Reading) (p : ℕ) → Same d e → Holds source low d.text d.context r p → Holds source low e.text e.context r p
holds_same source low d e r p s h = (h.0, h.1, h.2, subst (λ l. Path source (reading.Body Code) h.0 l r p) (sym s.0) h.3, h.4 ∙ sym s.1)

module _ (source : List ℕ) (line : ℕ) (d : Draft) (low start at : ℕ) (whole : List ℕ) (ls : List Line) (more : Draft → List Draft) (begun : d.has_begun ≡ true) (l : LineAt source start whole) (e : EndsLine source (start + length whole)) (n : NextLine source (start + length whole) ls) (within : start ≤ length source) (h : Holds source low d.text d.context (reading.Front d.context) start) (before : (context : Context) → Passes source (reading.Front context) start (reading.Front context) at) (go : Goes source ls more) where
  front : Holds source low d.text d.context (reading.Front d.context) at
  front = holds_on source low d.text d.context (reading.Front d.context) (reading.Front d.context) start at h (before d.context)

  -- a line that is passed from this place on
  passed : (b : ℕ) (bs : List ℕ) → LineAt source at (b ∷ bs) → at + length (b ∷ bs) ≡ start + length whole → at_front d.context b (drop (at + 1) source) ≡ reading.Tail d.context → Holds source low d.text d.context (reading.Tail d.context) (start + length whole)
  passed b bs k m t =
      holds_on source low d.text d.context (reading.Front d.context) (reading.Tail d.context) at (start + length whole) front
      (passes_more source (reading.Front d.context) (reading.Tail d.context) (reading.Tail d.context) at (at + 1) (start + length whole)
      (passes_byte source (reading.Front d.context) (reading.Tail d.context) at b k.0 refl t)
      (subst (Passes source (reading.Tail d.context) (at + 1) (reading.Tail d.context)) {x = at + 1 + length bs} (omega (arith, m)) (tail_passes source bs (at + 1) d.context k.4)))

  same_ends : (b : ℕ) (bs : List ℕ) → LineAt source at (b ∷ bs) → at + length (b ∷ bs) ≡ start + length whole → ends d.context (drop (at + 1) source) ≡ ends d.context bs
  same_ends b bs k m = ends_same source bs (at + 1) d.context k.4 (subst (EndsLine source) {y = at + 1 + length bs} (omega (arith, m)) e)

  ampersand : (b : ℕ) (bs : List ℕ) → (b == 38) ≡ true → LineAt source at (b ∷ bs) → at + length (b ∷ bs) ≡ start + length whole → (t : Bool) → ends d.context bs ≡ t → at_front d.context b (drop (at + 1) source) ≡ (if t then reading.Tail d.context else reading.Body d.context)
  ampersand b bs x k m t y =
      ap (λ u. if u then (if ends d.context (drop (at + 1) source) then reading.Tail d.context else reading.Body d.context) else if b == 33 then reading.Tail d.context else reading.Front d.context) x
      ∙ ap (λ u. if u then reading.Tail d.context else reading.Body d.context) (same_ends b bs k m ∙ y)

  -- a line with an `&` in front
  led : (b : ℕ) (bs : List ℕ) → (b == 38) ≡ true → LineAt source at (b ∷ bs) → at + length (b ∷ bs) ≡ start + length whole → (t : Bool) → ends d.context bs ≡ t → DraftsTo source low (if t then more (broken E106 (continued d)) else on_rest line (continued d) (at + 1) bs more) (length source)
  led b bs x k m true y =
      let s = same_continued d in
      going_on source (broken E106 (continued d)) low d.context (start + length whole) ls more (s.2 ∙ begun) (holds_same source low d (broken E106 (continued d)) (reading.Tail d.context) (start + length whole) s (passed b bs k m (ampersand b bs x k m true y))) n go
  led b bs x k m false y =
      let s = same_continued d in
      let body : Holds source low (continued d).text (continued d).context (reading.Body d.context) (at + 1) = holds_same source low d (continued d) (reading.Body d.context) (at + 1) s (holds_on source low d.text d.context (reading.Front d.context) (reading.Body d.context) at (at + 1) front (passes_byte source (reading.Front d.context) (reading.Body d.context) at b k.0 refl (ampersand b bs x k m false y))) in
      rest_holds source line (continued d) low (at + 1) bs ls more k.4 (subst (EndsLine source) {y = at + 1 + length bs} (omega (arith, m)) e) (subst (λ q. NextLine source q ls) {y = at + 1 + length bs} (omega (arith, m)) n) (subst (λ c. Holds source low (continued d).text (continued d).context (reading.Body c) (at + 1)) (sym s.1) body) go

  -- a line without an `&` in front
  parts : DraftsTo source low (on_rest line (parted start (continued d)) start whole more) (length source)
  parts =
      let s = same_continued d in
      let c : Holds source low (continued d).text (continued d).context (reading.Front d.context) start = holds_same source low d (continued d) (reading.Front d.context) start s h in
      rest_holds source line (parted start (continued d)) low start whole ls more l e n
      (c.0, c.1, c.2, path_more source (reading.Body Code) (reading.Front d.context) (reading.Body Code) c.0 start start (continued d).text (record { byte = 10; end = start } ∷ []) c.3 (path_mark source (reading.Front d.context) start start record { byte = 10; end = start } refl (omega arith) within), refl)
      go

  continuation_holds : (bytes : List ℕ) → LineAt source at bytes → at + length bytes ≡ start + length whole → DraftsTo source low (on_continuation line d (start, whole) at bytes more) (length source)
  continuation_holds [] k m = go d low record { begun = λ _. where_to ls n; none = λ x. cc }
    where
      where_to : (ls : List Line) → NextLine source (start + length whole) ls → (r : Reading) × (q : ℕ) × Holds source low d.text d.context r q × AtFront r q d.context ls
      where_to [] n = (reading.Front d.context, at, front, tt)
      where_to (next ∷ ls) n = (reading.Front d.context, next.0, holds_on source low d.text d.context (reading.Front d.context) (reading.Front d.context) at next.0 front (subst (λ q. Passes source (reading.Front d.context) q (reading.Front d.context) next.0) {y = at} (omega (arith, m)) (n.1 d.context)), (refl, refl))
  continuation_holds (b ∷ bs) k m = by (b == 33) refl (b == 38) refl
    where
      by : (t : Bool) → (b == 33) ≡ t → (u : Bool) → (b == 38) ≡ u → DraftsTo source low (if t then more d else if u then (if ends d.context bs then more (broken E106 (continued d)) else on_rest line (continued d) (at + 1) bs more) else on_rest line (parted start (continued d)) start whole more) (length source)
      by true x u y =
          let z : (b == 38) ≡ false = grind (arith, nat_tests, x) in
          going_on source d low d.context (start + length whole) ls more begun
          (passed b bs k m (ap (λ t. if t then (if ends d.context (drop (at + 1) source) then reading.Tail d.context else reading.Body d.context) else if b == 33 then reading.Tail d.context else reading.Front d.context) z ∙ ap (λ t. if t then reading.Tail d.context else reading.Front d.context) x)) n go
      by false x true y = led b bs y k m (ends d.context bs) refl
      by false x false y = parts

line_holds : (source : List ℕ) (line : ℕ) (d : Draft) (low : ℕ) (whole : Line) (ls : List Line) (more : Draft → List Draft) → LinesAt source (whole ∷ ls) → Ready source low d (whole ∷ ls) → Goes source ls more → DraftsTo source low (on_line line d whole more) (length source)
line_holds source line d low whole ls more l ready go = by d.has_begun refl
  where
    s : Same d (measured whole.1 d)
    s = same_measured whole.1 d

    by : (t : Bool) → d.has_begun ≡ t → DraftsTo source low (if t then on_continuation line (measured whole.1 d) whole (behind_blanks whole.0 whole.1).0 (behind_blanks whole.0 whole.1).1 more else on_rest line (measured whole.1 d) whole.0 whole.1 more) (length source)
    by true e =
        let r = ready.begun e in
        let p = blanks_pass source whole.1 whole.0 l.0 in
        let at_start : Holds source low d.text d.context (reading.Front d.context) whole.0 = subst (Holds source low d.text d.context (reading.Front d.context)) r.3.1 (subst (λ x. Holds source low d.text d.context x r.1) r.3.0 r.2) in
        let holds : Holds source low (measured whole.1 d).text (measured whole.1 d).context (reading.Front (measured whole.1 d).context) whole.0 = subst (λ c. Holds source low (measured whole.1 d).text (measured whole.1 d).context (reading.Front c) whole.0) (sym s.1) (holds_same source low d (measured whole.1 d) (reading.Front d.context) whole.0 s at_start) in
        continuation_holds source line (measured whole.1 d) low whole.0 (behind_blanks whole.0 whole.1).0 whole.1 ls more (s.2 ∙ e) l.0 l.1 l.2 l.3 holds p.2 go (behind_blanks whole.0 whole.1).1 p.0 p.1
    by false e =
        let r = ready.none e in
        let holds : Holds source low d.text d.context (reading.Body d.context) whole.0 = (whole.0, r.2, l.3, subst (λ t. Path source (reading.Body Code) whole.0 t (reading.Body d.context) whole.0) (sym r.0) (subst (λ c. Passes source (reading.Body Code) whole.0 (reading.Body c) whole.0) (sym r.1) (passes_none source (reading.Body Code) whole.0)), refl) in
        rest_holds source line (measured whole.1 d) low whole.0 whole.1 ls more l.0 l.1 l.2 (subst (λ c. Holds source low (measured whole.1 d).text (measured whole.1 d).context (reading.Body c) whole.0) (sym s.1) (holds_same source low d (measured whole.1 d) (reading.Body d.context) whole.0 s holds)) go

statements_hold : (source : List ℕ) (ls : List Line) (line : ℕ) (d : Draft) (low : ℕ) → LinesAt source ls → Ready source low d ls → DraftsTo source low (statements_from line d ls) (length source)
statements_hold source [] line d low l ready = by d.has_begun refl
  where
    by : (t : Bool) → d.has_begun ≡ t → DraftsTo source low (if t then broken E106 d ∷ [] else []) (length source)
    by true e =
        let r = ready.begun e in
        (r.2.0, r.2.1, r.0, r.1, r.2.3, (path_within source (reading.Body Code) r.0 r.2.0 r.1 d.text r.2.2 r.2.3).1)
    by false e = (ready.none e).2
statements_hold source (whole ∷ ls) line d low l ready = line_holds source line d low whole ls (λ next. statements_from (line + 1) next ls) l ready (λ next low' r. statements_hold source ls (line + 1) next low' l.4 r)

-- the statements of a source from its first line on
pub drafts_hold : (source : List ℕ) (ls : List Line) → LinesAt source ls → DraftsTo source 0 (statements_from 1 (fresh 1) ls) (length source)
drafts_hold source ls l = statements_hold source ls 1 (fresh 1) 0 l (fresh_ready source 0 1 ls (later ls))
  where
    later : (ls : List Line) → Later source 0 ls
    later [] = omega arith
    later (l ∷ ls) = omega arith

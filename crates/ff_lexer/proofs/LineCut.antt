-- A line is cut where its comment begins, or the `&` with which it goes on.
use Rattle.std.proofs.Common.{◌≡◌, ◌⊎◌, inl, inr, ℕ, ◌+◌, Bool, true, false, List, [], ◌∷◌, ◌++◌, refl, sym, ap, ◌∙◌, subst}
use Rattle.std.specs.Prelude.{if◌then◌else◌, ◌==◌, ◌&&◌, ◌||◌}
use Rattle.std.specs.List.{list_all}
use Rattle.std.proofs.lemmas.Bool.{eqb-true}
use Rattle.ff_lexer.specs.declared.bytes.Context.{Context}
use Rattle.ff_lexer.specs.declared.bytes.Context.TheVariants.{Code, Constant}
use Rattle.ff_lexer.specs.Bytes.{is_blank, is_code, behind, is_dropped, ends, is_continued, is_comment}
use Rattle.ff_lexer.specs.Lines.{placed, Body, in_front, body_of}
use Rattle.ff_lexer.specs.Written.{holds, behind_all, IsComment, IsBlank, IsContinued, IsRest, NoneCuts, placed_from, IsCut}
use Rattle.ff_lexer.proofs.LineText.{either_left, either_right, dropped}

pub both_left : (a b : Bool) → (a && b) ≡ true → a ≡ true
both_left true b h = refl
both_left false b h = cc

pub both_right : (a b : Bool) → (a && b) ≡ true → b ≡ true
both_right true b h = h
both_right false b h = cc

code : (context : Context) → is_code context ≡ true → context ≡ Code
code Code h = refl
code (Constant delimiter) h = cc

-- what ends a line, in both ways of saying it

next_ends : (context : Context) (b : ℕ) (bs : List ℕ) → (b == 10) ≡ false → is_dropped b bs ≡ false → ends context (b ∷ bs) ≡ (if is_blank b then ends context bs else b == 33 && is_code context)
next_ends context b bs e d = ap (λ t. if t || is_dropped b bs then true else if is_blank b then ends context bs else b == 33 && is_code context) e ∙ ap (λ t. if t then true else if is_blank b then ends context bs else b == 33 && is_code context) d

pub blank_there : (context : Context) (bs : List ℕ) → holds 10 bs ≡ false → ends context bs ≡ true → IsBlank context bs
blank_there context [] h e = record { blanks = []; rest = []; are_blanks = refl; rest_is = inl refl; bytes_are = refl }
blank_there context (b ∷ bs) h e =
    by (is_blank b) refl (sym (next_ends context b bs (either_left (b == 10) (holds 10 bs) h) (dropped b bs (either_right (b == 10) (holds 10 bs) h))) ∙ e) (blank_there context bs (either_right (b == 10) (holds 10 bs) h))
  where
    by : (t : Bool) → is_blank b ≡ t → (if t then ends context bs else b == 33 && is_code context) ≡ true → (ends context bs ≡ true → IsBlank context bs) → IsBlank context (b ∷ bs)
    by true k e more =
        let r = more e in
        record { blanks = b ∷ r.blanks; rest = r.rest; are_blanks = ap (λ t. t && list_all is_blank r.blanks) k ∙ r.are_blanks; rest_is = r.rest_is; bytes_are = ap (λ l. b ∷ l) r.bytes_are }
    by false k e more = record { blanks = []; rest = b ∷ bs; are_blanks = refl; rest_is = inr (eqb-true b 33 (both_left (b == 33) (is_code context) e), code context (both_right (b == 33) (is_code context) e)); bytes_are = refl }

comment_ends : (context : Context) (rest : List ℕ) → (rest ≡ []) ⊎ IsComment context rest → ends context rest ≡ true
comment_ends context rest (inl e) = ap (ends context) e
comment_ends context [] (inr h) = refl
comment_ends context (b ∷ bs) (inr h) = ap (λ x. ends x (b ∷ bs)) h.1 ∙ ap (λ x. ends Code (x ∷ bs)) h.0

blanks_end : (context : Context) (blanks rest : List ℕ) → list_all is_blank blanks ≡ true → (rest ≡ []) ⊎ IsComment context rest → ends context (blanks ++ rest) ≡ true
blanks_end context [] rest a r = comment_ends context rest r
blanks_end context (b ∷ bs) rest a r =
    by (b == 10 || is_dropped b (bs ++ rest)) (is_blank b) (ends context (bs ++ rest)) (b == 33 && is_code context)
    (both_left (is_blank b) (list_all is_blank bs) a)
    (blanks_end context bs rest (both_right (is_blank b) (list_all is_blank bs) a) r)
  where
    by : (t u v w : Bool) → u ≡ true → v ≡ true → (if t then true else if u then v else w) ≡ true
    by true u v w h k = refl
    by false true v w h k = k
    by false false v w h k = cc

pub blank_ends : (context : Context) (bs : List ℕ) → IsBlank context bs → ends context bs ≡ true
blank_ends context bs h = ap (ends context) h.bytes_are ∙ blanks_end context h.blanks h.rest h.are_blanks h.rest_is

-- what cuts a line off, in both ways of saying it

continued_there : (context : Context) (b : ℕ) (bs : List ℕ) → holds 10 bs ≡ false → is_continued context b bs ≡ true → IsContinued context (b ∷ bs)
continued_there context b bs h e = (eqb-true b 38 (both_left (b == 38) (ends context bs) e), blank_there context bs h (both_right (b == 38) (ends context bs) e))

comment_there : (context : Context) (b : ℕ) (bs : List ℕ) → is_comment context b ≡ true → IsComment context (b ∷ bs)
comment_there context b bs e = (eqb-true b 33 (both_left (b == 33) (is_code context) e), code context (both_right (b == 33) (is_code context) e))

continued_is : (context : Context) (b : ℕ) (bs : List ℕ) → IsContinued context (b ∷ bs) → is_continued context b bs ≡ true
continued_is context b bs h = ap (λ x. x == 38 && ends context bs) h.0 ∙ blank_ends context bs h.1

comment_is : (context : Context) (b : ℕ) (bs : List ℕ) → IsComment context (b ∷ bs) → is_comment context b ≡ true
comment_is context b bs h = ap (λ x. x == 33 && is_code context) h.0 ∙ ap is_code h.1

not_continued : (context : Context) (b : ℕ) (bs : List ℕ) → IsComment context (b ∷ bs) → is_continued context b bs ≡ false
not_continued context b bs h = ap (λ x. x == 38 && ends context bs) h.0

next_body : (context : Context) (at b : ℕ) (bs : List ℕ) {t u : Bool} → is_continued context b bs ≡ t → is_comment context b ≡ u → body_of context at (b ∷ bs) ≡ (if t then ([], true) else if u then ([], false) else in_front (placed at b) (body_of (behind context b) (at + 1) bs))
next_body context at b bs {t} e h =
    ap (λ t. if t then ([], true) else if is_comment context b then ([], false) else in_front (placed at b) (body_of (behind context b) (at + 1) bs)) e
    ∙ ap (λ u. if t then ([], true) else if u then ([], false) else in_front (placed at b) (body_of (behind context b) (at + 1) bs)) h

pub cut_there : (context : Context) (at : ℕ) (line : List ℕ) → holds 10 line ≡ false → IsCut context at line (body_of context at line)
cut_there context at [] h = record { bytes = []; rest = []; none_cuts = tt; rest_is = inl refl; line_is = refl; body_is = refl }
cut_there context at (b ∷ bs) h = by (is_continued context b bs) refl (is_comment context b) refl (cut_there (behind context b) (at + 1) bs)
  where
    k : holds 10 bs ≡ false
    k = either_right (b == 10) (holds 10 bs) h

    by : (t : Bool) → is_continued context b bs ≡ t → (u : Bool) → is_comment context b ≡ u → (holds 10 bs ≡ false → IsCut (behind context b) (at + 1) bs (body_of (behind context b) (at + 1) bs)) → IsCut context at (b ∷ bs) (body_of context at (b ∷ bs))
    by true e u f more = subst (IsCut context at (b ∷ bs)) (sym (next_body context at b bs e f)) (record { bytes = []; rest = b ∷ bs; none_cuts = tt; rest_is = continued_there context b bs k e; line_is = refl; body_is = refl })
    by false e true f more = subst (IsCut context at (b ∷ bs)) (sym (next_body context at b bs e f)) (record { bytes = []; rest = b ∷ bs; none_cuts = tt; rest_is = inr (comment_there context b bs f); line_is = refl; body_is = refl })
    by false e false f more =
        let c = more k in
        subst (IsCut context at (b ∷ bs)) (sym (next_body context at b bs e f))
        (record { bytes = b ∷ c.bytes; rest = c.rest; none_cuts = (none (c.bytes ++ c.rest) c.line_is, c.none_cuts); rest_is = c.rest_is; line_is = ap (λ l. b ∷ l) c.line_is; body_is = ap (λ l. placed at b ∷ l) c.body_is })
      where
        none : (more : List ℕ) → bs ≡ more → IsComment context (b ∷ more) ⊎ IsContinued context (b ∷ more) → ⊥
        none more s (inl r) = let w = comment_is context b more r in absurd (cc (w, f))
        none more s (inr r) = let w = continued_is context b more r in absurd (cc (w, e, s))

cut_here : (context : Context) (at : ℕ) (goes_on : Bool) (rest : List ℕ) → IsRest context goes_on rest → body_of context at rest ≡ ([], goes_on)
cut_here context at true [] r = absurd r
cut_here context at true (b ∷ bs) r = next_body context at b bs (continued_is context b bs r) refl
cut_here context at false rest (inl e) = ap (body_of context at) e
cut_here context at false [] (inr r) = absurd r
cut_here context at false (b ∷ bs) (inr r) = next_body context at b bs (not_continued context b bs r) (comment_is context b bs r)

cut : (context : Context) (at : ℕ) (goes_on : Bool) (bytes rest : List ℕ) → holds 10 (bytes ++ rest) ≡ false → NoneCuts context bytes rest → IsRest (behind_all context bytes) goes_on rest → body_of context at (bytes ++ rest) ≡ (placed_from at bytes, goes_on)
cut context at goes_on [] rest h n r = cut_here context at goes_on rest r
cut context at goes_on (b ∷ bs) rest h n r = next_body context at b (bs ++ rest) (no_continued _ refl) (no_comment _ refl) ∙ ap (in_front (placed at b)) (cut (behind context b) (at + 1) goes_on bs rest k n.1 r)
  where
    k : holds 10 (bs ++ rest) ≡ false
    k = either_right (b == 10) (holds 10 (bs ++ rest)) h

    no_continued : (t : Bool) → is_continued context b (bs ++ rest) ≡ t → is_continued context b (bs ++ rest) ≡ false
    no_continued true e = absurd (n.0 (inr (continued_there context b (bs ++ rest) k e)))
    no_continued false e = e

    no_comment : (t : Bool) → is_comment context b ≡ t → is_comment context b ≡ false
    no_comment true e = absurd (n.0 (inl (comment_there context b (bs ++ rest) e)))
    no_comment false e = e

pub only_cut : (context : Context) (at : ℕ) (line : List ℕ) (body : Body) → holds 10 line ≡ false → IsCut context at line body → body ≡ body_of context at line
only_cut context at line body h c =
    ap (λ bytes. (bytes, body.1)) c.body_is
    ∙ sym (cut context at body.1 c.bytes c.rest (ap (holds 10) (sym c.line_is) ∙ h) c.none_cuts c.rest_is)
    ∙ ap (body_of context at) (sym c.line_is)

-- The statements that are found on the lines are those that the lines give.
use Rattle.std.proofs.Common.{◌≡◌, ℕ, ◌+◌, Bool, true, false, List, [], ◌∷◌, ◌++◌, length, refl, sym, ap, ◌∙◌, subst, arith}
use Rattle.std.specs.Prelude.{if◌then◌else◌, ◌==◌, ◌&&◌}
use Rattle.std.specs.List.{list_all}
use Rattle.std.proofs.lemmas.Bool.{eqb-true, eqb-false}
use Rattle.lf_base.specs.declared.rule.Rule.TheVariants.{E106}
use Rattle.ff_lexer.specs.Bytes.{is_blank, ends}
use Rattle.ff_lexer.specs.Continued.{Onward, AtEnd, IsRead, Indented, OnLine, Left, AreStatements, HasDrafts}
use Rattle.ff_lexer.specs.Lines.{Line, Body, Draft, fresh, broken, measured, continued, parted, Taken, then_more, in_body, at_end, body_of, on_body, on_rest, on_continuation, behind_blanks, on_line, statements_from, lines_from}
use Rattle.ff_lexer.specs.Statements.{drafts_of}
use Rattle.ff_lexer.specs.Written.{holds, IsBlank}
use Rattle.ff_lexer.proofs.HeldAll.{blanks_one, AreOne, text_one, measured_as}
use Rattle.ff_lexer.proofs.LineCut.{both_left, both_right, blank_there, blank_ends, cut_there, only_cut}
use Rattle.ff_lexer.proofs.LineStatements.{statements_there, only_statements}
use Rattle.ff_lexer.proofs.LineText.{either_right, lines_there, only_lines}

-- the leading blanks of a line

indented : (at : ℕ) (line : List ℕ) → (i : Indented line (behind_blanks at line).1) × ((behind_blanks at line).0 ≡ at + length i.blanks)
indented at [] = (record { blanks = []; are_blanks = refl; line_is = refl }, omega arith)
indented at (b ∷ bs) = by (is_blank b) refl (indented (at + 1) bs)
  where
    by : (t : Bool) → is_blank b ≡ t → (i : Indented bs (behind_blanks (at + 1) bs).1) × ((behind_blanks (at + 1) bs).0 ≡ at + 1 + length i.blanks) → (i : Indented (b ∷ bs) (if t then behind_blanks (at + 1) bs else (at, b ∷ bs)).1) × ((if t then behind_blanks (at + 1) bs else (at, b ∷ bs)).0 ≡ at + length i.blanks)
    by true e i = (record { blanks = b ∷ i.0.blanks; are_blanks = ap (λ t. t && list_all is_blank i.0.blanks) e ∙ i.0.are_blanks; line_is = ap (λ l. b ∷ l) i.0.line_is }, omega (arith, i.1))
    by false e i = (record { blanks = []; are_blanks = refl; line_is = refl }, omega arith)

blanks_behind : (at : ℕ) (blanks rest : List ℕ) → list_all is_blank blanks ≡ true → behind_blanks at (blanks ++ rest) ≡ behind_blanks (at + length blanks) rest
blanks_behind at [] rest h = ap (λ n. behind_blanks n rest) {y = at + 0} (omega arith)
blanks_behind at (b ∷ bs) rest h =
    ap (λ t. if t then behind_blanks (at + 1) (bs ++ rest) else (at, b ∷ bs ++ rest)) (both_left (is_blank b) (list_all is_blank bs) h)
    ∙ blanks_behind (at + 1) bs rest (both_right (is_blank b) (list_all is_blank bs) h)
    ∙ ap (λ n. behind_blanks n rest) {y = at + length (b ∷ bs)} (omega arith)

behind_none : (at : ℕ) (line : List ℕ) (i : Indented line []) → behind_blanks at line ≡ (at + length i.blanks, [])
behind_none at line i = ap (behind_blanks at) i.line_is ∙ blanks_behind at i.blanks [] i.are_blanks

behind_indent : (at : ℕ) (line : List ℕ) (b : ℕ) (rest : List ℕ) (i : Indented line (b ∷ rest)) → is_blank b ≡ false → behind_blanks at line ≡ (at + length i.blanks, b ∷ rest)
behind_indent at line b rest i h =
    ap (behind_blanks at) i.line_is
    ∙ blanks_behind at i.blanks (b ∷ rest) i.are_blanks
    ∙ ap (λ t. if t then behind_blanks (at + length i.blanks + 1) rest else (at + length i.blanks, b ∷ rest)) h

-- what is left behind leading blanks begins with none
begins_solid : (at : ℕ) (line : List ℕ) (b : ℕ) (rest : List ℕ) → (behind_blanks at line).1 ≡ b ∷ rest → is_blank b ≡ false
begins_solid at [] b rest e = cc
begins_solid at (c ∷ cs) b rest e = by (is_blank c) refl e (begins_solid (at + 1) cs b rest)
  where
    by : (t : Bool) → is_blank c ≡ t → (if t then behind_blanks (at + 1) cs else (at, c ∷ cs)).1 ≡ b ∷ rest → ((behind_blanks (at + 1) cs).1 ≡ b ∷ rest → is_blank b ≡ false) → is_blank b ≡ false
    by true k e more = more e
    by false k e more = let same : c ≡ b = cc in ap is_blank (sym same) ∙ k

-- the end of a line

module _ (onward : Onward) (k : Draft → List Draft) where
  module _ (there : (next : Draft) → onward next (k next)) where
    end_there : (line : ℕ) (statements : Taken) (goes_on : Bool) → AtEnd line statements onward (then_more statements (λ next. then_more (at_end line next goes_on) k)) goes_on
    end_there line statements false = AtEnd.Ends (k (fresh (line + 1))) (there (fresh (line + 1))) refl
    end_there line statements true = by statements.1.has_begun refl
      where
        by : (t : Bool) → statements.1.has_begun ≡ t → AtEnd line statements onward (statements.0 ++ then_more (if t then ([], statements.1) else (broken E106 statements.1 ∷ [], fresh (line + 1))) k) true
        by true e = AtEnd.GoesOn (k statements.1) e (there statements.1) refl
        by false e = AtEnd.NothingGoesOn (k (fresh (line + 1))) e (there (fresh (line + 1))) refl

    read_there : (line : ℕ) (d : Draft) (at : ℕ) (bytes : List ℕ) → holds 10 bytes ≡ false → IsRead line d at bytes onward (on_rest line d at bytes k)
    read_there line d at bytes n =
        let body : Body = body_of d.context at bytes in
        record {
          body = body;
          statements = in_body line d body.0;
          cut = cut_there d.context at bytes n;
          split = statements_there line d body.0;
          end = end_there line (in_body line d body.0) body.1;
        }

    behind_there : (line : ℕ) (d : Draft) (whole : Line) → holds 10 whole.1 ≡ false → d.has_begun ≡ true → (at : ℕ) (rest : List ℕ) (i : Indented whole.1 rest) → at ≡ whole.0 + length i.blanks → holds 10 rest ≡ false → ((b : ℕ) (bs : List ℕ) → rest ≡ b ∷ bs → is_blank b ≡ false) → OnLine line d whole onward (on_continuation line d whole at rest k)
    behind_there line d whole n h at [] i p m solid = OnLine.Empty h i (there d)
    behind_there line d whole n h at (b ∷ bs) i p m solid = by (b == 33) refl (b == 38) refl (ends d.context bs) refl
      where
        by : (t : Bool) → (b == 33) ≡ t → (u : Bool) → (b == 38) ≡ u → (v : Bool) → ends d.context bs ≡ v → OnLine line d whole onward (if t then k d else if u then (if v then k (broken E106 (continued d)) else on_rest line (continued d) (at + 1) bs k) else on_rest line (parted whole.0 (continued d)) whole.0 whole.1 k)
        by true e u f v g = OnLine.Comment h bs (subst (λ x. Indented whole.1 (x ∷ bs)) (eqb-true b 33 e) i) (there d)
        by false e true f true g = OnLine.Alone h bs (subst (λ x. Indented whole.1 (x ∷ bs)) (eqb-true b 38 f) i) (blank_there d.context bs (either_right (b == 10) (holds 10 bs) m) g) (there (broken E106 (continued d)))
        by false e true f false g =
            let same : b ≡ 38 = eqb-true b 38 f in
            OnLine.Marked h bs (record { blanks = i.blanks; are_blanks = i.are_blanks; line_is = i.line_is ∙ ap (λ x. i.blanks ++ x ∷ bs) same }) (λ r. absurd (cc (g, blank_ends d.context bs r)))
            (subst (λ x. IsRead line (continued d) (x + 1) bs onward (on_rest line (continued d) (at + 1) bs k)) p (read_there line (continued d) (at + 1) bs (either_right (b == 10) (holds 10 bs) m)))
        by false e false f v g = OnLine.Unmarked h b bs i (solid b bs refl) (eqb-false b 33 e) (eqb-false b 38 f) (read_there line (parted whole.0 (continued d)) whole.0 whole.1 n)

    line_there : (line : ℕ) (d : Draft) (whole : Line) → holds 10 whole.1 ≡ false → OnLine line (measured whole.1 d) whole onward (on_line line d whole k)
    line_there line d whole n = by d.has_begun refl
      where
        by : (t : Bool) → d.has_begun ≡ t → OnLine line (measured whole.1 d) whole onward (if t then on_continuation line (measured whole.1 d) whole (behind_blanks whole.0 whole.1).0 (behind_blanks whole.0 whole.1).1 k else on_rest line (measured whole.1 d) whole.0 whole.1 k)
        by true e =
            let i = indented whole.0 whole.1 in
            behind_there line (measured whole.1 d) whole n (measured_as (λ x. x.has_begun ≡ true) whole.1 d e e) (behind_blanks whole.0 whole.1).0 (behind_blanks whole.0 whole.1).1 i.0 i.1 (blanks_one whole.0 whole.1 n) (begins_solid whole.0 whole.1)
        by false e = OnLine.Begins (measured_as (λ x. x.has_begun ≡ false) whole.1 d e e) (read_there line (measured whole.1 d) whole.0 whole.1 n)

  module _ (only : (next : Draft) (more : List Draft) → onward next more → more ≡ k next) where
    only_end : (line : ℕ) (statements : Taken) (goes_on : Bool) (drafts : List Draft) → AtEnd line statements onward drafts goes_on → drafts ≡ then_more statements (λ next. then_more (at_end line next goes_on) k)
    only_end line statements false drafts (AtEnd.Ends more h e) = e ∙ ap (λ l. statements.0 ++ statements.1 ∷ l) (only (fresh (line + 1)) more h)
    only_end line statements true drafts (AtEnd.GoesOn more b h e) =
        e ∙ ap (λ l. statements.0 ++ l) (only statements.1 more h) ∙ ap (λ t. statements.0 ++ then_more (if t then ([], statements.1) else (broken E106 statements.1 ∷ [], fresh (line + 1))) k) (sym b)
    only_end line statements true drafts (AtEnd.NothingGoesOn more b h e) =
        e ∙ ap (λ l. statements.0 ++ broken E106 statements.1 ∷ l) (only (fresh (line + 1)) more h) ∙ ap (λ t. statements.0 ++ then_more (if t then ([], statements.1) else (broken E106 statements.1 ∷ [], fresh (line + 1))) k) (sym b)

    only_read : (line : ℕ) (d : Draft) (at : ℕ) (bytes : List ℕ) (drafts : List Draft) → holds 10 bytes ≡ false → IsRead line d at bytes onward drafts → drafts ≡ on_rest line d at bytes k
    only_read line d at bytes drafts n r =
        only_end line r.statements r.body.1 drafts r.end
        ∙ ap (λ s. then_more s (λ next. then_more (at_end line next r.body.1) k)) (only_statements line d r.body.0 r.statements r.split)
        ∙ ap (λ body. on_body line d body k) (only_cut d.context at bytes r.body n r.cut)

    -- a line whose leading blanks are told
    behind_is : (line : ℕ) (d : Draft) (whole : Line) (at : ℕ) (rest : List ℕ) → behind_blanks whole.0 whole.1 ≡ (at, rest) → on_continuation line d whole (behind_blanks whole.0 whole.1).0 (behind_blanks whole.0 whole.1).1 k ≡ on_continuation line d whole at rest k
    behind_is line d whole at rest e = ap (λ l. on_continuation line d whole l.0 l.1 k) e

    rest_one : (line blanks rest : List ℕ) → line ≡ blanks ++ rest → holds 10 line ≡ false → holds 10 rest ≡ false
    rest_one line [] rest e h = ap (holds 10) (sym e) ∙ h
    rest_one line (b ∷ bs) rest e h = rest_one (bs ++ rest) bs rest refl (either_right (b == 10) (holds 10 (bs ++ rest)) (ap (holds 10) (sym e) ∙ h))

    only_line : (line : ℕ) (d : Draft) (whole : Line) (drafts : List Draft) → holds 10 whole.1 ≡ false → OnLine line d whole onward drafts → drafts ≡ (if d.has_begun then on_continuation line d whole (behind_blanks whole.0 whole.1).0 (behind_blanks whole.0 whole.1).1 k else on_rest line d whole.0 whole.1 k)
    only_line line d whole drafts n o = by o
      where
        choose : {t : Bool} → d.has_begun ≡ t → (if t then on_continuation line d whole (behind_blanks whole.0 whole.1).0 (behind_blanks whole.0 whole.1).1 k else on_rest line d whole.0 whole.1 k) ≡ (if d.has_begun then on_continuation line d whole (behind_blanks whole.0 whole.1).0 (behind_blanks whole.0 whole.1).1 k else on_rest line d whole.0 whole.1 k)
        choose e = ap (λ t. if t then on_continuation line d whole (behind_blanks whole.0 whole.1).0 (behind_blanks whole.0 whole.1).1 k else on_rest line d whole.0 whole.1 k) (sym e)

        continued_is : (b : ℕ) (rest : List ℕ) (t u v : Bool) → (b == 33) ≡ t → (b == 38) ≡ u → ends d.context rest ≡ v → (at : ℕ) → on_continuation line d whole at (b ∷ rest) k ≡ (if t then k d else if u then (if v then k (broken E106 (continued d)) else on_rest line (continued d) (at + 1) rest k) else on_rest line (parted whole.0 (continued d)) whole.0 whole.1 k)
        continued_is b rest t u v e f g at =
            ap (λ t. if t then k d else if b == 38 then (if ends d.context rest then k (broken E106 (continued d)) else on_rest line (continued d) (at + 1) rest k) else on_rest line (parted whole.0 (continued d)) whole.0 whole.1 k) e
            ∙ ap (λ u. if t then k d else if u then (if ends d.context rest then k (broken E106 (continued d)) else on_rest line (continued d) (at + 1) rest k) else on_rest line (parted whole.0 (continued d)) whole.0 whole.1 k) f
            ∙ ap (λ v. if t then k d else if u then (if v then k (broken E106 (continued d)) else on_rest line (continued d) (at + 1) rest k) else on_rest line (parted whole.0 (continued d)) whole.0 whole.1 k) g

        not_ends : (rest : List ℕ) → holds 10 rest ≡ false → (IsBlank d.context rest → ⊥) → ends d.context rest ≡ false
        not_ends rest m h = case (ends d.context rest) refl
          where
            case : (t : Bool) → ends d.context rest ≡ t → ends d.context rest ≡ false
            case true e = absurd (h (blank_there d.context rest m e))
            case false e = e

        not_equal : (a b : ℕ) → (a ≡ b → ⊥) → (a == b) ≡ false
        not_equal a b h = case (a == b) refl
          where
            case : (t : Bool) → (a == b) ≡ t → (a == b) ≡ false
            case true e = absurd (h (eqb-true a b e))
            case false e = e

        by : OnLine line d whole onward drafts → drafts ≡ (if d.has_begun then on_continuation line d whole (behind_blanks whole.0 whole.1).0 (behind_blanks whole.0 whole.1).1 k else on_rest line d whole.0 whole.1 k)
        by (OnLine.Begins b r) = only_read line d whole.0 whole.1 drafts n r ∙ choose b
        by (OnLine.Empty b i h) = only d drafts h ∙ sym (behind_is line d whole (whole.0 + length i.blanks) [] (behind_none whole.0 whole.1 i)) ∙ choose b
        by (OnLine.Comment b text i h) =
            only d drafts h
            ∙ sym (behind_is line d whole (whole.0 + length i.blanks) (33 ∷ text) (behind_indent whole.0 whole.1 33 text i refl))
            ∙ choose b
        by (OnLine.Alone b rest i r h) =
            only (broken E106 (continued d)) drafts h
            ∙ sym (continued_is 38 rest false true true refl refl (blank_ends d.context rest r) (whole.0 + length i.blanks))
            ∙ sym (behind_is line d whole (whole.0 + length i.blanks) (38 ∷ rest) (behind_indent whole.0 whole.1 38 rest i refl))
            ∙ choose b
        by (OnLine.Marked b rest i r h) =
            let m : holds 10 rest ≡ false = either_right (38 == 10) (holds 10 rest) (rest_one whole.1 i.blanks (38 ∷ rest) i.line_is n) in
            only_read line (continued d) (whole.0 + length i.blanks + 1) rest drafts m h
            ∙ sym (continued_is 38 rest false true false refl refl (not_ends rest m r) (whole.0 + length i.blanks))
            ∙ sym (behind_is line d whole (whole.0 + length i.blanks) (38 ∷ rest) (behind_indent whole.0 whole.1 38 rest i refl))
            ∙ choose b
        by (OnLine.Unmarked b c rest i s x y h) =
            only_read line (parted whole.0 (continued d)) whole.0 whole.1 drafts n h
            ∙ sym (continued_is c rest false false (ends d.context rest) (not_equal c 33 x) (not_equal c 38 y) refl (whole.0 + length i.blanks))
            ∙ sym (behind_is line d whole (whole.0 + length i.blanks) (c ∷ rest) (behind_indent whole.0 whole.1 c rest i s))
            ∙ choose b

-- all lines

abbrev given : Draft → Line → ℕ → (Draft → List Draft) → Bool → List Draft
given d whole line k t = if t then on_continuation line d whole (behind_blanks whole.0 whole.1).0 (behind_blanks whole.0 whole.1).1 k else on_rest line d whole.0 whole.1 k

measured_begun : (d : Draft) (bytes : List ℕ) → (measured bytes d).has_begun ≡ d.has_begun
measured_begun d bytes = measured_as (λ x. x.has_begun ≡ d.has_begun) bytes d refl refl

statements_given : (lines : List Line) (line : ℕ) (d : Draft) → AreOne lines → AreStatements line d lines (statements_from line d lines)
statements_given [] line d n = by d.has_begun refl
  where
    by : (t : Bool) → d.has_begun ≡ t → Left d (if t then broken E106 d ∷ [] else [])
    by true e = Left.Unended e refl
    by false e = Left.Nothing e refl
statements_given (whole ∷ lines) line d n =
    line_there (λ next more. AreStatements (line + 1) next lines more) (λ next. statements_from (line + 1) next lines) (λ next. statements_given lines (line + 1) next n.1) line d whole n.0

only_given : (lines : List Line) (line : ℕ) (d : Draft) (drafts : List Draft) → AreOne lines → AreStatements line d lines drafts → drafts ≡ statements_from line d lines
only_given [] line d drafts n h = by h
  where
    by : Left d drafts → drafts ≡ (if d.has_begun then broken E106 d ∷ [] else [])
    by (Left.Nothing b e) = e ∙ ap (λ t. if t then broken E106 d ∷ [] else []) (sym b)
    by (Left.Unended b e) = e ∙ ap (λ t. if t then broken E106 d ∷ [] else []) (sym b)
only_given (whole ∷ lines) line d drafts n h =
    only_line (λ next more. AreStatements (line + 1) next lines more) (λ next. statements_from (line + 1) next lines) (λ next more. only_given lines (line + 1) next more n.1) line (measured whole.1 d) whole drafts n.0 h
    ∙ ap (given (measured whole.1 d) whole line (λ next. statements_from (line + 1) next lines)) (measured_begun d whole.1)

pub drafts_there : (text : List ℕ) → HasDrafts text (drafts_of text)
drafts_there text = record { lines = lines_from 0 text; has_lines = lines_there 0 text; are_statements = statements_given (lines_from 0 text) 1 (fresh 1) (text_one text) }

pub only_drafts : (text : List ℕ) (drafts : List Draft) → HasDrafts text drafts → drafts ≡ drafts_of text
only_drafts text drafts h =
    let e : h.lines ≡ lines_from 0 text = only_lines 0 text h.lines h.has_lines in
    only_given h.lines 1 (fresh 1) drafts (subst AreOne (sym e) (text_one text)) h.are_statements
    ∙ ap (statements_from 1 (fresh 1)) e

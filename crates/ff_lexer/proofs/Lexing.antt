-- Taking one lexeme, one byte and one line after another gives the statements of a text.
use Rattle.std.proofs.Common.{◌≡◌, ℕ, zero, suc, ◌+◌, Bool, true, false, List, [], ◌∷◌, take, drop, Option, Some, None, Ok, Err, refl, sym, ap, ◌∙◌, subst, arith, append-nil}
use Rattle.std.specs.Prelude.{if◌then◌else◌, nat_lt}
use Rattle.std.proofs.lemmas.Bool.Decides.{nat_tests}
use Rattle.lf_base.specs.Rules.{number_of}
use Rattle.lf_base.specs.declared.fault.LexFault.{LexFault}
use Rattle.lf_base.specs.declared.rule.Rule.{Rule}
use Rattle.lf_base.specs.declared.rule.Rule.TheVariants.{E106}
use Rattle.ff_lexer.specs.declared.lexeme.Lexeme.{Lexeme}
use Rattle.ff_lexer.specs.declared.lexeme.Placed.{Placed}
use Rattle.ff_lexer.specs.declared.reader.Reader.{Reader}
use Rattle.ff_lexer.specs.declared.token.Token.{Token}
use Rattle.ff_lexer.specs.Bytes.{behind, is_continued, is_comment}
use Rattle.ff_lexer.specs.Lexemes.{Lexed, both, Made, so_far, meaning, then_behind, tokens_behind, lexeme_at}
use Rattle.ff_lexer.specs.Lines.{Draft, lesser, breaking, broken, placed, body_of, in_front, then_more, in_body, at_end, on_body, on_rest, on_line, lines_from, statements_from}
use Rattle.ff_lexer.specs.Reads.{draft, left}
use Rattle.ff_lexer.specs.Spans.{token_as, views, Tells}
use Rattle.ff_lexer.specs.Statements.{Found, ahead, found_in}

lesser_assoc : (r s t : Rule) → lesser (lesser r s) t ≡ lesser r (lesser s t)
lesser_assoc r s t = by (nat_lt (number_of s) (number_of r)) refl (nat_lt (number_of t) (number_of s)) refl (nat_lt (number_of t) (number_of r)) refl
  where
    by : (a : Bool) → nat_lt (number_of s) (number_of r) ≡ a → (b : Bool) → nat_lt (number_of t) (number_of s) ≡ b → (d : Bool) → nat_lt (number_of t) (number_of r) ≡ d → lesser (if a then s else r) t ≡ lesser r (if b then t else s)
    by true e true f true g = ap (λ x. if x then t else s) f ∙ sym (ap (λ x. if x then t else r) g)
    by true e true f false g = grind (arith, nat_tests)
    by true e false f d g = ap (λ x. if x then t else s) f ∙ sym (ap (λ x. if x then s else r) e)
    by false e true f d g = refl
    by false e false f true g = grind (arith, nat_tests)
    by false e false f false g = ap (λ x. if x then t else r) g ∙ sym (ap (λ x. if x then s else r) e)

-- one more rule is broken
pub breaks_more : {T : Type 0} (tokens : List T) (fault : Option Rule) (rule : Rule) (more : Lexed T) → both (so_far tokens (breaking rule fault)) more ≡ both (so_far tokens fault) (both (Err rule) more)
breaks_more tokens None rule (Ok ts) = refl
breaks_more tokens None rule (Err r) = refl
breaks_more tokens (Some least) rule (Ok ts) = refl
breaks_more tokens (Some least) rule (Err r) = ap Err (lesser_assoc least rule r)

pub passed_over : {T : Type 0} (made : Made T) (passed : ℕ) (text : List Placed) → tokens_behind made 0 (drop passed text) ≡ tokens_behind made passed text
passed_over made zero text = refl
passed_over made (suc passed) [] = refl
passed_over made (suc passed) (b ∷ bs) = passed_over made passed bs

-- no statement is left
pub left_none : (r : Reader) → left r [] ≡ Ok (views r.done.items)
left_none r = ap Ok (append-nil (views r.done.items))

pub none_begun : (r : Reader) → r.has_begun ≡ false → left r (statements_from r.line (draft r) []) ≡ Ok (views r.done.items)
none_begun r h = ap (λ t. left r (if t then broken E106 (draft r) ∷ [] else [])) h ∙ left_none r

-- a byte of a body in front of the rest of its line
pub rest_opens : (line : ℕ) (d : Draft) (at b : ℕ) (bs rest : List ℕ) (more : Draft → List Draft) → rest ≡ b ∷ bs → is_continued d.context b bs ≡ false → is_comment d.context b ≡ false → on_rest line d at rest more ≡ then_more (in_body line d (placed at b ∷ (body_of (behind d.context b) (at + 1) bs).0)) (λ next. then_more (at_end line next (body_of (behind d.context b) (at + 1) bs).1) more)
rest_opens line d at b bs rest more e h k =
    ap (λ l. on_rest line d at l more) e
    ∙ ap (λ t. on_body line d (if t then ([], true) else if is_comment d.context b then ([], false) else in_front (placed at b) (body_of (behind d.context b) (at + 1) bs)) more) h
    ∙ ap (λ t. on_body line d (if t then ([], false) else in_front (placed at b) (body_of (behind d.context b) (at + 1) bs)) more) k

-- the body goes on behind this byte
pub rest_goes_on : (line : ℕ) (new old : Reader) (at b : ℕ) (bs rest : List ℕ) (more : Draft → List Draft) → rest ≡ b ∷ bs → is_continued old.context b bs ≡ false → is_comment old.context b ≡ false → old.line ≡ line → ((placeds : List Placed) (more : Draft → List Draft) → left old (then_more (in_body old.line (draft old) (placed at b ∷ placeds)) more) ≡ left new (then_more (in_body old.line (draft new) placeds) more)) → new.context ≡ behind old.context b → left new (on_rest line (draft new) (at + 1) bs more) ≡ left old (on_rest line (draft old) at rest more)
rest_goes_on line new old at b bs rest more e h k s step same =
    ap (λ context. left new (on_body line (draft new) (body_of context (at + 1) bs) more)) same
    ∙ sym (subst (λ n. left old (then_more (in_body n (draft old) (placed at b ∷ (body_of (behind old.context b) (at + 1) bs).0)) (behind_body n)) ≡ left new (then_more (in_body n (draft new) (body_of (behind old.context b) (at + 1) bs).0) (behind_body n))) s (step (body_of (behind old.context b) (at + 1) bs).0 (behind_body old.line)))
    ∙ sym (ap (left old) (rest_opens line (draft old) at b bs rest more e h k))
  where
    behind_body : ℕ → Draft → List Draft
    behind_body n next = then_more (at_end n next (body_of (behind old.context b) (at + 1) bs).1) more

pub rest_fails : (fault : LexFault) (line : ℕ) (old : Reader) (at b : ℕ) (bs rest : List ℕ) (more : Draft → List Draft) (whole : Found Token) → rest ≡ b ∷ bs → is_continued old.context b bs ≡ false → is_comment old.context b ≡ false → old.line ≡ line → ((placeds : List Placed) (more : Draft → List Draft) → Tells fault (left old (then_more (in_body old.line (draft old) (placed at b ∷ placeds)) more))) → left old (on_rest line (draft old) at rest more) ≡ whole → Tells fault whole
rest_fails fault line old at b bs rest more whole e h k s step w =
    subst (Tells fault) (sym (ap (left old) (rest_opens line (draft old) at b bs rest more e h k)) ∙ w) (subst (λ n. Tells fault (left old (then_more (in_body n (draft old) (placed at b ∷ (body_of (behind old.context b) (at + 1) bs).0)) (behind_body n)))) s (step (body_of (behind old.context b) (at + 1) bs).0 (behind_body old.line)))
  where
    behind_body : ℕ → Draft → List Draft
    behind_body n next = then_more (at_end n next (body_of (behind old.context b) (at + 1) bs).1) more

-- the source ends with an open statement
pub end_told : (old now new : Reader) → now.done.items ≡ old.done.items → draft now ≡ broken E106 (draft old) → ((drafts : List Draft) → left now (draft now ∷ drafts) ≡ left new drafts) → left old (broken E106 (draft old) ∷ []) ≡ Ok (views new.done.items)
end_told old now new h k step =
    sym (ap (λ done. ahead (views done) (found_in token_as (broken E106 (draft old) ∷ []))) h)
    ∙ sym (ap (λ d. left now (d ∷ [])) k)
    ∙ step []
    ∙ left_none new

pub end_fails : (fault : LexFault) (old now : Reader) → now.done.items ≡ old.done.items → draft now ≡ broken E106 (draft old) → ((drafts : List Draft) → Tells fault (left now (draft now ∷ drafts))) → Tells fault (left old (broken E106 (draft old) ∷ []))
end_fails fault old now h k step = subst (Tells fault) (ap (λ d. left now (d ∷ [])) k ∙ ap (λ done. ahead (views done) (found_in token_as (broken E106 (draft old) ∷ []))) h) (step [])

-- one line is read
pub line_read : (new old : Reader) (at at' n : ℕ) (line rest rest' : List ℕ) (whole : Found Token) → lines_from at rest ≡ (at, line) ∷ lines_from at' rest' → n ≡ old.line → ((more : Draft → List Draft) → left old (on_line old.line (draft old) (at, line) more) ≡ left new (more (draft new))) → left old (statements_from old.line (draft old) (lines_from at rest)) ≡ whole → left new (statements_from (n + 1) (draft new) (lines_from at' rest')) ≡ whole
line_read new old at at' n line rest rest' whole e s step h =
    ap (λ k. left new (statements_from (k + 1) (draft new) (lines_from at' rest'))) s
    ∙ sym (step (λ next. statements_from (old.line + 1) next (lines_from at' rest')))
    ∙ sym (ap (λ ls. left old (statements_from old.line (draft old) ls)) e)
    ∙ h

pub line_fails : (fault : LexFault) (old : Reader) (at at' : ℕ) (line rest rest' : List ℕ) (whole : Found Token) → lines_from at rest ≡ (at, line) ∷ lines_from at' rest' → ((more : Draft → List Draft) → Tells fault (left old (on_line old.line (draft old) (at, line) more))) → left old (statements_from old.line (draft old) (lines_from at rest)) ≡ whole → Tells fault whole
line_fails fault old at at' line rest rest' whole e step h = subst (Tells fault) (sym (ap (λ ls. left old (statements_from old.line (draft old) ls)) e) ∙ h) (step (λ next. statements_from (old.line + 1) next (lines_from at' rest')))

-- one lexeme is taken
pub taken : (rest behind bytes next : List Placed) (first : Placed) (l : Lexeme) (so now whole : Lexed Token) → rest ≡ first ∷ behind → l ≡ lexeme_at first.byte behind → bytes ≡ take (l.more + 1) rest → next ≡ drop l.more behind → ((more : Lexed Token) → both so (both (meaning token_as l.what bytes) more) ≡ both now more) → both so (tokens_behind token_as 0 rest) ≡ whole → both now (tokens_behind token_as 0 next) ≡ whole
taken rest behind bytes next first l so now whole e k m n step h =
    sym (step (tokens_behind token_as 0 next))
    ∙ ap (λ t. both so (both (meaning token_as l.what bytes) t)) (ap (tokens_behind token_as 0) n ∙ passed_over token_as l.more behind)
    ∙ ap (λ t. both so (both (meaning token_as l.what t) (tokens_behind token_as l.more behind))) (m ∙ ap (take (l.more + 1)) e)
    ∙ ap (λ x. both so (then_behind token_as x (first ∷ behind) (λ more. tokens_behind token_as more behind))) k
    ∙ sym (ap (λ t. both so (tokens_behind token_as 0 t)) e)
    ∙ h

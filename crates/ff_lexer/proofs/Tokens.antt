-- The tokens of a text are spelled in the source as in the text, and lie in it one behind the other.
use Rattle.std.proofs.Common.{◌≡◌, ℕ, zero, suc, ◌+◌, ◌-◌, ◌<◌, ◌≤◌, true, List, [], ◌∷◌, map, drop, take, inl, inr, Option, Some, None, Ok, Err, refl, sym, ap, ◌∙◌, subst, arith}
use Rattle.std.specs.Prelude.{◌==◌}
use Rattle.std.proofs.lemmas.Bool.Decides.{nat_tests}
use Rattle.std.proofs.lemmas.List.{map-append}
use Rattle.lf_base.specs.declared.rule.Rule.{Rule}
use Rattle.ff_lexer.specs.declared.bytes.Context.TheVariants.{Code}
use Rattle.ff_lexer.specs.declared.lexeme.Lexeme.{Lexeme}
use Rattle.ff_lexer.specs.declared.lexeme.Placed.{Placed}
use Rattle.ff_lexer.specs.declared.lexeme.What.{What}
use Rattle.ff_lexer.specs.declared.lexeme.What.TheVariants.{Gap, Is, Breaks}
use Rattle.ff_lexer.specs.declared.token.Token.{Token}
use Rattle.ff_lexer.specs.declared.unbroken.Reading.{Reading}
use Rattle.ff_lexer.specs.declared.unbroken.Reading.TheVariants as reading
use Rattle.ff_lexer.specs.Bytes.{behind}
use Rattle.ff_lexer.specs.Lexemes.{Lexed, Made, both, meaning, then_behind, tokens_behind, lexeme_at, so_far, lexed}
use Rattle.ff_lexer.specs.Lines.{Draft}
use Rattle.ff_lexer.specs.Spans.{unbroken, spelled, end_of, token_as, TokensLie}
use Rattle.ff_lexer.specs.Statements.{spelled_as, written}
use Rattle.ff_lexer.proofs.Cleaned.{Clean, lexeme_clean}
use Rattle.ff_lexer.proofs.Paths.{context_of, Told, after, Run, Path, run_rises, run_tells, passes_none}

abbrev pub map_lexed : {T U : Type 0} → (T → U) → Lexed T → Lexed U
map_lexed f (Ok ts) = Ok (map f ts)
map_lexed f (Err rule) = Err rule

map_both : {T U : Type 0} (f : T → U) (a b : Lexed T) → map_lexed f (both a b) ≡ both (map_lexed f a) (map_lexed f b)
map_both f (Ok a) (Ok b) = ap Ok (map-append f a b)
map_both f (Ok a) (Err s) = refl
map_both f (Err r) (Ok b) = refl
map_both f (Err r) (Err s) = refl

abbrev pub LexedLie : ℕ → ℕ → Lexed Token → Type 0
LexedLie low high (Ok ts) = TokensLie low high ts
LexedLie low high (Err rule) = Unit {0}

lower : (low mid high : ℕ) (ts : List Token) → low ≤ mid → TokensLie mid high ts → TokensLie low high ts
lower low mid high [] m h = omega (arith, m, h)
lower low mid high (t ∷ ts) m h = (omega (arith, m, h.0), h.1, h.2)

lexed_lower : (low mid high : ℕ) (l : Lexed Token) → low ≤ mid → LexedLie mid high l → LexedLie low high l
lexed_lower low mid high (Ok ts) m h = lower low mid high ts m h
lexed_lower low mid high (Err r) m h = tt

-- the path of the bytes of a lexeme has no mark
run_front : (source : List ℕ) (r r' : Reading) (p p' n : ℕ) (bs : List Placed) → Path source r p bs r' p' → Clean n (context_of r) bs → (s : Reading) × (q : ℕ) × Run source r p (take n bs) s q
run_front source r r' p p' zero bs x h = (r, p, passes_none source r p)
run_front source r r' p p' (suc n) [] x h = (r, p, passes_none source r p)
run_front source r r' p p' (suc n) (b ∷ bs) (inl x) h = let k = run_front source (after r b) r' b.end p' n bs x.1 h.2 in (k.0, k.1, (x.0, k.2))
run_front source r r' p p' (suc n) (b ∷ bs) (inr x) h = absurd (grind (arith, nat_tests, x.0, h.0))

-- what is made of a lexeme
meant : (source : List ℕ) (what : What) (b : Placed) (bs : List Placed) (r : Reading) (p : ℕ) (s : Reading) (q : ℕ) → context_of r ≡ Code → Run source r p (b ∷ bs) s q → map_lexed (spelled source) (meaning token_as what (b ∷ bs)) ≡ meaning spelled_as what (b ∷ bs)
meant source Gap b bs r p s q c x = refl
meant source (Breaks rule) b bs r p s q c x = refl
meant source (Is kind) b bs r p s q c x =
    ap (λ l. Ok ((kind, written kind l) ∷ [])) (ap (λ k. unbroken (end_of b.end bs - (b.end - 1)) (reading.Body k) (drop (b.end - 1) source)) (sym c) ∙ run_tells source r s p q b bs x)

-- a lexeme in front of tokens that lie behind it
meaning_lies : (what : What) (b : Placed) (bs : List Placed) (low high : ℕ) (l : Lexed Token) → low ≤ b.end - 1 → 0 < b.end → b.end ≤ end_of b.end bs → LexedLie (end_of b.end bs) high l → LexedLie low high (both (meaning token_as what (b ∷ bs)) l)
meaning_lies Gap b bs low high (Ok ts) m s k h = lower low (end_of b.end bs) high ts (omega (arith, m, s, k)) h
meaning_lies Gap b bs low high (Err rule) m s k h = tt
meaning_lies (Is kind) b bs low high (Ok ts) m s k h = (m, omega (arith, s, k), h)
meaning_lies (Is kind) b bs low high (Err rule) m s k h = tt
meaning_lies (Breaks rule) b bs low high (Ok ts) m s k h = tt
meaning_lies (Breaks rule) b bs low high (Err least) m s k h = tt

abbrev Stands : List ℕ → ℕ → ℕ → ℕ → List Placed → Type 0
Stands source passed p p' bs = (map_lexed (spelled source) (tokens_behind token_as passed bs) ≡ tokens_behind spelled_as passed bs) × LexedLie (end_of p (take passed bs)) p' (tokens_behind token_as passed bs)

-- a mark parts tokens
at_mark : (source : List ℕ) (b : Placed) (bs : List Placed) (p q p' : ℕ) → (b.byte == 10) ≡ true → p ≤ q → Stands source 0 q p' bs → Stands source 0 p p' (b ∷ bs)
at_mark source b bs p q p' e m h = (sym (ap (map_lexed (spelled source)) (passed token_as)) ∙ h.0 ∙ passed spelled_as, subst (LexedLie p p') (passed token_as) (lexed_lower p q p' (tokens_behind token_as 0 bs) m h.1))
  where
    newline : b.byte ≡ 10
    newline = grind (arith, nat_tests, e)

    alone : {T : Type 0} (l : Lexed T) → l ≡ both (Ok []) l
    alone (Ok ts) = refl
    alone (Err rule) = refl

    passed : {T : Type 0} (made : Made T) → tokens_behind made 0 bs ≡ tokens_behind made 0 (b ∷ bs)
    passed made = alone (tokens_behind made 0 bs) ∙ ap (λ n. then_behind made (lexeme_at n bs) (b ∷ bs) (λ more. tokens_behind made more bs)) (sym newline)

at_byte : (source : List ℕ) (b : Placed) (bs : List Placed) (r r' : Reading) (p p' : ℕ) → context_of r ≡ Code → Told source r p b → Path source (after r b) b.end bs r' p' → Clean (lexeme_at b.byte bs).more (context_of (after r b)) bs → Stands source (lexeme_at b.byte bs).more b.end p' bs → Stands source 0 p p' (b ∷ bs)
at_byte source b bs r r' p p' c t x h k = (equal, places)
  where
    l : Lexeme
    l = lexeme_at b.byte bs

    run : (s : Reading) × (q : ℕ) × Run source (after r b) b.end (take l.more bs) s q
    run = run_front source (after r b) r' b.end p' l.more bs x h

    counted : take (l.more + 1) (b ∷ bs) ≡ b ∷ take l.more bs
    counted = ap (λ n. take n (b ∷ bs)) {y = suc l.more} (omega arith)

    equal : map_lexed (spelled source) (tokens_behind token_as 0 (b ∷ bs)) ≡ tokens_behind spelled_as 0 (b ∷ bs)
    equal =
        map_both (spelled source) (meaning token_as l.what (take (l.more + 1) (b ∷ bs))) (tokens_behind token_as l.more bs)
        ∙ ap (λ e. both (map_lexed (spelled source) (meaning token_as l.what e)) (map_lexed (spelled source) (tokens_behind token_as l.more bs))) counted
        ∙ ap (λ e. both e (map_lexed (spelled source) (tokens_behind token_as l.more bs))) (meant source l.what b (take l.more bs) r p run.0 run.1 c (t, run.2))
        ∙ ap (both (meaning spelled_as l.what (b ∷ take l.more bs))) k.0
        ∙ sym (ap (λ e. both (meaning spelled_as l.what e) (tokens_behind spelled_as l.more bs)) counted)

    places : LexedLie p p' (tokens_behind token_as 0 (b ∷ bs))
    places =
        subst (λ e. LexedLie p p' (both (meaning token_as l.what e) (tokens_behind token_as l.more bs))) (sym counted)
        (meaning_lies l.what b (take l.more bs) p p' (tokens_behind token_as l.more bs) t.passes.order t.some (run_rises source (after r b) run.0 b.end run.1 (take l.more bs) run.2) k.1)

tokens_stand : (source : List ℕ) (bs : List Placed) (passed : ℕ) (r r' : Reading) (p p' : ℕ) → Path source r p bs r' p' → Clean passed (context_of r) bs → Stands source passed p p' bs
tokens_stand source [] zero r r' p p' x h = (refl, x.order)
tokens_stand source [] (suc n) r r' p p' x h = (refl, x.order)
tokens_stand source (b ∷ bs) (suc n) r r' p p' (inl x) h = tokens_stand source bs n (after r b) r' b.end p' x.1 h.2
tokens_stand source (b ∷ bs) (suc n) r r' p p' (inr x) h = absurd (grind (arith, nat_tests, x.0, h.0))
tokens_stand source (b ∷ bs) zero r r' p p' (inr x) h = at_mark source b bs p x.1 p' x.0 x.2 (tokens_stand source bs 0 (reading.Body Code) r' x.1 p' x.4 (inl refl))
tokens_stand source (b ∷ bs) zero r r' p p' (inl x) (inr e) = absurd (grind (arith, nat_tests, x.0.plain, e))
tokens_stand source (b ∷ bs) zero r r' p p' (inl x) (inl c) =
    let clean : Clean (lexeme_at b.byte bs).more (context_of (after r b)) bs = subst (λ k. Clean (lexeme_at b.byte bs).more (behind k b.byte) bs) (sym c) (lexeme_clean b.byte bs) in
    at_byte source b bs r r' p p' c x.0 x.1 clean (tokens_stand source bs (lexeme_at b.byte bs).more (after r b) r' b.end p' x.1 clean)

so_far_lies : (fault : Option Rule) (low high : ℕ) (l : Lexed Token) → LexedLie low high l → LexedLie low high (both (so_far [] fault) l)
so_far_lies None low high (Ok ts) h = h
so_far_lies None low high (Err rule) h = tt
so_far_lies (Some r) low high (Ok ts) h = tt
so_far_lies (Some r) low high (Err rule) h = tt

so_far_same : {T U : Type 0} (f : T → U) (fault : Option Rule) → map_lexed f (so_far [] fault) ≡ so_far [] fault
so_far_same f None = refl
so_far_same f (Some r) = refl

-- the tokens of a statement whose text has a path
pub lexed_spelled : (source : List ℕ) (d : Draft) (r' : Reading) (p p' : ℕ) → Path source (reading.Body Code) p d.text r' p' → map_lexed (spelled source) (lexed token_as d) ≡ lexed spelled_as d
lexed_spelled source d r' p p' x =
    map_both (spelled source) (so_far [] d.fault) (tokens_behind token_as 0 d.text)
    ∙ ap (λ e. both e (map_lexed (spelled source) (tokens_behind token_as 0 d.text))) (so_far_same (spelled source) d.fault)
    ∙ ap (both (so_far [] d.fault)) (tokens_stand source d.text 0 (reading.Body Code) r' p p' x (inl refl)).0

pub lexed_lies : (source : List ℕ) (d : Draft) (r' : Reading) (p p' : ℕ) → Path source (reading.Body Code) p d.text r' p' → LexedLie p p' (lexed token_as d)
lexed_lies source d r' p p' x = so_far_lies d.fault p p' (tokens_behind token_as 0 d.text) (tokens_stand source d.text 0 (reading.Body Code) r' p p' x (inl refl)).1

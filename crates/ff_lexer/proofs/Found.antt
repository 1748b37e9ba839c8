-- The statements that a reader finds are those of the source, and lie in it.
use Rattle.std.proofs.Common.{◌≡◌, ℕ, ◌≤◌, false, List, [], ◌∷◌, map, length, Result, Ok, Err, IfOk, refl, sym, ap, ◌∙◌, subst, arith}
use Rattle.std.specs.Prelude.{if◌then◌else◌, nat_lt}
use Rattle.std.proofs.lemmas.Bool.Decides.{nat_tests}
use Rattle.lf_base.specs.declared.fault.LexFault.{LexFault}
use Rattle.lf_base.specs.declared.fault.LexFault.TheVariants.{At, Memory}
use Rattle.lf_base.specs.declared.rule.Rule.TheVariants.{E108}
use Rattle.ff_lexer.specs.declared.bytes.Context.TheVariants.{Code}
use Rattle.ff_lexer.specs.declared.token.Token.{Token}
use Rattle.ff_lexer.specs.declared.unbroken.Reading.TheVariants as reading
use Rattle.ff_lexer.specs.Lexemes.{Lexed, lexed}
use Rattle.ff_lexer.specs.Lines.{Draft, lines_from}
use Rattle.ff_lexer.specs.Spans.{spelled, spelled_statement, token_as, TokensLie, StatementsLie, Tells, Answers}
use Rattle.ff_lexer.specs.Statements.{Spelled, spelled_as, Found, told, found_in, drafts_of, greatest_source, statements_of}
use Rattle.ff_lexer.proofs.Drafts.{DraftsTo, drafts_hold}
use Rattle.ff_lexer.proofs.LinesLie.{lines_lie}
use Rattle.ff_lexer.proofs.Paths.{path_rises}
use Rattle.ff_lexer.proofs.Tokens.{map_lexed, LexedLie, lexed_spelled, lexed_lies}

abbrev spelled_found : List ℕ → Found Token → Found Spelled
spelled_found source (Ok found) = Ok (map (spelled_statement source) found)
spelled_found source (Err fault) = Err fault

spelled_told : (source : List ℕ) (line : ℕ) (l : Lexed Token) (rest : Found Token) → spelled_found source (told line l rest) ≡ told line (map_lexed (spelled source) l) (spelled_found source rest)
spelled_told source line (Err rule) rest = refl
spelled_told source line (Ok []) rest = refl
spelled_told source line (Ok (t ∷ ts)) (Ok found) = refl
spelled_told source line (Ok (t ∷ ts)) (Err fault) = refl

found_spelled : (source : List ℕ) (ds : List Draft) (low high : ℕ) → DraftsTo source low ds high → spelled_found source (found_in token_as ds) ≡ found_in spelled_as ds
found_spelled source [] low high h = refl
found_spelled source (d ∷ ds) low high h =
    spelled_told source d.line (lexed token_as d) (found_in token_as ds)
    ∙ ap (λ l. told d.line l (spelled_found source (found_in token_as ds))) (lexed_spelled source d h.2 h.0 h.3 h.4)
    ∙ ap (told d.line (lexed spelled_as d)) (found_spelled source ds h.3 high h.5)

abbrev FoundLies : ℕ → ℕ → Found Token → Type 0
FoundLies low high (Ok found) = StatementsLie low high found
FoundLies low high (Err fault) = Unit {0}

tokens_lower : (low mid end : ℕ) (ts : List Token) → low ≤ mid → TokensLie mid end ts → TokensLie low end ts
tokens_lower low mid end [] m h = omega (arith, m, h)
tokens_lower low mid end (t ∷ ts) m h = (omega (arith, m, h.0), h.1, h.2)

found_lower : (low mid high : ℕ) (found : Found Token) → low ≤ mid → FoundLies mid high found → FoundLies low high found
found_lower low mid high (Ok []) m h = omega (arith, m, h)
found_lower low mid high (Ok (s ∷ ss)) m h = (h.0, tokens_lower low mid h.0 s.1 m h.1, h.2)
found_lower low mid high (Err fault) m h = tt

told_lies : (low start end high line : ℕ) (l : Lexed Token) (rest : Found Token) → low ≤ start → start ≤ end → LexedLie start end l → FoundLies end high rest → FoundLies low high (told line l rest)
told_lies low start end high line (Err rule) rest m n h k = tt
told_lies low start end high line (Ok []) rest m n h k = found_lower low end high rest (omega (arith, m, n)) k
told_lies low start end high line (Ok (t ∷ ts)) (Ok found) m n h k = (end, tokens_lower low start end (t ∷ ts) m h, k)
told_lies low start end high line (Ok (t ∷ ts)) (Err fault) m n h k = tt

found_lies : (source : List ℕ) (ds : List Draft) (low high : ℕ) → DraftsTo source low ds high → FoundLies low high (found_in token_as ds)
found_lies source [] low high h = h
found_lies source (d ∷ ds) low high h = told_lies low h.0 h.3 high d.line (lexed token_as d) (found_in token_as ds) h.1 (path_rises source (reading.Body Code) h.2 h.0 h.3 d.text h.4) (lexed_lies source d h.2 h.0 h.3 h.4) (found_lies source ds h.3 high h.5)

source_holds : (source : List ℕ) → DraftsTo source 0 (drafts_of source) (length source)
source_holds source = drafts_hold source (lines_from 0 source) (lines_lie source source 0 refl)

tells : (source : List ℕ) (fault : LexFault) (there : Found Token) → Tells fault there → Tells fault (spelled_found source there)
tells source Memory there h = tt
tells source (At line rule) there h = ap (spelled_found source) h

answered : {V : Type 0} (source : List ℕ) (found : V → List (ℕ × List Token)) (r : Result V LexFault) (there : Found Token) → Answers (λ v. Ok (found v)) r there → Answers (λ v. Ok (map (spelled_statement source) (found v))) r (spelled_found source there)
answered source found (Ok v) there h = ap (spelled_found source) h
answered source found (Err fault) there h = tells source fault there h

-- a source that is not too long
short : (source : List ℕ) → length source ≤ greatest_source → found_in spelled_as (drafts_of source) ≡ statements_of source
short source h = ap (λ t. if t then Err (1, E108) else found_in spelled_as (drafts_of source)) (sym (not_longer (length source) h))
  where
    not_longer : (n : ℕ) → n ≤ 1048576 → nat_lt 1048576 n ≡ false
    not_longer n k = grind (arith, nat_tests)

-- the answer of a reader, as it is spelled
pub answers_spelled : {V : Type 0} (source : List ℕ) (found : V → List (ℕ × List Token)) (r : Result V LexFault) → length source ≤ greatest_source → Answers (λ v. Ok (found v)) r (found_in token_as (drafts_of source)) → Answers (λ v. Ok (map (spelled_statement source) (found v))) r (statements_of source)
answers_spelled source found r h a =
    subst (Answers (λ v. Ok (map (spelled_statement source) (found v))) r)
    (found_spelled source (drafts_of source) 0 (length source) (source_holds source) ∙ short source h)
    (answered source found r (found_in token_as (drafts_of source)) a)

-- the tokens of a reader's answer lie in the source
pub answers_lie : {V : Type 0} (source : List ℕ) (found : V → List (ℕ × List Token)) (r : Result V LexFault) → Answers (λ v. Ok (found v)) r (found_in token_as (drafts_of source)) → IfOk r (λ v. StatementsLie 0 (length source) (found v))
answers_lie source found (Ok v) a = subst (FoundLies 0 (length source)) a (found_lies source (drafts_of source) 0 (length source) (source_holds source))
answers_lie source found (Err e) a = tt

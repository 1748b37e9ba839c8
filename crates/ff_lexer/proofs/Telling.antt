-- The statements of a source are those that its lines give.
use Rattle.std.proofs.Common.{◌≡◌, ℕ, Bool, true, false, List, [], ◌∷◌, length, Result, Ok, Err, refl, sym, ap, ◌∙◌, arith}
use Rattle.std.specs.Prelude.{if◌then◌else◌, nat_lt}
use Rattle.std.proofs.lemmas.Bool.Decides.{nat_tests}
use Rattle.lf_base.specs.declared.fault.LexFault.{LexFault}
use Rattle.lf_base.specs.declared.fault.LexFault.TheVariants.{At, Memory}
use Rattle.lf_base.specs.declared.rule.Rule.{Rule}
use Rattle.lf_base.specs.declared.rule.Rule.TheVariants.{E108}
use Rattle.ff_lexer.specs.Lexemes.{Lexed, lexed}
use Rattle.ff_lexer.specs.Lines.{Draft}
use Rattle.ff_lexer.specs.Spans.{Answers}
use Rattle.ff_lexer.specs.Statements.{greatest_source, Spelled, spelled_as, Found, told, found_in, drafts_of, statements_of}
use Rattle.ff_lexer.specs.Told.{in_front_of, AreTold, StatementsOf, Relates}
use Rattle.ff_lexer.proofs.Continuing.{drafts_there, only_drafts}

abbrev as_found : List (ℕ × List Spelled) → Found Spelled
as_found statements = Ok statements

same_found : (xs ys : List (ℕ × List Spelled)) → as_found xs ≡ as_found ys → ys ≡ xs
same_found xs ys e = cc

in_front : (line : ℕ) (tokens : List Spelled) (more : List (ℕ × List Spelled)) → told line (Ok tokens) (Ok more) ≡ as_found (in_front_of line tokens more)
in_front line [] more = refl
in_front line (token ∷ tokens) more = refl

told_there : (ds : List Draft) (statements : List (ℕ × List Spelled)) → found_in spelled_as ds ≡ Ok statements → AreTold ds statements
told_there [] statements e = same_found [] statements e
told_there (d ∷ ds) statements e = by (lexed spelled_as d) refl (found_in spelled_as ds) refl e (told_there ds)
  where
    by : (r : Lexed Spelled) → lexed spelled_as d ≡ r → (f : Found Spelled) → found_in spelled_as ds ≡ f → told d.line r f ≡ Ok statements → ((more : List (ℕ × List Spelled)) → found_in spelled_as ds ≡ Ok more → AreTold ds more) → AreTold (d ∷ ds) statements
    by (Err rule) h f k e more = cc
    by (Ok tokens) h (Ok behind) k e more = (tokens, behind, h, more behind k, same_found (in_front_of d.line tokens behind) statements (sym (in_front d.line tokens behind) ∙ e))
    by (Ok []) h (Err fault) k e more = cc
    by (Ok (token ∷ tokens)) h (Err fault) k e more = cc

only_told : (ds : List Draft) (statements : List (ℕ × List Spelled)) → AreTold ds statements → found_in spelled_as ds ≡ Ok statements
only_told [] statements h = ap Ok (sym h)
only_told (d ∷ ds) statements h =
    ap (λ r. told d.line r (found_in spelled_as ds)) h.2
    ∙ ap (told d.line (Ok h.0)) (only_told ds h.1 h.3)
    ∙ in_front d.line h.0 h.1
    ∙ ap Ok (sym h.4)

pub source_there : (text : List ℕ) (statements : List (ℕ × List Spelled)) → statements_of text ≡ Ok statements → StatementsOf text statements
source_there text statements e = by (nat_lt greatest_source (length text)) refl e
  where
    by : (t : Bool) → nat_lt greatest_source (length text) ≡ t → (if t then Err (1, E108) else found_in spelled_as (drafts_of text)) ≡ Ok statements → StatementsOf text statements
    by true h e = cc
    by false h e = record { size = grind (arith, nat_tests, h); drafts = drafts_of text; has_drafts = drafts_there text; are_told = told_there (drafts_of text) statements e }

pub only_source : (text : List ℕ) (statements : List (ℕ × List Spelled)) → StatementsOf text statements → statements_of text ≡ Ok statements
only_source text statements s =
    ap (λ t. if t then Err (1, E108) else found_in spelled_as (drafts_of text)) {y = false} (grind (arith, nat_tests, s.size))
    ∙ ap (found_in spelled_as) (sym (only_drafts text s.drafts s.has_drafts))
    ∙ only_told s.drafts statements s.are_told

one_found : (found : Found Spelled) (first second : List (ℕ × List Spelled)) → found ≡ Ok first → found ≡ Ok second → first ≡ second
one_found found first second p q = cc

pub one_list : (text : List ℕ) (first second : List (ℕ × List Spelled)) → StatementsOf text first → StatementsOf text second → first ≡ second
one_list text first second p q = one_found (statements_of text) first second (only_source text first p) (only_source text second q)

not_both : (found : Found Spelled) (statements : List (ℕ × List Spelled)) (fault : ℕ × Rule) → found ≡ Ok statements → found ≡ Err fault → ⊥
not_both found statements fault p q = cc

pub not_at_fault : (text : List ℕ) (statements : List (ℕ × List Spelled)) (fault : ℕ × Rule) → StatementsOf text statements → statements_of text ≡ Err fault → ⊥
not_at_fault text statements fault p q = not_both (statements_of text) statements fault (only_source text statements p) q

pub relates : {T : Type 0} (text : List ℕ) (spelled : T → List (ℕ × List Spelled)) (r : Result T LexFault) → Answers (λ v. Ok (spelled v)) r (statements_of text) → Relates text spelled r
relates text spelled (Ok v) h = source_there text (spelled v) h
relates text spelled (Err Memory) h = tt
relates text spelled (Err (At line rule)) h = λ statements k. not_at_fault text statements (line, rule) k h

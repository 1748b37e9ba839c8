-- The tokens of a text as they are told: the letters of names are small ones, and nothing else is changed.
use Rattle.std.proofs.Common.{◌≡◌, ℕ, zero, suc, ◌+◌, Bool, true, false, List, [], ◌∷◌, ◌++◌, length, map, take, Option, Some, None, Ok, Err, refl, sym, ap, ◌∙◌, append_assoc, append-nil, arith}
use Rattle.std.specs.Prelude.{if◌then◌else◌, nat_lt}
use Rattle.std.proofs.lemmas.Bool.Decides.{nat_tests}
use Rattle.std.proofs.lemmas.List.{map-append}
use Rattle.lf_base.specs.declared.rule.Rule.{Rule}
use Rattle.lf_base.specs.declared.rule.Rule.TheVariants.{E108}
use Rattle.ff_lexer.specs.declared.bytes.Context.TheVariants.{Code}
use Rattle.ff_lexer.specs.declared.lexeme.Lexeme.{Lexeme}
use Rattle.ff_lexer.specs.declared.lexeme.Placed.{Placed}
use Rattle.ff_lexer.specs.declared.lexeme.What.{What}
use Rattle.ff_lexer.specs.declared.lexeme.What.TheVariants.{Gap, Is, Breaks}
use Rattle.ff_lexer.specs.declared.token.Kind.{Kind}
use Rattle.ff_lexer.specs.declared.token.Kind.TheVariants.{Word, Number, Text, Mark}
use Rattle.ff_lexer.specs.Bytes.{is_capital, lowered}
use Rattle.ff_lexer.specs.Held.{lines_hold, tokens_in, spelled_text}
use Rattle.ff_lexer.specs.Lexemes.{Lexed, both, meaning, lexeme_at, tokens_behind, so_far, lexed}
use Rattle.ff_lexer.specs.Lines.{Draft, lines_from}
use Rattle.ff_lexer.specs.Solid.{bytes_as, joined}
use Rattle.ff_lexer.specs.Statements.{Spelled, cased, written, byte_of, spelled_as, Found, told, found_in, drafts_of, greatest_source, statements_of}
use Rattle.ff_lexer.proofs.HeldAll.{joined_append, all_covered}

lowered_twice : (b : ℕ) → lowered (lowered b) ≡ lowered b
lowered_twice b = by (is_capital b) refl
  where
    by : (t : Bool) → is_capital b ≡ t → lowered (if t then b + 32 else b) ≡ (if t then b + 32 else b)
    by true e = ap (λ t. if t then b + 32 + 32 else b + 32) {y = false} (grind (arith, nat_tests, e))
    by false e = ap (λ t. if t then b + 32 else b) e

lowered_cased : (kind : Kind) (b : ℕ) → lowered (cased kind b) ≡ lowered b
lowered_cased Word b = lowered_twice b
lowered_cased Number b = refl
lowered_cased Text b = refl
lowered_cased Mark b = refl

lowered_written : (kind : Kind) (bytes : List ℕ) → map lowered (written kind bytes) ≡ map lowered bytes
lowered_written kind [] = refl
lowered_written kind (b ∷ bs) = ap (λ x. x ∷ map lowered (written kind bs)) (lowered_cased kind b) ∙ ap (λ l. lowered b ∷ l) (lowered_written kind bs)

spelled_append : (xs ys : List Spelled) → spelled_text (xs ++ ys) ≡ spelled_text xs ++ spelled_text ys
spelled_append [] ys = refl
spelled_append (x ∷ xs) ys = ap (λ l. x.1 ++ l) (spelled_append xs ys) ∙ sym (append_assoc x.1 (spelled_text xs) (spelled_text ys))

-- tokens of the same bytes, capitals aside
abbrev AreAlike : List Spelled → List (List ℕ) → Type 0
AreAlike xs ys = map lowered (spelled_text xs) ≡ map lowered (joined ys)

alike_append : (xs : List Spelled) (ys : List (List ℕ)) (ss : List Spelled) (ts : List (List ℕ)) → AreAlike xs ys → AreAlike ss ts → AreAlike (xs ++ ss) (ys ++ ts)
alike_append xs ys ss ts h k =
    ap (map lowered) (spelled_append xs ss)
    ∙ map-append lowered (spelled_text xs) (spelled_text ss)
    ∙ ap (λ l. l ++ map lowered (spelled_text ss)) h
    ∙ ap (λ l. map lowered (joined ys) ++ l) k
    ∙ sym (map-append lowered (joined ys) (joined ts))
    ∙ ap (map lowered) (sym (joined_append ys ts))

abbrev Alike : Lexed Spelled → Lexed (List ℕ) → Type 0
Alike (Ok xs) (Ok ys) = AreAlike xs ys
Alike (Err rule) (Err broken) = Unit {0}
Alike (Ok xs) (Err broken) = ⊥
Alike (Err rule) (Ok ys) = ⊥

both_alike : (a : Lexed Spelled) (x : Lexed (List ℕ)) (b : Lexed Spelled) (y : Lexed (List ℕ)) → Alike a x → Alike b y → Alike (both a b) (both x y)
both_alike (Ok xs) (Ok ys) (Ok ss) (Ok ts) h k = alike_append xs ys ss ts h k
both_alike (Ok xs) (Ok ys) (Err rule) (Err broken) h k = tt
both_alike (Ok xs) (Ok ys) (Ok ss) (Err broken) h k = absurd k
both_alike (Ok xs) (Ok ys) (Err rule) (Ok ts) h k = absurd k
both_alike (Err rule) (Err broken) (Ok ss) (Ok ts) h k = tt
both_alike (Err rule) (Err broken) (Err one) (Err other) h k = tt
both_alike (Err rule) (Err broken) (Ok ss) (Err other) h k = absurd k
both_alike (Err rule) (Err broken) (Err one) (Ok ts) h k = absurd k
both_alike (Ok xs) (Err broken) b y h k = absurd h
both_alike (Err rule) (Ok ys) b y h k = absurd h

meaning_alike : (what : What) (bytes : List Placed) → Alike (meaning spelled_as what bytes) (meaning bytes_as what bytes)
meaning_alike Gap bytes = refl
meaning_alike (Is kind) bytes =
    ap (map lowered) (append-nil (written kind (map byte_of bytes)))
    ∙ lowered_written kind (map byte_of bytes)
    ∙ ap (map lowered) (sym (append-nil (map byte_of bytes)))
meaning_alike (Breaks rule) bytes = tt

tokens_alike : (bs : List Placed) (passed : ℕ) → Alike (tokens_behind spelled_as passed bs) (tokens_behind bytes_as passed bs)
tokens_alike [] zero = refl
tokens_alike [] (suc passed) = refl
tokens_alike (b ∷ bs) (suc passed) = tokens_alike bs passed
tokens_alike (b ∷ bs) zero =
    let l : Lexeme = lexeme_at b.byte bs in
    let text : List Placed = take (l.more + 1) (b ∷ bs) in
    both_alike (meaning spelled_as l.what text) (meaning bytes_as l.what text) (tokens_behind spelled_as l.more bs) (tokens_behind bytes_as l.more bs) (meaning_alike l.what text) (tokens_alike bs l.more)

lexed_alike : (d : Draft) → Alike (lexed spelled_as d) (lexed bytes_as d)
lexed_alike d = both_alike (so_far [] d.fault) (so_far [] d.fault) (tokens_behind spelled_as 0 d.text) (tokens_behind bytes_as 0 d.text) (by d.fault) (tokens_alike d.text 0)
  where
    by : (fault : Option Rule) → Alike (so_far [] fault) (so_far [] fault)
    by None = refl
    by (Some rule) = tt

abbrev FoundAlike : Found Spelled → Found (List ℕ) → Type 0
FoundAlike (Ok ss) (Ok ts) = AreAlike (tokens_in ss) (tokens_in ts)
FoundAlike (Err fault) (Err broken) = Unit {0}
FoundAlike (Ok ss) (Err broken) = ⊥
FoundAlike (Err fault) (Ok ts) = ⊥

ahead_alike : (line : ℕ) (xs : List Spelled) (ys : List (List ℕ)) (f : Found Spelled) (g : Found (List ℕ)) → AreAlike xs ys → FoundAlike f g → FoundAlike (told line (Ok xs) f) (told line (Ok ys) g)
ahead_alike line [] [] f g h k = k
ahead_alike line [] (y ∷ ys) (Ok ss) (Ok ts) h k = alike_append [] (y ∷ ys) (tokens_in ss) (tokens_in ts) h k
ahead_alike line (x ∷ xs) [] (Ok ss) (Ok ts) h k = alike_append (x ∷ xs) [] (tokens_in ss) (tokens_in ts) h k
ahead_alike line (x ∷ xs) (y ∷ ys) (Ok ss) (Ok ts) h k = alike_append (x ∷ xs) (y ∷ ys) (tokens_in ss) (tokens_in ts) h k
ahead_alike line [] (y ∷ ys) (Err fault) (Err broken) h k = tt
ahead_alike line (x ∷ xs) [] (Err fault) (Err broken) h k = tt
ahead_alike line (x ∷ xs) (y ∷ ys) (Err fault) (Err broken) h k = tt
ahead_alike line xs ys (Ok ss) (Err broken) h k = absurd k
ahead_alike line xs ys (Err fault) (Ok ts) h k = absurd k

told_alike : (line : ℕ) (a : Lexed Spelled) (b : Lexed (List ℕ)) (f : Found Spelled) (g : Found (List ℕ)) → Alike a b → FoundAlike f g → FoundAlike (told line a f) (told line b g)
told_alike line (Ok xs) (Ok ys) f g h k = ahead_alike line xs ys f g h k
told_alike line (Err rule) (Err broken) f g h k = tt
told_alike line (Ok xs) (Err broken) f g h k = absurd h
told_alike line (Err rule) (Ok ys) f g h k = absurd h

found_alike : (ds : List Draft) → FoundAlike (found_in spelled_as ds) (found_in bytes_as ds)
found_alike [] = refl
found_alike (d ∷ ds) = told_alike d.line (lexed spelled_as d) (lexed bytes_as d) (found_in spelled_as ds) (found_in bytes_as ds) (lexed_alike d) (found_alike ds)

abbrev as_found : List (ℕ × List Spelled) → Found Spelled
as_found statements = Ok statements

same_found : (xs ys : List (ℕ × List Spelled)) → as_found xs ≡ as_found ys → ys ≡ xs
same_found xs ys e = cc

found_spelled : (text : List ℕ) (statements : List (ℕ × List Spelled)) → found_in spelled_as (drafts_of text) ≡ Ok statements → map lowered (spelled_text (tokens_in statements)) ≡ map lowered (lines_hold false Code (lines_from 0 text))
found_spelled text statements e = by (found_in spelled_as (drafts_of text)) (found_in bytes_as (drafts_of text)) refl (found_alike (drafts_of text)) e
  where
    by : (f : Found Spelled) (g : Found (List ℕ)) → found_in bytes_as (drafts_of text) ≡ g → FoundAlike f g → f ≡ Ok statements → map lowered (spelled_text (tokens_in statements)) ≡ map lowered (lines_hold false Code (lines_from 0 text))
    by (Ok ss) (Ok ts) k h e = ap (λ s. map lowered (spelled_text (tokens_in s))) (same_found ss statements e) ∙ h ∙ ap (map lowered) (all_covered text ts k)
    by (Ok ss) (Err broken) k h e = absurd h
    by (Err fault) (Ok ts) k h e = absurd h
    by (Err fault) (Err broken) k h e = cc

pub all_spelled : (text : List ℕ) (statements : List (ℕ × List Spelled)) → statements_of text ≡ Ok statements → map lowered (spelled_text (tokens_in statements)) ≡ map lowered (lines_hold false Code (lines_from 0 text))
all_spelled text statements e = by (nat_lt greatest_source (length text)) e
  where
    by : (t : Bool) → (if t then Err (1, E108) else found_in spelled_as (drafts_of text)) ≡ Ok statements → map lowered (spelled_text (tokens_in statements)) ≡ map lowered (lines_hold false Code (lines_from 0 text))
    by true e = cc
    by false e = found_spelled text statements e

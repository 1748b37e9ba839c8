-- The words of a command are texts, so what they are made of are bytes; and a source's name has at most 255 of them.
use Rattle.std.proofs.Common.{◌≡◌, ℕ, ◌<◌, ◌≤◌, Bool, true, false, List, [], ◌∷◌, ◌++◌, ◌+◌, ◌/◌, ◌%◌, length, map, Option, Some, None, string_bytes, cond, refl, ap, subst, arith}
use Rattle.std.specs.Prelude.{ltb, ◌&&◌}
use Rattle.std.specs.declared.string.String.{String}
use Rattle.std.specs.List.{AllByRecursion, list_all}
use Rattle.std.specs.Char.{encode_utf8}
use Rattle.std.specs.Str.{IsUtf8, all_scalars, encode_utf8_all}
use Rattle.std.proofs.lemmas.Bool.Decides.{nat_tests}
use Rattle.std.proofs.lemmas.Str.{IsUtf8-string_bytes}
use Rattle.lf_driver.specs.declared.command.Verb.{Verb}
use Rattle.lf_driver.specs.Words.{CommandText, is_source_name, takes_files, verb_of, with_files, words_of}
use Rattle.lf_driver.proofs.Names.{left_true, right_true}

abbrev pub AreBytes : List ℕ → Type 0
AreBytes = AllByRecursion (λ b. b < 256)

append_bytes : (xs ys : List ℕ) → AreBytes xs → AreBytes ys → AreBytes (xs ++ ys)
append_bytes [] ys h k = k
append_bytes (x ∷ xs) ys h k = (h.0, append_bytes xs ys h.1 k)

encoded : (c : ℕ) → c < 1114112 → AreBytes (encode_utf8 c)
unfolding encode_utf8
encoded c h = one (ltb c 128) refl
  where
    four : (t : Bool) → ltb c 65536 ≡ t → AreBytes (cond t ((224 + c / 4096) ∷ (128 + (c / 64) % 64) ∷ (128 + c % 64) ∷ []) ((240 + c / 262144) ∷ (128 + (c / 4096) % 64) ∷ (128 + (c / 64) % 64) ∷ (128 + c % 64) ∷ []))
    four true e = (grind (arith, nat_tests), (omega arith, (omega arith, tt)))
    four false e = (omega arith, (omega arith, (omega arith, (omega arith, tt))))

    two : (t : Bool) → ltb c 2048 ≡ t → AreBytes (cond t ((192 + c / 64) ∷ (128 + c % 64) ∷ []) (cond (ltb c 65536) ((224 + c / 4096) ∷ (128 + (c / 64) % 64) ∷ (128 + c % 64) ∷ []) ((240 + c / 262144) ∷ (128 + (c / 4096) % 64) ∷ (128 + (c / 64) % 64) ∷ (128 + c % 64) ∷ [])))
    two true e = (grind (arith, nat_tests), (omega arith, tt))
    two false e = four (ltb c 65536) refl

    one : (t : Bool) → ltb c 128 ≡ t → AreBytes (cond t (c ∷ []) (cond (ltb c 2048) ((192 + c / 64) ∷ (128 + c % 64) ∷ []) (cond (ltb c 65536) ((224 + c / 4096) ∷ (128 + (c / 64) % 64) ∷ (128 + c % 64) ∷ []) ((240 + c / 262144) ∷ (128 + (c / 4096) % 64) ∷ (128 + (c / 64) % 64) ∷ (128 + c % 64) ∷ []))))
    one true e = (grind (arith, nat_tests), tt)
    one false e = two (ltb c 2048) refl

first_scalar : (c : ℕ) (cs : List ℕ) → all_scalars (c ∷ cs) ≡ true → c < 1114112
first_scalar c cs h = grind (arith, nat_tests)

all_encoded : (cs : List ℕ) → all_scalars cs ≡ true → AreBytes (encode_utf8_all cs)
all_encoded [] h = tt
all_encoded (c ∷ cs) h = append_bytes (encode_utf8 c) (encode_utf8_all cs) (encoded c (first_scalar c cs h)) (all_encoded cs (rest c cs h))
  where
    rest : (c : ℕ) (cs : List ℕ) → all_scalars (c ∷ cs) ≡ true → all_scalars cs ≡ true
    rest c cs h = grind (arith, nat_tests)

text_bytes : (text : List ℕ) → IsUtf8 text → AreBytes text
text_bytes text h = subst AreBytes h.1.1 (all_encoded h.0 h.1.0)

pub words_bytes : {Z : Type 0} (words : List (String Z)) → AllByRecursion AreBytes (map string_bytes words)
words_bytes [] = tt
words_bytes (word ∷ words) = (text_bytes (string_bytes word) (IsUtf8-string_bytes word), words_bytes words)

-- the name of a source
pub record IsName (file : List ℕ) : Type 0 where
  pub short : length file ≤ 255
  pub bytes : AreBytes file

abbrev files_in : Option CommandText → List (List ℕ)
files_in None = []
files_in (Some c) = c.2

short_name : (file : List ℕ) → is_source_name file ≡ true → length file ≤ 255
short_name file h = grind (arith, nat_tests)

pub named : (words : List (List ℕ)) → AllByRecursion AreBytes words → (verb : Verb) (file : List ℕ) → words_of words ≡ Some (verb, 0, file ∷ []) → IsName file
named [] h verb file e = absurd (cc)
named (first ∷ files) h verb file e = by_verb (verb_of first) e
  where
    by_names : (v : Verb) (t : Bool) → (takes_files v (length files) && list_all is_source_name files) ≡ t → cond {A = Option CommandText} t (Some (v, 0, files)) None ≡ Some (verb, 0, file ∷ []) → IsName file
    by_names v true p q =
        let same : files ≡ file ∷ [] = ap files_in q in
        let sources : list_all is_source_name (file ∷ []) ≡ true = subst (λ names. list_all is_source_name names ≡ true) same (right_true (takes_files v (length files)) (list_all is_source_name files) p) in
        let bytes : AllByRecursion AreBytes (file ∷ []) = subst (AllByRecursion AreBytes) same h.1 in
        record { short = short_name file (left_true (is_source_name file) true sources); bytes = bytes.0 }
    by_names v false p q = absurd (cc)

    by_verb : (o : Option Verb) → with_files o files ≡ Some (verb, 0, file ∷ []) → IsName file
    by_verb None q = absurd (cc)
    by_verb (Some v) q = by_names v (takes_files v (length files) && list_all is_source_name files) refl q

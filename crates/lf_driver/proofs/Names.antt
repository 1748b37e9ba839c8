-- The file that words name, what comes of it, and the name of its C file.
use Rattle.std.proofs.Common.{◌≡◌, ℕ, ◌-◌, Bool, true, false, List, ◌++◌, length, [], ◌∷◌, take, drop, Option, Some, None, refl, sym, ap, subst, ◌∙◌, codes, arith}
use Rattle.std.specs.Prelude.{if◌then◌else◌, ◌&&◌, ◌==◌, not, nat_le}
use Rattle.std.specs.List.{list_all}
use Rattle.std.proofs.lemmas.List.{take-append-drop}
use Rattle.std.proofs.lemmas.Bool.Decides.{nat_tests}
use Rattle.std.proofs.lemmas.Slice.Eq.{bytes_eq-Decides}
use Rattle.lf_driver.specs.declared.command.Verb.{Verb}
use Rattle.lf_driver.specs.declared.command.Verb.TheVariants.{Compile, Ast, Order}
use Rattle.lf_driver.specs.Words.{CommandText, takes_files, verb_of, with_files, words_of, is_source_name, begins_with_hyphen, ends_as_source}

-- a source's name is a stem and its end
pub stem_is : (file : List ℕ) → ends_as_source file ≡ true → file ≡ take (length file - 4) file ++ codes ".f90"
stem_is file h = sym (take-append-drop (length file - 4) file) ∙ ap (λ t. take (length file - 4) file ++ t) ((bytes_eq-Decides (drop (length file - 4) file) (codes ".f90")).0 h)

pub left_true : (a b : Bool) → (a && b) ≡ true → a ≡ true
left_true true b h = refl
left_true false b h = absurd (cc)

pub right_true : (a b : Bool) → (a && b) ≡ true → b ≡ true
right_true true b h = h
right_true false b h = absurd (cc)

source_name : (file : List ℕ) → is_source_name file ≡ true → ends_as_source file ≡ true
source_name file e = right_true (nat_le 4 (length file) && nat_le (length file) 255 && not (begins_with_hyphen file)) (ends_as_source file) e

-- the one file of a command
abbrev pub IsOneSource : List (List ℕ) → Type 0
IsOneSource files = (file : List ℕ) × (files ≡ file ∷ []) × (ends_as_source file ≡ true)

one_source : (files : List (List ℕ)) → (length files == 1) ≡ true → list_all is_source_name files ≡ true → IsOneSource files
one_source [] h k = absurd (grind (arith, nat_tests))
one_source (file ∷ []) h k = (file, refl, source_name file (left_true (is_source_name file) true k))
one_source (file ∷ other ∷ files) h k = absurd (grind (arith, nat_tests))

-- the files that a verb takes
abbrev TakenBy : Verb → List (List ℕ) → Type 0
TakenBy Compile files = IsOneSource files
TakenBy Ast files = IsOneSource files
TakenBy Order files = Unit {0}

taken_by : (verb : Verb) (files : List (List ℕ)) → takes_files verb (length files) ≡ true → list_all is_source_name files ≡ true → TakenBy verb files
taken_by Compile files h k = one_source files h k
taken_by Ast files h k = one_source files h k
taken_by Order files h k = tt

-- the files of words that are a command, which has no number
abbrev FilesOf : Option CommandText → Type 0
FilesOf None = Unit {0}
FilesOf (Some command) = TakenBy command.0 command.2 × (command.1 ≡ 0)

by_verb : (o : Option Verb) (files : List (List ℕ)) → FilesOf (with_files o files)
by_verb None files = tt
by_verb (Some verb) files = tested (takes_files verb (length files) && list_all is_source_name files) refl
  where
    tested : (t : Bool) → (takes_files verb (length files) && list_all is_source_name files) ≡ t → FilesOf (if t then Some (verb, 0, files) else None)
    tested true e = (taken_by verb files (left_true (takes_files verb (length files)) (list_all is_source_name files) e) (right_true (takes_files verb (length files)) (list_all is_source_name files) e), refl)
    tested false e = tt

files_of : (words : List (List ℕ)) → FilesOf (words_of words)
files_of [] = tt
files_of (verb ∷ files) = by_verb (verb_of verb) files

pub command_files : (words : List (List ℕ)) (command : CommandText) → words_of words ≡ Some command → FilesOf (Some command)
command_files words command h = subst FilesOf h (files_of words)

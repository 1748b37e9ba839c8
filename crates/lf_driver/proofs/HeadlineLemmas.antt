-- The headline, from the law on the printed C.
use Rattle.std.proofs.Common.{◌≡◌, ℕ, ◌^◌, ◌<◌, List, [], ◌∷◌, Option, Some, None, Ok, Err, inl, inr, cond, refl, sym, ap, subst, ◌∙◌, arith}
use Rattle.std.specs.List.{AllByRecursion}
use Rattle.std.specs.Cmp.{eq_by_cmp_equiv}
use Rattle.std.specs.Cmp.Lexicographic.{nat_list_cmp_total}
use Rattle.std.specs.FinMap.{get, insert, get-insert}
use Rattle.lf_base.specs.Files.{Files}
use Rattle.ast_nodes.specs.declared.file.File.{File}
use Rattle.ff_lexer.specs.Statements.{Spelled, Found, statements_of}
use Rattle.ff_lexer.proofs.Telling.{source_there}
use Rattle.ff_parser.specs.Files.{file_in}
use Rattle.ff_parser.proofs.Written.{found}
use Rattle.c_prelude.specs.PreludeFile.{IsGrammatical}
use Rattle.c_prelude.proofs.PreludeTexts.{prelude_spelled}
use Rattle.lf_driver.specs.declared.command.Verb.{Verb}
use Rattle.lf_driver.specs.declared.command.Verb.TheVariants.{Compile, Ast, Order}
use Rattle.lf_driver.specs.declared.outcome.Answer.{Answer}
use Rattle.lf_driver.specs.declared.outcome.Answer.TheVariants.{Done, Usage, Absent, Refused, Circular, ReadFault, WriteFault, Memory}
use Rattle.lf_driver.specs.Call.{Held, Call}
use Rattle.lf_driver.specs.Compile.{Compiles}
use Rattle.lf_driver.specs.Ends.{status_of, Does, Performs, Announces, Reports}
use Rattle.lf_driver.specs.Front.{then_file}
use Rattle.lf_driver.specs.Headline.{Listed, programs, HaveOneProgram, IsFaithful, Means, KeepsMeaning, Promises}
use Rattle.lf_driver.specs.OnePrint.Emits.{IsBounded, IsFit}
use Rattle.lf_driver.specs.OnePrint.Lowered.{c_file}
use Rattle.lf_driver.specs.OnePrint.Source.{Source, location_of, IsLocation}
use Rattle.lf_driver.specs.Verdict.{c_name}
use Rattle.lf_driver.specs.Words.{CommandText, words_of}
use Rattle.lf_driver.proofs.Exact.{told_at, exact, counted}
use Rattle.lf_driver.proofs.Statuses.{answered}
use Rattle.lf_driver.proofs.Whole.{said}
use Rattle.lf_driver.proofs.SourceNames.{AreBytes, IsName, named}
use Rattle.lf_driver.proofs.OnePrint.Agrees.{agrees}
use Rattle.lf_driver.proofs.OnePrint.Grammatical.{grammatical}
use Rattle.lf_driver.proofs.OnePrint.Linked.{linked}

wider : (n : ℕ) → n < 2 ^ 64 → n < 2 ^ 70
wider n h = omega (arith, h)

location_is : (file : List ℕ) (source : Source) → IsName file → IsBounded source → IsLocation (location_of file source)
location_is file source name h = record { short = name.short; bytes = name.bytes; small = h.line }

c_grammatical : (file : List ℕ) (source : Option Source) → IsName file → IsFit source → IsGrammatical (c_file file source)
c_grammatical file None name h = prelude_spelled.grammatical
c_grammatical file (Some source) name h = grammatical (location_of file source) (location_is file source name h) source h.small (wider _ h.few) h.short h.named

abbrev listed_as : List ℕ → File → Option Source → Listed
listed_as file tree source = record { name = file; tree = tree; built = source }

no_program : (file : List ℕ) (tree : File) → HaveOneProgram (listed_as file tree None ∷ []) → ⊥
no_program file tree h =
    let e : programs (listed_as file tree None ∷ []) ≡ h.0 ∷ [] = h.1 in
    cc

faithful : (file : List ℕ) (tree : File) (source : Option Source) → IsName file → IsFit source → IsFaithful (listed_as file tree source ∷ [])
faithful file tree None name h = record { linked = λ p. absurd (no_program file tree p); agrees = λ p. absurd (no_program file tree p) }
faithful file tree (Some source) name h = record { linked = λ p. linked (location_of file source) source (wider _ h.few) h.short; agrees = λ p. agrees (location_of file source) (location_is file source name h) source h.small (wider _ h.few) h.short }

-- the statements of a text that has a tree
parts : (front : Found Spelled) (tree : File) → then_file front ≡ Ok tree → (statements : List (ℕ × List Spelled)) × (front ≡ Ok statements) × (file_in statements ≡ Ok tree)
parts (Ok statements) tree h = (statements, refl, h)
parts (Err fault) tree h = absurd (cc)

-- what was put among the files is there
inserted : (files : Files) (name bytes : List ℕ) → get (insert files name bytes) name ≡ Some bytes
inserted files name bytes = get-insert nat_list_cmp_total files name bytes name ∙ ap (λ b. cond b (Some bytes) (get files name)) ((eq_by_cmp_equiv nat_list_cmp_total).refl name)

means : (c : Call) (files : Files) (file : List ℕ) → IsName file → Compiles file files c.store'.files → Means c files (file ∷ [])
means c files file name k =
    let d = k.compiled in
    let p = parts (statements_of k.text) d.tree d.parsed in
    record {
      sources = listed_as file d.tree d.source ∷ [];
      listed = (record { is = refl; text = k.text; statements = p.0; there = k.there; read = source_there k.text p.0 p.1; parsed = found p.0 d.tree p.2; built = d.built }, tt);
      left = insert files (c_name file) k.bytes;
      is_left = k.written;
      spelled = ((k.bytes, inserted files (c_name file) k.bytes, record { grammatical = c_grammatical file d.source name d.fits; text = d.is }), tt);
      faithful = faithful file d.tree d.source name d.fits;
    }

positive : (n k : ℕ) → 0 < n → n ≡ k → k ≡ 0 → ⊥
positive n k h e z = omega (arith, h, e, z)

-- where nothing is told, the call is done
announced_done : (came told : Answer) (a b : Held) → Announces came told a b → status_of told ≡ 0 → came ≡ Done
announced_done came Done a b h e = sym h.0
announced_done came Usage a b h e = absurd (positive 2 2 (omega arith) refl e)
announced_done came (Absent name) a b h e = absurd (positive 2 2 (omega arith) refl e)
announced_done came (Refused name line rule) a b h e = absurd (positive 1 1 (omega arith) refl e)
announced_done came (Circular told) a b h e = absurd (positive 8 8 (omega arith) refl e)
announced_done came ReadFault a b h e = absurd (positive 3 3 (omega arith) refl e)
announced_done came WriteFault a b h e = absurd (positive 4 4 (omega arith) refl e)
announced_done came Memory a b h e = absurd (positive 5 5 (omega arith) refl e)

came_done : (came told : Answer) (a b : Held) → Reports came told a b → status_of told ≡ 0 → came ≡ Done
came_done Done told a b h e = refl
came_done Usage told a b h e = announced_done Usage told a b h e
came_done (Absent name) told a b h e = announced_done (Absent name) told a b h e
came_done (Refused name line rule) told a b h e = announced_done (Refused name line rule) told a b h e
came_done (Circular text) told a b h e = announced_done (Circular text) told a b h e
came_done ReadFault told a b h e = absurd (positive 3 (status_of told) (omega arith) (sym (ap status_of h.0)) e)
came_done WriteFault told a b h e = absurd (positive 4 (status_of told) (omega arith) (sym (ap status_of h.0)) e)
came_done Memory told a b h e = absurd (positive 5 (status_of told) (omega arith) (sym (ap status_of h.0)) e)

-- the verb and the files of a command
abbrev verb_of : Option CommandText → Verb
verb_of None = Ast
verb_of (Some command) = command.0

abbrev names_of : Option CommandText → List (List ℕ)
names_of None = []
names_of (Some command) = command.2

compiles : (c : Call) (files : Files) (file : List ℕ) (came : Answer) (verb : Verb) → came ≡ Done → verb ≡ Compile → c.store.files ≡ Some files → Does came verb file c.store c.store' c.out c.out' → Compiles file files c.store'.files
compiles c files file came verb e v t d =
    let d' : Does Done Compile file c.store c.store' c.out c.out' = subst (λ x. Does Done x file c.store c.store' c.out c.out') v (subst (λ x. Does x verb file c.store c.store' c.out c.out') e d) in
    told_at c.store.files files (λ x. Compiles file x c.store'.files) t d'.comes.0

no_words : (o : Option CommandText) (command : CommandText) → o ≡ None → o ≡ Some command → ⊥
no_words o command h k = cc

no_order : Order ≡ Compile → ⊥
no_order h = cc

means_all : (came : Answer) (c : Call) (files : Files) (names : List (List ℕ)) → AllByRecursion AreBytes c.words → came ≡ Done → c.store.files ≡ Some files → words_of c.words ≡ Some (Compile, 0, names) → Performs came c.words c.store c.store' c.out c.out' → Means c files names
means_all came c files names b e t w (inl p) = absurd (no_words (words_of c.words) (Compile, 0, names) p.1 w)
means_all came c files names b e t w (inr (inr p)) = absurd (no_order (ap verb_of (sym p.1 ∙ w)))
means_all came c files names b e t w (inr (inl p)) =
    let same = sym p.2 ∙ w in
    subst (Means c files) (ap names_of same) (means c files p.1 (named c.words b p.0 p.1 p.2) (compiles c files p.1 came p.0 e (ap verb_of same) t p.3))

keeps_meaning : (status : ℕ) (came told : Answer) (c : Call) → AllByRecursion AreBytes c.words → status ≡ status_of told → Performs came c.words c.store c.store' c.out c.out' → Reports came told c.err c.err' → KeepsMeaning status c
keeps_meaning status came told c b e k r z files t names w = means_all came c files names b (came_done came told c.err c.err' r (sym e ∙ z)) t w k

pub promises : (status : ℕ) (came told : Answer) (c : Call) → AllByRecursion AreBytes c.words → status ≡ status_of told → Performs came c.words c.store c.store' c.out c.out' → Reports came told c.err c.err' → Promises status c
promises status came told c b e k r =
    let a = answered status came told c e k r in
    record { answered = a; said = said status c a; exact = exact status c a; counted = counted status c a; meaning = keeps_meaning status came told c b e k r }

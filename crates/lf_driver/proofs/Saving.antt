-- A file that was begun, written and finished, and what comes of a file of the store.
use Rattle.std.proofs.Common.{◌≡◌, ℕ, ◌<◌, Bool, true, List, [], ◌++◌, length, Option, Some, None, Result, Ok, Err, inl, inr, refl, sym, ap, subst, ◌∙◌, arith}
use Rattle.std.specs.Prelude.{if◌then◌else◌, nat_lt}
use Rattle.std.proofs.lemmas.Bool.Decides.{nat_tests}
use denote.Ref.{Bor}
use Rattle.lf_base.specs.declared.rule.Rule.{Rule}
use Rattle.lf_base.specs.declared.rule.Rule.TheVariants.{E108}
use Rattle.lf_base.specs.declared.fault.GetFault.TheVariants.{TooLong}
use Rattle.lf_base.specs.declared.fault.GetFault.TheVariants as read
use Rattle.lf_base.specs.declared.fault.PutFault.{PutFault}
use Rattle.lf_base.specs.declared.fault.PutFault.TheVariants as put
use Rattle.lf_base.specs.declared.fault.SyntaxFault.TheVariants as syntax
use Rattle.lf_base.specs.Causes.{HasCause}
use Rattle.lf_base.specs.Contents.{Appends}
use Rattle.lf_base.specs.Files.{Files, Finishes, ReadGives, greatest_file}
use Rattle.lf_base.specs.Files as base
use Rattle.ff_lexer.specs.Statements.{spelled_as, found_in, drafts_of, statements_of}
use Rattle.ast_nodes.specs.declared.file.File.{File}
use Rattle.lf_driver.specs.declared.outcome.Answer.{Answer}
use Rattle.lf_driver.specs.declared.outcome.Answer.TheVariants.{Done, Usage, Absent, Refused, Circular, ReadFault, WriteFault, Memory}
use Rattle.lf_driver.specs.OnePrint.Built.{program_in, judged}
use Rattle.lf_driver.specs.Front.{Parsed, then_file, front_of, then_built, source_in}
use Rattle.lf_driver.specs.Known.{nothing}
use Rattle.lf_driver.specs.Refusal as refusal
use Rattle.lf_driver.specs.Verdict.{Stops, c_name, step_of_built, step_of_tree, step}
use Rattle.lf_driver.specs.Ends.{Counts}
use Rattle.lf_driver.specs.Compile.{GivesC, IsC, IsPending, IsPendingC, Saved, TextComesTo, FileComesTo, Begins}

pub saved : (old now new : Option Files) (held held' pending : Option (List ℕ)) (name bytes : List ℕ) → base.Begins old held → Appends held held' bytes → now ≡ old → pending ≡ Some name → Finishes now pending held' new → Saved old name bytes new
saved old now new held held' pending name bytes begins appends same is finishes = record {
  told = λ files e.
      let empty : held ≡ Some [] = subst (λ o. base.Begins o held) e begins in
      finishes.told files name bytes (same ∙ e) is (appends.bytes [] empty);
}

-- a text that was put into an empty sink
pub filled : (old new text : List ℕ) → Appends (Some old) (Some new) text → old ≡ [] → new ≡ text
filled old new text h e =
    let now : Some new ≡ Some (old ++ text) = h.bytes old refl in
    let same : new ≡ old ++ text = cc in
    same ∙ ap (λ o. o ++ text) e

-- the C file of a text
pub compiled : (name text bytes : List ℕ) (tree : File) → front_of text ≡ Ok tree → GivesC name (Ok bytes) (program_in tree) → IsC name text bytes
compiled name text bytes tree e h = record { tree = tree; source = h.0; parsed = e; built = h.1; fits = h.2; is = h.3 }

pub not_built : (name text : List ℕ) (tree : File) (line : ℕ) (rule : Rule) → front_of text ≡ Ok tree → GivesC name (Err (syntax.At line rule)) (program_in tree) → source_in text ≡ Err (line, rule)
not_built name text tree line rule e h = ap then_built e ∙ ap judged h.0 ∙ ap (λ r. Err (line, r)) (sym h.1)

pub not_parsed : (text : List ℕ) (line : ℕ) (rule : Rule) → front_of text ≡ Err (line, rule) → source_in text ≡ Err (line, rule)
not_parsed text line rule e = ap then_built e

-- a text of more bytes than a source may have
long_text : (text : List ℕ) → greatest_file < length text → statements_of text ≡ Err (1, E108)
long_text text h = ap (λ t. if t then Err (1, E108) else found_in spelled_as (drafts_of text)) (longer (length text) h)
  where
    longer : (n : ℕ) → 67108864 < n → nat_lt 1048576 n ≡ true
    longer n k = grind (arith, nat_tests)

pub long_front : (text : List ℕ) → greatest_file < length text → front_of text ≡ Err (1, E108)
long_front text h = ap then_file (long_text text h)

-- a fault of the front or of what is built is the one at which the file is refused
stops : (file : List ℕ) (there : Parsed) (fault : ℕ × Rule) → then_built there ≡ Err fault → step_of_tree nothing file there ≡ Stops (refusal.Refused file fault.0 fault.1)
stops file (Ok tree) fault h = ap (step_of_built nothing file tree) h
stops file (Err fault') fault h =
    let same : fault' ≡ fault = cc in
    ap (λ f. Stops (refusal.Refused file f.0 f.1)) same

-- what a read gives, and what comes of it
pub too_long : {V : Type 0} (view : V → List ℕ) (old new : Option Files) (file : Bor (List ℕ)) → ReadGives {V = V} view old file.now (Err TooLong) → new ≡ old → FileComesTo (Refused file 1 E108) file.now old new
too_long view None new file h k = (k, tt, refl)
too_long view (Some files) new file h k = (k, ap (step nothing file.now) h.1 ∙ ap (step_of_tree nothing file.now) (long_front h.0 h.2), refl)

pub none_there : {V : Type 0} (view : V → List ℕ) (old new : Option Files) (file : Bor (List ℕ)) → ReadGives {V = V} view old file.now (Err read.Absent) → new ≡ old → FileComesTo (Absent file) file.now old new
none_there view None new file h k = (k, tt, refl)
none_there view (Some files) new file h k = (k, ap (step nothing file.now) h, refl)

pub text_there : {V : Type 0} (view : V → List ℕ) (v : V) (o : Answer) (old now new : Option Files) (file : List ℕ) → ReadGives {V = V} view old file (Ok v) → now ≡ old → TextComesTo o file (view v) now new → FileComesTo o file old new
text_there view v Done None now new file h k t = tt
text_there view v Done (Some files) now new file h k t = record { text = view v; bytes = t.0; there = h.0; compiled = t.1; written = t.2.told files k }
text_there view v Usage old now new file h k t = absurd t
text_there view v (Absent name) old now new file h k t = absurd t
text_there view v (Refused name line rule) None now new file h k t = (t.1 ∙ k, tt, t.2)
text_there view v (Refused name line rule) (Some files) now new file h k t = (t.1 ∙ k, ap (step nothing file) h.0 ∙ t.0, t.2)
text_there view v (Circular told) old now new file h k t = absurd t
text_there view v ReadFault old now new file h k t = absurd t
text_there view v WriteFault old now new file h k t = t ∙ k
text_there view v Memory old now new file h k t = t ∙ k

-- the C file of a source that was translated and put into the store
pub text_done : (file text bytes : List ℕ) (old new : Option Files) → IsC file text bytes → Saved old (c_name file) bytes new → TextComesTo Done file text old new
text_done file text bytes old new h s = (bytes, h, s)

pub text_refused : (file : Bor (List ℕ)) (text : List ℕ) (line : ℕ) (rule : Rule) (old new : Option Files) → source_in text ≡ Err (line, rule) → new ≡ old → TextComesTo (Refused file line rule) file.now text old new
text_refused file text line rule old new h k = (stops file.now (front_of text) (line, rule) h, k, refl)

-- counts that did not change before
pub counts_after : (o : Answer) (r r' r'' w w' w'' : ℕ) → r' ≡ r → w' ≡ w → Counts o r' r'' w' w'' → Counts o r r'' w w''
counts_after o r r' r'' w w' w'' h k c = subst (λ n. Counts o n r'' w w'') h (subst (λ n. Counts o r' r'' n w'') k c)

-- what was pending and did not change before
pub begins_after : (o : Answer) (file : List ℕ) (p p' p'' b b' b'' : Option (List ℕ)) → p' ≡ p → b' ≡ b → Begins o file p' p'' b' b'' → Begins o file p p'' b b''
begins_after o file p p' p'' b b' b'' h k c = subst (λ x. Begins o file x p'' b b'') h (subst (λ x. Begins o file p' p'' x b'') k c)

-- a call that takes memory itself, behind one that may or may not
pub takes_too : (f w : Bool) (m n : ℕ) (r : Result (Unit {0}) PutFault) → HasCause f w m n r → HasCause f true m n r
takes_too f w m n (Ok u) h = h
takes_too f w m n (Err put.Failed) h = h
takes_too f w m n (Err put.Memory) h = (refl, h.1)

-- the pending file under the name of a C file
pub pending_c : (r : Result (Unit {0}) PutFault) (name file : List ℕ) (old new : Option (List ℕ)) → name ≡ c_name file → IsPending r name new → IsPendingC r file old new
pending_c (Ok u) name file old new e h = h
pending_c (Err fault) name file old new e (inl h) = inr (inl h)
pending_c (Err fault) name file old new e (inr h) = inr (inr (h ∙ ap Some e))

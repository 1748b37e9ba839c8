-- What comes of a file whose tree is printed.
use Rattle.std.proofs.Common.{◌≡◌, ℕ, Bool, refl, List, Option, Some, None, Ok, Err, inl, inr, ap, subst, ◌∙◌}
use denote.Ref.{Bor}
use Rattle.lf_base.specs.declared.rule.Rule.{Rule}
use Rattle.lf_base.specs.declared.rule.Rule.TheVariants.{E108}
use Rattle.lf_base.specs.declared.fault.GetFault.TheVariants.{TooLong}
use Rattle.lf_base.specs.declared.fault.GetFault.TheVariants as read
use Rattle.lf_base.specs.Contents.{Appends, AppendsPart}
use Rattle.lf_base.specs.Files.{Files, ReadGives}
use Rattle.ast_nodes.specs.declared.file.File.{File}
use Rattle.lf_driver.specs.declared.outcome.Answer.{Answer}
use Rattle.lf_driver.specs.declared.outcome.Answer.TheVariants.{Done, Usage, Absent, Refused, Circular, ReadFault, WriteFault, Memory}
use Rattle.lf_driver.specs.Front.{Parsed, front_of}
use Rattle.lf_driver.specs.Refusal as refusal
use Rattle.lf_driver.specs.Show.{GivesTree, Gains, GainsFront, IsTreeOf, IsTreeIn, TextShows, FileShows}
use Rattle.lf_driver.specs.Verdict.{Refuses, of_tree, of_shown}
use Rattle.lf_driver.proofs.Saving.{long_front}

-- the text of a tree that was put, or a front of it
pub tree_shown : (source text : List ℕ) (a b : Option (List ℕ)) → GivesTree (Ok text) (front_of source) → Appends a b text → Gains (IsTreeOf source) a b
tree_shown source text a b h k = (h.0, h.1, subst (Appends a b) h.2 k)

pub front_shown : (source text : List ℕ) (a b : Option (List ℕ)) → GivesTree (Ok text) (front_of source) → AppendsPart a b text → GainsFront (IsTreeOf source) a b
front_shown source text a b h k = (h.0, h.1, subst (AppendsPart a b) h.2 k)

pub tree_refused : (file : Bor (List ℕ)) (there : Parsed) (line : ℕ) (rule : Rule) → there ≡ Err (line, rule) → of_tree file.now there ≡ Refuses (refusal.Refused file.now line rule)
tree_refused file there line rule h = ap (of_tree file.now) h

-- what a read gives, and what comes of it
pub shows_too_long : {V : Type 0} (f w : Bool) (view : V → List ℕ) (files : Option Files) (file : Bor (List ℕ)) (a b : Option (List ℕ)) → ReadGives {V = V} view files file.now (Err TooLong) → b ≡ a → FileShows f w (Refused file 1 E108) file.now files a b
shows_too_long f w view None file a b h k = (k, tt, refl)
shows_too_long f w view (Some files) file a b h k = (k, ap (of_shown file.now) h.1 ∙ ap (of_tree file.now) (long_front h.0 h.2), refl)

pub shows_absent : {V : Type 0} (f w : Bool) (view : V → List ℕ) (files : Option Files) (file : Bor (List ℕ)) (a b : Option (List ℕ)) → ReadGives {V = V} view files file.now (Err read.Absent) → b ≡ a → FileShows f w (Absent file) file.now files a b
shows_absent f w view None file a b h k = (k, tt, refl)
shows_absent f w view (Some files) file a b h k = (k, ap (of_shown file.now) h, refl)

in_files : {V : Type 0} (view : V → List ℕ) (v : V) (files : Option Files) (file : List ℕ) (tree : File) → ReadGives {V = V} view files file (Ok v) → IsTreeOf (view v) tree → IsTreeIn file files tree
in_files view v None file tree h t = tt
in_files view v (Some files) file tree h t = ap (of_shown file) h.0 ∙ ap (of_tree file) t

pub text_shows : {V : Type 0} (f w : Bool) (view : V → List ℕ) (v : V) (o : Answer) (files : Option Files) (file : List ℕ) (a b : Option (List ℕ)) → ReadGives {V = V} view files file (Ok v) → TextShows f w o file (view v) a b → FileShows f w o file files a b
text_shows f w view v Done files file a b h t = (t.0, in_files view v files file t.0 h t.1, t.2)
text_shows f w view v Usage files file a b h t = absurd t
text_shows f w view v (Absent name) files file a b h t = absurd t
text_shows f w view v (Refused name line rule) None file a b h t = (t.1, tt, t.2)
text_shows f w view v (Refused name line rule) (Some files) file a b h t = (t.1, ap (of_shown file) h.0 ∙ t.0, t.2)
text_shows f w view v (Circular told) files file a b h t = absurd t
text_shows f w view v ReadFault files file a b h t = absurd t
text_shows f w view v WriteFault files file a b h t = (t.0, (t.1.0, in_files view v files file t.1.0 h t.1.1, t.1.2))
text_shows f w view v Memory files file a b h (inl t) = inl t
text_shows f w view v Memory files file a b h (inr t) = inr (t.0, (t.1.0, in_files view v files file t.1.0 h t.1.1, t.1.2))

-- What comes of one file whose tree is printed.
use Rattle.std.specs.Prelude.{◌≡◌, ℕ, Bool, true, List, Option, Result, Ok, Err, ◌⊎◌}
use Rattle.std.specs.FinMap.{get}
use Rattle.lf_base.specs.declared.fault.SyntaxFault.{SyntaxFault}
use Rattle.lf_base.specs.declared.fault.SyntaxFault.TheVariants as syntax
use Rattle.lf_base.specs.Contents.{Appends, AppendsPart}
use Rattle.lf_base.specs.Files.{Files}
use Rattle.ast_nodes.specs.declared.file.File.{File}
use Rattle.ast_nodes.specs.Text.{ast_text}
use Rattle.lf_driver.specs.declared.outcome.Answer.{Answer}
use Rattle.lf_driver.specs.declared.outcome.Answer.TheVariants as outcome
use Rattle.lf_driver.specs.Front.{Parsed, front_of}
use Rattle.lf_driver.specs.Refusal as refusal
use Rattle.lf_driver.specs.Verdict.{Refuses, Shown, Told, of_tree, of_shown}

-- The text of the tree of a source was answered, or the first fault.
abbrev pub GivesTree : Result (List ℕ) SyntaxFault → Parsed → Type 0
GivesTree (Ok text) there = (tree : File) × (there ≡ Ok tree) × (text ≡ ast_text tree)
GivesTree (Err syntax.Memory) there = Unit {0}
GivesTree (Err (syntax.At line rule)) there = there ≡ Err (line, rule)

-- A sink gains the text of the tree of this verdict.
abbrev pub Gains : (File → Type 0) → Option (List ℕ) → Option (List ℕ) → Type 0
Gains IsTree old new = (tree : File) × IsTree tree × Appends old new (ast_text tree)

-- a front of it
abbrev pub GainsFront : (File → Type 0) → Option (List ℕ) → Option (List ℕ) → Type 0
GainsFront IsTree old new = (tree : File) × IsTree tree × AppendsPart old new (ast_text tree)

-- the tree of a text
abbrev pub IsTreeOf : List ℕ → File → Type 0
IsTreeOf text tree = front_of text ≡ Ok tree

-- what comes of a file whose text was read, and what the sink then holds, which may fail or take memory or not
abbrev pub TextShows : Bool → Bool → Answer → List ℕ → List ℕ → Option (List ℕ) → Option (List ℕ) → Type 0
TextShows f w outcome.Done file text old new = Gains (IsTreeOf text) old new
TextShows f w outcome.Usage file text old new = ⊥
TextShows f w (outcome.Absent name) file text old new = ⊥
TextShows f w (outcome.Refused name line rule) file text old new = (of_tree file (front_of text) ≡ Refuses (refusal.Refused name.now line rule)) × (new ≡ old) × (name.now ≡ file)
TextShows f w (outcome.Circular told) file text old new = ⊥
TextShows f w outcome.ReadFault file text old new = ⊥
TextShows f w outcome.WriteFault file text old new = (f ≡ true) × GainsFront (IsTreeOf text) old new
TextShows f w outcome.Memory file text old new = (new ≡ old) ⊎ ((w ≡ true) × GainsFront (IsTreeOf text) old new)

-- the tree of the file of a name
abbrev pub IsTreeIn : List ℕ → Option Files → File → Type 0
IsTreeIn file there tree = Told there (λ files. of_shown file (get files file) ≡ Shown (ast_text tree))

-- what comes of a file of this name
abbrev pub FileShows : Bool → Bool → Answer → List ℕ → Option Files → Option (List ℕ) → Option (List ℕ) → Type 0
FileShows f w outcome.Done file there old new = Gains (IsTreeIn file there) old new
FileShows f w outcome.Usage file there old new = ⊥
FileShows f w (outcome.Absent name) file there old new = (new ≡ old) × Told there (λ files. of_shown file (get files file) ≡ Refuses (refusal.Absent name.now)) × (name.now ≡ file)
FileShows f w (outcome.Refused name line rule) file there old new = (new ≡ old) × Told there (λ files. of_shown file (get files file) ≡ Refuses (refusal.Refused name.now line rule)) × (name.now ≡ file)
FileShows f w (outcome.Circular told) file there old new = ⊥
FileShows f w outcome.ReadFault file there old new = new ≡ old
FileShows f w outcome.WriteFault file there old new = (f ≡ true) × GainsFront (IsTreeIn file there) old new
FileShows f w outcome.Memory file there old new = (new ≡ old) ⊎ ((w ≡ true) × GainsFront (IsTreeIn file there) old new)

-- What comes of one file that is compiled.
use Rattle.std.specs.Prelude.{◌≡◌, ℕ, List, Option, Some, None, Result, Ok, Err, ◌⊎◌}
use Rattle.std.specs.FinMap.{get, insert}
use Rattle.lf_base.specs.declared.fault.PutFault.{PutFault}
use Rattle.lf_base.specs.declared.fault.SyntaxFault.{SyntaxFault}
use Rattle.lf_base.specs.declared.fault.SyntaxFault.TheVariants as syntax
use Rattle.lf_base.specs.declared.rule.Rule.TheVariants.{E202}
use Rattle.lf_base.specs.Files.{Files}
use Rattle.ast_nodes.specs.declared.file.File.{File}
use Rattle.c_nodes.specs.Text.{file_text}
use Rattle.lf_driver.specs.declared.outcome.Answer.{Answer}
use Rattle.lf_driver.specs.declared.outcome.Answer.TheVariants as outcome
use Rattle.lf_driver.specs.OnePrint.Built.{Building, program_in}
use Rattle.lf_driver.specs.OnePrint.Emits.{IsFit}
use Rattle.lf_driver.specs.OnePrint.Lowered.{c_file}
use Rattle.lf_driver.specs.OnePrint.Source.{Source}
use Rattle.lf_driver.specs.Answers.{IsBegun}
use Rattle.lf_driver.specs.Front.{front_of, source_in}
use Rattle.lf_driver.specs.Known.{nothing}
use Rattle.lf_driver.specs.Refusal as refusal
use Rattle.lf_driver.specs.Verdict.{Stops, Told, c_name, step}

-- The text of the C file of what is built was answered, or the line of the first form that is not.
abbrev pub GivesC : List ℕ → Result (List ℕ) SyntaxFault → Building → Type 0
GivesC name (Ok text) there = (source : Option Source) × (there ≡ Ok source) × IsFit source × (text ≡ file_text (c_file name source))
GivesC name (Err syntax.Memory) there = Unit {0}
GivesC name (Err (syntax.At line rule)) there = (there ≡ Err line) × (rule ≡ E202)

-- The bytes are the C file of the text of the file of this name.
pub record IsC (name text bytes : List ℕ) : Type 0 where
  pub tree : File
  pub source : Option Source
  pub parsed : front_of text ≡ Ok tree
  pub built : program_in tree ≡ Ok source
  pub fits : IsFit source
  pub is : bytes ≡ file_text (c_file name source)

-- The C file of a text was answered, or the first fault.
abbrev pub GivesText : List ℕ → Result (List ℕ) SyntaxFault → List ℕ → Type 0
GivesText name (Ok bytes) text = IsC name text bytes
GivesText name (Err syntax.Memory) text = Unit {0}
GivesText name (Err (syntax.At line rule)) text = source_in text ≡ Err (line, rule)

-- A file is put among the files, where the store tells them.
pub record Saved (old : Option Files) (name bytes : List ℕ) (new : Option Files) : Type 0 where
  pub told : (files : Files) → old ≡ Some files → new ≡ Some (insert files name bytes)

-- what is pending behind a file that was begun, written and finished under this name, or was not
abbrev pub IsPending : Result (Unit {0}) PutFault → List ℕ → Option (List ℕ) → Type 0
IsPending (Ok _) name new = new ≡ None
IsPending (Err fault) name new = (new ≡ None) ⊎ (new ≡ Some name)

-- the same for the C file of a source, which may not have been begun
abbrev pub IsPendingC : Result (Unit {0}) PutFault → List ℕ → Option (List ℕ) → Option (List ℕ) → Type 0
IsPendingC (Ok _) file old new = new ≡ None
IsPendingC (Err fault) file old new = IsBegun file old new

-- what comes of a file whose text was read
abbrev pub TextComesTo : Answer → List ℕ → List ℕ → Option Files → Option Files → Type 0
TextComesTo outcome.Done file text old new = (bytes : List ℕ) × IsC file text bytes × Saved old (c_name file) bytes new
TextComesTo outcome.Usage file text old new = ⊥
TextComesTo (outcome.Absent name) file text old new = ⊥
TextComesTo (outcome.Refused name line rule) file text old new = (step nothing file (Some text) ≡ Stops (refusal.Refused name.now line rule)) × (new ≡ old) × (name.now ≡ file)
TextComesTo (outcome.Circular told) file text old new = ⊥
TextComesTo outcome.ReadFault file text old new = ⊥
TextComesTo outcome.WriteFault file text old new = new ≡ old
TextComesTo outcome.Memory file text old new = new ≡ old

-- A file of the store was compiled: its C file is put among the files.
pub record Compiles (file : List ℕ) (files : Files) (new : Option Files) : Type 0 where
  pub text : List ℕ
  pub bytes : List ℕ
  pub there : get files file ≡ Some text
  pub compiled : IsC file text bytes
  pub written : new ≡ Some (insert files (c_name file) bytes)

-- what comes of a file of this name
abbrev pub FileComesTo : Answer → List ℕ → Option Files → Option Files → Type 0
FileComesTo outcome.Done file old new = Told old (λ files. Compiles file files new)
FileComesTo outcome.Usage file old new = ⊥
FileComesTo (outcome.Absent name) file old new = (new ≡ old) × Told old (λ files. step nothing file (get files file) ≡ Stops (refusal.Absent name.now)) × (name.now ≡ file)
FileComesTo (outcome.Refused name line rule) file old new = (new ≡ old) × Told old (λ files. step nothing file (get files file) ≡ Stops (refusal.Refused name.now line rule)) × (name.now ≡ file)
FileComesTo (outcome.Circular told) file old new = ⊥
FileComesTo outcome.ReadFault file old new = new ≡ old
FileComesTo outcome.WriteFault file old new = new ≡ old
FileComesTo outcome.Memory file old new = new ≡ old

-- what is pending then, and the bytes of it: a file that is refused begins none
abbrev pub Begins : Answer → List ℕ → Option (List ℕ) → Option (List ℕ) → Option (List ℕ) → Option (List ℕ) → Type 0
Begins outcome.Done file old new bytes bytes' = new ≡ None
Begins outcome.Usage file old new bytes bytes' = (new ≡ old) × (bytes' ≡ bytes)
Begins (outcome.Absent name) file old new bytes bytes' = (new ≡ old) × (bytes' ≡ bytes)
Begins (outcome.Refused name line rule) file old new bytes bytes' = (new ≡ old) × (bytes' ≡ bytes)
Begins (outcome.Circular told) file old new bytes bytes' = ⊥
Begins outcome.ReadFault file old new bytes bytes' = (new ≡ old) × (bytes' ≡ bytes)
Begins outcome.WriteFault file old new bytes bytes' = IsBegun file old new
Begins outcome.Memory file old new bytes bytes' = IsBegun file old new

-- What a command comes to, by its words and the files of the store alone.
use Rattle.std.specs.Prelude.{◌≡◌, ℕ, ◌-◌, List, [], ◌∷◌, ◌++◌, length, take, codes, Option, Some, None, Result, Ok, Err}
use Rattle.std.specs.FinMap.{get, insert}
use Rattle.lf_base.specs.declared.rule.Rule.TheVariants.{E306}
use Rattle.lf_base.specs.Files.{Files}
use Rattle.ast_nodes.specs.declared.file.File.{File}
use Rattle.ast_nodes.specs.Text.{ast_text}
use Rattle.c_nodes.specs.Text.{file_text}
use Rattle.lf_driver.specs.declared.command.Verb.{Verb}
use Rattle.lf_driver.specs.declared.command.Verb.TheVariants.{Compile, Ast, Order}
use Rattle.lf_driver.specs.OnePrint.Built.{Judged, judged, program_in}
use Rattle.lf_driver.specs.OnePrint.Lowered.{c_file}
use Rattle.lf_driver.specs.OnePrint.Source.{Source}
use Rattle.lf_driver.specs.Front.{Parsed, front_of}
use Rattle.lf_driver.specs.Known.{Known, nothing, with_units, second_line}
use Rattle.lf_driver.specs.Refusal.{Refusal}
use Rattle.lf_driver.specs.Refusal as refusal
use Rattle.lf_driver.specs.Words.{CommandText, words_of}

-- the name of the C file of a source: `.c` in place of `.f90`
abbrev pub c_name : List ℕ → List ℕ
c_name file = take (length file - 4) file ++ codes ".c"

-- What one file of a list comes to: it is refused, or it writes files, each with its name, and is known from then on.
pub data Step : Type 0 where
  Stops : (refusal : Refusal) → Step
  Writes : (entries : List (List ℕ × List ℕ)) (known : Known) → Step

abbrev pub unless_second : List ℕ → Known → Option Source → Option ℕ → Step
unless_second file known source (Some line) = Stops (refusal.Refused file line E306)
unless_second file known source None = Writes ((c_name file, file_text (c_file file source)) ∷ []) known

abbrev pub step_of_built : Known → List ℕ → File → Judged → Step
step_of_built known file tree (Ok source) = unless_second file (with_units known tree.units) source (second_line known tree.units)
step_of_built known file tree (Err fault) = Stops (refusal.Refused file fault.0 fault.1)

abbrev pub step_of_tree : Known → List ℕ → Parsed → Step
step_of_tree known file (Ok tree) = step_of_built known file tree (judged (program_in tree))
step_of_tree known file (Err fault) = Stops (refusal.Refused file fault.0 fault.1)

-- by what is known, and by what the store has under the file's name
abbrev pub step : Known → List ℕ → Option (List ℕ) → Step
step known file None = Stops (refusal.Absent file)
step known file (Some text) = step_of_tree known file (front_of text)

-- what a list of files leaves: the files of the store, what is known, and the refusal at which it stopped
pub record Left : Type 0 where
  pub files : Files
  pub known : Known
  pub stopped : Option Refusal

abbrev pub with_entries : Files → List (List ℕ × List ℕ) → Files
with_entries files [] = files
with_entries files (entry ∷ entries) = with_entries (insert files entry.0 entry.1) entries

abbrev pub then_more : Step → Known → Files → (Known → Files → Left) → Left
then_more (Stops refusal) known files more = record { files = files; known = known; stopped = Some refusal }
then_more (Writes entries known') known files more = more known' (with_entries files entries)

-- The files of a list are compiled in turn, each by what the earlier ones leave, up to the first that is refused.
abbrev pub left_by : Known → Files → List (List ℕ) → Left
left_by known files [] = record { files = files; known = known; stopped = None }
left_by known files (file ∷ names) = then_more (step known file (get files file)) known files (λ known' files'. left_by known' files' names)

abbrev pub written : Files → List (List ℕ) → Left
written files names = left_by nothing files names

pub data Verdict : Type 0 where
  Refuses : (refusal : Refusal) → Verdict
  -- all files are compiled, and the store has these files then
  Compiled : (files : Files) → Verdict
  -- the text of the tree
  Shown : (text : List ℕ) → Verdict
  -- the files of these names have these trees, whose order is wanted
  Sorts : (names : List (List ℕ)) (trees : List File) → Verdict

abbrev pub of_left : Files → Option Refusal → Verdict
of_left files None = Compiled files
of_left files (Some refusal) = Refuses refusal

abbrev pub of_tree : List ℕ → Parsed → Verdict
of_tree file (Ok tree) = Shown (ast_text tree)
of_tree file (Err fault) = Refuses (refusal.Refused file fault.0 fault.1)

abbrev pub of_shown : List ℕ → Option (List ℕ) → Verdict
of_shown file None = Refuses (refusal.Absent file)
of_shown file (Some text) = of_tree file (front_of text)

-- a tree is printed of one file alone
abbrev pub of_ast : List (List ℕ) → Files → Verdict
of_ast [] files = Refuses refusal.Usage
of_ast (file ∷ []) files = of_shown file (get files file)
of_ast (file ∷ other ∷ names) files = Refuses refusal.Usage

abbrev pub tree_of : List ℕ → Parsed → Result File Refusal
tree_of file (Ok tree) = Ok tree
tree_of file (Err fault) = Err (refusal.Refused file fault.0 fault.1)

-- the tree of the file of a name, by what the store has under it, or why there is none
abbrev pub tree_in : List ℕ → Option (List ℕ) → Result File Refusal
tree_in file None = Err (refusal.Absent file)
tree_in file (Some text) = tree_of file (front_of text)

abbrev pub before_trees : Result File Refusal → Result (List File) Refusal → Result (List File) Refusal
before_trees (Ok tree) (Ok trees) = Ok (tree ∷ trees)
before_trees (Ok tree) (Err refusal) = Err refusal
before_trees (Err refusal) more = Err refusal

-- the trees of the files of a list, or the refusal of the first that has none
abbrev pub trees_of : Files → List (List ℕ) → Result (List File) Refusal
trees_of files [] = Ok []
trees_of files (file ∷ names) = before_trees (tree_in file (get files file)) (trees_of files names)

abbrev pub of_trees : List (List ℕ) → Result (List File) Refusal → Verdict
of_trees names (Ok trees) = Sorts names trees
of_trees names (Err refusal) = Refuses refusal

abbrev pub of_files : Verb → List (List ℕ) → Files → Verdict
of_files Compile names files = of_left (written files names).files (written files names).stopped
of_files Ast names files = of_ast names files
of_files Order names files = of_trees names (trees_of files names)

abbrev pub of_command : Option CommandText → Files → Verdict
of_command None files = Refuses refusal.Usage
of_command (Some command) files = of_files command.0 command.2 files

abbrev pub verdict : List (List ℕ) → Files → Verdict
verdict words files = of_command (words_of words) files

-- a fact of the files, where the store tells them
abbrev pub Told : Option Files → (Files → Type 0) → Type 0
Told None fact = Unit {0}
Told (Some files) fact = fact files

-- All files of a list are compiled, and the store has what they leave.
abbrev pub AreWritten : List (List ℕ) → Option Files → Files → Type 0
AreWritten names new files = ((written files names).stopped ≡ None) × (new ≡ Some (written files names).files)

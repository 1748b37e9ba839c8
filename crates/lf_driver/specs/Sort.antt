-- What comes of files whose order is wanted.
use Rattle.std.specs.Prelude.{◌≡◌, ℕ, Bool, true, List, Vec, Option, Result, Ok, Err, ◌⊎◌}
use Rattle.std.specs.FinMap.{get}
use Rattle.std.specs.Global.{Global}
use Rattle.std.specs.List.{Contains}
use Rattle.lf_base.specs.Contents.{Appends, AppendsPart}
use Rattle.lf_base.specs.Causes.{Rose}
use Rattle.lf_base.specs.Files.{Files}
use Rattle.ast_nodes.specs.declared.file.File.{File}
use Rattle.file_order.specs.Answers.{IsLeastFileOrder, IsNamedCycle}
use Rattle.lf_driver.specs.declared.outcome.Answer.{Answer}
use Rattle.lf_driver.specs.declared.outcome.Answer.TheVariants as outcome
use Rattle.lf_driver.specs.Order.{names_at, order_text}
use Rattle.lf_driver.specs.Refusal.{Refusal, refusal_text}
use Rattle.lf_driver.specs.Refusal as refusal
use Rattle.lf_driver.specs.Verdict.{Told, tree_in, trees_of}

-- what a store that tells its files has for the tree of the file of this name
abbrev pub HasTree : Result File Refusal → List ℕ → Option Files → Type 0
HasTree there file files = Told files (λ files. tree_in file (get files file) ≡ there)

-- the same for a list of files
abbrev pub HasTrees : Result (List File) Refusal → List (List ℕ) → Option Files → Type 0
HasTrees there names files = Told files (λ files. trees_of files names ≡ there)

-- The tree of the file of this name was answered, or what came instead.
abbrev pub GivesTreeOf : Result File Answer → List ℕ → Option Files → Type 0
GivesTreeOf (Ok tree) file files = HasTree (Ok tree) file files
GivesTreeOf (Err outcome.Done) file files = ⊥
GivesTreeOf (Err outcome.Usage) file files = ⊥
GivesTreeOf (Err (outcome.Absent name)) file files = HasTree (Err (refusal.Absent name.now)) file files × (name.now ≡ file)
GivesTreeOf (Err (outcome.Refused name line rule)) file files = HasTree (Err (refusal.Refused name.now line rule)) file files × (name.now ≡ file)
GivesTreeOf (Err (outcome.Circular told)) file files = ⊥
GivesTreeOf (Err outcome.ReadFault) file files = Unit {0}
GivesTreeOf (Err outcome.WriteFault) file files = ⊥
GivesTreeOf (Err outcome.Memory) file files = Unit {0}

-- The trees of the files of a list were answered, or what came at one of them.
abbrev pub GivesTrees : Result (Vec File Global) Answer → List (List ℕ) → Option Files → Type 0
GivesTrees (Ok trees) names files = HasTrees (Ok trees.items) names files
GivesTrees (Err outcome.Done) names files = ⊥
GivesTrees (Err outcome.Usage) names files = ⊥
GivesTrees (Err (outcome.Absent name)) names files = HasTrees (Err (refusal.Absent name.now)) names files × Contains names name.now
GivesTrees (Err (outcome.Refused name line rule)) names files = HasTrees (Err (refusal.Refused name.now line rule)) names files × Contains names name.now
GivesTrees (Err (outcome.Circular told)) names files = ⊥
GivesTrees (Err outcome.ReadFault) names files = Unit {0}
GivesTrees (Err outcome.WriteFault) names files = ⊥
GivesTrees (Err outcome.Memory) names files = Unit {0}

-- The count of failed reads rose exactly where a read failed.
abbrev pub CountsReads : Answer → ℕ → ℕ → Type 0
CountsReads outcome.Done before now = now ≡ before
CountsReads outcome.Usage before now = now ≡ before
CountsReads (outcome.Absent name) before now = now ≡ before
CountsReads (outcome.Refused name line rule) before now = now ≡ before
CountsReads (outcome.Circular told) before now = now ≡ before
CountsReads outcome.ReadFault before now = Rose before now
CountsReads outcome.WriteFault before now = now ≡ before
CountsReads outcome.Memory before now = now ≡ before

abbrev pub ReadCounts : {T : Type 0} → Result T Answer → ℕ → ℕ → Type 0
ReadCounts (Ok given) before now = now ≡ before
ReadCounts (Err came) before now = CountsReads came before now

-- A sink, which may fail or take memory or not, gains a text, or a front of it.
abbrev pub GainsText : Bool → Bool → Answer → List ℕ → Option (List ℕ) → Option (List ℕ) → Type 0
GainsText f w outcome.Done text old new = Appends old new text
GainsText f w outcome.Usage text old new = ⊥
GainsText f w (outcome.Absent name) text old new = ⊥
GainsText f w (outcome.Refused name line rule) text old new = ⊥
GainsText f w (outcome.Circular told) text old new = ⊥
GainsText f w outcome.ReadFault text old new = ⊥
GainsText f w outcome.WriteFault text old new = (f ≡ true) × AppendsPart old new text
GainsText f w outcome.Memory text old new = (new ≡ old) ⊎ ((w ≡ true) × AppendsPart old new text)

-- what comes of trees that were read: the text of their least order, or that of the cycle that they name
abbrev pub TreesSortTo : Bool → Bool → Answer → List (List ℕ) → List File → Option (List ℕ) → Option (List ℕ) → Type 0
TreesSortTo f w outcome.Done names trees old new = (order : List ℕ) × IsLeastFileOrder trees order × Appends old new (order_text names order)
TreesSortTo f w outcome.Usage names trees old new = ⊥
TreesSortTo f w (outcome.Absent name) names trees old new = ⊥
TreesSortTo f w (outcome.Refused name line rule) names trees old new = ⊥
TreesSortTo f w (outcome.Circular told) names trees old new = (new ≡ old) × ((places : List ℕ) × IsNamedCycle trees places × (told.items ≡ refusal_text (refusal.Circular (names_at names places))))
TreesSortTo f w outcome.ReadFault names trees old new = ⊥
TreesSortTo f w outcome.WriteFault names trees old new = (f ≡ true) × ((order : List ℕ) × IsLeastFileOrder trees order × AppendsPart old new (order_text names order))
TreesSortTo f w outcome.Memory names trees old new = (new ≡ old) ⊎ ((w ≡ true) × ((order : List ℕ) × IsLeastFileOrder trees order × AppendsPart old new (order_text names order)))

-- the files have trees, and this comes of them
abbrev pub TreesThere : Bool → Bool → Answer → List (List ℕ) → Option Files → Option (List ℕ) → Option (List ℕ) → Type 0
TreesThere f w came names files old new = (trees : List File) × HasTrees (Ok trees) names files × TreesSortTo f w came names trees old new

-- what comes of files of these names
abbrev pub FilesSortTo : Bool → Bool → Answer → List (List ℕ) → Option Files → Option (List ℕ) → Option (List ℕ) → Type 0
FilesSortTo f w outcome.Done names files old new = TreesThere f w outcome.Done names files old new
FilesSortTo f w outcome.Usage names files old new = ⊥
FilesSortTo f w (outcome.Absent name) names files old new = (new ≡ old) × HasTrees (Err (refusal.Absent name.now)) names files × Contains names name.now
FilesSortTo f w (outcome.Refused name line rule) names files old new = (new ≡ old) × HasTrees (Err (refusal.Refused name.now line rule)) names files × Contains names name.now
FilesSortTo f w (outcome.Circular told) names files old new = TreesThere f w (outcome.Circular told) names files old new
FilesSortTo f w outcome.ReadFault names files old new = new ≡ old
FilesSortTo f w outcome.WriteFault names files old new = TreesThere f w outcome.WriteFault names files old new
FilesSortTo f w outcome.Memory names files old new = (new ≡ old) ⊎ TreesThere f w outcome.Memory names files old new

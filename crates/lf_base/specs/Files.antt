-- The files of a store, and what its calls do with them, where the store tells them.
use Rattle.std.specs.Prelude.{◌≡◌, ℕ, ◌≤◌, ◌<◌, List, [], reverse, length, Option, Some, None, Ok, Err}
use Rattle.std.specs.Ordering.{nat_cmp}
use Rattle.std.specs.Cmp.Lexicographic.{slice_cmp}
use Rattle.std.specs.FinMap.{FinMap, get, insert, from_entries}
use Rattle.std.specs.declared.result.Result.{Result}
use Rattle.lf_base.specs.declared.fault.GetFault.{GetFault}
use Rattle.lf_base.specs.declared.fault.GetFault.TheVariants.{Absent, TooLong, Failed, Memory}

-- a finite map from names to bytes
abbrev pub Files : Type 0
Files = FinMap (slice_cmp nat_cmp) (List ℕ)

-- the most bytes of a file that is read
abbrev pub greatest_file : ℕ
greatest_file = 67108864

-- what a read answers of what is there under the name
abbrev pub GivesAt : {V : Type 0} → (V → List ℕ) → Option (List ℕ) → Result V GetFault → Type 0
GivesAt bytes there (Ok v) = (there ≡ Some (bytes v)) × (length (bytes v) ≤ greatest_file)
GivesAt bytes there (Err Absent) = there ≡ None
GivesAt bytes there (Err TooLong) = (file : List ℕ) × (there ≡ Some file) × (greatest_file < length file)
GivesAt bytes there (Err Failed) = Unit {0}
GivesAt bytes there (Err Memory) = Unit {0}

-- the same, where the store tells its files
abbrev pub ReadGives : {V : Type 0} → (V → List ℕ) → Option Files → List ℕ → Result V GetFault → Type 0
ReadGives bytes None name result = Unit {0}
ReadGives bytes (Some files) name result = GivesAt bytes (get files name) result

-- The pending file is empty.
abbrev pub Begins : Option Files → Option (List ℕ) → Type 0
Begins None held = Unit {0}
Begins (Some files) held = held ≡ Some []

-- The new files have the pending one.
pub record Finishes (old : Option Files) (pending held : Option (List ℕ)) (new : Option Files) : Type 0 where
  pub told : (files : Files) (name bytes : List ℕ) → old ≡ Some files → pending ≡ Some name → held ≡ Some bytes → new ≡ Some (insert files name bytes)

-- The files of a list of entries, of which the last of a name counts: a map takes the first.
abbrev pub files_from : List (List ℕ × List ℕ) → Files
files_from entries = from_entries (reverse entries)

-- What a disk tells: the calls that changed it, and the files that they made.
use Rattle.std.specs.Prelude.{◌≡◌, ◌⊎◌, ℕ, not, List, [], ◌∷◌, ◌++◌, take, Option, Some, None, Result, Ok, Err}
use Rattle.std.specs.FinMap.{get, insert, remove, empty, retain_keys}
use Rattle.lf_base.specs.Causes.{Rose}
use Rattle.lf_base.specs.Files.{Files, GivesAt}
use Rattle.lf_base.specs.declared.fault.GetFault.{GetFault}
use Rattle.lf_base.specs.declared.fault.GetFault.TheVariants.{Absent}
use Rattle.lf_outside.specs.Names.{is_own}

-- a call that changed a disk
pub data Step : Type 0 where
  -- the file of this name has these bytes
  Wrote : (name bytes : List ℕ) → Step
  -- all bytes of the file are on the device
  Synced : (name bytes : List ℕ) → Step
  -- the file has another name, in place of an older file of that name
  Renamed : (from to bytes : List ℕ) → Step
  -- there is no file of this name
  Removed : (name : List ℕ) → Step

-- The files that calls made of an empty disk, the latest call in front.
abbrev pub files_in : List Step → Files
files_in [] = empty
files_in (Wrote name bytes ∷ steps) = insert (files_in steps) name bytes
files_in (Synced name bytes ∷ steps) = files_in steps
files_in (Renamed from to bytes ∷ steps) = insert (remove (files_in steps) from) to bytes
files_in (Removed name ∷ steps) = remove (files_in steps) name

-- the bytes of a file, if there is one
abbrev pub bytes_in : List Step → List ℕ → Option (List ℕ)
bytes_in steps name = get (files_in steps) name

-- A file is opened for reading: its reader has all its bytes left. An error that means absent comes only where there is
-- no file.
abbrev pub Opens : {X E : Type 0} → (X → Option (List ℕ)) → (E → GetFault) → Option (List Step) → List ℕ → Result X E → Type 0
Opens left fault None name result = Unit {0}
Opens left fault (Some steps) name (Ok file) = (bytes : List ℕ) × (bytes_in steps name ≡ Some bytes) × (left file ≡ Some bytes)
Opens left fault (Some steps) name (Err error) = fault error ≡ Absent → bytes_in steps name ≡ None

-- an empty file of a name that no file had
abbrev pub Creates : {X E : Type 0} → Option (List Step) → Option (List Step) → List ℕ → Result X E → Type 0
Creates None new name result = new ≡ None
Creates (Some steps) new name (Ok _) = (bytes_in steps name ≡ None) × (new ≡ Some (Wrote name [] ∷ steps))
Creates (Some steps) new name (Err _) = new ≡ Some steps

-- a front of the piece at the end of a file
abbrev pub Writes : {E : Type 0} → Option (List Step) → Option (List Step) → List ℕ → List ℕ → Result ℕ E → Type 0
Writes None new name piece result = new ≡ None
Writes (Some steps) new name piece (Ok n) = (bytes : List ℕ) × (bytes_in steps name ≡ Some bytes) × (new ≡ Some (Wrote name (bytes ++ take n piece) ∷ steps))
Writes (Some steps) new name piece (Err _) = new ≡ Some steps

abbrev pub Syncs : {X E : Type 0} → Option (List Step) → Option (List Step) → List ℕ → Result X E → Type 0
Syncs None new name result = new ≡ None
Syncs (Some steps) new name (Ok _) = (bytes : List ℕ) × (bytes_in steps name ≡ Some bytes) × (new ≡ Some (Synced name bytes ∷ steps))
Syncs (Some steps) new name (Err _) = new ≡ Some steps

abbrev pub Renames : {X E : Type 0} → Option (List Step) → Option (List Step) → List ℕ → List ℕ → Result X E → Type 0
Renames None new from to result = new ≡ None
Renames (Some steps) new from to (Ok _) = (bytes : List ℕ) × (bytes_in steps from ≡ Some bytes) × (new ≡ Some (Renamed from to bytes ∷ steps))
Renames (Some steps) new from to (Err _) = new ≡ Some steps

-- A removal, or a count of refused ones that rose.
abbrev pub Removes : {X E : Type 0} → Option (List Step) → Option (List Step) → ℕ → ℕ → List ℕ → Result X E → Type 0
Removes None new stuck stuck' name result = new ≡ None
Removes (Some steps) new stuck stuck' name (Ok _) = new ≡ Some (Removed name ∷ steps)
Removes (Some steps) new stuck stuck' name (Err _) = (new ≡ Some steps) × Rose stuck stuck'

-- The files that a store over the disk tells: all but those under names of the store's own.
abbrev pub users : Files → Files
users files = retain_keys files (λ name. not (is_own name))

abbrev pub told : Option (List Step) → Option Files
told None = None
told (Some steps) = Some (users (files_in steps))

abbrev pub or_none : Option (List ℕ) → List ℕ
or_none None = []
or_none (Some bytes) = bytes

-- the bytes under a name, where the disk tells them
abbrev pub held : Option (List Step) → List ℕ → Option (List ℕ)
held None name = None
held (Some steps) name = Some (or_none (bytes_in steps name))

-- The file of a temporary name stands under the name in its place: all its bytes were synced first. Where that is
-- refused, the files are as they were.
abbrev pub Publishes : {X E : Type 0} → Option (List Step) → Option (List Step) → List ℕ → List ℕ → Result X E → Type 0
Publishes None new temporary name result = new ≡ None
Publishes (Some steps) new temporary name (Ok _) = (bytes : List ℕ) × (bytes_in steps temporary ≡ Some bytes) × (new ≡ Some (Renamed temporary name bytes ∷ Synced temporary bytes ∷ steps))
Publishes (Some steps) new temporary name (Err _) = (later : List Step) × (new ≡ Some later) × (files_in later ≡ files_in steps)

-- No file of the name is left, unless the disk refused to remove it.
abbrev pub Gone : Option (List Step) → ℕ → ℕ → List ℕ → Type 0
Gone None stuck stuck' name = Unit {0}
Gone (Some steps) stuck stuck' name = (bytes_in steps name ≡ None) ⊎ Rose stuck stuck'

-- the same of a name that there may be
abbrev pub AllGone : Option (List Step) → ℕ → ℕ → Option (List ℕ) → Type 0
AllGone steps stuck stuck' None = Unit {0}
AllGone steps stuck stuck' (Some name) = Gone steps stuck stuck' name

-- The file of a temporary name stands under a name, and all its bytes were synced first.
abbrev pub AllPublished : Option (List Step) → Option (List Step) → Option (List ℕ) → Option (List ℕ) → Type 0
AllPublished None new temporary name = new ≡ None
AllPublished (Some steps) new None name = Unit {0}
AllPublished (Some steps) new (Some temporary) None = Unit {0}
AllPublished (Some steps) new (Some temporary) (Some name) = (bytes : List ℕ) × (bytes_in steps temporary ≡ Some bytes) × (new ≡ Some (Renamed temporary name bytes ∷ Synced temporary bytes ∷ steps))

-- what a reader's bytes make of an answer
abbrev pub GivesWhole : {V : Type 0} → (V → List ℕ) → Option (List ℕ) → Result V GetFault → Type 0
GivesWhole bytes None result = Unit {0}
GivesWhole bytes (Some left) result = GivesAt bytes (Some left) result

-- What a store in memory stands for.
use Rattle.std.specs.Prelude.{◌≡◌, ℕ, List, map, Option, Some, None, IsSome, refl}
use Rattle.std.proofs.Common.{◌∙◌}
use Rattle.std.specs.FinMap.{from_entries}
use Rattle.lf_base.specs.declared.sure_store.StoredFile.{StoredFile}
use Rattle.lf_base.specs.declared.sure_store.SureStore.{SureStore}
use Rattle.lf_base.specs.Files.{Files}

abbrev pub entry : StoredFile → List ℕ × List ℕ
entry f = (f.name.items, f.bytes.items)

abbrev pub files_of : SureStore → Files
files_of s = from_entries (map entry s.files.items)

-- the name of a pending file
abbrev pub name_of : Option StoredFile → Option (List ℕ)
name_of None = None
name_of (Some f) = Some f.name.items

-- the bytes of a file, if there is one
abbrev pub bytes_of : Option StoredFile → Option (List ℕ)
bytes_of None = None
bytes_of (Some f) = Some f.bytes.items

pub record Keeps (a b : SureStore) : Type 0 where
  pub files : Some (files_of b) ≡ Some (files_of a)
  pub pending : name_of b.pending ≡ name_of a.pending

pub keeps_same_lem : (a : SureStore) → Keeps a a
keeps_same_lem a = record { files = refl; pending = refl }

pub keeps_further_lem : (a b c : SureStore) → Keeps a b → Keeps b c → Keeps a c
keeps_further_lem a b c p q = record { files = q.files ∙ p.files; pending = q.pending ∙ p.pending }

pub tells_lem : (p : Option StoredFile) → IsSome (name_of p) → IsSome (bytes_of p)
tells_lem None h = h
tells_lem (Some f) h = refl

pub tells_none_lem : (p : Option StoredFile) → name_of p ≡ None → bytes_of p ≡ None
tells_none_lem None h = refl
tells_none_lem (Some f) h = cc

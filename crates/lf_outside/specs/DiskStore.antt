-- What a store over a disk tells.
use Rattle.std.specs.Prelude.{◌≡◌, ℕ, List, string_bytes, Option, Some, None, IsSome, refl}
use Rattle.std.proofs.Common.{◌∙◌}
use Rattle.lf_outside.specs.declared.pending.PendingFile.{PendingFile}
use Rattle.lf_base.specs.Files.{Files}
use Rattle.lf_outside.specs.Disk.{Step, told, held}

-- the name of a pending file
abbrev pub name_of : {F : Type 0} → Option (PendingFile F) → Option (List ℕ)
name_of None = None
name_of (Some p) = Some (string_bytes p.name)

-- the name that it has until it is finished
abbrev pub temporary_of : {F : Type 0} → Option (PendingFile F) → Option (List ℕ)
temporary_of None = None
temporary_of (Some p) = Some (string_bytes p.temporary.name)

-- its bytes, where the disk tells them
abbrev pub contents_of : {F : Type 0} → Option (List Step) → Option (PendingFile F) → Option (List ℕ)
contents_of history None = None
contents_of history (Some p) = held history (string_bytes p.temporary.name)

-- what a put keeps
pub record Keeps (files : Option Files) (pending : Option (List ℕ)) (read_faults : ℕ) (files' : Option Files) (pending' : Option (List ℕ)) (read_faults' : ℕ) : Type 0 where
  pub files_same : files' ≡ files
  pub pending_same : pending' ≡ pending
  pub read_faults_same : read_faults' ≡ read_faults

pub keeps_same_lem : (f : Option Files) (p : Option (List ℕ)) (r : ℕ) → Keeps f p r f p r
keeps_same_lem f p r = record { files_same = refl; pending_same = refl; read_faults_same = refl }

pub keeps_further_lem : {f g h : Option Files} {p q o : Option (List ℕ)} {l m n : ℕ} → Keeps f p l g q m → Keeps g q m h o n → Keeps f p l h o n
keeps_further_lem a b = record { files_same = b.files_same ∙ a.files_same; pending_same = b.pending_same ∙ a.pending_same; read_faults_same = b.read_faults_same ∙ a.read_faults_same }

pub tells_pending_lem : {F : Type 0} (history : Option (List Step)) (p : Option (PendingFile F)) → IsSome (told history) → IsSome (name_of p) → IsSome (contents_of history p)
tells_pending_lem None None f n = n
tells_pending_lem None (Some p) f n = f
tells_pending_lem (Some steps) None f n = n
tells_pending_lem (Some steps) (Some p) f n = refl

pub tells_none_lem : {F : Type 0} (history : Option (List Step)) (p : Option (PendingFile F)) → name_of p ≡ None → contents_of history p ≡ None
tells_none_lem history None n = refl
tells_none_lem history (Some p) n = absurd (cc)

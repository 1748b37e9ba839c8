-- What a store in memory stands for whose calls fail by their numbers.
use Rattle.std.specs.Prelude.{◌≡◌, ℕ, List, Option, Some, refl}
use Rattle.std.proofs.Common.{◌∙◌}
use Rattle.lf_base.specs.declared.mem_store.MemStore.{MemStore}
use Rattle.lf_base.specs.Calls.{Numbers}
use Rattle.lf_base.specs.Files.{Files}
use Rattle.lf_base.specs.SureStore as sure

-- its files
abbrev pub mem_files : MemStore → Files
mem_files s = sure.files_of s.store

-- the name of its pending file
abbrev pub mem_pending : MemStore → Option (List ℕ)
mem_pending s = sure.name_of s.store.pending

-- the bytes of its pending file
abbrev pub mem_contents : MemStore → Option (List ℕ)
mem_contents s = sure.bytes_of s.store.pending

-- its calls: of all its traits together
abbrev pub mem_calls : MemStore → Numbers
mem_calls s = record { next = s.calls.next; fails = s.calls.fails.items }

-- how often a call that writes has failed
abbrev pub mem_faults : MemStore → ℕ
mem_faults s = s.faults

-- how often a read has failed
abbrev pub mem_read_faults : MemStore → ℕ
mem_read_faults s = s.read_faults

pub record MemKeeps (a b : MemStore) : Type 0 where
  pub files : Some (mem_files b) ≡ Some (mem_files a)
  pub pending : mem_pending b ≡ mem_pending a
  pub read_faults : mem_read_faults b ≡ mem_read_faults a
  pub fails : (mem_calls b).fails ≡ (mem_calls a).fails

pub mem_keeps_same_lem : (a : MemStore) → MemKeeps a a
mem_keeps_same_lem a = record { files = refl; pending = refl; read_faults = refl; fails = refl }

pub mem_keeps_further_lem : (a b c : MemStore) → MemKeeps a b → MemKeeps b c → MemKeeps a c
mem_keeps_further_lem a b c p q = record { files = q.files ∙ p.files; pending = q.pending ∙ p.pending; read_faults = q.read_faults ∙ p.read_faults; fails = q.fails ∙ p.fails }

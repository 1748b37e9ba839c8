-- Why a call of the outside failed: only where its count of faults rose, and nothing else changes a count.
use Rattle.std.specs.Prelude.{◌≡◌, ℕ, ◌+◌, ◌-◌, ◌^◌, ◌≤◌, min, Bool, true, Ok, Err}
use Rattle.std.specs.declared.result.Result.{Result}
use Rattle.lf_base.specs.declared.fault.Failed.{Failed as SourceFailed}
use Rattle.lf_base.specs.declared.fault.PutFault.{PutFault}
use Rattle.lf_base.specs.declared.fault.PutFault.TheVariants.{Failed, Memory}
use Rattle.lf_base.specs.declared.fault.GetFault.{GetFault}
use Rattle.lf_base.specs.declared.fault.GetFault.TheVariants as reading

-- The count is greater than before, or stands at its last value.
abbrev pub Rose : ℕ → ℕ → Type 0
Rose before now = min (before + 1) (2 ^ 64 - 1) ≤ now

-- By whether a sink's calls may fail, and whether they take memory: a failure is counted, nothing else changes the count,
-- and neither fault comes from a sink that has it not.
abbrev pub HasCause : {T : Type 0} → Bool → Bool → ℕ → ℕ → Result T PutFault → Type 0
HasCause may_fail takes_memory before now (Ok _) = now ≡ before
HasCause may_fail takes_memory before now (Err Memory) = (takes_memory ≡ true) × (now ≡ before)
HasCause may_fail takes_memory before now (Err Failed) = (may_fail ≡ true) × Rose before now

-- the same of a store's read
abbrev pub HasReadCause : {T : Type 0} → ℕ → ℕ → Result T GetFault → Type 0
HasReadCause before now (Ok _) = now ≡ before
HasReadCause before now (Err reading.Absent) = now ≡ before
HasReadCause before now (Err reading.TooLong) = now ≡ before
HasReadCause before now (Err reading.Memory) = now ≡ before
HasReadCause before now (Err reading.Failed) = Rose before now

-- the same of a source's read
abbrev pub HasSourceCause : {T : Type 0} → ℕ → ℕ → Result T SourceFailed → Type 0
HasSourceCause before now (Ok _) = now ≡ before
HasSourceCause before now (Err _) = Rose before now

-- What a disk in memory stands for.
use Rattle.std.specs.Prelude.{◌≡◌, ℕ, List, ◌∷◌, map, Some, None}
use Rattle.lf_outside.specs.declared.mem_disk.MemStep.{MemStep}
use Rattle.lf_outside.specs.declared.mem_disk.MemStep.TheVariants as mem
use Rattle.lf_outside.specs.declared.mem_disk.MemDisk.{MemDisk}
use Rattle.lf_outside.specs.declared.mem_disk.Effect.{Effect}
use Rattle.lf_outside.specs.declared.mem_disk.Effect.TheVariants as effect
use Rattle.lf_outside.specs.Disk.{Step, Wrote, Synced, Renamed, Removed, bytes_in}

abbrev pub step_of : MemStep → Step
step_of (mem.Wrote name bytes) = Wrote name.items bytes.items
step_of (mem.Synced name bytes) = Synced name.items bytes.items
step_of (mem.Renamed from to bytes) = Renamed from.items to.items bytes.items
step_of (mem.Removed name) = Removed name.items

abbrev pub steps_of : List MemStep → List Step
steps_of steps = map step_of steps

-- the calls that changed it
abbrev pub history_of : MemDisk → List Step
history_of disk = steps_of disk.steps.items

-- what a call did to the file of a name
abbrev pub IsEffect : MemStep → List ℕ → Effect → Type 0
IsEffect step name effect.Same = (steps : List Step) → bytes_in (step_of step ∷ steps) name ≡ bytes_in steps name
IsEffect step name effect.Gone = (steps : List Step) → bytes_in (step_of step ∷ steps) name ≡ None
IsEffect step name (effect.Bytes bytes) = (steps : List Step) → bytes_in (step_of step ∷ steps) name ≡ Some bytes.now

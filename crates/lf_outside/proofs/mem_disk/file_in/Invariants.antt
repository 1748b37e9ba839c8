use Rattle.std.proofs.Common.{◌≡◌}
use Rattle.std.specs.VecDeque.Iter.{deque_iter_rest}
use Rattle.lf_outside.specs.Disk.{bytes_in}
use Rattle.lf_outside.specs.MemDisk.{steps_of}
use Rattle.lf_outside.proofs.mem_disk.file_in.Given as goal

-- the calls that are left decide
abbrev pub invariant-loop-step : goal.invariant-loop-step
invariant-loop-step l = bytes_in (steps_of l.steps.items) l.name ≡ bytes_in (steps_of (deque_iter_rest l.step-iterator)) l.name

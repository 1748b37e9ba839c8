use Rattle.std.proofs.Common.{◌≡◌, ◌≤◌, false, length, drop}
use Rattle.lf_outside.specs.Names.{has_slash}
use Rattle.lf_outside.proofs.names.folder_length.Given as goal

-- no slash is behind
abbrev pub invariant-loop-end : goal.invariant-loop-end
invariant-loop-end l = (l.end ≤ length l.bytes) × (has_slash (drop l.end l.bytes) ≡ false)

abbrev pub decreases-loop-end : goal.decreases-loop-end
decreases-loop-end l = l.end

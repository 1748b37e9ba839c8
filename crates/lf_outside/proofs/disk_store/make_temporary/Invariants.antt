use Rattle.std.proofs.Common.{◌≡◌}
use Rattle.lf_outside.proofs.disk_store.make_temporary.Given as goal

-- nothing was made
abbrev pub invariant-loop-number : goal.invariant-loop-number
invariant-loop-number g l = g.D.Disk.history l.disk ≡ g.D.Disk.history l.fn.disk

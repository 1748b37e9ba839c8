use Rattle.std.proofs.Common.{◌≤◌, length, take}
use Rattle.lf_base.specs.Contents.{Appends}
use Rattle.lf_outside.proofs.writer.write_whole.Given as goal

-- a front is written
abbrev pub invariant-loop : goal.invariant-loop
invariant-loop g l = (l.done ≤ length l.piece) × Appends (g.W.Write.contents l.fn.stream) (g.W.Write.contents l.stream) (take l.done l.piece)

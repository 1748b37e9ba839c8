use Rattle.std.specs.Prelude.{length}
use Rattle.file_order.specs.Search.{row_at, IsReleased}
use Rattle.file_order.proofs.search.release.Given as goal

abbrev pub invariant-loop-later : goal.invariant-loop-later
invariant-loop-later l = IsReleased l.fn.waiting l.waiting l.fn.candidates l.candidates

abbrev pub decreases-loop-later : goal.decreases-loop-later
decreases-loop-later l = length (row_at l.waiting l.«module»)

use Rattle.std.specs.Prelude.{length}
use Rattle.file_order.specs.Search.{row_at, IsTrimmed}
use Rattle.file_order.proofs.open_places.last_open.Given as goal

abbrev pub invariant-loop-place : goal.invariant-loop-place
invariant-loop-place l = IsTrimmed l.marks l.fn.rows l.rows

abbrev pub decreases-loop-place : goal.decreases-loop-place
decreases-loop-place l = length (row_at l.rows l.row)

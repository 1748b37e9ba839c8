use Rattle.std.specs.Prelude.{length}
use Rattle.file_order.specs.Search.{row_at, IsLeft}
use Rattle.file_order.proofs.search.blocker.Given as goal

abbrev pub invariant-loop-module : goal.invariant-loop-module
invariant-loop-module l = IsLeft l.marks l.fn.modules l.modules

abbrev pub decreases-loop-module : goal.decreases-loop-module
decreases-loop-module l = length (row_at l.modules.uses l.place)

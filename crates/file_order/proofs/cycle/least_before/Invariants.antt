use Rattle.std.specs.Prelude.{take}
use Rattle.file_order.specs.Search.{row_at, IsTrimmed, IsLeastIf}
use Rattle.file_order.proofs.WalkLemmas.{IsBeforeBy}
use Rattle.file_order.proofs.cycle.least_before.Given as goal

abbrev pub invariant-loop-module : goal.invariant-loop-module
invariant-loop-module l = record {
  trimmed : IsTrimmed l.marks l.fn.holders l.holders;
  least : IsLeastIf (IsBeforeBy l.marks l.fn.holders (take l.module-index (row_at l.uses l.here)) l.here) l.least;
}

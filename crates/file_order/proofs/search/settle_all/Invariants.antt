use Rattle.std.specs.Prelude.{take}
use Rattle.file_order.specs.Search.{IsTrimmed, IsReleased, AreSettled}
use Rattle.file_order.proofs.search.settle_all.Given as goal

abbrev pub invariant-loop-module : goal.invariant-loop-module
invariant-loop-module l = record {
  trimmed : IsTrimmed l.marks l.fn.holders l.holders;
  released : IsReleased l.fn.waiting l.waiting l.fn.candidates l.candidates;
  settled : AreSettled l.marks l.fn.holders l.waiting (take l.module-index l.modules);
}

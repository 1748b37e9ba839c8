use Rattle.std.specs.Prelude.{ℕ, Option, count_by, not}
use Rattle.std.specs.Option.{is_some}
use Rattle.file_order.specs.Search.{IsTrimmed, IsBefore}
use Rattle.file_order.specs.Walks.{IsWalking}
use Rattle.file_order.proofs.cycle.cycle_from.Given as goal

abbrev pub invariant-loop-first : goal.invariant-loop-first
invariant-loop-first l = record {
  walking : IsWalking (IsBefore l.fn.holders l.uses) l.marks l.walk.items l.seen.items l.here;
  trimmed : IsTrimmed l.marks l.fn.holders l.holders;
}

abbrev pub decreases-loop-first : goal.decreases-loop-first
decreases-loop-first l = count_by (λ (s : Option ℕ). not (is_some s)) l.seen.items

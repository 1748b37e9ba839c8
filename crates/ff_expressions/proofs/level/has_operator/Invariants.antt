use Rattle.std.proofs.Common.{◌≡◌, drop}
use Rattle.std.specs.List.{list_any}
use Rattle.ff_expressions.specs.Expressions.{is_at}
use Rattle.ff_expressions.proofs.level.has_operator.Given as goal

abbrev pub invariant-loop-at : goal.invariant-loop-at
invariant-loop-at l = list_any (is_at l.level) (drop l.at l.items) ≡ list_any (is_at l.level) l.items

use Rattle.std.proofs.Common.{◌≡◌, drop}
use Rattle.std.specs.List.{list_any}
use Rattle.ff_expressions.specs.Pieces.{is_mark}
use Rattle.ff_expressions.proofs.piece.has_mark.Given as goal

abbrev pub invariant-loop-at : goal.invariant-loop-at
invariant-loop-at l = list_any (is_mark l.mark) (drop l.at l.items) ≡ list_any (is_mark l.mark) l.items

use Rattle.std.proofs.Common.{◌≡◌, drop}
use Rattle.std.specs.List.{list_any}
use Rattle.ff_expressions.specs.Pieces.{is_colon}
use Rattle.ff_expressions.proofs.piece.has_colon.Given as goal

abbrev pub invariant-loop-at : goal.invariant-loop-at
invariant-loop-at l = list_any is_colon (drop l.at l.items) ≡ list_any is_colon l.items

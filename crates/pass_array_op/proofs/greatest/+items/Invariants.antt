use Rattle.std.proofs.Common.{◌≡◌, drop, max}
use Rattle.pass_array_op.specs.Greatest.{number_in_items}
use Rattle.pass_array_op.proofs.greatest.+items.Given as goal

-- the greatest so far, and what is left
abbrev pub invariant-items_number-loop-item : goal.invariant-items_number-loop-item
invariant-items_number-loop-item l = max l.number (number_in_items (drop l.item-index l.items)) ≡ number_in_items l.items

use Rattle.std.specs.Prelude.{◌≡◌, is_some, drop}
use Rattle.pass_array_op.specs.Prints.{values_of}
use Rattle.pass_array_op.proofs.print.holds_values.Given as goal

abbrev pub invariant-loop-item : goal.invariant-loop-item
invariant-loop-item l = is_some (values_of l.items) ≡ is_some (values_of (drop l.item-index l.items))

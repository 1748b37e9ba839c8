use Rattle.std.specs.Prelude.{◌≡◌, ◌++◌, true, is_some, drop}
use Rattle.pass_array_op.specs.Prints.{or_none, values_of}
use Rattle.pass_array_op.proofs.print.values.Given as goal

abbrev pub invariant-loop-item : goal.invariant-loop-item
invariant-loop-item l = record {
  hold : is_some (values_of (drop l.item-index l.items)) ≡ true;
  are : l.values.items ++ or_none (values_of (drop l.item-index l.items)) ≡ or_none (values_of l.items);
}

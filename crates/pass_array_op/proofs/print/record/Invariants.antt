use Rattle.std.specs.Prelude.{◌≡◌, ◌++◌, drop}
use Rattle.pass_array_op.specs.Prints.{puts, record_nodes}
use Rattle.pass_array_op.proofs.print.record.Given as goal

abbrev pub invariant-loop-value : goal.invariant-loop-value
invariant-loop-value l = l.nodes.items ++ puts l.line l.number (drop l.value-index l.values) ≡ record_nodes l.line l.number l.values

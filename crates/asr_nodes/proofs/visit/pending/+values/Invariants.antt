use Rattle.std.proofs.Common.{◌≡◌, ◌++◌, drop, map}
use Rattle.asr_nodes.specs.Keys.{chained}
use Rattle.asr_nodes.specs.Parts.{array_item_parts}
use Rattle.asr_nodes.specs.Visiting.{keys_of}
use Rattle.asr_nodes.proofs.visit.pending.+values.Given as goal

-- what is listed and what is left make the whole
abbrev pub invariant-push_values-loop-item : goal.invariant-push_values-loop-item
invariant-push_values-loop-item l = keys_of l.list.items ++ chained (map array_item_parts (drop l.item-index l.items)) ≡ keys_of l.fn.list.items ++ chained (map array_item_parts l.items)

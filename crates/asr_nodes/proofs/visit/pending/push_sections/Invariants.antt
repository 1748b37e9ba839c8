use Rattle.std.proofs.Common.{◌≡◌, ◌++◌, drop, map}
use Rattle.asr_nodes.specs.Keys.{chained}
use Rattle.asr_nodes.specs.Parts.{section_part_parts}
use Rattle.asr_nodes.specs.Visiting.{keys_of}
use Rattle.asr_nodes.proofs.visit.pending.push_sections.Given as goal

-- what is listed and what is left make the whole
abbrev pub invariant-loop-part : goal.invariant-loop-part
invariant-loop-part l = keys_of l.list.items ++ chained (map section_part_parts (drop l.part-index l.parts)) ≡ keys_of l.fn.list.items ++ chained (map section_part_parts l.parts)

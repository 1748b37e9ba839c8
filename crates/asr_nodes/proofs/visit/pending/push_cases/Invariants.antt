use Rattle.std.proofs.Common.{◌≡◌, ◌++◌, drop, map}
use Rattle.asr_nodes.specs.Keys.{chained}
use Rattle.asr_nodes.specs.Parts.{case_parts}
use Rattle.asr_nodes.specs.Visiting.{keys_of}
use Rattle.asr_nodes.proofs.visit.pending.push_cases.Given as goal

-- what is listed and what is left make the whole
abbrev pub invariant-loop-case : goal.invariant-loop-case
invariant-loop-case l = keys_of l.list.items ++ chained (map case_parts (drop l.case-index l.cases)) ≡ keys_of l.fn.list.items ++ chained (map case_parts l.cases)

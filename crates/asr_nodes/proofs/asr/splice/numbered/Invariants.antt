use Rattle.std.proofs.Common.{◌≡◌, ◌+◌, ◌-◌, ◌++◌}
use Rattle.asr_nodes.specs.Splices.{stmts_from}
use Rattle.asr_nodes.proofs.asr.splice.numbered.Given as goal

abbrev pub invariant-loop-place : goal.invariant-loop-place
invariant-loop-place l = l.ids.items ++ stmts_from (l.first + l.place) (l.count - l.place) ≡ stmts_from l.first l.count

use Rattle.std.proofs.Common.{◌≡◌, ◌++◌, drop}
use Rattle.asr_nodes.specs.Keys.{exprs}
use Rattle.asr_nodes.specs.Visiting.{keys_of}
use Rattle.asr_nodes.proofs.visit.pending.push_exprs.Given as goal

-- what is listed and what is left make the whole
abbrev pub invariant-loop-place : goal.invariant-loop-place
invariant-loop-place l = keys_of l.list.items ++ exprs (drop l.place l.ids) ≡ keys_of l.fn.list.items ++ exprs l.ids

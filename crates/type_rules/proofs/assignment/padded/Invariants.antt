use Rattle.std.proofs.Common.{◌≡◌, ◌++◌, ◌-◌, replicate, length}
use Rattle.type_rules.proofs.assignment.padded.Given as goal

abbrev pub invariant-loop-i : goal.invariant-loop-i
invariant-loop-i l = l.all.items ≡ l.bytes ++ replicate (l.i - length l.bytes) 32

use Rattle.std.proofs.Common.{◌-◌}
use Rattle.symtab_arena.proofs.TurnLemmas.{IsTurnedUpTo}
use Rattle.symtab_arena.proofs.names.Names.turn.Given as goal

abbrev pub invariant-loop-high : goal.invariant-loop-high
invariant-loop-high l = IsTurnedUpTo l.fn.self l.self l.start l.end l.low l.high

abbrev pub decreases-loop-high : goal.decreases-loop-high
decreases-loop-high l = l.high - l.low

use Rattle.std.proofs.Common.{◌≡◌, length}
use Rattle.c_printer.specs.Chains.{all_closed}
use Rattle.c_printer.specs.Writing.{wrote}
use Rattle.c_printer.proofs.statements.chains.close_all.Given as goal

-- what is left to be closed
abbrev pub invariant-loop-arm : goal.invariant-loop-arm
invariant-loop-arm l = all_closed l.fn.arms (wrote l.fn.writer tt) ≡ all_closed l.open (wrote l.writer tt)

abbrev pub decreases-loop-arm : goal.decreases-loop-arm
decreases-loop-arm l = length l.open

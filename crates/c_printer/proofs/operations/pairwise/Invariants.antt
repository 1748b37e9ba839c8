use Rattle.std.proofs.Common.{◌≡◌, drop}
use Rattle.c_printer.specs.Values.{pairwise}
use Rattle.c_printer.specs.Writing.{from, location}
use Rattle.c_printer.proofs.operations.pairwise.Given as goal

-- what is left to be done
abbrev pub invariant-loop-value : goal.invariant-loop-value
invariant-loop-value l =
    from l.fn.writer (pairwise (location l.here) l.helper l.ty l.fn.number l.values) ≡ from l.writer (pairwise (location l.here) l.helper l.ty l.sofar (drop l.value-index l.values))

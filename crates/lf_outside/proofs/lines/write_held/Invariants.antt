use Rattle.std.specs.Io.KnownBytes.{append_known}
use Rattle.lf_outside.specs.Streams.{Stays}
use Rattle.lf_outside.proofs.lines.write_held.Given as goal

-- what is told stays
abbrev pub invariant-loop : goal.invariant-loop
invariant-loop g l = Stays (append_known (g.W.Write.contents l.fn.stream) l.fn.held.items) (append_known (g.W.Write.contents l.stream) l.held.items)

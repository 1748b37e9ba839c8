use Rattle.lf_outside.specs.Streams.{Stays}
use Rattle.lf_outside.proofs.reader.read_once.Given as goal

-- nothing was taken
abbrev pub invariant-loop : goal.invariant-loop
invariant-loop g l = Stays (g.R.Read.remaining l.fn.stream) (g.R.Read.remaining l.stream)

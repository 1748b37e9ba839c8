use Rattle.std.proofs.Common.{◌-◌}
use Rattle.ast_nodes.specs.Prints.{Awaits}
use Rattle.asr_nodes.specs.Shapes.{closers}
use Rattle.asr_nodes.proofs.print.link.put_closers.Given as goal

-- what is left to print
abbrev pub invariant-loop-link : goal.invariant-loop-link
invariant-loop-link g l = Awaits g.O.Sink.contents g.O.Sink.faults g.O.Sink.may_fail g.O.Sink.takes_memory g.O.Sink.keeps l.fn.before l.ended l.fn.out l.out (closers l.links) (closers (l.links - l._link))

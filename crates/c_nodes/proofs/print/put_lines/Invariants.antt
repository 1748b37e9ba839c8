use Rattle.std.proofs.Common.{drop}
use Rattle.lf_base.specs.Puts.{AwaitsPuts, Causes}
use Rattle.c_nodes.specs.Text.{object_texts}
use Rattle.c_nodes.proofs.print.put_lines.Given as goal

-- what is left to print
abbrev pub invariant-loop-member : goal.invariant-loop-member
invariant-loop-member g l = record {
  text : AwaitsPuts l.fn.before l.ended (g.O.Sink.contents l.fn.out) (g.O.Sink.contents l.out) (object_texts l.members) (object_texts (drop l.member-index l.members));
  cause : Causes g.O.Sink.may_fail g.O.Sink.takes_memory l.fn.before l.ended (g.O.Sink.faults l.fn.out) (g.O.Sink.faults l.out);
  keeps : g.O.Sink.keeps l.fn.out l.out;
}

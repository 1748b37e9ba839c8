use Rattle.std.proofs.Common.{drop}
use Rattle.lf_base.specs.Puts.{AwaitsPuts, Causes}
use Rattle.c_nodes.specs.Text.{behind_commas, parameter_texts}
use Rattle.c_nodes.proofs.print.put_more_parameters.Given as goal

-- what is left to print
abbrev pub invariant-loop-parameter : goal.invariant-loop-parameter
invariant-loop-parameter g l = record {
  text : AwaitsPuts l.fn.before l.ended (g.O.Sink.contents l.fn.out) (g.O.Sink.contents l.out) (behind_commas (parameter_texts l.parameters)) (behind_commas (parameter_texts (drop l.parameter-index l.parameters)));
  cause : Causes g.O.Sink.may_fail g.O.Sink.takes_memory l.fn.before l.ended (g.O.Sink.faults l.fn.out) (g.O.Sink.faults l.out);
  keeps : g.O.Sink.keeps l.fn.out l.out;
}

use Rattle.std.proofs.Common.{drop}
use Rattle.lf_base.specs.Puts.{AwaitsPuts, Causes}
use Rattle.c_nodes.specs.Text.{behind_commas, expr_texts}
use Rattle.c_nodes.proofs.expressions.put_more_arguments.Given as goal

-- what is left to print
abbrev pub invariant-loop-argument : goal.invariant-loop-argument
invariant-loop-argument g l = record {
  text : AwaitsPuts l.fn.before l.ended (g.O.Sink.contents l.fn.out) (g.O.Sink.contents l.out) (behind_commas (expr_texts l.arguments)) (behind_commas (expr_texts (drop l.argument-index l.arguments)));
  cause : Causes g.O.Sink.may_fail g.O.Sink.takes_memory l.fn.before l.ended (g.O.Sink.faults l.fn.out) (g.O.Sink.faults l.out);
  keeps : g.O.Sink.keeps l.fn.out l.out;
}

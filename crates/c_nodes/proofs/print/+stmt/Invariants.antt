use Rattle.std.proofs.Common.{drop}
use Rattle.lf_base.specs.Puts.{AwaitsPuts, Causes}
use Rattle.c_nodes.specs.Text.{stmt_texts}
use Rattle.c_nodes.proofs.print.+stmt.Given as goal

-- what is left to print
abbrev pub invariant-put_stmts-loop-stmt : goal.invariant-put_stmts-loop-stmt
invariant-put_stmts-loop-stmt g l = record {
  text : AwaitsPuts l.fn.before l.ended (g.O.Sink.contents l.fn.out) (g.O.Sink.contents l.out) (stmt_texts l.body) (stmt_texts (drop l.stmt-index l.body));
  cause : Causes g.O.Sink.may_fail g.O.Sink.takes_memory l.fn.before l.ended (g.O.Sink.faults l.fn.out) (g.O.Sink.faults l.out);
  keeps : g.O.Sink.keeps l.fn.out l.out;
}

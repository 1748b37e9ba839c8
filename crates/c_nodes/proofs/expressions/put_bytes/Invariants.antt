use Rattle.std.proofs.Common.{drop}
use Rattle.lf_base.specs.Puts.{AwaitsPuts, Causes}
use Rattle.c_nodes.specs.Text.{byte_texts}
use Rattle.c_nodes.proofs.expressions.put_bytes.Given as goal

-- what is left to print
abbrev pub invariant-loop-byte : goal.invariant-loop-byte
invariant-loop-byte g l = record {
  text : AwaitsPuts l.fn.before l.ended (g.O.Sink.contents l.fn.out) (g.O.Sink.contents l.out) (byte_texts l.bytes) (byte_texts (drop l.byte-index l.bytes));
  cause : Causes g.O.Sink.may_fail g.O.Sink.takes_memory l.fn.before l.ended (g.O.Sink.faults l.fn.out) (g.O.Sink.faults l.out);
  keeps : g.O.Sink.keeps l.fn.out l.out;
}

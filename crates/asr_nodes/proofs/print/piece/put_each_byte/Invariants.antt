use Rattle.std.proofs.Common.{drop}
use Rattle.ast_nodes.specs.Prints.{Awaits}
use Rattle.ast_nodes.specs.Node.{byte_texts}
use Rattle.asr_nodes.proofs.print.piece.put_each_byte.Given as goal

-- what is left to print
abbrev pub invariant-loop-byte : goal.invariant-loop-byte
invariant-loop-byte g l = Awaits g.O.Sink.contents g.O.Sink.faults g.O.Sink.may_fail g.O.Sink.takes_memory g.O.Sink.keeps l.fn.before l.ended l.fn.out l.out (byte_texts l.bytes) (byte_texts (drop l.byte-index l.bytes))

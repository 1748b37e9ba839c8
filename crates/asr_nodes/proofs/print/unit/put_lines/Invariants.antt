use Rattle.std.proofs.Common.{drop}
use Rattle.ast_nodes.specs.Prints.{Awaits}
use Rattle.asr_nodes.specs.Shapes.{entity_lines}
use Rattle.asr_nodes.proofs.print.unit.put_lines.Given as goal

-- what is left to print
abbrev pub invariant-loop-place : goal.invariant-loop-place
invariant-loop-place g l = Awaits g.O.Sink.contents g.O.Sink.faults g.O.Sink.may_fail g.O.Sink.takes_memory g.O.Sink.keeps l.fn.before l.ended l.fn.out l.out (entity_lines l.asr l.table) (drop l.place (entity_lines l.asr l.table))

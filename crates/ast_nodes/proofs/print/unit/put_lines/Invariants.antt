use Rattle.std.proofs.Common.{drop}
use Rattle.ast_nodes.specs.Prints.{Awaits}
use Rattle.ast_nodes.specs.Text.{line_texts}
use Rattle.ast_nodes.proofs.print.unit.put_lines.Given as goal

-- what is left to print
abbrev pub invariant-loop-unit : goal.invariant-loop-unit
invariant-loop-unit g l = Awaits g.O.Sink.contents g.O.Sink.faults g.O.Sink.may_fail g.O.Sink.takes_memory g.O.Sink.keeps l.fn.before l.ended l.fn.out l.out (line_texts l.units) (line_texts (drop l.unit-index l.units))

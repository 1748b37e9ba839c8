use Rattle.std.proofs.Common.{[], ◌∷◌, ◌++◌, codes, drop}
use Rattle.ast_nodes.specs.Node.{led}
use Rattle.ast_nodes.specs.Prints.{Awaits}
use Rattle.ast_nodes.specs.Text.{range_texts}
use Rattle.ast_nodes.proofs.print.statement.put_ranges.Given as goal

-- what is left to print
abbrev pub invariant-loop-range : goal.invariant-loop-range
invariant-loop-range g l = Awaits g.O.Sink.contents g.O.Sink.faults g.O.Sink.may_fail g.O.Sink.takes_memory g.O.Sink.keeps l.fn.before l.ended l.fn.out l.out (codes " [" ∷ led [] (range_texts l.ranges) ++ (codes "]" ∷ [])) (led l.lead (range_texts (drop l.range-index l.ranges)) ++ (codes "]" ∷ []))

use Rattle.std.proofs.Common.{[], ◌∷◌, ◌++◌, codes, drop}
use Rattle.ast_nodes.specs.Node.{led}
use Rattle.ast_nodes.specs.Prints.{Awaits}
use Rattle.asr_nodes.proofs.print.unit.put_names.Given as goal

-- what is left to print
abbrev pub invariant-loop-name : goal.invariant-loop-name
invariant-loop-name g l = Awaits g.O.Sink.contents g.O.Sink.faults g.O.Sink.may_fail g.O.Sink.takes_memory g.O.Sink.keeps l.fn.before l.ended l.fn.out l.out (codes " [" ∷ led [] l.names ++ (codes "]" ∷ [])) (led l.lead (drop l.name-index l.names) ++ (codes "]" ∷ []))

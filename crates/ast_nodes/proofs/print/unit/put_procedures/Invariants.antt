use Rattle.std.proofs.Common.{[], ◌∷◌, ◌++◌, codes, drop}
use Rattle.ast_nodes.specs.Node.{led}
use Rattle.ast_nodes.specs.Prints.{Awaits}
use Rattle.ast_nodes.specs.Text.{procedure_texts}
use Rattle.ast_nodes.proofs.print.unit.put_procedures.Given as goal

-- what is left to print
abbrev pub invariant-loop-procedure : goal.invariant-loop-procedure
invariant-loop-procedure g l = Awaits g.O.Sink.contents g.O.Sink.faults g.O.Sink.may_fail g.O.Sink.takes_memory g.O.Sink.keeps l.fn.before l.ended l.fn.out l.out (codes " [" ∷ led [] (procedure_texts l.procedures) ++ (codes "]" ∷ [])) (led l.lead (procedure_texts (drop l.procedure-index l.procedures)) ++ (codes "]" ∷ []))

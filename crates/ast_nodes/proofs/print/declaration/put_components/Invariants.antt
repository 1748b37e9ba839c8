use Rattle.std.proofs.Common.{[], ◌∷◌, ◌++◌, codes, drop}
use Rattle.ast_nodes.specs.Node.{led}
use Rattle.ast_nodes.specs.Prints.{Awaits}
use Rattle.ast_nodes.specs.Text.{component_texts}
use Rattle.ast_nodes.proofs.print.declaration.put_components.Given as goal

-- what is left to print
abbrev pub invariant-loop-vars : goal.invariant-loop-vars
invariant-loop-vars g l = Awaits g.O.Sink.contents g.O.Sink.faults g.O.Sink.may_fail g.O.Sink.takes_memory g.O.Sink.keeps l.fn.before l.ended l.fn.out l.out (codes " [" ∷ led [] (component_texts l.components) ++ (codes "]" ∷ [])) (led l.lead (component_texts (drop l.vars-index l.components)) ++ (codes "]" ∷ []))

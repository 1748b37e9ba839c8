use Rattle.std.proofs.Common.{[], ◌∷◌, ◌++◌, codes, drop}
use Rattle.ast_nodes.specs.Node.{led}
use Rattle.ast_nodes.specs.Prints.{Awaits}
use Rattle.ast_nodes.specs.Text.{entity_texts}
use Rattle.ast_nodes.proofs.print.declaration.put_entities.Given as goal

-- what is left to print
abbrev pub invariant-loop-entity : goal.invariant-loop-entity
invariant-loop-entity g l = Awaits g.O.Sink.contents g.O.Sink.faults g.O.Sink.may_fail g.O.Sink.takes_memory g.O.Sink.keeps l.fn.before l.ended l.fn.out l.out (codes " [" ∷ led [] (entity_texts l.entities) ++ (codes "]" ∷ [])) (led l.lead (entity_texts (drop l.entity-index l.entities)) ++ (codes "]" ∷ []))

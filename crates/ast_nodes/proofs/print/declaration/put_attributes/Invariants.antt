use Rattle.std.proofs.Common.{[], ◌∷◌, ◌++◌, codes, drop}
use Rattle.ast_nodes.specs.Node.{led}
use Rattle.ast_nodes.specs.Prints.{Awaits}
use Rattle.ast_nodes.specs.Text.{attribute_texts}
use Rattle.ast_nodes.proofs.print.declaration.put_attributes.Given as goal

-- what is left to print
abbrev pub invariant-loop-attribute : goal.invariant-loop-attribute
invariant-loop-attribute g l = Awaits g.O.Sink.contents g.O.Sink.faults g.O.Sink.may_fail g.O.Sink.takes_memory g.O.Sink.keeps l.fn.before l.ended l.fn.out l.out (codes " [" ∷ led [] (attribute_texts l.attributes) ++ (codes "]" ∷ [])) (led l.lead (attribute_texts (drop l.attribute-index l.attributes)) ++ (codes "]" ∷ []))

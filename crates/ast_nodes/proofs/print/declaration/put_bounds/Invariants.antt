use Rattle.std.proofs.Common.{[], ◌∷◌, ◌++◌, codes, drop}
use Rattle.ast_nodes.specs.Node.{led}
use Rattle.ast_nodes.specs.Prints.{Awaits}
use Rattle.ast_nodes.specs.Text.{bound_texts}
use Rattle.ast_nodes.proofs.print.declaration.put_bounds.Given as goal

-- what is left to print
abbrev pub invariant-loop-bound : goal.invariant-loop-bound
invariant-loop-bound g l = Awaits g.O.Sink.contents g.O.Sink.faults g.O.Sink.may_fail g.O.Sink.takes_memory g.O.Sink.keeps l.fn.before l.ended l.fn.out l.out (codes " [" ∷ led [] (bound_texts l.bounds) ++ (codes "]" ∷ [])) (led l.lead (bound_texts (drop l.bound-index l.bounds)) ++ (codes "]" ∷ []))

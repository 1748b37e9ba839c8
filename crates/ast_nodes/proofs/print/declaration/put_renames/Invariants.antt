use Rattle.std.proofs.Common.{[], ◌∷◌, ◌++◌, codes, drop}
use Rattle.ast_nodes.specs.Node.{led}
use Rattle.ast_nodes.specs.Prints.{Awaits}
use Rattle.ast_nodes.specs.Text.{rename_texts}
use Rattle.ast_nodes.proofs.print.declaration.put_renames.Given as goal

-- what is left to print
abbrev pub invariant-loop-rename : goal.invariant-loop-rename
invariant-loop-rename g l = Awaits g.O.Sink.contents g.O.Sink.faults g.O.Sink.may_fail g.O.Sink.takes_memory g.O.Sink.keeps l.fn.before l.ended l.fn.out l.out (codes " [" ∷ led [] (rename_texts l.renames) ++ (codes "]" ∷ [])) (led l.lead (rename_texts (drop l.rename-index l.renames)) ++ (codes "]" ∷ []))

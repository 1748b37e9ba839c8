use Rattle.std.proofs.Common.{[], ◌∷◌, ◌++◌, codes, drop}
use Rattle.ast_nodes.specs.Node.{led}
use Rattle.ast_nodes.specs.Prints.{Awaits}
use Rattle.ast_nodes.specs.Text.{decl_texts}
use Rattle.ast_nodes.proofs.print.declaration.put_decls.Given as goal

-- what is left to print
abbrev pub invariant-loop-decl : goal.invariant-loop-decl
invariant-loop-decl g l = Awaits g.O.Sink.contents g.O.Sink.faults g.O.Sink.may_fail g.O.Sink.takes_memory g.O.Sink.keeps l.fn.before l.ended l.fn.out l.out (codes " [" ∷ led [] (decl_texts l.decls) ++ (codes "]" ∷ [])) (led l.lead (decl_texts (drop l.decl-index l.decls)) ++ (codes "]" ∷ []))

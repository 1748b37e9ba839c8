use Rattle.std.proofs.Common.{[], ◌∷◌, ◌++◌, codes, drop, map}
use Rattle.ast_nodes.specs.Node.{led}
use Rattle.ast_nodes.specs.Prints.{Awaits}
use Rattle.symtab_arena.specs.Paths.{path_of}
use Rattle.asr_nodes.specs.Text.{path_text}
use Rattle.asr_nodes.proofs.print.path.put_paths.Given as goal

-- what is left to print
abbrev pub invariant-loop-symbol : goal.invariant-loop-symbol
invariant-loop-symbol g l = Awaits g.O.Sink.contents g.O.Sink.faults g.O.Sink.may_fail g.O.Sink.takes_memory g.O.Sink.keeps l.fn.before l.ended l.fn.out l.out (codes " [" ∷ led [] (map path_text (map (path_of l.asr.scopes) l.symbols)) ++ (codes "]" ∷ [])) (led l.lead (map path_text (map (path_of l.asr.scopes) (drop l.symbol-index l.symbols))) ++ (codes "]" ∷ []))

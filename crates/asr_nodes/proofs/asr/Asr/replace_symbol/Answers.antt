use Rattle.std.proofs.Common.{ap, ◌∙◌}
use Rattle.symtab_arena.specs.Changes.{replaced_in}
use Rattle.asr_nodes.specs.Nodes.{Nodes}
use Rattle.asr_nodes.proofs.Symbols.{after_replacing, paths_replaced}
use Rattle.asr_nodes.proofs.asr.Asr.replace_symbol.Goals as goal

pub invariant_of-self : goal.invariant_of-self
invariant_of-self c = after_replacing c.args.self.now _ c.self.view_is c.self.invariant c.args.with c.requires.parts c.args.id _ c.requires.live c.requires.like c.replace_what.ensures.new

pub returns-clause-paths : goal.returns-clause-paths
returns-clause-paths c =
    paths_replaced c.args.self.now.scopes _ c.args.id c.args.with c.requires.live
    (c.replace_what.ensures.new ∙ ap (λ (o : Nodes). replaced_in o.scopes c.args.id c.args.with) c.self.view_is)

use Rattle.std.proofs.Common.{subst}
use Rattle.asr_nodes.specs.Nodes.{Nodes}
use Rattle.asr_nodes.proofs.Symbols.{paths_kept}
use Rattle.asr_nodes.proofs.asr.Asr.build_symbol.Goals as goal
use Rattle.symtab_arena.specs.Links.{Linked}

pub returns-then-owns_table-clause-paths : goal.returns-then-owns_table-clause-paths
returns-then-owns_table-clause-paths c = paths_kept c.args.self.now.scopes c.args.table c.args.name.now c.args.symbol (subst (λ (o : Nodes). Linked o.scopes) c.self.view_is c.linked.ensures) c.requires.there _ c.build_owner.result c.build_owner.ensures.declares

pub returns-else-owns_table-clause-paths : goal.returns-else-owns_table-clause-paths
returns-else-owns_table-clause-paths c = paths_kept c.args.self.now.scopes c.args.table c.args.name.now c.args.symbol (subst (λ (o : Nodes). Linked o.scopes) c.self.view_is c.linked.ensures) c.requires.there _ c.build_plain.result c.build_plain.ensures.declares

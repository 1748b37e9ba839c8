use Rattle.std.proofs.Common.{◌∙◌, ap, swap}
use Rattle.indexmap.proofs.ReorderLemmas.{map-swap}
use Rattle.symtab_arena.proofs.Seen.{seen}
use Rattle.symtab_arena.proofs.names.Names.exchange.Goals as goal

pub returns : goal.returns
returns c =
    ap (seen (λ k. k.items)) c.swap_indices.ensures.entries
    ∙ map-swap (λ e. (e.0.items, e.1)) c.self.inside.entries.entries c.args.first c.args.second
    ∙ ap (λ es. swap es c.args.first c.args.second) c.self.view_is

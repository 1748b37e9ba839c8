use Rattle.std.proofs.Common.{◌∙◌, ap, rules, is_some}
use Rattle.indexmap.proofs.CallerLemmas.{filter-RetainsPairs}
use Rattle.symtab_arena.specs.Entries.{entry_at}
use Rattle.symtab_arena.specs.Names.{those_there}
use Rattle.symtab_arena.proofs.Seen.{seen, filter-seen}
use Rattle.symtab_arena.proofs.names.Names.keep_there.Goals as goal

pub returns : goal.returns
returns g c =
    ap (seen (λ k. k.items)) (filter-RetainsPairs _ (λ e. is_some (entry_at c.args.entries.now e.1.0)) _ (λ k v b w g call. search rules) _ _ c.retain.ensures.filtered)
    ∙ filter-seen (λ k. k.items) (λ s. is_some (entry_at c.args.entries.now s.0)) c.self.inside.entries.entries
    ∙ ap (those_there c.args.entries.now) c.self.view_is

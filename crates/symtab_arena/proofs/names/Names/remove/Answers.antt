use Rattle.std.proofs.Common.{◌∙◌, ap}
use Rattle.std.specs.Map.{remove_entry}
use Rattle.std.specs.Str.{bytes_eq}
use Rattle.symtab_arena.proofs.Seen.{seen, remove-seen}
use Rattle.symtab_arena.proofs.names.Names.remove.Goals as goal

pub returns : goal.returns
returns c =
    ap (seen (λ k. k.items)) c.shift_remove.ensures.entries
    ∙ remove-seen (λ k. k.items) (bytes_eq c.args.name.now) c.self.inside.entries.entries
    ∙ ap (remove_entry (bytes_eq c.args.name.now)) c.self.view_is

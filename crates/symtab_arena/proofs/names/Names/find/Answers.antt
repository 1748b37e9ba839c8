use Rattle.std.proofs.Common.{◌∙◌, ap}
use Rattle.std.specs.Str.{bytes_eq}
use Rattle.symtab_arena.specs.Names.{named}
use Rattle.symtab_arena.proofs.Seen.{lookup-seen}
use Rattle.symtab_arena.proofs.names.Names.find.Goals as goal

pub returns : goal.returns
returns c =
    c.copied.ensures ∙ c.get.ensures.value
    ∙ lookup-seen (λ k. k.items) (bytes_eq c.args.name.now) c.self.inside.entries.entries
    ∙ ap (named c.args.name.now) c.self.view_is

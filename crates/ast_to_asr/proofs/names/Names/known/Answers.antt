use Rattle.std.proofs.Common.{◌∙◌, ap, option_map}
use Rattle.std.specs.Str.{bytes_eq}
use Rattle.symtab_arena.proofs.Seen.{lookup-seen}
use Rattle.ast_to_asr.specs.Known.{known_in, entity_known}
use Rattle.ast_to_asr.proofs.Entries.{entity_found}
use Rattle.ast_to_asr.proofs.names.Names.known.Goals as goal

pub returns-clause-known : goal.returns-clause-known
returns-clause-known c =
    c.copied.ensures ∙ c.get.ensures.value
    ∙ lookup-seen (λ k. k.items) (bytes_eq c.args.name.now) c.self.inside.entries.entries
    ∙ ap (λ entries. known_in entries c.args.name.now) c.self.view_is

pub returns-clause-entity : goal.returns-clause-entity
returns-clause-entity c = ap (option_map entity_known) (returns-clause-known c) ∙ entity_found c.args.self.now c.args.name.now

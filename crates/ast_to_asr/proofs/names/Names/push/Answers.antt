use Rattle.std.proofs.Common.{◌∙◌, ap, sym, [], ◌∷◌, ◌++◌}
use Rattle.std.proofs.lemmas.List.{map-append}
use Rattle.std.specs.Str.{bytes_eq}
use Rattle.indexmap.proofs.CallerLemmas.{insert_entry-new}
use Rattle.symtab_arena.proofs.Seen.{seen, lookup-seen}
use Rattle.ast_to_asr.specs.Known.{known_in, with_new}
use Rattle.ast_to_asr.proofs.names.Names.push.Goals as goal

pub returns-clause-ok : goal.returns-clause-ok
returns-clause-ok c =
    let map = c.self.inside.entries in
    let absent = lookup-seen (λ k. k.items) (bytes_eq c.args.name.items) map.entries ∙ ap (λ es. known_in es c.args.name.items) c.self.view_is ∙ c.requires in
    ap (seen (λ k. k.items)) (c.in-Ok.ensures.entries ∙ insert_entry-new (λ x y. bytes_eq x.items y.items) map c.args.name c.args.known absent)
    ∙ map-append (λ e. (e.0.items, e.1)) map.entries ((c.args.name, c.args.known) ∷ [])
    ∙ ap (λ xs. xs ++ (c.args.name.items, c.args.known) ∷ []) c.self.view_is
    ∙ sym (ap (with_new c.args.self.now c.args.name.items c.args.known) c.requires)

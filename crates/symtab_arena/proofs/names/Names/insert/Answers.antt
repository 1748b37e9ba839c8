use Rattle.std.proofs.Common.{◌∙◌, ap, ◌∷◌, [], ◌++◌}
use Rattle.indexmap.specs.IndexMap.{move_index}
use Rattle.symtab_arena.proofs.Seen.{seen, map-move_index, move_index-last}
use Rattle.symtab_arena.proofs.names.Names.insert.Goals as goal

pub returns-then-place-last-clause-ok : goal.returns-then-place-last-clause-ok
returns-then-place-last-clause-ok c =
    let pushed = c.self.view_is ∙ c.in_ok-push.ensures.ok in
    ap (seen (λ k. k.items)) c.move_index.ensures.entries
    ∙ map-move_index (λ e. (e.0.items, e.1)) c.self.inside.entries.entries c.len-last.result c.args.place
    ∙ ap (λ xs. move_index xs c.len-last.result c.args.place) pushed
    ∙ ap (λ n. move_index (c.args.self.now ++ (c.args.name.items, c.args.symbol) ∷ []) n c.args.place) c.len-last.ensures
    ∙ move_index-last c.args.self.now (c.args.name.items, c.args.symbol) c.args.place

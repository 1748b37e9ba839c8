use Rattle.std.proofs.Common.{ap, ◌∙◌, [], ◌∷◌, ◌++◌, Some, None}
use Rattle.symtab_arena.proofs.LinkLemmas.{new_links}
use Rattle.symtab_arena.proofs.arena.Arena.keyed.Goals as goal

pub invariant_of-result : goal.invariant_of-result
invariant_of-result g c =
    new_links c.push.new.self.items c.new-in-Ok.result.items
    (c.in-Ok.ensures.items
    ∙ ap (λ xs. xs ++ Some (record { parent = None; owner = None; names = c.new.result }) ∷ []) c.new-tables.ensures.items
    ∙ ap (λ names. Some (record { parent = None; owner = None; names = names }) ∷ []) c.new.ensures)
    c.new-in-Ok.ensures.items

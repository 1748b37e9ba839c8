use Rattle.std.proofs.Common.{sym, ap, ◌∙◌}
use Rattle.std.specs.Option.{option_and_then}
use Rattle.symtab_arena.specs.Changes.{with_names}
use Rattle.symtab_arena.specs.Names.{without}
use Rattle.symtab_arena.specs.Scopes.{owned_by}
use Rattle.symtab_arena.proofs.RemovalLemmas.{removed_keeps, one_live}
use Rattle.symtab_arena.proofs.arena.Arena.remove.Goals as goal

pub overflow_sub-self : goal.overflow_sub-self
overflow_sub-self g c =
    one_live (record { tables = c.self.inside.tables.items; symbols = c.self.inside.symbols.items })
    c.args.symbol c.take-name.result c.self.invariant.0 c.take-name.ensures.taken c.self.inside.live c.self.invariant.1

pub invariant_of-self : goal.invariant_of-self
invariant_of-self g c =
    let kept = removed_keeps (record { tables = c.self.inside.tables.items; symbols = c.self.inside.symbols.items })
    c.args.symbol c.take-name.result c.self.invariant.0 c.take-name.ensures.taken
    (sym (ap (option_and_then (λ v. v.owned)) c.take-name.ensures.taken) ∙ ap (λ a. owned_by a c.args.symbol) c.self.view_is ∙ c.requires.owns_none)
    c.remove_name.new.tables.items c.take-name.new.entries.items c.self.inside.live c.self.invariant.1
    (c.remove_name.ensures ∙ ap (λ n. with_names c.self.inside.tables.items c.take-name.result.table (without n)) c.bytes.ensures)
    c.take-name.ensures.left in
    (kept.0, kept.1)

use Rattle.std.proofs.Common.{sym, ap, subst, ◌∙◌, is_some}
use Rattle.std.specs.List.{count_by}
use Rattle.symtab_arena.specs.Changes.{with_names, removed_from, OwnsNoOwner}
use Rattle.symtab_arena.specs.Entries.{entry_at}
use Rattle.symtab_arena.specs.Names.{without}
use Rattle.symtab_arena.specs.Tables.{names_at, cleared}
use Rattle.symtab_arena.proofs.RemovalLemmas.{owned_there, table_left, fewer_live, removed_owned_keeps}
use Rattle.symtab_arena.proofs.arena.Arena.remove_owned.Goals as goal

pub drop_scope-inside-requires : goal.drop_scope-inside-requires
drop_scope-inside-requires g c =
    owned_there (record { tables = c.self.inside.tables.items; symbols = c.self.inside.symbols.items })
    c.args.symbol c.take-name.result c.self.invariant.0 c.take-name.ensures.taken c.unwrap.result c.unwrap.ensures

pub remove_name-requires : goal.remove_name-requires
remove_name-requires g c =
    ap (λ xs. is_some (entry_at xs c.take-name.result.table.0)) c.drop_scope-inside.ensures.table
    ∙ table_left (record { tables = c.self.inside.tables.items; symbols = c.self.inside.symbols.items })
    c.args.symbol c.take-name.result c.self.invariant.0 c.take-name.ensures.taken c.unwrap.result c.unwrap.ensures

pub overflow_sub-self : goal.overflow_sub-self
overflow_sub-self g c =
    fewer_live (record { tables = c.self.inside.tables.items; symbols = c.self.inside.symbols.items })
    c.args.symbol c.take-name.result c.self.invariant.0 c.take-name.ensures.taken
    c.drop_scope-inside.result (count_by is_some c.drop_scope-inside.new.symbols.items) c.self.inside.live c.self.invariant.1
    (c.drop_scope-inside.ensures.count ∙ ap (λ xs. count_by is_some xs) c.take-name.ensures.left)

pub invariant_of-self : goal.invariant_of-self
invariant_of-self g c =
    let kept = removed_owned_keeps (record { tables = c.self.inside.tables.items; symbols = c.self.inside.symbols.items })
    c.args.symbol c.take-name.result c.self.invariant.0 c.take-name.ensures.taken
    c.unwrap.result c.unwrap.ensures
    (subst (λ a. OwnsNoOwner a c.args.symbol) (sym c.self.view_is) c.requires.childless)
    c.remove_name.new.tables.items c.drop_scope-inside.new.symbols.items c.self.inside.live c.drop_scope-inside.result c.self.invariant.1
    (c.remove_name.ensures
    ∙ (λ i. with_names (c.drop_scope-inside.ensures.table i) c.take-name.result.table (without (c.bytes.ensures i))))
    (c.drop_scope-inside.ensures.left ∙ ap (cleared (names_at c.self.inside.tables.items c.unwrap.result.0)) c.take-name.ensures.left)
    (c.drop_scope-inside.ensures.count ∙ ap (λ xs. count_by is_some xs) c.take-name.ensures.left) in
    (kept.0, kept.1)

pub returns-clause-removed : goal.returns-clause-removed
returns-clause-removed g c =
    let kept = removed_owned_keeps (record { tables = c.self.inside.tables.items; symbols = c.self.inside.symbols.items })
    c.args.symbol c.take-name.result c.self.invariant.0 c.take-name.ensures.taken
    c.unwrap.result c.unwrap.ensures
    (subst (λ a. OwnsNoOwner a c.args.symbol) (sym c.self.view_is) c.requires.childless)
    c.remove_name.new.tables.items c.drop_scope-inside.new.symbols.items c.self.inside.live c.drop_scope-inside.result c.self.invariant.1
    (c.remove_name.ensures
    ∙ (λ i. with_names (c.drop_scope-inside.ensures.table i) c.take-name.result.table (without (c.bytes.ensures i))))
    (c.drop_scope-inside.ensures.left ∙ ap (cleared (names_at c.self.inside.tables.items c.unwrap.result.0)) c.take-name.ensures.left)
    (c.drop_scope-inside.ensures.count ∙ ap (λ xs. count_by is_some xs) c.take-name.ensures.left) in
    kept.2 ∙ ap (λ a. removed_from a c.args.symbol) c.self.view_is

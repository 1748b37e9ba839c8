use Rattle.std.proofs.Common.{sym, ap, subst, ◌∙◌, All}
use Rattle.symtab_arena.specs.Changes.{with_names, removed_each, IsShallowIn}
use Rattle.symtab_arena.specs.Names.{those_there}
use Rattle.symtab_arena.specs.Scopes.{HasTable, names_in}
use Rattle.symtab_arena.proofs.OwnerLemmas.{table_after, owners_keep}
use Rattle.symtab_arena.proofs.arena.Arena.remove_all_owned.Goals as goal

pub keep_there-requires : goal.keep_there-requires
keep_there-requires g c =
    table_after c.args.table c.args.gone.now (record { tables = c.self.inside.tables.items; symbols = c.self.inside.symbols.items }) c.self.invariant.0
    (subst (λ a. HasTable a c.args.table) (sym c.self.view_is) c.requires.there)
    (subst (λ a. All (IsShallowIn a c.args.table) c.args.gone.now) (sym c.self.view_is) c.requires.shallow)
    c.clear_owners-count.new.tables.items c.clear_owners-count.new.symbols.items c.clear_owners-count.ensures.left

pub invariant_of-self : goal.invariant_of-self
invariant_of-self g c =
    let kept = owners_keep c.args.table c.args.gone.now (record { tables = c.self.inside.tables.items; symbols = c.self.inside.symbols.items }) c.self.invariant.0
    (subst (λ a. HasTable a c.args.table) (sym c.self.view_is) c.requires.there)
    (subst (λ a. All (IsShallowIn a c.args.table) c.args.gone.now) (sym c.self.view_is) c.requires.shallow)
    c.clear_owners-count.new.tables.items c.keep_there.new.tables.items c.clear_owners-count.new.symbols.items c.self.inside.live c.clear_owners-count.result
    c.self.invariant.1 c.clear_owners-count.ensures.left
    (c.keep_there.ensures ∙ ap (λ xs. with_names c.clear_owners-count.new.tables.items c.args.table (those_there xs)) c.deref.ensures.value)
    c.clear_owners-count.ensures.count in
    (kept.0, kept.1)

pub returns-clause-removed : goal.returns-clause-removed
returns-clause-removed g c =
    let kept = owners_keep c.args.table c.args.gone.now (record { tables = c.self.inside.tables.items; symbols = c.self.inside.symbols.items }) c.self.invariant.0
    (subst (λ a. HasTable a c.args.table) (sym c.self.view_is) c.requires.there)
    (subst (λ a. All (IsShallowIn a c.args.table) c.args.gone.now) (sym c.self.view_is) c.requires.shallow)
    c.clear_owners-count.new.tables.items c.keep_there.new.tables.items c.clear_owners-count.new.symbols.items c.self.inside.live c.clear_owners-count.result
    c.self.invariant.1 c.clear_owners-count.ensures.left
    (c.keep_there.ensures ∙ ap (λ xs. with_names c.clear_owners-count.new.tables.items c.args.table (those_there xs)) c.deref.ensures.value)
    c.clear_owners-count.ensures.count in
    kept.2 ∙ ap (λ a. removed_each a c.args.gone.now) c.self.view_is

pub returns-clause-order : goal.returns-clause-order
returns-clause-order g c =
    let kept = owners_keep c.args.table c.args.gone.now (record { tables = c.self.inside.tables.items; symbols = c.self.inside.symbols.items }) c.self.invariant.0
    (subst (λ a. HasTable a c.args.table) (sym c.self.view_is) c.requires.there)
    (subst (λ a. All (IsShallowIn a c.args.table) c.args.gone.now) (sym c.self.view_is) c.requires.shallow)
    c.clear_owners-count.new.tables.items c.keep_there.new.tables.items c.clear_owners-count.new.symbols.items c.self.inside.live c.clear_owners-count.result
    c.self.invariant.1 c.clear_owners-count.ensures.left
    (c.keep_there.ensures ∙ ap (λ xs. with_names c.clear_owners-count.new.tables.items c.args.table (those_there xs)) c.deref.ensures.value)
    c.clear_owners-count.ensures.count in
    kept.3 ∙ ap (λ a. those_there c.clear_owners-count.new.symbols.items (names_in a c.args.table)) c.self.view_is

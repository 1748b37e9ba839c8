use Rattle.std.proofs.Common.{sym, ap, subst, ◌∙◌, All}
use Rattle.symtab_arena.specs.Changes.{with_names, removed_each, IsPlainIn}
use Rattle.symtab_arena.specs.Names.{those_there}
use Rattle.symtab_arena.specs.Scopes.{HasTable, names_in}
use Rattle.symtab_arena.proofs.BulkLemmas.{bulk_keeps}
use Rattle.symtab_arena.proofs.arena.Arena.remove_all.Goals as goal

pub invariant_of-self : goal.invariant_of-self
invariant_of-self g c =
    let kept = bulk_keeps c.args.table c.args.gone.now (record { tables = c.self.inside.tables.items; symbols = c.self.inside.symbols.items }) c.self.invariant.0
    (subst (λ a. HasTable a c.args.table) (sym c.self.view_is) c.requires.there)
    (subst (λ a. All (IsPlainIn a c.args.table) c.args.gone.now) (sym c.self.view_is) c.requires.plain)
    c.keep_there.new.tables.items c.clear_each-count.new.symbols.items c.self.inside.live c.clear_each-count.result c.self.invariant.1
    (c.keep_there.ensures ∙ ap (λ xs. with_names c.self.inside.tables.items c.args.table (those_there xs)) c.deref.ensures.value)
    c.clear_each-count.ensures.left c.clear_each-count.ensures.count in
    (kept.0, kept.1)

pub returns-clause-removed : goal.returns-clause-removed
returns-clause-removed g c =
    let kept = bulk_keeps c.args.table c.args.gone.now (record { tables = c.self.inside.tables.items; symbols = c.self.inside.symbols.items }) c.self.invariant.0
    (subst (λ a. HasTable a c.args.table) (sym c.self.view_is) c.requires.there)
    (subst (λ a. All (IsPlainIn a c.args.table) c.args.gone.now) (sym c.self.view_is) c.requires.plain)
    c.keep_there.new.tables.items c.clear_each-count.new.symbols.items c.self.inside.live c.clear_each-count.result c.self.invariant.1
    (c.keep_there.ensures ∙ ap (λ xs. with_names c.self.inside.tables.items c.args.table (those_there xs)) c.deref.ensures.value)
    c.clear_each-count.ensures.left c.clear_each-count.ensures.count in
    kept.2 ∙ ap (λ a. removed_each a c.args.gone.now) c.self.view_is

pub returns-clause-order : goal.returns-clause-order
returns-clause-order g c =
    let kept = bulk_keeps c.args.table c.args.gone.now (record { tables = c.self.inside.tables.items; symbols = c.self.inside.symbols.items }) c.self.invariant.0
    (subst (λ a. HasTable a c.args.table) (sym c.self.view_is) c.requires.there)
    (subst (λ a. All (IsPlainIn a c.args.table) c.args.gone.now) (sym c.self.view_is) c.requires.plain)
    c.keep_there.new.tables.items c.clear_each-count.new.symbols.items c.self.inside.live c.clear_each-count.result c.self.invariant.1
    (c.keep_there.ensures ∙ ap (λ xs. with_names c.self.inside.tables.items c.args.table (those_there xs)) c.deref.ensures.value)
    c.clear_each-count.ensures.left c.clear_each-count.ensures.count in
    kept.3 ∙ ap (λ a. those_there c.clear_each-count.new.symbols.items (names_in a c.args.table)) c.self.view_is

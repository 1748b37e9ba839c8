use Rattle.std.proofs.Common.{sym, ap, ◌∙◌, []}
use Rattle.std.specs.Option.{option_map_or}
use Rattle.symtab_arena.specs.Entries.{entry_at}
use Rattle.symtab_arena.specs.Tables.{cleared}
use Rattle.symtab_arena.proofs.EntryLemmas.{set_none-nothing}
use Rattle.symtab_arena.proofs.table.clear_scope.Goals as goal

pub returns-in-None-clause-table : goal.returns-in-None-clause-table
returns-in-None-clause-table g c =
    sym (set_none-nothing c.args.tables.now.items c.args.table.0 (ap (λ xs. entry_at xs c.args.table.0) (sym c.deref.ensures.value) ∙ sym c.in-None.ensures))

pub returns-in-None-clause-left : goal.returns-in-None-clause-left
returns-in-None-clause-left g c =
    sym (ap (λ o. cleared (option_map_or (λ x. x.names) o []) c.args.symbols.now.items)
    (ap (λ xs. entry_at xs c.args.table.0) (sym c.deref.ensures.value) ∙ sym c.in-None.ensures))

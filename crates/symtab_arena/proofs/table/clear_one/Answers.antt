use Rattle.std.proofs.Common.{sym, ap, ◌∙◌, ◌+◌, is_some}
use Rattle.std.specs.List.{count_by}
use Rattle.symtab_arena.specs.Entries.{entry_at}
use Rattle.symtab_arena.proofs.EntryLemmas.{set_none-nothing, count-set_none}
use Rattle.symtab_arena.proofs.table.clear_one.Goals as goal

pub returns-clause-count : goal.returns-clause-count
returns-clause-count g c =
    ap (λ xs. count_by is_some xs + 1) c.take.ensures.left ∙ count-set_none c.args.symbols.now.items c.args.symbol.0 c.take.result c.take.ensures.taken

pub returns-in-None-clause-left : goal.returns-in-None-clause-left
returns-in-None-clause-left g c =
    sym (set_none-nothing c.args.symbols.now.items c.args.symbol.0 (ap (λ xs. entry_at xs c.args.symbol.0) (sym c.deref.ensures.value) ∙ sym c.in-None.ensures))

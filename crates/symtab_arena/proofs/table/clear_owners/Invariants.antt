use Rattle.std.proofs.Common.{◌≡◌, ◌+◌, drop, is_some}
use Rattle.std.specs.List.{count_by}
use Rattle.symtab_arena.specs.Scopes.{scopes_of}
use Rattle.symtab_arena.specs.Tables.{taken_out_each}
use Rattle.symtab_arena.proofs.table.clear_owners.Given as goal

abbrev pub invariant-loop-symbol : goal.invariant-loop-symbol
invariant-loop-symbol g l = record {
  left : taken_out_each (scopes_of l.tables.items l.symbols.items) (drop l.symbol-index l.gone)
      ≡ taken_out_each (scopes_of l.fn.tables.items l.fn.symbols.items) l.gone;
  count : count_by is_some l.symbols.items + l.count ≡ count_by is_some l.fn.symbols.items;
}

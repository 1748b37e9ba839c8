use Rattle.std.proofs.Common.{◌≡◌, ◌+◌, ◌≤◌, drop, is_some}
use Rattle.std.specs.List.{count_by}
use Rattle.symtab_arena.specs.Tables.{without_each}
use Rattle.symtab_arena.proofs.table.clear_each.Given as goal

abbrev pub invariant-loop-symbol : goal.invariant-loop-symbol
invariant-loop-symbol g l = record {
  left : without_each (drop l.symbol-index l.gone) l.symbols.items ≡ without_each l.gone l.fn.symbols.items;
  count : count_by is_some l.symbols.items + l.count ≡ count_by is_some l.fn.symbols.items;
  within : l.count ≤ l.symbol-index;
}

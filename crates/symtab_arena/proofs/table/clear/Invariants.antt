use Rattle.std.proofs.Common.{◌≡◌, ◌+◌, ◌≤◌, drop, is_some}
use Rattle.std.specs.List.{count_by}
use Rattle.symtab_arena.specs.Tables.{cleared}
use Rattle.symtab_arena.proofs.table.clear.Given as goal

abbrev pub invariant-loop-place : goal.invariant-loop-place
invariant-loop-place g l = record {
  left : cleared (drop l.place l.names) l.symbols.items ≡ cleared l.names l.fn.symbols.items;
  count : count_by is_some l.symbols.items + l.gone ≡ count_by is_some l.fn.symbols.items;
  within : l.gone ≤ l.place;
}

-- The names of a table in a list of tables by number, and the things whose numbers they list.
use Rattle.std.specs.Prelude.{ℕ, List, [], ◌∷◌, Option, Some, None, slice_set}
use Rattle.std.specs.Option.{option_map_or}
use Rattle.lf_base.specs.declared.id.SymId.{SymId}
use Rattle.lf_base.specs.declared.id.TableId.{TableId}
use Rattle.symtab_arena.specs.Entries.{entry_at}
use Rattle.symtab_arena.specs.Names.{Names}
use Rattle.symtab_arena.specs.Scopes.{Scopes, owned_by}
use Rattle.symtab_arena.specs.declared.table.Table.{Table}

-- the names of the table with this number, with their symbols, in declaration order
abbrev pub names_at : List (Option Table) → ℕ → Names
names_at tables n = option_map_or (λ x. x.names) (entry_at tables n) []

-- without the things at these numbers
abbrev pub without_each : {X : Type 0} → List SymId → List (Option X) → List (Option X)
without_each [] xs = xs
without_each (s ∷ ss) xs = without_each ss (slice_set xs s.0 None)

-- without the things at the numbers of the symbols that are listed
abbrev pub cleared : {X : Type 0} → Names → List (Option X) → List (Option X)
cleared [] xs = xs
cleared (e ∷ es) xs = cleared es (slice_set xs e.1.0 None)

-- without a symbol, and without this table and the symbols that it lists, where there is one
abbrev pub taken_with : {K : Type 0} → Option TableId → Scopes K → SymId → Scopes K
taken_with None a s = record { tables = a.tables; symbols = slice_set a.symbols s.0 None }
taken_with (Some t) a s = record {
  tables = slice_set a.tables t.0 None;
  symbols = cleared (names_at a.tables t.0) (slice_set a.symbols s.0 None);
}

-- without a symbol, the table that it owns and the symbols in that table, but its name stays listed
abbrev pub taken_out : {K : Type 0} → Scopes K → SymId → Scopes K
taken_out a s = taken_with (owned_by a s) a s

-- the same of each of these symbols, one behind another
abbrev pub taken_out_each : {K : Type 0} → Scopes K → List SymId → Scopes K
taken_out_each a [] = a
taken_out_each a (s ∷ ss) = taken_out_each (taken_out a s) ss

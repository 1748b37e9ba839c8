-- What a declaration, a removal and a change of what a symbol stands for make of the tables and symbols. Nothing else
-- changes, and the numbers that were given stay given.
use Rattle.std.specs.Prelude.{◌≡◌, ℕ, ◌==◌, List, length, [], ◌∷◌, ◌++◌, map, insert, slice_set, Option, Some, None, if◌then◌else◌}
use Rattle.std.specs.Option.{option_map, option_map_or}
use Rattle.lf_base.specs.declared.id.SymId.{SymId}
use Rattle.lf_base.specs.declared.id.TableId.{TableId}
use Rattle.symtab_arena.specs.Entries.{entry_at}
use Rattle.symtab_arena.specs.Names.{Names, without, moved_before}
use Rattle.symtab_arena.specs.Scopes.{Scopes, symbol_at, names_in, next_symbol, next_table, table_of, owned_by}
use Rattle.symtab_arena.specs.declared.table.Table.{Table}
use Rattle.symtab_arena.specs.declared.table.Symbol.{Symbol}

-- with other names in one table
abbrev pub renamed : (Names → Names) → Table → Table
renamed change x = record x { names = change x.names }

abbrev pub with_names : List (Option Table) → TableId → (Names → Names) → List (Option Table)
with_names tables t change = slice_set tables t.0 (option_map (renamed change) (entry_at tables t.0))

-- a symbol that does not stand in the table
abbrev pub outside : {K : Type 0} → TableId → Option (Symbol K) → Option (Symbol K)
outside t None = None
outside t (Some y) = if y.table.0 == t.0 then None else Some y

-- a symbol that stands for something else
abbrev pub standing_for : {K : Type 0} → K → Symbol K → Symbol K
standing_for what y = record y { what = what }

module _ {K : Type 0} (a : Scopes K) where
  -- with a symbol of this name at a place of a table's declaration order
  abbrev pub declared_in : TableId → ℕ → List ℕ → K → Scopes K
  declared_in t place name what = record {
    tables = with_names a.tables t (λ names. insert names place (name, next_symbol a));
    symbols = a.symbols ++ Some (record { name = name; table = t; owned = None; what = what }) ∷ [];
  }

  -- the same, last in the declaration order
  abbrev pub declared_last : TableId → List ℕ → K → Scopes K
  declared_last t name what = declared_in t (length (names_in a t)) name what

  -- with a symbol that owns a new empty table besides
  abbrev pub owner_declared_in : TableId → ℕ → List ℕ → K → Scopes K
  owner_declared_in t place name what = record {
    tables = with_names a.tables t (λ names. insert names place (name, next_symbol a))
        ++ Some (record { parent = Some t; owner = Some (next_symbol a); names = [] }) ∷ [];
    symbols = a.symbols ++ Some (record { name = name; table = t; owned = Some (next_table a); what = what }) ∷ [];
  }

  -- with something else that a symbol stands for
  abbrev pub replaced_in : SymId → K → Scopes K
  replaced_in s what = record a { symbols = slice_set a.symbols s.0 (option_map (standing_for what) (symbol_at a s)) }

  -- without a table and the symbols in it, where there is one
  abbrev pub without_table : Option TableId → Scopes K
  without_table None = a
  without_table (Some t) = record { tables = slice_set a.tables t.0 None; symbols = map (outside t) a.symbols }

  -- with the symbols of a table from one place on moved before those from an earlier place on
  abbrev pub moved_in : TableId → ℕ → ℕ → Scopes K
  moved_in t from to = record a { tables = with_names a.tables t (moved_before from to) }

-- without a symbol, the table that it owns and the symbols in that table
abbrev pub removed_from : {K : Type 0} → Scopes K → SymId → Scopes K
removed_from a s = option_map_or
    (λ y. record {
      tables = with_names (without_table a y.owned).tables y.table (without y.name);
      symbols = slice_set (without_table a y.owned).symbols s.0 None;
    })
    (symbol_at a s) a

-- no symbol of the table that a symbol owns owns a table
abbrev pub OwnsNoOwner : {K : Type 0} → Scopes K → SymId → Type 0
OwnsNoOwner a s = (u : SymId) → table_of a u ≡ owned_by a s → owned_by a u ≡ None

-- without each of these symbols, one behind another
abbrev pub removed_each : {K : Type 0} → Scopes K → List SymId → Scopes K
removed_each a [] = a
removed_each a (s ∷ ss) = removed_each (removed_from a s) ss

-- A symbol that, where it is live, stands in this table and owns none.
abbrev pub IsPlainIn : {K : Type 0} → Scopes K → TableId → SymId → Type 0
IsPlainIn {K} a t s = (y : Symbol K) → symbol_at a s ≡ Some y → (y.table ≡ t) × (y.owned ≡ None)

-- A symbol that, where it is live, stands in this table, and in the table that it owns no symbol owns one.
abbrev pub IsShallowIn : {K : Type 0} → Scopes K → TableId → SymId → Type 0
IsShallowIn {K} a t s = (y : Symbol K) → symbol_at a s ≡ Some y → (y.table ≡ t) × OwnsNoOwner a s

-- Tables of symbols by number. A table stands for a scope, and its names identify the entities of that scope
-- (ISO/IEC 1539-1:2018, 19.1 and 19.3). The parent of a table is its host, whose names are seen in it too (19.5.1.4).
use Rattle.std.specs.Prelude.{◌≡◌, ℕ, zero, suc, List, [], ◌∷◌, length, Option, Some, None, true, is_some, count_by, slice_get}
use Rattle.std.specs.Option.{option_map, option_map_or, option_and_then, option_or}
use Rattle.lf_base.specs.declared.id.SymId.{SymId}
use Rattle.lf_base.specs.declared.id.TableId.{TableId}
use Rattle.symtab_arena.specs.Entries.{entry_at}
use Rattle.symtab_arena.specs.Names.{Names, named}
use Rattle.symtab_arena.specs.declared.table.Table.{Table}
use Rattle.symtab_arena.specs.declared.table.Symbol.{Symbol}

-- At each number that was given stands the table or the symbol, or nothing once it was taken out.
pub record Scopes (K : Type 0) : Type 0 where
  pub tables : List (Option Table)
  pub symbols : List (Option (Symbol K))

abbrev pub symbol_id : ℕ → SymId
symbol_id n = record { 0 = n }

abbrev pub table_id : ℕ → TableId
table_id n = record { 0 = n }

abbrev pub scopes_of : {K : Type 0} → List (Option Table) → List (Option (Symbol K)) → Scopes K
scopes_of tables symbols = record { tables = tables; symbols = symbols }

-- how many numbers of symbols there are
abbrev pub symbol_numbers : ℕ
symbol_numbers = 1048576

-- the root table, number 0, with no symbol
abbrev pub the_root : {K : Type 0} → Scopes K
the_root = record { tables = Some (record { parent = None; owner = None; names = [] }) ∷ []; symbols = [] }

module _ {K : Type 0} (a : Scopes K) where
  -- the numbers that come next
  abbrev pub next_symbol : SymId
  next_symbol = symbol_id (length a.symbols)

  abbrev pub next_table : TableId
  next_table = table_id (length a.tables)

  abbrev pub table_at : TableId → Option Table
  table_at t = entry_at a.tables t.0

  abbrev pub HasTable : TableId → Type 0
  HasTable t = is_some (table_at t) ≡ true

  abbrev pub symbol_at : SymId → Option (Symbol K)
  symbol_at s = entry_at a.symbols s.0

  abbrev pub IsLive : SymId → Type 0
  IsLive s = is_some (symbol_at s) ≡ true

  -- how many symbols are live
  abbrev pub live_count : ℕ
  live_count = count_by is_some a.symbols

  -- the names of a table with their symbols, in declaration order
  abbrev pub names_in : TableId → Names
  names_in t = option_map_or (λ x. x.names) (table_at t) []

  -- the symbol at a place of the declaration order
  abbrev pub symbol_in_place : TableId → ℕ → Option SymId
  symbol_in_place t place = option_map (λ e. e.1) (slice_get (names_in t) place)

  -- the symbol of a name in a table
  abbrev pub symbol_in : TableId → List ℕ → Option SymId
  symbol_in t name = named name (names_in t)

  abbrev pub parent_of : TableId → Option TableId
  parent_of t = option_and_then (λ x. x.parent) (table_at t)

  abbrev pub owner_of : TableId → Option SymId
  owner_of t = option_and_then (λ x. x.owner) (table_at t)

  -- the symbol of a name in the first of n tables that has it: the table, its parent, and so on
  abbrev pub symbol_within : ℕ → TableId → List ℕ → Option SymId
  symbol_within zero t name = None
  symbol_within (suc n) t name =
      option_or (symbol_in t name) (option_and_then (λ p. symbol_within n p name) (parent_of t))

  -- the symbol that a name means in a table: no way to the root is longer than the number of tables
  abbrev pub symbol_seen : TableId → List ℕ → Option SymId
  symbol_seen t name = symbol_within (length a.tables) t name

  -- the table that a symbol owns
  abbrev pub owned_by : SymId → Option TableId
  owned_by s = option_and_then (λ y. y.owned) (symbol_at s)

  -- the table in which a symbol stands, its name, and what it stands for
  abbrev pub table_of : SymId → Option TableId
  table_of s = option_map (λ y. y.table) (symbol_at s)

  abbrev pub name_of : SymId → Option (List ℕ)
  name_of s = option_map (λ y. y.name) (symbol_at s)

  abbrev pub what_of : SymId → Option K
  what_of s = option_map (λ y. y.what) (symbol_at s)

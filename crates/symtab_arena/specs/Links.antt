-- How tables and symbols name one another: scopes nest, and each but the outermost belongs to one entity of the scope
-- around it (ISO/IEC 1539-1:2018, 19.1, 19.3.1 and 19.5.1.4).
use Rattle.std.specs.Prelude.{◌≡◌, ◌≢◌, ℕ, ◌+◌, ◌<◌, ◌≤◌, List, length, Some, None}
use Rattle.lf_base.specs.declared.id.SymId.{SymId}
use Rattle.lf_base.specs.declared.id.TableId.{TableId}
use Rattle.symtab_arena.specs.Names.{AreDistinct}
use Rattle.symtab_arena.specs.Scopes.{Scopes, symbol_numbers, table_id, symbol_at, names_in, symbol_in, parent_of, owner_of, HasTable}
use Rattle.symtab_arena.specs.declared.table.Symbol.{Symbol}

module _ {K : Type 0} (a : Scopes K) where
  -- A table is owned by one live symbol, which names it. Its parent is the table in which that symbol stands, and has
  -- a smaller number, so that the parents lead to the root.
  pub record HasOwner (t : TableId) : Type 0 where
    pub owner : SymId
    pub symbol : Symbol K
    pub owner_is : owner_of a t ≡ Some owner
    pub live : symbol_at a owner ≡ Some symbol
    pub owns : symbol.owned ≡ Some t
    pub parent_is : parent_of a t ≡ Some symbol.table
    pub falls : symbol.table.0 < t.0

  -- A live symbol stands in this table under this name.
  pub record StandsIn (t : TableId) (name : List ℕ) (s : SymId) : Type 0 where
    pub symbol : Symbol K
    pub live : symbol_at a s ≡ Some symbol
    pub in_table : symbol.table ≡ t
    pub has_name : symbol.name ≡ name

  -- The links of every arena.
  pub record Linked : Type 0 where
    -- The root is there, with no parent and no owner. Every other table has both.
    pub root : HasTable a (table_id 0)
    pub root_parent : parent_of a (table_id 0) ≡ None
    pub root_owner : owner_of a (table_id 0) ≡ None
    pub owners : (t : TableId) → HasTable a t → t.0 ≢ 0 → HasOwner t
    -- A symbol that owns a table is the owner that the table names, so no two own one table.
    pub owned : (s : SymId) (y : Symbol K) (t : TableId)
        → symbol_at a s ≡ Some y → y.owned ≡ Some t → owner_of a t ≡ Some s
    -- A live symbol stands in the table that it names, under its name, and what stands in a table is live and names it.
    pub stands : (s : SymId) (y : Symbol K) → symbol_at a s ≡ Some y → symbol_in a y.table y.name ≡ Some s
    pub lists : (t : TableId) (name : List ℕ) (s : SymId) → symbol_in a t name ≡ Some s → StandsIn t name s
    -- The names of a table are distinct.
    pub distinct : (t : TableId) → AreDistinct (names_in a t)
    -- No more symbols were declared than there are numbers, nor more tables besides the root.
    pub symbols_given : length a.symbols ≤ symbol_numbers
    pub tables_given : length a.tables ≤ length a.symbols + 1

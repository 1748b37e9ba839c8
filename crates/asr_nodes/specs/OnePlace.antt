-- How many places an expression or a statement has in trees, and that each of some trees has one place alone: then what is
-- edited below one part of a node changes no other part.
use Rattle.std.specs.Prelude.{◌≡◌, ℕ, zero, suc, ◌+◌, ◌<◌, ◌==◌, Bool, true, false, if◌then◌else◌, List, [], ◌∷◌, ◌++◌, map, length, Option}
use Rattle.std.specs.Option.{option_map_or}
use Rattle.lf_base.specs.declared.id.SymId.{SymId}
use Rattle.lf_base.specs.declared.id.TableId.{TableId}
use Rattle.symtab_arena.specs.Scopes.{symbol_at, names_in, table_id}
use Rattle.symtab_arena.specs.declared.table.Symbol.{Symbol as Entry}
use Rattle.asr_nodes.specs.Keys.{Key, Node, is_other, chained}
use Rattle.asr_nodes.specs.Nodes.{Nodes, node_at, node_count}
use Rattle.asr_nodes.specs.Parts.{parts}
use Rattle.asr_nodes.specs.Symbols.{symbol_parts, table_in}
use Rattle.asr_nodes.specs.Units.{entries_in}
use Rattle.asr_nodes.specs.Walks.{tree_within}
use Rattle.asr_nodes.specs.declared.node.Symbol.{Symbol}

-- one, where a key is no other one
abbrev pub one_where : Bool → ℕ
one_where true = 0
one_where false = 1

abbrev pub total : {A : Type 0} → (A → ℕ) → List A → ℕ
total f [] = 0
total f (x ∷ xs) = f x + total f xs

-- How many places a key has in the tree of a node, by how many it has in the trees of the node's parts.
abbrev pub places_node : Key → (Key → ℕ) → (key : Key) → Node key → ℕ
places_node at places key x = one_where (is_other at key) + total places (parts key x)

module _ (a : Nodes) where
  -- how many places a key has in the tree at a key, and in the trees at several
  abbrev pub places_at : Key → Key → ℕ
  places_at at = tree_within (places_node at) (λ key. 0) (node_at a) (node_count a)

  abbrev pub places : Key → List Key → ℕ
  places at = total (places_at at)

  -- What stands in the trees at `mine` stands at one place of the trees at `mine` and at `others` together.
  pub record StandAlone (mine others : List Key) : Type 0 where
    pub once : (key : Key) → 0 < places key mine → places key mine + places key others ≡ 1

  -- What stands below these parts of a new node stands at one place below them, in the trees at `mine` nowhere but below
  -- the node in whose place the new one is put, and in those at `others` nowhere.
  abbrev pub MayMove : Key → List Key → List Key → List Key → Type 0
  MayMove at new mine others = (key : Key) → 0 < places key new → (places key new ≡ 1) × (places key mine ≡ places_at key at) × (places key others ≡ 0)

  -- the expressions and statements that a symbol names, with those of the symbols in its table
  abbrev pub entry_roots : (TableId → List Key) → Option (Entry Symbol) → List Key
  entry_roots inside it = option_map_or (λ e. symbol_parts e.what ++ option_map_or inside (table_in e.what) []) it []

  abbrev pub roots_within : ℕ → TableId → List Key
  roots_within zero table = []
  roots_within (suc n) table = chained (map (entry_roots (roots_within n)) (entries_in a table))

  -- no table lies deeper than there are tables
  abbrev pub unit_roots : SymId → List Key
  unit_roots unit = entry_roots (roots_within (length a.scopes.tables)) (symbol_at a.scopes unit)

  abbrev pub other_roots : SymId → List Key
  other_roots unit = chained (map (λ e. if e.1.0 == unit.0 then [] else unit_roots e.1) (names_in a.scopes (table_id 0)))

  -- Each expression and each statement of a unit stands at one place of the trees of all units.
  abbrev pub UnitStandsAlone : SymId → Type 0
  UnitStandsAlone unit = StandAlone (unit_roots unit) (other_roots unit)

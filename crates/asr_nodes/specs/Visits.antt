-- The expressions and statements that stand below others, in the order of the source, and the symbols of a table with
-- those of the tables in it.
use Rattle.std.specs.Prelude.{◌≡◌, ℕ, zero, suc, List, [], ◌∷◌, ◌++◌, map, length, Result, Ok, Err, Option, Some, None}
use Rattle.std.specs.Option.{option_map_or}
use Rattle.lf_base.specs.declared.fault.Memory.{Memory}
use Rattle.lf_base.specs.declared.id.SymId.{SymId}
use Rattle.lf_base.specs.declared.id.TableId.{TableId}
use Rattle.symtab_arena.specs.Names.{Names}
use Rattle.symtab_arena.specs.Scopes.{names_in, owned_by}
use Rattle.asr_nodes.specs.Keys.{Key, expr, stmt, Node, is_other, chained}
use Rattle.asr_nodes.specs.Nodes.{Nodes, node_at, node_count}
use Rattle.asr_nodes.specs.OnePlace.{one_where, total}
use Rattle.asr_nodes.specs.Parts.{parts}
use Rattle.asr_nodes.specs.Walks.{tree_within}
use Rattle.asr_nodes.specs.declared.visit.NodeId.{NodeId}
use Rattle.asr_nodes.specs.declared.visit.NodeId.TheVariants as node

-- A node comes before what stands below its parts, and these come in the order of its fields.
abbrev pub visits_node : (Key → List Key) → (key : Key) → Node key → List Key
visits_node below key x = key ∷ chained (map below (parts key x))

module _ (a : Nodes) where
  -- A key at which a node stands, and those of all nodes below it. Where no node stands there is none; no walk that ends
  -- has more steps than there are nodes.
  abbrev pub visits_at : Key → List Key
  visits_at = tree_within visits_node (λ key. []) (node_at a) (node_count a)

  -- those of several, one behind another
  abbrev pub visits : List Key → List Key
  visits keys = chained (map visits_at keys)

-- the key of a number
abbrev pub key_of : NodeId → Key
key_of (node.Expr id) = expr id
key_of (node.Stmt id) = stmt id

-- What a step of a visit answers: the first of the keys that were to come, which then is taken off; none exactly where
-- none was to come; and want of memory, which takes none off.
abbrev pub Takes : List Key → List Key → Result (Option NodeId) Memory → Type 0
Takes old new (Ok (Some id)) = old ≡ key_of id ∷ new
Takes old new (Ok None) = (old ≡ []) × (new ≡ [])
Takes old new (Err fault) = new ≡ old

-- how often a key comes in a list
abbrev pub times : Key → List Key → ℕ
times at = total (λ key. one_where (is_other at key))

module _ (a : Nodes) where
  -- the symbols of names, each with those of its own table directly behind it
  abbrev pub symbols_of : (TableId → List SymId) → Names → List SymId
  symbols_of inside [] = []
  symbols_of inside (e ∷ es) = e.1 ∷ (option_map_or inside (owned_by a.scopes e.1) [] ++ symbols_of inside es)

  -- those of a table, in the order of their declaration, with those of the tables in it up to this depth
  abbrev pub symbols_to : ℕ → TableId → List SymId
  symbols_to zero t = []
  symbols_to (suc n) t = symbols_of (symbols_to n) (names_in a.scopes t)

  -- no table lies deeper than there are tables
  abbrev pub symbols_below : TableId → List SymId
  symbols_below = symbols_to (length a.scopes.tables)

-- what a step over symbols answers
abbrev pub TakesSymbol : List SymId → List SymId → Result (Option SymId) Memory → Type 0
TakesSymbol old new (Ok (Some id)) = old ≡ id ∷ new
TakesSymbol old new (Ok None) = (old ≡ []) × (new ≡ [])
TakesSymbol old new (Err fault) = new ≡ old

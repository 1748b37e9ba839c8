-- The trees of symbols and units: a scope of its own is the list of its symbols, in the order of their declaration
-- (ISO/IEC 1539-1:2018, 19.1).
use Rattle.std.specs.Prelude.{◌≡◌, ℕ, zero, suc, true, List, [], ◌∷◌, map, length, Option, Some, None, is_some, option_map}
use Rattle.std.specs.Option.{option_map_or}
use Rattle.lf_base.specs.declared.id.SymId.{SymId}
use Rattle.lf_base.specs.declared.id.TableId.{TableId}
use Rattle.symtab_arena.specs.Paths.{path_of}
use Rattle.symtab_arena.specs.Scopes.{symbol_at, names_in}
use Rattle.symtab_arena.specs.declared.table.Symbol.{Symbol as Entry}
use Rattle.asr_nodes.specs.Nodes.{Nodes, expr_tree, stmt_tree}
use Rattle.asr_nodes.specs.Reading.{Path, type_node}
use Rattle.asr_nodes.specs.Text.{Text, unit_text}
use Rattle.asr_nodes.specs.declared.node.Symbol.{Symbol}
use Rattle.asr_nodes.specs.declared.node.Symbol.TheVariants as y
use Rattle.asr_nodes.specs.declared.tree.SymbolTree.{SymbolTree}
use Rattle.asr_nodes.specs.declared.tree.SymbolTree.TheVariants as t
use Rattle.asr_nodes.specs.declared.tree.UnitTree.{UnitTree}
use Rattle.asr_nodes.specs.declared.tree.UnitTree.TheVariants as u

module _ (a : Nodes) where
  abbrev pub path : SymId → Path
  path = path_of a.scopes

  -- the tree of a symbol by its name, from the trees of the symbols in tables; a unit is none
  abbrev pub symbol_node : (TableId → List SymbolTree) → List ℕ → Symbol → Option SymbolTree
  symbol_node symbols name (y.Program source deps table body) = None
  symbol_node symbols name (y.Module source deps table) = None
  symbol_node symbols name (y.Function access dummies result simple table body) =
      Some (t.Function name access (map path dummies) (option_map path result) simple (symbols table) (map (stmt_tree a path) body))
  symbol_node symbols name (y.Variable access ty storage intent init) = Some (t.Variable name access (type_node path ty) storage intent (map (expr_tree a path) init))
  symbol_node symbols name (y.Struct access table) = Some (t.Struct name access (symbols table))
  symbol_node symbols name (y.Generic access specifics) = Some (t.Generic name access (map path specifics))
  symbol_node symbols name (y.External access home original) = Some (t.External name access home original)

  -- the symbols of a table, each with what it stands for
  abbrev pub entries_in : TableId → List (Option (Entry Symbol))
  entries_in table = map (λ e. symbol_at a.scopes e.1) (names_in a.scopes table)

  abbrev pub each_entry : (Entry Symbol → Option SymbolTree) → List (Option (Entry Symbol)) → List SymbolTree
  each_entry tree [] = []
  each_entry tree (it ∷ more) = option_map_or (λ e. option_map_or (λ s. s ∷ each_entry tree more) (tree e) (each_entry tree more)) it (each_entry tree more)

  -- the trees of a table's symbols, with those of the tables in it up to this depth
  abbrev pub symbols_within : ℕ → TableId → List SymbolTree
  symbols_within zero table = []
  symbols_within (suc n) table = each_entry (λ e. symbol_node (symbols_within n) e.name e.what) (entries_in table)

  -- no table lies deeper than there are tables
  abbrev pub symbol_trees : TableId → List SymbolTree
  symbol_trees = symbols_within (length a.scopes.tables)

  abbrev pub unit_node : List ℕ → Symbol → Option UnitTree
  unit_node name (y.Program source deps table body) = Some (u.Program name source deps (symbol_trees table) (map (stmt_tree a path) body))
  unit_node name (y.Module source deps table) = Some (u.Module name source deps (symbol_trees table))
  unit_node name (y.Function access dummies result simple table body) = None
  unit_node name (y.Variable access ty storage intent init) = None
  unit_node name (y.Struct access table) = None
  unit_node name (y.Generic access specifics) = None
  unit_node name (y.External access home original) = None

  -- the unit that a symbol stands for, if it is one
  abbrev pub unit_tree : SymId → Option UnitTree
  unit_tree id = option_map_or (λ e. unit_node e.name e.what) (symbol_at a.scopes id) None

  -- Such a symbol is live, and a main program or a module.
  abbrev pub IsUnit : SymId → Type 0
  IsUnit id = is_some (unit_tree id) ≡ true

  -- its text
  abbrev pub text_of_unit : SymId → Text
  text_of_unit id = option_map_or unit_text (unit_tree id) []

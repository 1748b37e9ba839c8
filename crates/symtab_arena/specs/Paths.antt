-- The path of a symbol: the names of the entities in which it stands, from the outermost scope inwards, and its own last
-- (ISO/IEC 1539-1:2018, 19.1).
use Rattle.std.specs.Prelude.{ℕ, zero, suc, List, [], ◌∷◌, ◌++◌, length}
use Rattle.std.specs.Option.{option_map_or}
use Rattle.lf_base.specs.declared.id.SymId.{SymId}
use Rattle.symtab_arena.specs.Scopes.{Scopes, symbol_at, owner_of}

module _ {K : Type 0} (a : Scopes K) where
  -- its last n names
  abbrev pub path_within : ℕ → SymId → List (List ℕ)
  path_within zero s = []
  path_within (suc n) s =
      option_map_or (λ y. option_map_or (path_within n) (owner_of a y.table) [] ++ y.name ∷ []) (symbol_at a s) []

  -- no way to the root is longer than the number of tables
  abbrev pub path_of : SymId → List (List ℕ)
  path_of s = path_within (length a.tables) s

-- The trees of a table's symbols, from those of the tables in it: no bound on the depth is left.
use Rattle.std.proofs.Common.{◌≡◌, ℕ, zero, suc, ◌+◌, ◌<◌, ◌≤◌, List, [], ◌∷◌, map, length, slice_get, Option, Some, None, is_some, true, refl, sym, ap, ◌∙◌, inl, inr, arith}
use Rattle.std.specs.Option.{option_map, option_map_or, option_and_then}
use Rattle.lf_base.specs.declared.id.SymId.{SymId}
use Rattle.lf_base.specs.declared.id.TableId.{TableId}
use Rattle.symtab_arena.specs.Links.{Linked}
use Rattle.symtab_arena.specs.Names.{Names}
use Rattle.symtab_arena.specs.Scopes.{HasTable, table_id, table_at, symbol_at, names_in, owner_of, table_of}
use Rattle.symtab_arena.specs.declared.table.Symbol.{Symbol as Entry}
use Rattle.symtab_arena.specs.declared.table.Table.{Table}
use Rattle.symtab_arena.proofs.CountLemmas.{in_place_stands}
use Rattle.symtab_arena.proofs.EntryLemmas.{same_or, none_some, there_within}
use Rattle.symtab_arena.proofs.LinkLemmas.{some_is}
use Rattle.asr_nodes.specs.Nodes.{Nodes, Sound}
use Rattle.asr_nodes.specs.Symbols.{table_in}
use Rattle.asr_nodes.specs.Units.{symbol_node, entries_in, each_entry, symbols_within, symbol_trees}
use Rattle.asr_nodes.specs.declared.node.Symbol.{Symbol}
use Rattle.asr_nodes.specs.declared.node.Symbol.TheVariants as y
use Rattle.asr_nodes.specs.declared.tree.SymbolTree.{SymbolTree}
use Rattle.asr_nodes.specs.declared.tree.SymbolTree.TheVariants as tree

module _ (a : Nodes) (links : Linked a.scopes) (h : Sound a) where
  -- a symbol's tree depends on those of its own table alone
  node_same : (f g : TableId → List SymbolTree) (name : List ℕ) (x : Symbol) → ((u : TableId) → table_in x ≡ Some u → f u ≡ g u) → symbol_node a f name x ≡ symbol_node a g name x
  node_same f g name (y.Program source deps table body) k = refl
  node_same f g name (y.Module source deps table) k = refl
  node_same f g name (y.Function access dummies result simple table body) k =
      ap (λ symbols. symbol_node a (λ u. symbols) name (y.Function access dummies result simple table body)) (k table refl)
  node_same f g name (y.Variable access ty storage intent init) k = refl
  node_same f g name (y.Struct access table) k = ap (λ symbols. Some (tree.Struct name access symbols)) (k table refl)
  node_same f g name (y.Generic access specifics) k = refl
  node_same f g name (y.External access home original) k = refl

  one_same : (f g : Entry Symbol → Option SymbolTree) (o : Option (Entry Symbol)) (xs ys : List SymbolTree) → ((e : Entry Symbol) → o ≡ Some e → f e ≡ g e) → xs ≡ ys
      → option_map_or (λ e. option_map_or (λ s. s ∷ xs) (f e) xs) o xs ≡ option_map_or (λ e. option_map_or (λ s. s ∷ ys) (g e) ys) o ys
  one_same f g None xs ys k e = e
  one_same f g (Some it) xs ys k e = λ i. option_map_or (λ s. s ∷ e i) (k it refl i) (e i)

  each_same : (f g : Entry Symbol → Option SymbolTree) (names : Names) → ((i : ℕ) (n : List ℕ × SymId) → slice_get names i ≡ Some n → (e : Entry Symbol) → symbol_at a.scopes n.1 ≡ Some e → f e ≡ g e)
      → each_entry a f (map (λ e. symbol_at a.scopes e.1) names) ≡ each_entry a g (map (λ e. symbol_at a.scopes e.1) names)
  each_same f g [] k = refl
  each_same f g (n ∷ names) k = one_same f g (symbol_at a.scopes n.1) _ _ (λ e q. k zero n refl e q) (each_same f g names (λ i. k (suc i)))

  pub no_names : (t : TableId) → length a.scopes.tables ≤ t.0 → names_in a.scopes t ≡ []
  no_names t l = by (table_at a.scopes t) refl
    where
      by : (o : Option Table) → table_at a.scopes t ≡ o → names_in a.scopes t ≡ []
      by None e = ap (λ o. option_map_or (λ (x : Table). x.names) o []) e
      by (Some x) e = absurd (let k = there_within a.scopes.tables t.0 (ap is_some e) in omega arith)

  nothing_within : (n : ℕ) (t : TableId) → length a.scopes.tables ≤ t.0 → symbols_within a n t ≡ []
  nothing_within zero t l = refl
  nothing_within (suc n) t l = ap (λ names. each_entry a (λ e. symbol_node a (symbols_within a n) e.name e.what) (map (λ e. symbol_at a.scopes e.1) names)) (no_names t l)

  -- the table of a symbol comes behind the one in which the symbol stands
  pub behind : (t u : TableId) (s : SymId) (e : Entry Symbol) → table_of a.scopes s ≡ Some t → symbol_at a.scopes s ≡ Some e → table_in e.what ≡ Some u → t.0 < u.0
  behind t u s e stands live owns =
      let owned = links.owned s e u live (h.owned s e live ∙ owns) in
      elim (same_or u.0 0) [
        | inl z ↦ absurd (none_some s (sym links.root_owner ∙ ap (owner_of a.scopes) (ap table_id (sym z)) ∙ owned))
        | inr d ↦
            let o = links.owners u (has_owner u s owned) d in
            let same = some_is o.owner s (sym o.owner_is ∙ owned) in
            let entry = some_is o.symbol e (sym o.live ∙ ap (symbol_at a.scopes) same ∙ live) in
            let here = some_is e.table t (sym (ap (λ z. option_map (λ (w : Entry Symbol). w.table) z) live) ∙ stands) in
            let number = ap (λ (w : Entry Symbol). w.table.0) entry ∙ ap (λ (w : TableId). w.0) here in
            let falls = o.falls in
            omega arith
      ]
    where
      has_owner : (u : TableId) (s : SymId) → owner_of a.scopes u ≡ Some s → HasTable a.scopes u
      has_owner u s e = by (table_at a.scopes u) refl e
        where
          by : (o : Option Table) → table_at a.scopes u ≡ o → owner_of a.scopes u ≡ Some s → is_some (table_at a.scopes u) ≡ true
          by None q k = absurd (none_some s (sym (ap (λ o. option_and_then (λ (x : Table). x.owner) o) q) ∙ k))
          by (Some x) q k = ap is_some q

  -- more depth than there are tables behind this one changes nothing
  enough : (n m : ℕ) (t : TableId) → length a.scopes.tables ≤ n + t.0 → length a.scopes.tables ≤ m + t.0 → symbols_within a n t ≡ symbols_within a m t
  enough zero m t k l = sym (nothing_within m t (omega arith))
  enough (suc n) zero t k l = nothing_within (suc n) t (omega arith)
  enough (suc n) (suc m) t k l =
      each_same (λ e. symbol_node a (symbols_within a n) e.name e.what) (λ e. symbol_node a (symbols_within a m) e.name e.what) (names_in a.scopes t)
      (λ i p q e live.
      node_same (symbols_within a n) (symbols_within a m) e.name e.what
      (λ u owns.
      let b = behind t u p.1 e (in_place_stands a.scopes links t i p.1 (ap (option_map (λ (z : List ℕ × SymId). z.1)) q)) live owns in
      enough n m u (omega (arith, b)) (omega (arith, b))))

  pub symbols_are : (t : TableId) → symbol_trees a t ≡ each_entry a (λ e. symbol_node a (symbol_trees a) e.name e.what) (entries_in a t)
  symbols_are t = enough (length a.scopes.tables) (suc (length a.scopes.tables)) t (omega arith) (omega arith)

-- What names mean and what paths are in two states that are read alike.
use Rattle.std.proofs.Common.{◌≡◌, ℕ, zero, suc, ◌<◌, ◌≤◌, List, [], ◌∷◌, ◌++◌, length, Option, Some, None, is_some, refl, sym, ap, ◌∙◌, inl, inr, arith}
use Rattle.std.specs.Option.{option_map_or, option_and_then, option_or}
use Rattle.lf_base.specs.declared.id.SymId.{SymId}
use Rattle.lf_base.specs.declared.id.TableId.{TableId}
use Rattle.symtab_arena.specs.Entries.{entry_at}
use Rattle.symtab_arena.specs.Links.{Linked}
use Rattle.symtab_arena.specs.Paths.{path_within, path_of}
use Rattle.symtab_arena.specs.Scopes.{Scopes, table_id, HasTable, symbol_at, symbol_in, symbol_within, symbol_seen, parent_of, owner_of}
use Rattle.symtab_arena.specs.declared.table.Symbol.{Symbol}
use Rattle.symtab_arena.proofs.EntryLemmas.{same_or, none_some, there_within}
use Rattle.symtab_arena.proofs.LinkLemmas.{has_table, some_is}
use Rattle.symtab_arena.proofs.WayLemmas.{enough}

module _ {K : Type 0} (a b : Scopes K) (name : List ℕ) where
  module _ (parents : (t : TableId) → parent_of b t ≡ parent_of a t) (symbols : (t : TableId) → symbol_in b t name ≡ symbol_in a t name) where
    within_alike : (n : ℕ) (t : TableId) → symbol_within b n t name ≡ symbol_within a n t name
    within_alike zero t = refl
    within_alike (suc n) t = λ i. option_or (symbols t i) (option_and_then (λ p. within_alike n p i) (parents t i))

    -- a name that each table has alike is seen alike
    pub seen_alike : length b.tables ≡ length a.tables → (t : TableId) → symbol_seen b t name ≡ symbol_seen a t name
    seen_alike same t = ap (λ n. symbol_within b n t name) same ∙ within_alike (length a.tables) t

  module _ (links : Linked a) (parents : (t : TableId) → HasTable a t → parent_of b t ≡ parent_of a t)
      (symbols : (t : TableId) → HasTable a t → symbol_in b t name ≡ symbol_in a t name) (more : length a.tables ≤ length b.tables) where
    on_way : (n : ℕ) (o : Option TableId) → ((p : TableId) → o ≡ Some p → symbol_within b n p name ≡ symbol_within a n p name)
        → option_and_then (λ p. symbol_within b n p name) o ≡ option_and_then (λ p. symbol_within a n p name) o
    on_way n None h = refl
    on_way n (Some p) h = h p refl

    parent_there : (t p : TableId) → HasTable a t → parent_of a t ≡ Some p → HasTable a p
    parent_there t p there e =
        elim (same_or t.0 0) [
          | inl z ↦ absurd (none_some p (sym links.root_parent ∙ ap (parent_of a) (ap table_id (sym z)) ∙ e))
          | inr d ↦
              let o = links.owners t there d in
              let same = some_is p o.symbol.table (sym e ∙ o.parent_is) in
              ap (λ (u : TableId). is_some (entry_at a.tables u.0)) same ∙ has_table a o.symbol.table o.symbol.name o.owner (links.stands o.owner o.symbol o.live)
        ]

    there_alike : (n : ℕ) (t : TableId) → HasTable a t → symbol_within b n t name ≡ symbol_within a n t name
    there_alike zero t there = refl
    there_alike (suc n) t there =
        (λ i. option_or (symbols t there i) (option_and_then (λ p. symbol_within b n p name) (parents t there i)))
        ∙ ap (option_or (symbol_in a t name)) (on_way n (parent_of a t) (λ p e. there_alike n p (parent_there t p there e)))

    -- so where there are more tables, seen of the older ones
    pub seen_there_alike : (t : TableId) → HasTable a t → symbol_seen b t name ≡ symbol_seen a t name
    seen_there_alike t there =
        let within = there_within a.tables t.0 there in
        there_alike (length b.tables) t there ∙ enough a links name (length b.tables) (length a.tables) t (omega arith) within

module _ {K : Type 0} (a : Scopes K) (links : Linked a) where
  -- the owner of the table in which a live symbol stands is live, and its table comes before
  owner_before : (s o : SymId) (y : Symbol K) → symbol_at a s ≡ Some y → owner_of a y.table ≡ Some o
      → (x : Symbol K) × (symbol_at a o ≡ Some x) × (x.table.0 < y.table.0)
  owner_before s o y live e =
      elim (same_or y.table.0 0) [
        | inl z ↦ absurd (none_some o (sym links.root_owner ∙ ap (owner_of a) (ap table_id (sym z)) ∙ e))
        | inr d ↦
            let h = links.owners y.table (has_table a y.table y.name s (links.stands s y live)) d in
            let same = some_is h.owner o (sym h.owner_is ∙ e) in
            (h.symbol, ap (symbol_at a) (sym same) ∙ h.live, h.falls)
      ]

  up : (n m : ℕ) (o : Option SymId) → ((u : SymId) → o ≡ Some u → path_within a n u ≡ path_within a m u)
      → option_map_or (path_within a n) o [] ≡ option_map_or (path_within a m) o []
  up n m None h = refl
  up n m (Some u) h = h u refl

  -- more steps than the number of the table change nothing
  path_enough : (n m : ℕ) (s : SymId) (y : Symbol K) → symbol_at a s ≡ Some y → y.table.0 < n → y.table.0 < m → path_within a n s ≡ path_within a m s
  path_enough zero m s y live h k = absurd (omega arith)
  path_enough (suc n) zero s y live h k = absurd (omega arith)
  path_enough (suc n) (suc m) s y live h k =
      ap (λ o. option_map_or (λ (x : Symbol K). option_map_or (path_within a n) (owner_of a x.table) [] ++ x.name ∷ []) o []) live
      ∙ ap (λ p. p ++ y.name ∷ [])
      (up n m (owner_of a y.table)
      (λ u e. let x = owner_before s u y live e in let falls = x.2 in path_enough n m u x.0 x.1 (omega (arith, falls)) (omega (arith, falls))))
      ∙ sym (ap (λ o. option_map_or (λ (x : Symbol K). option_map_or (path_within a m) (owner_of a x.table) [] ++ x.name ∷ []) o []) live)

  module _ (b : Scopes K) (keeps : (s : SymId) (y : Symbol K) → symbol_at a s ≡ Some y → symbol_at b s ≡ Some y)
      (owners : (t : TableId) → HasTable a t → owner_of b t ≡ owner_of a t) (more : length a.tables ≤ length b.tables) where
    up_alike : (n : ℕ) (o : Option SymId) → ((u : SymId) → o ≡ Some u → path_within b n u ≡ path_within a n u)
        → option_map_or (path_within b n) o [] ≡ option_map_or (path_within a n) o []
    up_alike n None h = refl
    up_alike n (Some u) h = h u refl

    path_within_alike : (n : ℕ) (s : SymId) (y : Symbol K) → symbol_at a s ≡ Some y → path_within b n s ≡ path_within a n s
    path_within_alike zero s y live = refl
    path_within_alike (suc n) s y live =
        ap (λ o. option_map_or (λ (x : Symbol K). option_map_or (path_within b n) (owner_of b x.table) [] ++ x.name ∷ []) o []) (keeps s y live)
        ∙ ap (λ o. option_map_or (path_within b n) o [] ++ y.name ∷ []) (owners y.table (has_table a y.table y.name s (links.stands s y live)))
        ∙ ap (λ p. p ++ y.name ∷ []) (up_alike n (owner_of a y.table) (λ u e. let x = owner_before s u y live e in path_within_alike n u x.0 x.1))
        ∙ sym (ap (λ o. option_map_or (λ (x : Symbol K). option_map_or (path_within a n) (owner_of a x.table) [] ++ x.name ∷ []) o []) live)

    -- a symbol that stays where it was, as do the owners of tables, keeps its path
    pub path_alike : (s : SymId) (y : Symbol K) → symbol_at a s ≡ Some y → path_of b s ≡ path_of a s
    path_alike s y live =
        let within = there_within a.tables y.table.0 (has_table a y.table y.name s (links.stands s y live)) in
        path_within_alike (length b.tables) s y live ∙ path_enough (length b.tables) (length a.tables) s y live (omega arith) within

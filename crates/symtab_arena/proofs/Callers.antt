-- For callers: what stands at each number, what names mean and what paths are after each change, and what a walk over a
-- table tells. `Arena::linked` gives the links that the lemmas ask for.
use Rattle.std.proofs.Common.{◌≡◌, ◌≢◌, ℕ, ◌<◌, ◌≤◌, List, [], length, slice_index_or, Option, Some, None, is_some, All, refl, sym, ap, subst, ◌∙◌, arith}
use Rattle.std.proofs.lemmas.List.{length_push}
use Rattle.std.specs.Option.{option_map, option_map_or, option_and_then}
use Rattle.lf_base.specs.declared.id.SymId.{SymId}
use Rattle.lf_base.specs.declared.id.TableId.{TableId}
use Rattle.symtab_arena.specs.Answers.{MayDeclare}
use Rattle.symtab_arena.specs.Changes.{declared_in, owner_declared_in, standing_for, replaced_in, removed_from, removed_each, IsPlainIn, IsShallowIn, OwnsNoOwner}
use Rattle.symtab_arena.specs.Links.{Linked}
use Rattle.symtab_arena.specs.Names.{named}
use Rattle.symtab_arena.specs.Paths.{path_of}
use Rattle.symtab_arena.specs.Scopes.{Scopes, symbol_id, next_symbol, next_table, table_at, HasTable, symbol_at, names_in, symbol_in, symbol_in_place, symbol_seen, parent_of, owner_of, table_of, owned_by}
use Rattle.symtab_arena.specs.declared.table.Table.{Table}
use Rattle.symtab_arena.specs.declared.table.Symbol.{Symbol}
use Rattle.symtab_arena.proofs.AlikeLemmas.{seen_alike, seen_there_alike, path_alike}
use Rattle.symtab_arena.proofs.BulkLemmas.{removed_each_is, without_each-gone, without_each-other}
use Rattle.symtab_arena.proofs.ChangeLemmas.{adds, opens, length_tables_now, other_tables, Linked-declared, Linked-owner_declared, opened_at}
use Rattle.symtab_arena.proofs.CountLemmas.{place_of_name}
use Rattle.symtab_arena.proofs.EntryLemmas.{none_some, there_within, entry_at_within, entry_at-set_none, entry_at-set_same, entry_at-set_other}
use Rattle.symtab_arena.proofs.LinkLemmas.{Removes}
use Rattle.symtab_arena.proofs.OwnerLemmas.{removed_each_shallow, taken_out_each-gone}
use Rattle.symtab_arena.proofs.RemovalLemmas.{after, removed_is, removes, removed_tables, Linked-removed, owns_no_owner}
use Rattle.symtab_arena.proofs.WayLemmas.{symbol_seen_here, symbol_seen_above}

-- After `declare`, `declare_at`, `declare_owner` and `declare_owner_at`.
module _ {K : Type 0} (a : Scopes K) (t : TableId) (place : ℕ) (name : List ℕ) (what : K) (links : Linked a) (there : HasTable a t) (may : MayDeclare a t name) where
  abbrev b : Scopes K
  b = declared_in a t place name what

  abbrev c : Scopes K
  c = owner_declared_in a t place name what

  pub declared_linked : Linked b
  declared_linked = Linked-declared a t place name what links there may

  -- what stands at each number
  pub declared_new : symbol_at b (next_symbol a) ≡ Some (record { name = name; table = t; owned = None; what = what })
  declared_new = (adds a t place name what links there may).now

  pub declared_other : (s : SymId) → s ≢ next_symbol a → symbol_at b s ≡ symbol_at a s
  declared_other = (adds a t place name what links there may).others

  pub declared_live : (s : SymId) (y : Symbol K) → symbol_at a s ≡ Some y → symbol_at b s ≡ Some y
  declared_live s y live =
      let more = adds a t place name what links there may in
      more.others s (λ q. none_some y (sym more.before ∙ ap (symbol_at a) (sym q) ∙ live)) ∙ live

  pub declared_table : (u : TableId) → HasTable a u → HasTable b u
  declared_table u h = (adds a t place name what links there may).tables u ∙ h

  pub declared_parent : (u : TableId) → parent_of b u ≡ parent_of a u
  declared_parent = (adds a t place name what links there may).parents

  pub declared_owner : (u : TableId) → owner_of b u ≡ owner_of a u
  declared_owner = (adds a t place name what links there may).owners

  -- what names mean
  pub declared_in_table : symbol_in b t name ≡ Some (next_symbol a)
  declared_in_table = (adds a t place name what links there may).named_now

  pub declared_in_other : (u : TableId) (n : List ℕ) → (u ≡ t → n ≡ name → ⊥) → symbol_in b u n ≡ symbol_in a u n
  declared_in_other = (adds a t place name what links there may).named_others

  pub declared_seen : symbol_seen b t name ≡ Some (next_symbol a)
  declared_seen = symbol_seen_here b declared_linked name t (next_symbol a) declared_in_table

  pub declared_seen_other : (u : TableId) (n : List ℕ) → n ≢ name → symbol_seen b u n ≡ symbol_seen a u n
  declared_seen_other u n d =
      seen_alike a b n declared_parent (λ v. declared_in_other v n (λ _ q. d q)) (length_tables_now a t place name what links there may) u

  -- a live symbol keeps its path
  pub declared_path : (s : SymId) (y : Symbol K) → symbol_at a s ≡ Some y → path_of b s ≡ path_of a s
  declared_path s y live =
      let same = length_tables_now a t place name what links there may in
      path_alike a links b declared_live (λ u _. declared_owner u) (omega arith) s y live

  pub owner_declared_linked : Linked c
  owner_declared_linked = Linked-owner_declared a t place name what links there may

  -- what stands at each number
  pub owner_declared_new : symbol_at c (next_symbol a) ≡ Some (record { name = name; table = t; owned = Some (next_table a); what = what })
  owner_declared_new = (opens a t place name what links there may).now

  pub owner_declared_other : (s : SymId) → s ≢ next_symbol a → symbol_at c s ≡ symbol_at a s
  owner_declared_other s d = (opens a t place name what links there may).others s d ∙ declared_other s d

  pub owner_declared_live : (s : SymId) (y : Symbol K) → symbol_at a s ≡ Some y → symbol_at c s ≡ Some y
  owner_declared_live s y live =
      owner_declared_other s (λ q. none_some y (sym (adds a t place name what links there may).before ∙ ap (symbol_at a) (sym q) ∙ live)) ∙ live

  -- the new table
  pub owner_declared_scope : table_at c (next_table a) ≡ Some (record { parent = Some t; owner = Some (next_symbol a); names = [] })
  owner_declared_scope = opened_at a t place name what links there may

  older : (u : TableId) → HasTable a u → u ≢ next_table a
  older u h q = let within = there_within a.tables u.0 h in let number = ap (λ (v : TableId). v.0) q in absurd (omega arith)

  older_table : (u : TableId) → HasTable a u → table_at c u ≡ table_at b u
  older_table u h = other_tables a t place name what links there may u (older u h)

  pub owner_declared_table : (u : TableId) → HasTable a u → HasTable c u
  owner_declared_table u h = ap is_some (older_table u h) ∙ declared_table u h

  pub owner_declared_parent : (u : TableId) → HasTable a u → parent_of c u ≡ parent_of a u
  owner_declared_parent u h = ap (option_and_then (λ (v : Table). v.parent)) (older_table u h) ∙ declared_parent u

  pub owner_declared_owner : (u : TableId) → HasTable a u → owner_of c u ≡ owner_of a u
  owner_declared_owner u h = ap (option_and_then (λ (v : Table). v.owner)) (older_table u h) ∙ declared_owner u

  -- what names mean
  pub owner_declared_in_table : symbol_in c t name ≡ Some (next_symbol a)
  owner_declared_in_table = ap (named name) ((opens a t place name what links there may).names t) ∙ declared_in_table

  pub owner_declared_in_other : (u : TableId) (n : List ℕ) → (u ≡ t → n ≡ name → ⊥) → symbol_in c u n ≡ symbol_in a u n
  owner_declared_in_other u n d = ap (named n) ((opens a t place name what links there may).names u) ∙ declared_in_other u n d

  pub owner_declared_in_scope : (n : List ℕ) → symbol_in c (next_table a) n ≡ None
  owner_declared_in_scope n = ap (λ o. named n (option_map_or (λ (v : Table). v.names) o [])) owner_declared_scope

  pub owner_declared_seen : symbol_seen c t name ≡ Some (next_symbol a)
  owner_declared_seen = symbol_seen_here c owner_declared_linked name t (next_symbol a) owner_declared_in_table

  more_tables : length a.tables ≤ length c.tables
  more_tables =
      let same = length_tables_now a t place name what links there may in
      let more = length_push b.tables (Some (record { parent = Some t; owner = Some (next_symbol a); names = [] })) in
      omega arith

  pub owner_declared_seen_other : (u : TableId) (n : List ℕ) → HasTable a u → n ≢ name → symbol_seen c u n ≡ symbol_seen a u n
  owner_declared_seen_other u n h d =
      seen_there_alike a c n links owner_declared_parent (λ v _. owner_declared_in_other v n (λ _ q. d q)) more_tables u h

  -- in the new table a name means what it means around it
  pub owner_declared_seen_inside : (n : List ℕ) → symbol_seen c (next_table a) n ≡ symbol_seen c t n
  owner_declared_seen_inside n =
      symbol_seen_above c owner_declared_linked n (next_table a) (owner_declared_in_scope n)
      ∙ ap (λ o. option_and_then (λ p. symbol_seen c p n) (option_and_then (λ (v : Table). v.parent) o)) owner_declared_scope

  pub owner_declared_path : (s : SymId) (y : Symbol K) → symbol_at a s ≡ Some y → path_of c s ≡ path_of a s
  owner_declared_path s y live = path_alike a links c owner_declared_live owner_declared_owner more_tables s y live

-- After `replace_what`, and after a write through `what_mut`: what names mean is as it was, by computation.
module _ {K : Type 0} (a : Scopes K) (s : SymId) (y : Symbol K) (what : K) (was : symbol_at a s ≡ Some y) where
  pub replaced_new : symbol_at (replaced_in a s what) s ≡ Some (standing_for what y)
  replaced_new =
      entry_at-set_same a.symbols s.0 (option_map (standing_for what) (symbol_at a s)) (entry_at_within a.symbols s.0 y was)
      ∙ ap (option_map (standing_for what)) was

  pub replaced_other : (u : SymId) → u ≢ s → symbol_at (replaced_in a s what) u ≡ symbol_at a u
  replaced_other u d = entry_at-set_other a.symbols s.0 u.0 (option_map (standing_for what) (symbol_at a s)) (λ e. d (ap symbol_id e))

  pub replaced_in_table : (u : TableId) (n : List ℕ) → symbol_in (replaced_in a s what) u n ≡ symbol_in a u n
  replaced_in_table u n = refl

  pub replaced_seen : (u : TableId) (n : List ℕ) → symbol_seen (replaced_in a s what) u n ≡ symbol_seen a u n
  replaced_seen u n = refl

-- After `remove` and `remove_owned`.
module _ {K : Type 0} (a : Scopes K) (s : SymId) (y : Symbol K) (links : Linked a) (was : symbol_at a s ≡ Some y) where
  abbrev is : removed_from a s ≡ after a s y links was
  is = removed_is a s y links was

  pub plain_childless : y.owned ≡ None → OwnsNoOwner a s
  plain_childless = owns_no_owner a s y links was

  pub removed_gone : symbol_at (removed_from a s) s ≡ None
  removed_gone = ap (λ d. symbol_at d s) is ∙ entry_at-set_none _ s.0

  module _ (childless : OwnsNoOwner a s) where
    takes : Removes a (after a s y links was) s y
    takes =
        removes a s y links was
        (λ u x live e.
        sym (ap (option_and_then (λ (v : Symbol K). v.owned)) live)
        ∙ childless u (ap (option_map (λ (v : Symbol K). v.table)) live ∙ sym e ∙ sym (ap (option_and_then (λ (v : Symbol K). v.owned)) was)))

    pub removed_linked : Linked (removed_from a s)
    removed_linked = subst (λ (d : Scopes K). Linked d) (sym is) (Linked-removed a s y links was childless)

    -- the other symbols, but for those of the table that goes too
    pub removed_other : (u : SymId) (x : Symbol K) → u ≢ s → y.owned ≢ Some x.table → symbol_at a u ≡ Some x → symbol_at (removed_from a s) u ≡ Some x
    removed_other u x d e live = ap (λ c. symbol_at c u) is ∙ takes.stay u x live d e

    -- the other tables
    pub removed_table : (u : TableId) → y.owned ≢ Some u → is_some (table_at (removed_from a s) u) ≡ is_some (table_at a u)
    removed_table u e = ap (λ c. is_some (table_at c u)) is ∙ takes.tables u e

    pub removed_table_left : (u : TableId) → HasTable (removed_from a s) u → y.owned ≢ Some u
    removed_table_left u h = takes.gone u (sym (ap (λ c. is_some (table_at c u)) is) ∙ h)

    pub removed_parent : (u : TableId) → y.owned ≢ Some u → parent_of (removed_from a s) u ≡ parent_of a u
    removed_parent u e = ap (λ c. parent_of c u) is ∙ takes.parents u e

    pub removed_owner : (u : TableId) → y.owned ≢ Some u → owner_of (removed_from a s) u ≡ owner_of a u
    removed_owner u e = ap (λ c. owner_of c u) is ∙ takes.owners u e

    -- what names mean
    pub removed_in_table : symbol_in (removed_from a s) y.table y.name ≡ None
    removed_in_table = ap (λ c. symbol_in c y.table y.name) is ∙ takes.unnamed

    pub removed_in_other : (u : TableId) (n : List ℕ) → y.owned ≢ Some u → (u ≡ y.table → n ≡ y.name → ⊥) → symbol_in (removed_from a s) u n ≡ symbol_in a u n
    removed_in_other u n e d = ap (λ c. symbol_in c u n) is ∙ takes.named_others u n e d

    pub removed_seen_other : (u : TableId) (n : List ℕ) → HasTable (removed_from a s) u → n ≢ y.name → symbol_seen (removed_from a s) u n ≡ symbol_seen a u n
    removed_seen_other u n h d =
        let same = removed_tables a s y links was in
        sym
        (seen_there_alike (removed_from a s) a n removed_linked
        (λ v there. sym (removed_parent v (removed_table_left v there)))
        (λ v there. sym (removed_in_other v n (removed_table_left v there) (λ _ q. d q)))
        (omega arith) u h)

-- After `remove_all`.
module _ {K : Type 0} (a : Scopes K) (t : TableId) (gone : List SymId) (links : Linked a) (there : HasTable a t) (plain : All (IsPlainIn a t) gone) where
  pub removed_each_gone : (k : ℕ) (s : SymId) → k < length gone → symbol_at (removed_each a gone) (slice_index_or gone k s) ≡ None
  removed_each_gone k s within =
      ap (λ d. symbol_at d (slice_index_or gone k s)) (sym (removed_each_is t gone a links there plain).1) ∙ without_each-gone gone a.symbols k s within

  pub removed_each_other : (u : SymId) → All (λ s. u ≢ s) gone → symbol_at (removed_each a gone) u ≡ symbol_at a u
  removed_each_other u others =
      ap (λ d. symbol_at d u) (sym (removed_each_is t gone a links there plain).1) ∙ without_each-other gone a.symbols u others

-- After `remove_all_owned`.
module _ {K : Type 0} (a : Scopes K) (t : TableId) (gone : List SymId) (links : Linked a) (there : HasTable a t) (shallow : All (IsShallowIn a t) gone) where
  pub removed_shallow_gone : (k : ℕ) (s : SymId) → k < length gone → symbol_at (removed_each a gone) (slice_index_or gone k s) ≡ None
  removed_shallow_gone k s within =
      ap (λ d. symbol_at d (slice_index_or gone k s)) (sym (removed_each_shallow t gone a links there shallow).0) ∙ taken_out_each-gone gone a k s within

  pub removed_shallow_linked : Linked (removed_each a gone)
  removed_shallow_linked = (removed_each_shallow t gone a links there shallow).1

-- What a walk over a table tells.
module _ {K : Type 0} (a : Scopes K) (links : Linked a) where
  -- each symbol that stands in a table has a place there
  pub place_in_table : (t : TableId) (u : SymId) → table_of a u ≡ Some t
      → (place : ℕ) × (place < length (names_in a t)) × (symbol_in_place a t place ≡ Some u)
  place_in_table t u e = by (symbol_at a u) refl e
    where
      by : (o : Option (Symbol K)) → symbol_at a u ≡ o → option_map (λ (y : Symbol K). y.table) o ≡ Some t
          → (place : ℕ) × (place < length (names_in a t)) × (symbol_in_place a t place ≡ Some u)
      by None live q = absurd (none_some t q)
      by (Some y) live q =
          let same : y.table ≡ t = cc q in
          place_of_name (names_in a t) y.name u (ap (λ v. symbol_in a v y.name) (sym same) ∙ links.stands u y live)

  -- the premise of `remove_owned`
  pub walk_tells_childless : (s : SymId) (t : TableId) → owned_by a s ≡ Some t
      → ((place : ℕ) (u : SymId) → place < length (names_in a t) → symbol_in_place a t place ≡ Some u → owned_by a u ≡ None)
      → OwnsNoOwner a s
  walk_tells_childless s t owns walk u e = let p = place_in_table t u (e ∙ owns) in walk p.0 u p.1 p.2

  -- the premise of `remove_all`
  pub plain_in : (t : TableId) (s : SymId) → table_of a s ≡ Some t → owned_by a s ≡ None → IsPlainIn a t s
  plain_in t s stands free y live =
      let table : Some y.table ≡ Some t = sym (ap (option_map (λ (v : Symbol K). v.table)) live) ∙ stands in
      (cc table, sym (ap (option_and_then (λ (v : Symbol K). v.owned)) live) ∙ free)

  -- the premise of `remove_all_owned`
  pub shallow_in : (t : TableId) (s : SymId) → table_of a s ≡ Some t → OwnsNoOwner a s → IsShallowIn a t s
  shallow_in t s stands childless y live =
      let table : Some y.table ≡ Some t = sym (ap (option_map (λ (v : Symbol K). v.table)) live) ∙ stands in (cc table, childless)

  -- a symbol that owns no table owns no owner
  pub ownerless_childless : (s : SymId) → owned_by a s ≡ None → OwnsNoOwner a s
  ownerless_childless s none u e = by (symbol_at a u) (e ∙ none)
    where
      by : (o : Option (Symbol K)) → option_map (λ (v : Symbol K). v.table) o ≡ None → option_and_then (λ (v : Symbol K). v.owned) o ≡ None
      by None h = refl
      by (Some x) h = absurd (none_some x.table (sym h))

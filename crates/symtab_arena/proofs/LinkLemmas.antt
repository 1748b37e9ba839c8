-- The links stay through a declaration, a new table, a change of what a symbol stands for, and a removal.
use Rattle.std.proofs.Common.{◌≡◌, ◌≢◌, ℕ, zero, suc, ◌+◌, ◌<◌, ◌≤◌, true, List, [], ◌∷◌, length, Option, Some, None, is_some, refl, sym, ap, subst, ◌∙◌, ◌⊎◌, inl, inr, arith, true≢false}
use Rattle.std.specs.Option.{option_map_or, option_and_then}
use Rattle.lf_base.specs.declared.id.SymId.{SymId}
use Rattle.lf_base.specs.declared.id.TableId.{TableId}
use Rattle.symtab_arena.specs.Entries.{entry_at}
use Rattle.symtab_arena.specs.Names.{named, AreDistinct}
use Rattle.symtab_arena.specs.Scopes.{Scopes, symbol_numbers, symbol_id, table_id, the_root, next_symbol, table_at, HasTable, symbol_at, names_in, symbol_in, parent_of, owner_of, live_count}
use Rattle.symtab_arena.specs.Links.{Linked}
use Rattle.symtab_arena.specs.declared.table.Table.{Table}
use Rattle.symtab_arena.specs.declared.table.Symbol.{Symbol}
use Rattle.symtab_arena.proofs.EntryLemmas.{same_or, none_some}
use Rattle.symtab_arena.proofs.NameLemmas.{same_name_or}

pub same_symbol_or : (s u : SymId) → (s ≡ u) ⊎ (s ≢ u)
same_symbol_or s u = elim (same_or s.0 u.0) [ inl e ↦ inl (ap symbol_id e) | inr n ↦ inr (λ e. n (ap (λ (x : SymId). x.0) e)) ]

pub same_table_or : (t u : TableId) → (t ≡ u) ⊎ (t ≢ u)
same_table_or t u = elim (same_or t.0 u.0) [ inl e ↦ inl (ap table_id e) | inr n ↦ inr (λ e. n (ap (λ (x : TableId). x.0) e)) ]

same_place_or : (t u : TableId) (n m : List ℕ) → ((t ≡ u) × (n ≡ m)) ⊎ (t ≡ u → n ≡ m → ⊥)
same_place_or t u n m =
    elim (same_table_or t u) [
      | inl e ↦ elim (same_name_or n m) [ inl p ↦ inl (e, p.1) | inr p ↦ inr (λ _ q. p.1 q) ]
      | inr d ↦ inr (λ q _. d q)
    ]

pub some_is : {X : Type 0} (x y : X) → Some x ≡ Some y → x ≡ y
some_is x y e = cc

abbrev pub root_tables : List (Option Table)
root_tables = Some (record { parent = None; owner = None; names = [] }) ∷ []

root_only : (n : ℕ) → n ≢ 0 → entry_at root_tables n ≡ None
root_only zero h = absurd (h refl)
root_only (suc n) h = refl

root_names : (n : ℕ) → option_map_or (λ x. x.names) (entry_at root_tables n) [] ≡ []
root_names zero = refl
root_names (suc n) = refl

module _ {K : Type 0} where
  pub Linked-the_root : Linked {K = K} the_root
  Linked-the_root = record {
    root = refl;
    root_parent = refl;
    root_owner = refl;
    owners = λ t h d. absurd (true≢false (sym h ∙ ap is_some (root_only t.0 d)));
    owned = λ s y t live _. absurd (none_some y live);
    stands = λ s y live. absurd (none_some y live);
    lists = λ t name s e. absurd (none_some s (sym (ap (named name) (root_names t.0)) ∙ e));
    distinct = λ t. subst AreDistinct (sym (root_names t.0)) tt;
    symbols_given = omega arith;
    tables_given = omega arith;
  }

  pub new_links : (tables : List (Option Table)) (symbols : List (Option (Symbol K))) → tables ≡ root_tables → symbols ≡ []
      → Linked (record { tables = tables; symbols = symbols }) × (0 ≡ live_count {K = K} (record { tables = tables; symbols = symbols }))
  new_links tables symbols p q =
      subst (λ (a : Scopes K). Linked a × (0 ≡ live_count a)) (λ i. record { tables = sym p i; symbols = sym q i }) (Linked-the_root, refl)

  -- a table in which a name stands is there
  pub has_table : (a : Scopes K) (t : TableId) (n : List ℕ) (s : SymId) → symbol_in a t n ≡ Some s → HasTable a t
  has_table a t n s e = by (table_at a t) e
    where
      by : (o : Option Table) → named n (option_map_or (λ x. x.names) o []) ≡ Some s → is_some o ≡ true
      by None e = absurd (none_some s e)
      by (Some x) e = refl

  -- One symbol more, under a new name.
  pub record Adds (a b : Scopes K) (y : Symbol K) : Type 0 where
    pub new_name : symbol_in a y.table y.name ≡ None
    pub now : symbol_at b (next_symbol a) ≡ Some y
    pub before : symbol_at a (next_symbol a) ≡ None
    pub others : (s : SymId) → s ≢ next_symbol a → symbol_at b s ≡ symbol_at a s
    pub tables : (t : TableId) → is_some (table_at b t) ≡ is_some (table_at a t)
    pub parents : (t : TableId) → parent_of b t ≡ parent_of a t
    pub owners : (t : TableId) → owner_of b t ≡ owner_of a t
    pub named_now : symbol_in b y.table y.name ≡ Some (next_symbol a)
    pub named_others : (t : TableId) (n : List ℕ) → (t ≡ y.table → n ≡ y.name → ⊥) → symbol_in b t n ≡ symbol_in a t n
    pub distinct : (t : TableId) → AreDistinct (names_in b t)
    pub symbols_given : length b.symbols ≤ symbol_numbers
    pub tables_given : length b.tables ≤ length b.symbols + 1

  module _ (a b : Scopes K) (y : Symbol K) (links : Linked a) (adds : Adds a b y) where
    -- what was live stays
    stays : (s : SymId) (z : Symbol K) → symbol_at a s ≡ Some z → symbol_at b s ≡ Some z
    stays s z e =
        elim (same_symbol_or s (next_symbol a)) [
          | inl q ↦ absurd (none_some z (sym adds.before ∙ ap (symbol_at a) (sym q) ∙ e))
          | inr d ↦ adds.others s d ∙ e
        ]

    named_stays : (t : TableId) (n : List ℕ) (s : SymId) → symbol_in a t n ≡ Some s → symbol_in b t n ≡ Some s
    named_stays t n s e =
        elim (same_place_or t y.table n y.name) [
          | inl q ↦ absurd (none_some s (sym adds.new_name ∙ (λ i. symbol_in a (sym q.0 i) (sym q.1 i)) ∙ e))
          | inr d ↦ adds.named_others t n d ∙ e
        ]

    pub Linked-adds : y.owned ≡ None → Linked b
    Linked-adds free = record {
      root = adds.tables (table_id 0) ∙ links.root;
      root_parent = adds.parents (table_id 0) ∙ links.root_parent;
      root_owner = adds.owners (table_id 0) ∙ links.root_owner;
      owners = λ t h d.
          let o = links.owners t (sym (adds.tables t) ∙ h) d in
          record {
            owner = o.owner;
            symbol = o.symbol;
            owner_is = adds.owners t ∙ o.owner_is;
            live = stays o.owner o.symbol o.live;
            owns = o.owns;
            parent_is = adds.parents t ∙ o.parent_is;
            falls = o.falls;
          };
      owned = λ s z t live owns.
          elim (same_symbol_or s (next_symbol a)) [
            | inl q ↦
                let same : y ≡ z = some_is y z (sym adds.now ∙ ap (symbol_at b) (sym q) ∙ live) in
                absurd (none_some t (sym free ∙ ap (λ (x : Symbol K). x.owned) same ∙ owns))
            | inr d ↦ adds.owners t ∙ links.owned s z t (sym (adds.others s d) ∙ live) owns
          ];
      stands = λ s z live.
          elim (same_symbol_or s (next_symbol a)) [
            | inl q ↦
                let same : y ≡ z = some_is y z (sym adds.now ∙ ap (symbol_at b) (sym q) ∙ live) in
                ap (λ (x : Symbol K). symbol_in b x.table x.name) (sym same) ∙ adds.named_now ∙ ap Some (sym q)
            | inr d ↦ named_stays z.table z.name s (links.stands s z (sym (adds.others s d) ∙ live))
          ];
      lists = λ t n s e.
          elim (same_place_or t y.table n y.name) [
            | inl q ↦
                let same : next_symbol a ≡ s = some_is (next_symbol a) s (sym adds.named_now ∙ (λ i. symbol_in b (sym q.0 i) (sym q.1 i)) ∙ e) in
                record { symbol = y; live = ap (symbol_at b) (sym same) ∙ adds.now; in_table = sym q.0; has_name = sym q.1 }
            | inr d ↦
                let old = links.lists t n s (sym (adds.named_others t n d) ∙ e) in
                record { symbol = old.symbol; live = stays s old.symbol old.live; in_table = old.in_table; has_name = old.has_name }
          ];
      distinct = adds.distinct;
      symbols_given = adds.symbols_given;
      tables_given = adds.tables_given;
    }

  -- A symbol that owned no table owns a new empty one.
  pub record Opens (a b : Scopes K) (s : SymId) (y z : Symbol K) (new : TableId) : Type 0 where
    pub was : symbol_at a s ≡ Some y
    pub free : y.owned ≡ None
    pub now : symbol_at b s ≡ Some z
    pub same_table : z.table ≡ y.table
    pub same_name : z.name ≡ y.name
    pub owns : z.owned ≡ Some new
    pub others : (u : SymId) → u ≢ s → symbol_at b u ≡ symbol_at a u
    pub there : HasTable b new
    pub parent_is : parent_of b new ≡ Some z.table
    pub owner_is : owner_of b new ≡ Some s
    pub no_owner : owner_of a new ≡ None
    pub later : (t : TableId) → HasTable a t → t.0 < new.0
    pub tables : (t : TableId) → t ≢ new → table_at b t ≡ table_at a t
    pub names : (t : TableId) → names_in b t ≡ names_in a t
    pub symbols_given : length b.symbols ≤ symbol_numbers
    pub tables_given : length b.tables ≤ length b.symbols + 1

  module _ (a b : Scopes K) (s : SymId) (y z : Symbol K) (new : TableId) (links : Linked a) (opens : Opens a b s y z new) where
    not_root : table_id 0 ≢ new
    not_root e = let before = opens.later (table_id 0) links.root in let same = ap (λ (x : TableId). x.0) e in omega arith

    same_named : (t : TableId) (n : List ℕ) → symbol_in b t n ≡ symbol_in a t n
    same_named t n = ap (named n) (opens.names t)

    other_owner : (u : SymId) (x : Symbol K) (t : TableId) → symbol_at a u ≡ Some x → x.owned ≡ Some t → u ≢ s
    other_owner u x t live owns q =
        let same : y ≡ x = some_is y x (sym opens.was ∙ ap (symbol_at a) (sym q) ∙ live) in
        none_some t (sym opens.free ∙ ap (λ (v : Symbol K). v.owned) same ∙ owns)

    pub Linked-opens : Linked b
    Linked-opens = record {
      root = ap is_some (opens.tables (table_id 0) not_root) ∙ links.root;
      root_parent = ap (option_and_then (λ (x : Table). x.parent)) (opens.tables (table_id 0) not_root) ∙ links.root_parent;
      root_owner = ap (option_and_then (λ (x : Table). x.owner)) (opens.tables (table_id 0) not_root) ∙ links.root_owner;
      owners = λ t h d.
          elim (same_table_or t new) [
            | inl q ↦
                let above = opens.later y.table (has_table a y.table y.name s (links.stands s y opens.was)) in
                let number = ap (λ (x : TableId). x.0) opens.same_table in
                let last = ap (λ (x : TableId). x.0) q in
                record {
                  owner = s;
                  symbol = z;
                  owner_is = ap (owner_of b) q ∙ opens.owner_is;
                  live = opens.now;
                  owns = opens.owns ∙ ap Some (sym q);
                  parent_is = ap (parent_of b) q ∙ opens.parent_is;
                  falls = omega arith;
                }
            | inr e ↦
                let o = links.owners t (sym (ap is_some (opens.tables t e)) ∙ h) d in
                record {
                  owner = o.owner;
                  symbol = o.symbol;
                  owner_is = ap (option_and_then (λ (x : Table). x.owner)) (opens.tables t e) ∙ o.owner_is;
                  live = opens.others o.owner (other_owner o.owner o.symbol t o.live o.owns) ∙ o.live;
                  owns = o.owns;
                  parent_is = ap (option_and_then (λ (x : Table). x.parent)) (opens.tables t e) ∙ o.parent_is;
                  falls = o.falls;
                }
          ];
      owned = λ u x t live owns.
          elim (same_symbol_or u s) [
            | inl q ↦
                let same : z ≡ x = some_is z x (sym opens.now ∙ ap (symbol_at b) (sym q) ∙ live) in
                let table : new ≡ t = some_is new t (sym opens.owns ∙ ap (λ (v : Symbol K). v.owned) same ∙ owns) in
                ap (owner_of b) (sym table) ∙ opens.owner_is ∙ ap Some (sym q)
            | inr d ↦
                let old = links.owned u x t (sym (opens.others u d) ∙ live) owns in
                elim (same_table_or t new) [
                  | inl q ↦ absurd (none_some u (sym opens.no_owner ∙ ap (owner_of a) (sym q) ∙ old))
                  | inr e ↦ ap (option_and_then (λ (x : Table). x.owner)) (opens.tables t e) ∙ old
                ]
          ];
      stands = λ u x live.
          elim (same_symbol_or u s) [
            | inl q ↦
                let same : z ≡ x = some_is z x (sym opens.now ∙ ap (symbol_at b) (sym q) ∙ live) in
                ap (λ (v : Symbol K). symbol_in b v.table v.name) (sym same) ∙ same_named z.table z.name
                ∙ (λ i. symbol_in a (opens.same_table i) (opens.same_name i)) ∙ links.stands s y opens.was ∙ ap Some (sym q)
            | inr d ↦ same_named x.table x.name ∙ links.stands u x (sym (opens.others u d) ∙ live)
          ];
      lists = λ t n u e.
          let old = links.lists t n u (sym (same_named t n) ∙ e) in
          elim (same_symbol_or u s) [
            | inl q ↦
                let same : y ≡ old.symbol = some_is y old.symbol (sym opens.was ∙ ap (symbol_at a) (sym q) ∙ old.live) in
                record {
                  symbol = z;
                  live = ap (symbol_at b) q ∙ opens.now;
                  in_table = opens.same_table ∙ ap (λ (v : Symbol K). v.table) same ∙ old.in_table;
                  has_name = opens.same_name ∙ ap (λ (v : Symbol K). v.name) same ∙ old.has_name;
                }
            | inr d ↦ record { symbol = old.symbol; live = opens.others u d ∙ old.live; in_table = old.in_table; has_name = old.has_name }
          ];
      distinct = λ t. subst AreDistinct (sym (opens.names t)) (links.distinct t);
      symbols_given = opens.symbols_given;
      tables_given = opens.tables_given;
    }

  -- A symbol is gone, with the table that it owns and the symbols in that table, none of which owns a table.
  pub record Removes (a b : Scopes K) (s : SymId) (y : Symbol K) : Type 0 where
    pub was : symbol_at a s ≡ Some y
    pub childless : (u : SymId) (x : Symbol K) → symbol_at a u ≡ Some x → y.owned ≡ Some x.table → x.owned ≡ None
    pub left : (u : SymId) (x : Symbol K) → symbol_at b u ≡ Some x → (symbol_at a u ≡ Some x) × (u ≢ s) × (y.owned ≢ Some x.table)
    pub stay : (u : SymId) (x : Symbol K) → symbol_at a u ≡ Some x → u ≢ s → y.owned ≢ Some x.table → symbol_at b u ≡ Some x
    pub gone : (t : TableId) → HasTable b t → y.owned ≢ Some t
    pub tables : (t : TableId) → y.owned ≢ Some t → is_some (table_at b t) ≡ is_some (table_at a t)
    pub parents : (t : TableId) → y.owned ≢ Some t → parent_of b t ≡ parent_of a t
    pub owners : (t : TableId) → y.owned ≢ Some t → owner_of b t ≡ owner_of a t
    pub unnamed : symbol_in b y.table y.name ≡ None
    pub named_others : (t : TableId) (n : List ℕ) → y.owned ≢ Some t → (t ≡ y.table → n ≡ y.name → ⊥) → symbol_in b t n ≡ symbol_in a t n
    pub distinct : (t : TableId) → AreDistinct (names_in b t)
    pub symbols_given : length b.symbols ≤ symbol_numbers
    pub tables_given : length b.tables ≤ length b.symbols + 1

  module _ (a b : Scopes K) (s : SymId) (y : Symbol K) (links : Linked a) (removes : Removes a b s y) where
    same_from : (x : Symbol K) → symbol_at a s ≡ Some x → y ≡ x
    same_from x live = some_is y x (sym removes.was ∙ live)

    root_stays : y.owned ≢ Some (table_id 0)
    root_stays e = none_some s (sym links.root_owner ∙ links.owned s y (table_id 0) removes.was e)

    pub Linked-removes : Linked b
    Linked-removes = record {
      root = removes.tables (table_id 0) root_stays ∙ links.root;
      root_parent = removes.parents (table_id 0) root_stays ∙ links.root_parent;
      root_owner = removes.owners (table_id 0) root_stays ∙ links.root_owner;
      owners = λ t h d.
          let there = removes.gone t h in
          let o = links.owners t (sym (removes.tables t there) ∙ h) d in
          record {
            owner = o.owner;
            symbol = o.symbol;
            owner_is = removes.owners t there ∙ o.owner_is;
            live = removes.stay o.owner o.symbol o.live
                (λ q. there (ap (λ (v : Symbol K). v.owned) (same_from o.symbol (ap (symbol_at a) (sym q) ∙ o.live)) ∙ o.owns))
                (λ q. none_some t (sym (removes.childless o.owner o.symbol o.live q) ∙ o.owns));
            owns = o.owns;
            parent_is = removes.parents t there ∙ o.parent_is;
            falls = o.falls;
          };
      owned = λ u x t live owns.
          let old = removes.left u x live in
          let owner = links.owned u x t old.0 owns in
          let there : y.owned ≢ Some t = λ q. old.1 (some_is u s (sym owner ∙ links.owned s y t removes.was q)) in
          removes.owners t there ∙ owner;
      stands = λ u x live.
          let old = removes.left u x live in
          let named_there = links.stands u x old.0 in
          removes.named_others x.table x.name old.2
          (λ p q. old.1 (some_is u s (sym named_there ∙ (λ i. symbol_in a (p i) (q i)) ∙ links.stands s y removes.was)))
          ∙ named_there;
      lists = λ t n u e.
          let there = removes.gone t (has_table b t n u e) in
          let other : (t ≡ y.table → n ≡ y.name → ⊥) = λ p q. none_some u (sym removes.unnamed ∙ (λ i. symbol_in b (sym p i) (sym q i)) ∙ e) in
          let old = links.lists t n u (sym (removes.named_others t n there other) ∙ e) in
          record {
            symbol = old.symbol;
            live = removes.stay u old.symbol old.live
                (λ q.
                let same = same_from old.symbol (ap (symbol_at a) (sym q) ∙ old.live) in
                other (sym (ap (λ (v : Symbol K). v.table) same ∙ old.in_table)) (sym (ap (λ (v : Symbol K). v.name) same ∙ old.has_name)))
                (λ q. there (q ∙ ap Some old.in_table));
            in_table = old.in_table;
            has_name = old.has_name;
          };
      distinct = removes.distinct;
      symbols_given = removes.symbols_given;
      tables_given = removes.tables_given;
    }

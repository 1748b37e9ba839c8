-- The links stay through what the definitions of a removal and of a change of what a symbol stands for say.
use Rattle.std.proofs.Common.{◌≡◌, ◌≢◌, ℕ, suc, ◌+◌, ◌-◌, ◌≤◌, true, List, [], ◌∷◌, length, map, slice_set, Option, Some, None, is_some, if◌then◌else◌, refl, sym, ap, subst, ◌∙◌, ◌⊎◌, inl, inr, arith, true≢false}
use Rattle.std.proofs.lemmas.Bool.Decides.{eqb_tells}
use Rattle.std.proofs.lemmas.List.{length-set}
use Rattle.std.specs.List.{count_by}
use Rattle.std.specs.Option.{option_map, option_map_or, option_and_then}
use Rattle.lf_base.specs.declared.id.SymId.{SymId}
use Rattle.lf_base.specs.declared.id.TableId.{TableId}
use Rattle.symtab_arena.specs.Changes.{with_names, outside, without_table, removed_from, OwnsNoOwner}
use Rattle.symtab_arena.specs.Entries.{entry_at}
use Rattle.symtab_arena.specs.Links.{Linked}
use Rattle.symtab_arena.specs.Names.{named, without, AreDistinct}
use Rattle.symtab_arena.specs.Scopes.{Scopes, symbol_id, table_id, table_at, HasTable, symbol_at, live_count, names_in, symbol_in, owner_of, owned_by}
use Rattle.symtab_arena.specs.Tables.{cleared}
use Rattle.symtab_arena.specs.declared.table.Table.{Table}
use Rattle.symtab_arena.specs.declared.table.Symbol.{Symbol}
use Rattle.symtab_arena.proofs.ChangeLemmas.{length-with_names, entry_at-with_names_other, entry_at-with_names_same, with_names-keeps}
use Rattle.symtab_arena.proofs.ClearLemmas.{length-cleared, cleared-nothing, cleared-listed, cleared-other}
use Rattle.symtab_arena.proofs.EntryLemmas.{same_or, none_some, some_from, entry_at-set_other, entry_at-set_none, entry_at-map, same_entries, count-set_none}
use Rattle.symtab_arena.proofs.LinkLemmas.{Removes, Linked-removes, has_table, same_symbol_or, same_table_or, some_is}
use Rattle.symtab_arena.proofs.NameLemmas.{named-without_other, named-without_same, distinct-without}

owns_or : (o : Option TableId) (t : TableId) → (o ≡ Some t) ⊎ (o ≢ Some t)
owns_or None t = inr (λ e. none_some t e)
owns_or (Some u) t = elim (same_table_or u t) [ inl e ↦ inl (ap Some e) | inr d ↦ inr (λ e. d (some_is u t e)) ]

module _ {K : Type 0} where
  outside_some : (t : TableId) (o : Option (Symbol K)) (x : Symbol K) → outside t o ≡ Some x → (o ≡ Some x) × (x.table ≢ t)
  outside_some t None x e = absurd (none_some x e)
  outside_some t (Some y) x e =
      elim (eqb_tells y.table.0 t.0) [
        | inl p ↦ absurd (none_some x (sym (ap (λ b. if b then None else Some y) p.0) ∙ e))
        | inr p ↦
            let same : Some y ≡ Some x = sym (ap (λ b. if b then None else Some y) p.0) ∙ e in
            (same, λ q. p.1 (ap (λ (v : Symbol K). v.table.0) (some_is y x same) ∙ ap (λ (u : TableId). u.0) q))
      ]

  outside_stays : (t : TableId) (o : Option (Symbol K)) (x : Symbol K) → o ≡ Some x → x.table ≢ t → outside t o ≡ Some x
  outside_stays t None x e d = absurd (none_some x e)
  outside_stays t (Some y) x e d =
      elim (eqb_tells y.table.0 t.0) [
        | inl p ↦ absurd (d (sym (ap (λ (v : Symbol K). v.table) (some_is y x e)) ∙ ap table_id p.1))
        | inr p ↦ ap (λ b. if b then None else Some y) p.0 ∙ e
      ]

  outside_goes : (t : TableId) (x : Symbol K) → x.table ≡ t → outside t (Some x) ≡ None
  outside_goes t x e =
      elim (eqb_tells x.table.0 t.0) [
        | inl p ↦ ap (λ b. if b then None else Some x) p.0
        | inr p ↦ absurd (p.1 (ap (λ (u : TableId). u.0) e))
      ]

  module _ (a : Scopes K) where
    left_by : (o : Option TableId) (n : ℕ) (x : Symbol K) → entry_at (without_table a o).symbols n ≡ Some x → (entry_at a.symbols n ≡ Some x) × (o ≢ Some x.table)
    left_by None n x e = (e, λ q. none_some x.table q)
    left_by (Some t) n x e =
        let p = outside_some t (entry_at a.symbols n) x (sym (entry_at-map (outside t) refl a.symbols n) ∙ e) in
        (p.0, λ q. p.1 (some_is x.table t (sym q)))

    stay_by : (o : Option TableId) (n : ℕ) (x : Symbol K) → entry_at a.symbols n ≡ Some x → o ≢ Some x.table → entry_at (without_table a o).symbols n ≡ Some x
    stay_by None n x e d = e
    stay_by (Some t) n x e d = entry_at-map (outside t) refl a.symbols n ∙ outside_stays t (entry_at a.symbols n) x e (λ q. d (ap Some (sym q)))

    table_by : (o : Option TableId) (t : TableId) → o ≢ Some t → entry_at (without_table a o).tables t.0 ≡ entry_at a.tables t.0
    table_by None t d = refl
    table_by (Some u) t d = entry_at-set_other a.tables u.0 t.0 None (λ e. d (ap (λ n. Some (table_id n)) (sym e)))

    gone_by : (o : Option TableId) (t : TableId) → o ≡ Some t → entry_at (without_table a o).tables t.0 ≡ None
    gone_by None t e = absurd (none_some t e)
    gone_by (Some u) t e = ap (λ (v : TableId). entry_at (slice_set a.tables v.0 None) t.0) (some_is u t e) ∙ entry_at-set_none a.tables t.0

    length_symbols_by : (o : Option TableId) → length (without_table a o).symbols ≡ length a.symbols
    length_symbols_by None = refl
    length_symbols_by (Some t) = length_mapped a.symbols
      where
        length_mapped : (xs : List (Option (Symbol K))) → length (map (outside t) xs) ≡ length xs
        length_mapped [] = refl
        length_mapped (x ∷ xs) = ap suc (length_mapped xs)

    length_tables_by : (o : Option TableId) → length (without_table a o).tables ≡ length a.tables
    length_tables_by None = refl
    length_tables_by (Some t) = length-set a.tables t.0 None

  module _ (a : Scopes K) (s : SymId) (y : Symbol K) (links : Linked a) (was : symbol_at a s ≡ Some y) where
    abbrev base : Scopes K
    base = without_table a y.owned

    -- the state without the symbol and what it owns
    abbrev pub after : Scopes K
    after = record { tables = with_names base.tables y.table (without y.name); symbols = slice_set base.symbols s.0 None }

    pub removed_is : removed_from a s ≡ after
    removed_is =
        ap
        (λ o. option_map_or {T = Symbol K}
        (λ v. record { tables = with_names (without_table a v.owned).tables v.table (without v.name); symbols = slice_set (without_table a v.owned).symbols s.0 None })
        o a)
        was

    -- a symbol does not own the table in which it stands
    pub not_own : y.owned ≢ Some y.table
    not_own e =
        let owner = links.owned s y y.table was e in
        let there = has_table a y.table y.name s (links.stands s y was) in
        elim (same_or y.table.0 0) [
          | inl z ↦ absurd (none_some s (sym links.root_owner ∙ ap (owner_of a) (ap table_id (sym z)) ∙ owner))
          | inr d ↦
              let o = links.owners y.table there d in
              let same : o.owner ≡ s = some_is o.owner s (sym o.owner_is ∙ owner) in
              let symbol : o.symbol ≡ y = some_is o.symbol y (sym o.live ∙ ap (symbol_at a) same ∙ was) in
              let number = ap (λ (v : Symbol K). v.table.0) symbol in
              let falls = o.falls in
              absurd (omega arith)
        ]

    pub table_there : is_some (entry_at base.tables y.table.0) ≡ true
    table_there = ap is_some (table_by a y.owned y.table not_own) ∙ has_table a y.table y.name s (links.stands s y was)

    pub table_left : (t : TableId) → y.owned ≡ Some t → is_some (entry_at (slice_set a.tables t.0 None) y.table.0) ≡ true
    table_left t e = subst (λ (o : Option TableId). is_some (entry_at (without_table a o).tables y.table.0) ≡ true) e table_there

    pub owned_there : (t : TableId) → y.owned ≡ Some t → HasTable a t
    owned_there t e = by (table_at a t) (links.owned s y t was e)
      where
        by : (o : Option Table) → option_and_then (λ (x : Table). x.owner) o ≡ Some s → is_some o ≡ true
        by None h = absurd (none_some s h)
        by (Some x) h = refl

    pub names_now : names_in after y.table ≡ without y.name (names_in a y.table)
    names_now =
        let x = some_from (entry_at base.tables y.table.0) table_there in
        ap (λ o. option_map_or (λ (v : Table). v.names) o []) (entry_at-with_names_same base.tables y.table (without y.name) x.0 x.1)
        ∙ sym (ap (λ o. without y.name (option_map_or (λ (v : Table). v.names) o [])) x.1)
        ∙ ap (λ o. without y.name (option_map_or (λ (v : Table). v.names) o [])) (table_by a y.owned y.table not_own)

    names_others : (t : TableId) → t ≢ y.table → y.owned ≢ Some t → names_in after t ≡ names_in a t
    names_others t d e =
        ap (λ o. option_map_or (λ (v : Table). v.names) o [])
        (entry_at-with_names_other base.tables y.table (without y.name) t.0 (λ q. d (ap table_id q)) ∙ table_by a y.owned t e)

    keeps : {Y : Type 0} (f : Option Table → Y) → ((x : Table) → f (Some (record x { names = without y.name x.names })) ≡ f (Some x))
        → (t : TableId) → f (table_at after t) ≡ f (entry_at base.tables t.0)
    keeps f h t = let x = some_from (entry_at base.tables y.table.0) table_there in with_names-keeps base.tables y.table (without y.name) x.0 x.1 f (h x.0) t.0

    pub removes : ((u : SymId) (x : Symbol K) → symbol_at a u ≡ Some x → y.owned ≡ Some x.table → x.owned ≡ None) → Removes a after s y
    removes childless = record {
      was = was;
      childless = childless;
      left = λ u x live.
          elim (same_symbol_or u s) [
            | inl q ↦ absurd (none_some x (sym (entry_at-set_none base.symbols s.0) ∙ ap (symbol_at after) (sym q) ∙ live))
            | inr d ↦
                let p = left_by a y.owned u.0 x (sym (entry_at-set_other base.symbols s.0 u.0 None (λ e. d (ap symbol_id e))) ∙ live) in
                (p.0, d, p.1)
          ];
      stay = λ u x live d e. entry_at-set_other base.symbols s.0 u.0 None (λ q. d (ap symbol_id q)) ∙ stay_by a y.owned u.0 x live e;
      gone = λ t h e. true≢false (sym h ∙ keeps is_some (λ x. refl) t ∙ ap is_some (gone_by a y.owned t e));
      tables = λ t d. keeps is_some (λ x. refl) t ∙ ap is_some (table_by a y.owned t d);
      parents = λ t d. keeps (option_and_then (λ (v : Table). v.parent)) (λ x. refl) t ∙ ap (option_and_then (λ (v : Table). v.parent)) (table_by a y.owned t d);
      owners = λ t d. keeps (option_and_then (λ (v : Table). v.owner)) (λ x. refl) t ∙ ap (option_and_then (λ (v : Table). v.owner)) (table_by a y.owned t d);
      unnamed = ap (named y.name) names_now ∙ named-without_same y.name (names_in a y.table) (links.distinct y.table);
      named_others = λ t n e d.
          elim (same_table_or t y.table) [
            | inl q ↦
                ap (λ v. symbol_in after v n) q ∙ ap (named n) names_now
                ∙ named-without_other y.name (names_in a y.table) n (λ m. d q m)
                ∙ ap (λ v. symbol_in a v n) (sym q)
            | inr q ↦ ap (named n) (names_others t q e)
          ];
      distinct = λ t.
          elim (same_table_or t y.table) [
            | inl q ↦
                subst (λ v. AreDistinct (names_in after v)) (sym q)
                (subst AreDistinct (sym names_now) (distinct-without y.name (names_in a y.table) (links.distinct y.table)))
            | inr q ↦ elim (owns_or y.owned t) [
              | inl e ↦
                  subst AreDistinct
                  (sym (ap (λ o. option_map_or (λ (v : Table). v.names) o [])
                  (entry_at-with_names_other base.tables y.table (without y.name) t.0 (λ r. q (ap table_id r)) ∙ gone_by a y.owned t e)))
                  tt
              | inr e ↦ subst AreDistinct (sym (names_others t q e)) (links.distinct t)
            ]
          ];
      symbols_given =
          let n = length-set base.symbols s.0 None in
          let m = length_symbols_by a y.owned in
          let k = links.symbols_given in
          omega arith;
      tables_given =
          let n = length-set base.symbols s.0 None in
          let m = length_symbols_by a y.owned in
          let i = length-with_names base.tables y.table (without y.name) in
          let j = length_tables_by a y.owned in
          let k = links.tables_given in
          omega arith;
    }

    pub removes_shallow : OwnsNoOwner a s → Removes a after s y
    removes_shallow childless =
        removes
        (λ u x live e.
        sym (ap (option_and_then (λ (v : Symbol K). v.owned)) live)
        ∙ childless u (ap (option_map (λ (v : Symbol K). v.table)) live ∙ sym e ∙ sym (ap (option_and_then (λ (v : Symbol K). v.owned)) was)))

    pub Linked-removed : OwnsNoOwner a s → Linked after
    Linked-removed childless = Linked-removes a after s y links (removes_shallow childless)

    pub removed_tables : length (removed_from a s).tables ≡ length a.tables
    removed_tables =
        ap (λ (b : Scopes K). length b.tables) removed_is
        ∙ length-with_names base.tables y.table (without y.name) ∙ length_tables_by a y.owned

    owned_is : owned_by a s ≡ y.owned
    owned_is = ap (option_and_then (λ (v : Symbol K). v.owned)) was

    pub owns_no_owner : y.owned ≡ None → OwnsNoOwner a s
    owns_no_owner none u e = by (symbol_at a u) (e ∙ owned_is ∙ none)
      where
        by : (o : Option (Symbol K)) → option_map (λ (v : Symbol K). v.table) o ≡ None → option_and_then (λ (v : Symbol K). v.owned) o ≡ None
        by None h = refl
        by (Some x) h = absurd (none_some x.table (sym h))

    -- what a symbol that owns no table leaves
    pub removed_keeps : y.owned ≡ None → (tables : List (Option Table)) (symbols : List (Option (Symbol K))) (live : ℕ) → live ≡ live_count a
        → tables ≡ with_names a.tables y.table (without y.name) → symbols ≡ slice_set a.symbols s.0 None
        → Linked (record { tables = tables; symbols = symbols }) × (live - 1 ≡ live_count (record { tables = tables; symbols = symbols }))
        × (record { tables = tables; symbols = symbols } ≡ removed_from a s)
    removed_keeps none tables symbols live counted p q =
        let is : ◌≡◌ {A = Scopes K} (record { tables = tables; symbols = symbols }) after =
        (λ i. record { tables = p i; symbols = q i })
        ∙ sym (ap (λ o. record { tables = with_names (without_table a o).tables y.table (without y.name); symbols = slice_set (without_table a o).symbols s.0 None }) none) in
        let fewer = count-set_none a.symbols s.0 y was in
        let same = ap (λ xs. count_by is_some xs) q in
        (subst (λ (b : Scopes K). Linked b) (sym is) (Linked-removed (owns_no_owner none)), omega arith, is ∙ sym removed_is)

    -- the table's list of its symbols says which are gone
    pub cleared_is : (t : TableId) → cleared (names_in a t) (slice_set a.symbols s.0 None) ≡ slice_set (map (outside t) a.symbols) s.0 None
    cleared_is t =
        same_entries left right lengths
        (λ n.
        elim (same_or n s.0) [
          | inl q ↦
              ap (entry_at left) q ∙ cleared-nothing (names_in a t) others s.0 (entry_at-set_none a.symbols s.0)
              ∙ sym (ap (entry_at right) q ∙ entry_at-set_none (map (outside t) a.symbols) s.0)
          | inr d ↦
              by n d (entry_at a.symbols n) refl
              ∙ sym (entry_at-set_other (map (outside t) a.symbols) s.0 n None d ∙ entry_at-map (outside t) refl a.symbols n)
        ])
      where
        others : List (Option (Symbol K))
        others = slice_set a.symbols s.0 None

        left : List (Option (Symbol K))
        left = cleared (names_in a t) others

        right : List (Option (Symbol K))
        right = slice_set (map (outside t) a.symbols) s.0 None

        lengths : length left ≡ length right
        lengths =
            length-cleared (names_in a t) others ∙ length-set a.symbols s.0 None
            ∙ sym (length-set (map (outside t) a.symbols) s.0 None ∙ length_symbols_by a (Some t))

        by : (n : ℕ) → n ≢ s.0 → (o : Option (Symbol K)) → entry_at a.symbols n ≡ o → entry_at left n ≡ outside t (entry_at a.symbols n)
        by n d None e = cleared-nothing (names_in a t) others n (entry_at-set_other a.symbols s.0 n None d ∙ e) ∙ sym (ap (outside t) e)
        by n d (Some x) e =
            elim (same_table_or x.table t) [
              | inl r ↦
                  cleared-listed (names_in a t) others x.name (symbol_id n) (ap (λ v. symbol_in a v x.name) (sym r) ∙ links.stands (symbol_id n) x e)
                  ∙ sym (ap (outside t) e ∙ outside_goes t x r)
              | inr r ↦
                  cleared-other (names_in a t) others n (links.distinct t)
                  (λ m u there same.
                  let old = links.lists t m u there in
                  r (ap (λ (v : Symbol K). v.table) (some_is x old.symbol (sym e ∙ ap (entry_at a.symbols) same ∙ old.live)) ∙ old.in_table))
                  ∙ entry_at-set_other a.symbols s.0 n None d ∙ e ∙ sym (ap (outside t) e ∙ outside_stays t (Some x) x refl r)
            ]

    -- what a symbol that owns a table leaves
    pub removed_owned_keeps : (t : TableId) → y.owned ≡ Some t → OwnsNoOwner a s
        → (tables : List (Option Table)) (symbols : List (Option (Symbol K))) (live n : ℕ) → live ≡ live_count a
        → tables ≡ with_names (slice_set a.tables t.0 None) y.table (without y.name)
        → symbols ≡ cleared (names_in a t) (slice_set a.symbols s.0 None)
        → count_by is_some symbols + n ≡ count_by is_some (slice_set a.symbols s.0 None)
        → Linked (record { tables = tables; symbols = symbols }) × (live - (1 + n) ≡ live_count (record { tables = tables; symbols = symbols }))
        × (record { tables = tables; symbols = symbols } ≡ removed_from a s)
    removed_owned_keeps t owns childless tables symbols live n counted p q gone =
        let is : ◌≡◌ {A = Scopes K} (record { tables = tables; symbols = symbols }) after =
        (λ i. record { tables = p i; symbols = (q ∙ cleared_is t) i })
        ∙ sym (ap (λ o. record { tables = with_names (without_table a o).tables y.table (without y.name); symbols = slice_set (without_table a o).symbols s.0 None }) owns) in
        let fewer = count-set_none a.symbols s.0 y was in
        (subst (λ (b : Scopes K). Linked b) (sym is) (Linked-removed childless), omega arith, is ∙ sym removed_is)

    pub fewer_live : (n m live : ℕ) → live ≡ live_count a → m + n ≡ count_by is_some (slice_set a.symbols s.0 None) → 1 + n ≤ live
    fewer_live n m live counted gone = let fewer = count-set_none a.symbols s.0 y was in omega arith

    pub one_live : (live : ℕ) → live ≡ live_count a → 1 ≤ live
    one_live live counted = let fewer = count-set_none a.symbols s.0 y was in omega arith

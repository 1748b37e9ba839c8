-- The links stay through what the definitions of declarations say.
use Rattle.std.proofs.Common.{◌≡◌, ◌≢◌, ℕ, ◌+◌, List, [], ◌∷◌, ◌++◌, length, insert, Option, Some, None, is_some, refl, sym, ap, subst, ◌∙◌, inl, inr, arith, true≢false}
use Rattle.std.proofs.lemmas.List.{length-set, length_push}
use Rattle.std.proofs.lemmas.List.Sums.{sum_by-append}
use Rattle.std.specs.Option.{option_map, option_map_or, option_and_then}
use Rattle.lf_base.specs.declared.id.SymId.{SymId}
use Rattle.lf_base.specs.declared.id.TableId.{TableId}
use Rattle.symtab_arena.specs.Answers.{MayDeclare}
use Rattle.symtab_arena.specs.Changes.{renamed, with_names, declared_in, owner_declared_in, OwnsNoOwner}
use Rattle.symtab_arena.specs.Entries.{entry_at}
use Rattle.symtab_arena.specs.Links.{Linked}
use Rattle.symtab_arena.specs.Names.{Names, named, AreDistinct}
use Rattle.symtab_arena.specs.Scopes.{Scopes, symbol_id, table_id, next_symbol, next_table, table_at, HasTable, symbol_at, live_count, names_in, symbol_in, IsLive, table_of, owned_by}
use Rattle.symtab_arena.specs.declared.table.Table.{Table}
use Rattle.symtab_arena.specs.declared.table.Symbol.{Symbol}
use Rattle.symtab_arena.proofs.EntryLemmas.{same_or, none_some, some_from, there_within, entry_at_within, entry_at_past, entry_at-set_same, entry_at-set_other, entry_at-push_last, entry_at-push_other}
use Rattle.symtab_arena.proofs.LinkLemmas.{Adds, Opens, Linked-adds, Linked-opens, same_table_or, same_symbol_or, some_is, has_table}
use Rattle.symtab_arena.proofs.NameLemmas.{named-insert_other, named-insert_same, distinct-insert}

module _ (tables : List (Option Table)) (t : TableId) (change : Names → Names) where
  pub length-with_names : length (with_names tables t change) ≡ length tables
  length-with_names = length-set tables t.0 (option_map (renamed change) (entry_at tables t.0))

  pub entry_at-with_names_other : (n : ℕ) → n ≢ t.0 → entry_at (with_names tables t change) n ≡ entry_at tables n
  entry_at-with_names_other n d = entry_at-set_other tables t.0 n (option_map (renamed change) (entry_at tables t.0)) d

  module _ (x : Table) (at : entry_at tables t.0 ≡ Some x) where
    pub entry_at-with_names_same : entry_at (with_names tables t change) t.0 ≡ Some (renamed change x)
    entry_at-with_names_same =
        entry_at-set_same tables t.0 (option_map (renamed change) (entry_at tables t.0)) (entry_at_within tables t.0 x at)
        ∙ ap (option_map (renamed change)) at

    -- what does not read the names stays
    pub with_names-keeps : {Y : Type 0} (f : Option Table → Y) → f (Some (renamed change x)) ≡ f (Some x)
        → (n : ℕ) → f (entry_at (with_names tables t change) n) ≡ f (entry_at tables n)
    with_names-keeps f h n =
        elim (same_or n t.0) [
          | inl e ↦ ap (λ m. f (entry_at (with_names tables t change) m)) e ∙ ap f entry_at-with_names_same ∙ h ∙ sym (ap f at) ∙ ap (λ m. f (entry_at tables m)) (sym e)
          | inr d ↦ ap f (entry_at-with_names_other n d)
        ]

module _ {K : Type 0} (a : Scopes K) (t : TableId) (place : ℕ) (name : List ℕ) (what : K) (links : Linked a) (there : HasTable a t) (may : MayDeclare a t name) where
  abbrev with_name : Names → Names
  with_name names = insert names place (name, next_symbol a)

  abbrev plain : Symbol K
  plain = record { name = name; table = t; owned = None; what = what }

  abbrev owning : Symbol K
  owning = record { name = name; table = t; owned = Some (next_table a); what = what }

  abbrev pub opened : Table
  opened = record { parent = Some t; owner = Some (next_symbol a); names = [] }

  abbrev pub tables_now : List (Option Table)
  tables_now = with_names a.tables t with_name

  abbrev pub declared : Scopes K
  declared = declared_in a t place name what

  abbrev pub owner_declared : Scopes K
  owner_declared = owner_declared_in a t place name what

  names_now : names_in declared t ≡ with_name (names_in a t)
  names_now =
      let x = some_from (table_at a t) there in
      ap (λ o. option_map_or (λ (v : Table). v.names) o []) (entry_at-with_names_same a.tables t with_name x.0 x.1)
      ∙ sym (ap (λ o. with_name (option_map_or (λ (v : Table). v.names) o [])) x.1)

  names_others : (u : TableId) → u ≢ t → names_in declared u ≡ names_in a u
  names_others u d = ap (λ o. option_map_or (λ (v : Table). v.names) o []) (entry_at-with_names_other a.tables t with_name u.0 (λ e. d (ap table_id e)))

  -- what is read of the tables and symbols after a declaration
  pub adds : Adds a declared plain
  adds =
      let x = some_from (table_at a t) there in
      record {
        new_name = may.new_name;
        now = entry_at-push_last a.symbols (Some plain);
        before = entry_at_past a.symbols (length a.symbols) (omega arith);
        others = λ s d. entry_at-push_other a.symbols (Some plain) s.0 (λ e. d (ap symbol_id e));
        tables = λ u. with_names-keeps a.tables t with_name x.0 x.1 is_some refl u.0;
        parents = λ u. with_names-keeps a.tables t with_name x.0 x.1 (option_and_then (λ (v : Table). v.parent)) refl u.0;
        owners = λ u. with_names-keeps a.tables t with_name x.0 x.1 (option_and_then (λ (v : Table). v.owner)) refl u.0;
        named_now = ap (named name) names_now ∙ named-insert_same name (next_symbol a) (names_in a t) place may.new_name;
        named_others = λ u n d.
            elim (same_table_or u t) [
              | inl e ↦
                  ap (λ v. symbol_in declared v n) e ∙ ap (named n) names_now
                  ∙ named-insert_other name (next_symbol a) (names_in a t) place n (λ q. d e q)
                  ∙ ap (λ v. symbol_in a v n) (sym e)
              | inr e ↦ ap (named n) (names_others u e)
            ];
        distinct = λ u.
            elim (same_table_or u t) [
              | inl e ↦
                  subst (λ v. AreDistinct (names_in declared v)) (sym e)
                  (subst AreDistinct (sym names_now) (distinct-insert name (next_symbol a) (names_in a t) place may.new_name (links.distinct t)))
              | inr e ↦ subst AreDistinct (sym (names_others u e)) (links.distinct u)
            ];
        symbols_given = let n = length_push a.symbols (Some plain) in let m = may.number_left in omega arith;
        tables_given =
            let n = length_push a.symbols (Some plain) in
            let m = length-with_names a.tables t with_name in
            let k = links.tables_given in
            omega arith;
      }

  pub Linked-declared : Linked declared
  Linked-declared = Linked-adds a declared plain links adds refl

  pub length_tables_now : length tables_now ≡ length a.tables
  length_tables_now = length-with_names a.tables t with_name

  pub opened_at : entry_at owner_declared.tables (length a.tables) ≡ Some opened
  opened_at = ap (entry_at owner_declared.tables) (sym length_tables_now) ∙ entry_at-push_last tables_now (Some opened)

  closed_at : entry_at tables_now (length a.tables) ≡ None
  closed_at = entry_at_past tables_now (length a.tables) (let n = length_tables_now in omega arith)

  pub other_tables : (u : TableId) → u ≢ next_table a → table_at owner_declared u ≡ table_at declared u
  other_tables u d = entry_at-push_other tables_now (Some opened) u.0 (λ e. d (ap table_id (e ∙ length_tables_now)))

  -- and what a new table changes
  pub opens : Opens declared owner_declared (next_symbol a) plain owning (next_table a)
  opens = record {
    was = entry_at-push_last a.symbols (Some plain);
    free = refl;
    now = entry_at-push_last a.symbols (Some owning);
    same_table = refl;
    same_name = refl;
    owns = refl;
    others = λ u d. entry_at-push_other a.symbols (Some owning) u.0 (λ e. d (ap symbol_id e)) ∙ sym (entry_at-push_other a.symbols (Some plain) u.0 (λ e. d (ap symbol_id e)));
    there = ap is_some opened_at;
    parent_is = ap (option_and_then (λ (v : Table). v.parent)) opened_at;
    owner_is = ap (option_and_then (λ (v : Table). v.owner)) opened_at;
    no_owner = ap (option_and_then (λ (v : Table). v.owner)) closed_at;
    later = λ u h. let n = there_within tables_now u.0 h in let m = length_tables_now in omega arith;
    tables = other_tables;
    names = λ u.
        elim (same_table_or u (next_table a)) [
          | inl e ↦
              ap (names_in owner_declared) e
              ∙ ap (λ o. option_map_or (λ (v : Table). v.names) o []) opened_at
              ∙ sym (ap (λ o. option_map_or (λ (v : Table). v.names) o []) closed_at)
              ∙ ap (names_in declared) (sym e)
          | inr d ↦ ap (λ o. option_map_or (λ (v : Table). v.names) o []) (other_tables u d)
        ];
    symbols_given = let n = length_push a.symbols (Some owning) in let m = may.number_left in omega arith;
    tables_given =
        let n = length_push a.symbols (Some owning) in
        let m = length_push tables_now (Some opened) in
        let l = length_tables_now in
        let k = links.tables_given in
        omega arith;
  }

  pub Linked-owner_declared : Linked owner_declared
  Linked-owner_declared = Linked-opens declared owner_declared (next_symbol a) plain owning (next_table a) Linked-declared opens

  -- a symbol whose table has no owner keeps it so when a symbol that owns none is declared anywhere
  pub childless-declared : (s : SymId) → IsLive a s → OwnsNoOwner a s → OwnsNoOwner declared s
  childless-declared s live childless u e =
      let older : s ≢ next_symbol a = λ q. true≢false (sym live ∙ ap (λ v. is_some (symbol_at a v)) q ∙ ap is_some adds.before) in
      elim (same_symbol_or u (next_symbol a)) [
        | inl q ↦ ap (owned_by declared) q ∙ ap (option_and_then (λ (v : Symbol K). v.owned)) adds.now
        | inr d ↦
            ap (option_and_then (λ (v : Symbol K). v.owned)) (adds.others u d)
            ∙ childless u
            (sym (ap (option_map (λ (v : Symbol K). v.table)) (adds.others u d)) ∙ e ∙ ap (option_and_then (λ (v : Symbol K). v.owned)) (adds.others s older))
      ]

  -- a new table is empty
  pub childless-owner_declared : OwnsNoOwner owner_declared (next_symbol a)
  childless-owner_declared u e =
      let owned : table_of owner_declared u ≡ Some (next_table a) = e ∙ ap (option_and_then (λ (v : Symbol K). v.owned)) opens.now in
      elim (same_symbol_or u (next_symbol a)) [
        | inl q ↦
            let same : t ≡ next_table a =
            some_is t (next_table a) (sym (ap (option_map (λ (v : Symbol K). v.table)) opens.now) ∙ ap (table_of owner_declared) (sym q) ∙ owned) in
            let number = ap (λ (v : TableId). v.0) same in
            let within = there_within a.tables t.0 there in
            absurd (omega arith)
        | inr d ↦ absurd (nowhere u (symbol_at a u) refl (sym (ap (option_map (λ (v : Symbol K). v.table)) (opens.others u d ∙ adds.others u d)) ∙ owned))
      ]
    where
      nowhere : (v : SymId) (o : Option (Symbol K)) → symbol_at a v ≡ o → option_map (λ (x : Symbol K). x.table) (symbol_at a v) ≡ Some (next_table a) → ⊥
      nowhere v None is q = none_some (next_table a) (sym (ap (option_map (λ (x : Symbol K). x.table)) is) ∙ q)
      nowhere v (Some x) is q =
          let same = some_is x.table (next_table a) (sym (ap (option_map (λ (y : Symbol K). y.table)) is) ∙ q) in
          let number = ap (λ (y : TableId). y.0) same in
          let within = there_within a.tables x.table.0 (has_table a x.table x.name v (links.stands v x is)) in
          absurd (omega arith)

  one_more : (y : Symbol K) → live_count (record { tables = a.tables; symbols = a.symbols ++ Some y ∷ [] }) ≡ live_count a + 1
  one_more y = sum_by-append _ a.symbols (Some y ∷ [])

  -- the fields after a declaration, as the code has made them
  module _ (tables : List (Option Table)) (symbols : List (Option (Symbol K))) (live n : ℕ) (key own : List ℕ)
      (counted : live ≡ live_count a) (number : n ≡ length a.symbols) (key_is : key ≡ name) (own_is : own ≡ name) where
    pub declared_keeps : tables ≡ with_names a.tables t (λ names. insert names place (key, symbol_id n))
        → symbols ≡ a.symbols ++ Some (record { name = own; table = t; owned = None; what = what }) ∷ []
        → Linked (record { tables = tables; symbols = symbols }) × (live + 1 ≡ live_count (record { tables = tables; symbols = symbols }))
    declared_keeps p q =
        let tables_is : tables ≡ declared.tables = p ∙ (λ i. with_names a.tables t (λ names. insert names place (key_is i, symbol_id (number i)))) in
        let symbols_is : symbols ≡ declared.symbols = q ∙ ap (λ m. a.symbols ++ Some (record { name = m; table = t; owned = None; what = what }) ∷ []) own_is in
        subst (λ (b : Scopes K). Linked b × (live + 1 ≡ live_count b)) (λ i. record { tables = sym tables_is i; symbols = sym symbols_is i })
        (Linked-declared, ap (λ m. m + 1) counted ∙ sym (one_more plain))

    pub owner_declared_keeps : (m : ℕ) → m ≡ length a.tables
        → tables ≡ with_names a.tables t (λ names. insert names place (key, symbol_id n)) ++ Some (record { parent = Some t; owner = Some (symbol_id n); names = [] }) ∷ []
        → symbols ≡ a.symbols ++ Some (record { name = own; table = t; owned = Some (table_id m); what = what }) ∷ []
        → Linked (record { tables = tables; symbols = symbols }) × (live + 1 ≡ live_count (record { tables = tables; symbols = symbols }))
    owner_declared_keeps m table_number p q =
        let tables_is : tables ≡ owner_declared.tables =
        p ∙ (λ i. with_names a.tables t (λ names. insert names place (key_is i, symbol_id (number i))) ++ Some (record { parent = Some t; owner = Some (symbol_id (number i)); names = [] }) ∷ []) in
        let symbols_is : symbols ≡ owner_declared.symbols =
        q ∙ (λ i. a.symbols ++ Some (record { name = own_is i; table = t; owned = Some (table_id (table_number i)); what = what }) ∷ []) in
        subst (λ (b : Scopes K). Linked b × (live + 1 ≡ live_count b)) (λ i. record { tables = sym tables_is i; symbols = sym symbols_is i })
        (Linked-owner_declared, ap (λ l. l + 1) counted ∙ sym (one_more owning))

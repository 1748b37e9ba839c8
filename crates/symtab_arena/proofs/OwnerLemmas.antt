-- What is left of a table once several of its symbols are taken out at once with the tables that they own.
use Rattle.std.proofs.Common.{◌≡◌, ◌≢◌, ℕ, zero, suc, ◌+◌, ◌-◌, ◌<◌, Bool, true, false, cond, List, [], ◌∷◌, length, slice_set, slice_index_or, Option, Some, None, is_some, All, refl, sym, ap, subst, ◌∙◌, arith, true≢false}
use Rattle.std.proofs.lemmas.List.Elements.{All-head, All-tail}
use Rattle.std.specs.List.{count_by}
use Rattle.std.specs.Option.{option_map, option_map_or, option_and_then}
use Rattle.lf_base.specs.declared.id.SymId.{SymId}
use Rattle.lf_base.specs.declared.id.TableId.{TableId}
use Rattle.symtab_arena.specs.Changes.{renamed, with_names, without_table, removed_from, removed_each, IsShallowIn, OwnsNoOwner}
use Rattle.symtab_arena.specs.Entries.{entry_at}
use Rattle.symtab_arena.specs.Links.{Linked}
use Rattle.symtab_arena.specs.Names.{Names, named, without, those_there}
use Rattle.symtab_arena.specs.Scopes.{Scopes, scopes_of, table_id, table_at, HasTable, symbol_at, live_count, names_in, symbol_in, table_of, owned_by}
use Rattle.symtab_arena.specs.Tables.{names_at, cleared, taken_with, taken_out, taken_out_each}
use Rattle.symtab_arena.specs.declared.table.Table.{Table}
use Rattle.symtab_arena.specs.declared.table.Symbol.{Symbol}
use Rattle.symtab_arena.proofs.BulkLemmas.{without_each-nothing, those_there-all, those_there-without, with_names-twice, bulk_none, removed_dead}
use Rattle.symtab_arena.proofs.ChangeLemmas.{entry_at-with_names_same, entry_at-with_names_other}
use Rattle.symtab_arena.proofs.ClearLemmas.{cleared-nothing}
use Rattle.symtab_arena.proofs.EntryLemmas.{some_from, entry_at-set_none, entry_at-set_other, set_none-nothing}
use Rattle.symtab_arena.proofs.LinkLemmas.{Removes}
use Rattle.symtab_arena.proofs.RemovalLemmas.{after, removed_is, removes_shallow, Linked-removed, not_own, names_now, cleared_is}

module _ {X : Type 0} where
  -- where fewer are there, it does not matter that the others went before
  those_there-fewer : (xs ys : List (Option X)) → ((n : ℕ) → is_some (entry_at ys n) ≡ true → is_some (entry_at xs n) ≡ true)
      → (names : Names) → those_there ys (those_there xs names) ≡ those_there ys names
  those_there-fewer xs ys h [] = refl
  those_there-fewer xs ys h (e ∷ es) = by (is_some (entry_at xs e.1.0)) refl (those_there-fewer xs ys h es)
    where
      absent : (c : Bool) → is_some (entry_at ys e.1.0) ≡ c → is_some (entry_at xs e.1.0) ≡ false → is_some (entry_at ys e.1.0) ≡ false
      absent false q p = q
      absent true q p = absurd (true≢false (sym (h e.1.0 q) ∙ p))

      by : (b : Bool) → is_some (entry_at xs e.1.0) ≡ b → those_there ys (those_there xs es) ≡ those_there ys es
          → those_there ys (those_there xs (e ∷ es)) ≡ those_there ys (e ∷ es)
      by true p later =
          ap (λ b. those_there ys (cond b (e ∷ those_there xs es) (those_there xs es))) p
          ∙ ap (λ zs. cond (is_some (entry_at ys e.1.0)) (e ∷ zs) zs) later
      by false p later =
          ap (λ b. those_there ys (cond b (e ∷ those_there xs es) (those_there xs es))) p ∙ later
          ∙ sym (ap (λ b. cond b (e ∷ those_there ys es) (those_there ys es)) (absent (is_some (entry_at ys e.1.0)) refl p))

  set_commutes : (xs : List X) (n m : ℕ) (v w : X) → n ≢ m → slice_set (slice_set xs n v) m w ≡ slice_set (slice_set xs m w) n v
  set_commutes [] n m v w d = refl
  set_commutes (x ∷ xs) zero zero v w d = absurd (d refl)
  set_commutes (x ∷ xs) zero (suc m) v w d = refl
  set_commutes (x ∷ xs) (suc n) zero v w d = refl
  set_commutes (x ∷ xs) (suc n) (suc m) v w d = ap (λ ys. x ∷ ys) (set_commutes xs n m v w (λ e. d (ap suc e)))

with_names-set_none : (tables : List (Option Table)) (t u : TableId) (f : Names → Names) → t.0 ≢ u.0
    → with_names (slice_set tables u.0 None) t f ≡ slice_set (with_names tables t f) u.0 None
with_names-set_none tables t u f d =
    ap (λ o. slice_set (slice_set tables u.0 None) t.0 (option_map (renamed f) o)) (entry_at-set_other tables u.0 t.0 None d)
    ∙ set_commutes tables u.0 t.0 None (option_map (renamed f) (entry_at tables t.0)) (λ e. d (sym e))

module _ {K : Type 0} where
  -- where nothing stood nothing stands
  taken_with-nothing : (o : Option TableId) (r : Scopes K) (s : SymId) (n : ℕ) → entry_at r.symbols n ≡ None → entry_at (taken_with o r s).symbols n ≡ None
  taken_with-nothing None r s n e = without_each-nothing (s ∷ []) r.symbols n e
  taken_with-nothing (Some u) r s n e =
      cleared-nothing (names_at r.tables u.0) (slice_set r.symbols s.0 None) n (without_each-nothing (s ∷ []) r.symbols n e)

  taken_with-gone : (o : Option TableId) (r : Scopes K) (s : SymId) → entry_at (taken_with o r s).symbols s.0 ≡ None
  taken_with-gone None r s = entry_at-set_none r.symbols s.0
  taken_with-gone (Some u) r s = cleared-nothing (names_at r.tables u.0) (slice_set r.symbols s.0 None) s.0 (entry_at-set_none r.symbols s.0)

  taken_out_each-nothing : (ss : List SymId) (r : Scopes K) (n : ℕ) → entry_at r.symbols n ≡ None → entry_at (taken_out_each r ss).symbols n ≡ None
  taken_out_each-nothing [] r n e = e
  taken_out_each-nothing (s ∷ ss) r n e = taken_out_each-nothing ss (taken_out r s) n (taken_with-nothing (owned_by r s) r s n e)

  pub taken_out_each-gone : (ss : List SymId) (r : Scopes K) (k : ℕ) (d : SymId) → k < length ss
      → entry_at (taken_out_each r ss).symbols (slice_index_or ss k d).0 ≡ None
  taken_out_each-gone [] r k d h = absurd (omega arith)
  taken_out_each-gone (s ∷ ss) r zero d h = taken_out_each-nothing ss (taken_out r s) s.0 (taken_with-gone (owned_by r s) r s)
  taken_out_each-gone (s ∷ ss) r (suc k) d h = taken_out_each-gone ss (taken_out r s) k d (omega (arith, h))

module _ {K : Type 0} (t : TableId) where
  -- the state in which the table lists only symbols that are there
  abbrev pub tidied : Scopes K → Scopes K
  tidied r = record { tables = with_names r.tables t (those_there r.symbols); symbols = r.symbols }

  -- One more symbol is taken out, and what it owns.
  record Takes (r : Scopes K) (s : SymId) (q : Scopes K) : Type 0 where
    linked : Linked (tidied q)
    same : tidied q ≡ removed_from (tidied r) s
    listed : names_in q t ≡ names_in r t
    there : HasTable q t
    shallow : (u : SymId) → IsShallowIn (tidied r) t u → IsShallowIn (tidied q) t u

  module _ (r : Scopes K) (links : Linked (tidied r)) (there : HasTable r t) (s : SymId) (y : Symbol K) (was : symbol_at r s ≡ Some y)
      (in_table : y.table ≡ t) (childless : OwnsNoOwner (tidied r) s) where
    abbrev a : Scopes K
    a = tidied r

    abbrev b : Scopes K
    b = after a s y links was

    abbrev taken : Scopes K
    taken = taken_with y.owned r s

    removed : Removes a b s y
    removed = removes_shallow a s y links was childless

    links_after : Linked b
    links_after = Linked-removed a s y links was childless

    other : (u : TableId) → y.owned ≡ Some u → t.0 ≢ u.0
    other u e q = not_own a s y links was (e ∙ ap (λ n. Some (table_id n)) (sym q) ∙ ap Some (sym in_table))

    x : (x : Table) × (table_at r t ≡ Some x)
    x = some_from (table_at r t) there

    symbols_by : (o : Option TableId) → y.owned ≡ o → (taken_with o r s).symbols ≡ slice_set (without_table a o).symbols s.0 None
    symbols_by None e = refl
    symbols_by (Some u) e =
        ap (λ o. cleared (option_map_or (λ (v : Table). v.names) o []) (slice_set r.symbols s.0 None))
        (sym (entry_at-with_names_other r.tables t (those_there r.symbols) u.0 (λ q. other u e (sym q))))
        ∙ cleared_is a s y links was u

    tables_by : (o : Option TableId) → y.owned ≡ o → (without_table a o).tables ≡ with_names (taken_with o r s).tables t (those_there r.symbols)
    tables_by None e = refl
    tables_by (Some u) e = sym (with_names-set_none r.tables t u (those_there r.symbols) (other u e))

    at_by : (o : Option TableId) → y.owned ≡ o → table_at (taken_with o r s) t ≡ table_at r t
    at_by None e = refl
    at_by (Some u) e = entry_at-set_other r.tables u.0 t.0 None (other u e)

    symbols_are : taken.symbols ≡ b.symbols
    symbols_are = symbols_by y.owned refl

    abbrev kept : Names
    kept = those_there r.symbols x.0.names

    names_before : names_in a t ≡ kept
    names_before = ap (λ o. option_map_or (λ (v : Table). v.names) o []) (entry_at-with_names_same r.tables t (those_there r.symbols) x.0 x.1)

    names_after : names_in b t ≡ without y.name kept
    names_after =
        ap (names_in b) (sym in_table) ∙ names_now a s y links was ∙ ap (λ u. without y.name (names_in a u)) in_table ∙ ap (without y.name) names_before

    fewer : (n : ℕ) → is_some (entry_at b.symbols n) ≡ true → is_some (entry_at r.symbols n) ≡ true
    fewer n h = let z = some_from (entry_at b.symbols n) h in ap is_some (removed.left (record { 0 = n }) z.0 z.1).0

    names_same : without y.name kept ≡ those_there taken.symbols x.0.names
    names_same =
        let all : those_there b.symbols (names_in b t) ≡ names_in b t =
        those_there-all b.symbols (names_in b t) (links_after.distinct t) (λ n u e. ap is_some (links_after.lists t n u e).live) in
        let named_s : named y.name kept ≡ Some s = ap (named y.name) (sym names_before) ∙ ap (λ u. symbol_in a u y.name) (sym in_table) ∙ links.stands s y was in
        sym (subst (λ names. those_there b.symbols names ≡ names) names_after all)
        ∙ those_there-without b.symbols y.name s kept named_s (entry_at-set_none (without_table a y.owned).symbols s.0)
        ∙ those_there-fewer r.symbols b.symbols fewer x.0.names
        ∙ ap (λ xs. those_there xs x.0.names) (sym symbols_are)

    tables_are : with_names taken.tables t (those_there taken.symbols) ≡ b.tables
    tables_are =
        sym (with_names-twice taken.tables t x.0 (at_by y.owned refl ∙ x.1) (those_there r.symbols) (without y.name) (those_there taken.symbols) names_same)
        ∙ ap (λ tables. with_names tables t (without y.name)) (sym (tables_by y.owned refl))
        ∙ ap (λ u. with_names (without_table a y.owned).tables u (without y.name)) (sym in_table)

    tidied_is : tidied taken ≡ b
    tidied_is = λ i. record { tables = tables_are i; symbols = symbols_are i }

    owns_none : (u v : SymId) (z : Symbol K) → symbol_at b u ≡ Some z → OwnsNoOwner a u → table_of b v ≡ owned_by b u → (o : Option (Symbol K)) → symbol_at b v ≡ o → owned_by b v ≡ None
    owns_none u v z live before e None q = ap (option_and_then (λ (w : Symbol K). w.owned)) q
    owns_none u v z live before e (Some w) q =
        let now_u = (removed.left u z live).0 ∙ sym live in
        let now_v = (removed.left v w q).0 ∙ sym q in
        ap (option_and_then (λ (w : Symbol K). w.owned)) (sym now_v)
        ∙ before v
        (ap (option_map (λ (w : Symbol K). w.table)) now_v ∙ e ∙ ap (option_and_then (λ (w : Symbol K). w.owned)) (sym now_u))

    takes : Takes r s taken
    takes = record {
      linked = subst (λ (c : Scopes K). Linked c) (sym tidied_is) links_after;
      same = tidied_is ∙ sym (removed_is a s y links was);
      listed = ap (λ o. option_map_or (λ (v : Table). v.names) o []) (at_by y.owned refl);
      there = ap is_some (at_by y.owned refl) ∙ there;
      shallow = λ u before.
          subst (λ (c : Scopes K). IsShallowIn c t u) (sym tidied_is)
          (λ z live.
          let old = before z (removed.left u z live).0 in
          (old.0, λ v e. owns_none u v z live old.1 e (symbol_at b v) refl));
    }

  takes_one : (r : Scopes K) → Linked (tidied r) → HasTable r t → (s : SymId) → IsShallowIn (tidied r) t s → Takes r s (taken_out r s)
  takes_one r links there s shallow = by (symbol_at r s) refl
    where
      by : (o : Option (Symbol K)) → symbol_at r s ≡ o → Takes r s (taken_out r s)
      by None e =
          let nothing : taken_out r s ≡ r =
          ap (λ o. taken_with (option_and_then (λ (v : Symbol K). v.owned) o) r s) e ∙ (λ i. record { tables = r.tables; symbols = set_none-nothing r.symbols s.0 e i }) in
          subst (λ (q : Scopes K). Takes r s q) (sym nothing)
          (record { linked = links; same = sym (removed_dead t (tidied r) s e); listed = refl; there = there; shallow = λ u h. h })
      by (Some y) e =
          let p = shallow y e in
          subst (λ (q : Scopes K). Takes r s q) (sym (ap (λ o. taken_with (option_and_then (λ (v : Symbol K). v.owned) o) r s) e))
          (takes r links there s y e p.0 p.1)

  -- What is left of the table.
  pub record Leaves (r : Scopes K) (ss : List SymId) (q : Scopes K) : Type 0 where
    pub linked : Linked (tidied q)
    pub same : tidied q ≡ removed_each (tidied r) ss
    pub listed : names_in q t ≡ names_in r t
    pub there : HasTable q t

  takes_each : (ss : List SymId) (r : Scopes K) → Linked (tidied r) → HasTable r t → All (IsShallowIn (tidied r) t) ss → Leaves r ss (taken_out_each r ss)
  takes_each [] r links there shallow = record { linked = links; same = refl; listed = refl; there = there }
  takes_each (s ∷ ss) r links there shallow =
      let one = takes_one r links there s (All-head (IsShallowIn (tidied r) t) s ss shallow) in
      let rest = takes_each ss (taken_out r s) one.linked one.there (λ k d within. one.shallow _ (All-tail (IsShallowIn (tidied r) t) s ss shallow k d within)) in
      record {
        linked = rest.linked;
        same = rest.same ∙ ap (λ (c : Scopes K). removed_each c ss) one.same;
        listed = rest.listed ∙ one.listed;
        there = rest.there;
      }

  module _ (ss : List SymId) (a : Scopes K) (links : Linked a) (there : HasTable a t) (shallow : All (IsShallowIn a t) ss) where
    tidy : tidied a ≡ a
    tidy = bulk_none t a links there

    leaves : Leaves a ss (taken_out_each a ss)
    leaves =
        takes_each ss a (subst (λ (c : Scopes K). Linked c) (sym tidy) links) there (subst (λ (c : Scopes K). All (IsShallowIn c t) ss) (sym tidy) shallow)

    -- one by one and at once are alike
    pub removed_each_shallow : (tidied (taken_out_each a ss) ≡ removed_each a ss) × Linked (removed_each a ss)
    removed_each_shallow =
        let same : tidied (taken_out_each a ss) ≡ removed_each a ss = leaves.same ∙ ap (λ (c : Scopes K). removed_each c ss) tidy in
        (same, subst (λ (c : Scopes K). Linked c) same leaves.linked)

    pub table_after : (tables : List (Option Table)) (symbols : List (Option (Symbol K))) → scopes_of tables symbols ≡ taken_out_each a ss
        → is_some (entry_at tables t.0) ≡ true
    table_after tables symbols p = ap (λ (c : Scopes K). is_some (table_at c t)) p ∙ leaves.there

    -- what the function needs of what it wrote
    pub owners_keep : (before tables : List (Option Table)) (symbols : List (Option (Symbol K))) (live n : ℕ) → live ≡ live_count a
        → scopes_of before symbols ≡ taken_out_each a ss → tables ≡ with_names before t (those_there symbols)
        → count_by is_some symbols + n ≡ count_by is_some a.symbols
        → Linked (scopes_of tables symbols) × (live - n ≡ live_count (scopes_of tables symbols))
        × (scopes_of tables symbols ≡ removed_each a ss) × (names_in (scopes_of tables symbols) t ≡ those_there symbols (names_in a t))
    owners_keep before tables symbols live n counted p q count =
        let is : scopes_of tables symbols ≡ tidied (taken_out_each a ss) =
        (λ i. scopes_of (q i) symbols) ∙ ap tidied p in
        let x = some_from (table_at (taken_out_each a ss) t) leaves.there in
        let names = ap (λ (c : Scopes K). names_in c t) is
        ∙ ap (λ o. option_map_or (λ (v : Table). v.names) o [])
        (entry_at-with_names_same (taken_out_each a ss).tables t (those_there (taken_out_each a ss).symbols) x.0 x.1)
        ∙ sym (ap (λ o. those_there (taken_out_each a ss).symbols (option_map_or (λ (v : Table). v.names) o [])) x.1)
        ∙ ap (those_there (taken_out_each a ss).symbols) leaves.listed
        ∙ sym (ap (λ (c : Scopes K). those_there c.symbols (names_in a t)) p) in (
          subst (λ (c : Scopes K). Linked c) (sym is) leaves.linked,
          omega arith,
          is ∙ removed_each_shallow.0,
          names,
        )

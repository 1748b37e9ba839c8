-- What is left of a table once several of its symbols are taken out at once.
use Rattle.std.proofs.Common.{◌≡◌, ◌≢◌, ℕ, zero, suc, ◌+◌, ◌-◌, ◌<◌, true, cond, List, [], ◌∷◌, length, slice_set, slice_index_or, Option, Some, None, is_some, All, refl, sym, ap, subst, ◌∙◌, inl, inr, arith}
use Rattle.std.proofs.lemmas.List.Elements.{All-head, All-tail}
use Rattle.std.specs.List.{count_by}
use Rattle.std.specs.Option.{option_map, option_map_or}
use Rattle.lf_base.specs.declared.id.SymId.{SymId}
use Rattle.lf_base.specs.declared.id.TableId.{TableId}
use Rattle.symtab_arena.specs.Changes.{renamed, with_names, without_table, removed_from, removed_each, IsPlainIn}
use Rattle.symtab_arena.specs.Entries.{entry_at}
use Rattle.symtab_arena.specs.Links.{Linked}
use Rattle.symtab_arena.specs.Names.{Names, named, without, those_there, AreDistinct}
use Rattle.symtab_arena.specs.Scopes.{Scopes, symbol_id, table_at, HasTable, symbol_at, live_count, names_in, symbol_in}
use Rattle.symtab_arena.specs.Tables.{without_each}
use Rattle.symtab_arena.specs.declared.table.Table.{Table}
use Rattle.symtab_arena.specs.declared.table.Symbol.{Symbol}
use Rattle.symtab_arena.proofs.ChangeLemmas.{entry_at-with_names_same, with_names-keeps}
use Rattle.symtab_arena.proofs.EntryLemmas.{same_or, none_some, some_from, entry_at-set_none, entry_at-set_other, set_none-nothing}
use Rattle.symtab_arena.proofs.LinkLemmas.{same_symbol_or}
use Rattle.symtab_arena.proofs.NameLemmas.{same_name_or, named_at, named_past}
use Rattle.symtab_arena.proofs.RemovalLemmas.{removed_keeps}

module _ {X : Type 0} where
  pub set_twice : (xs : List X) (n : ℕ) (v w : X) → slice_set (slice_set xs n v) n w ≡ slice_set xs n w
  set_twice [] n v w = refl
  set_twice (x ∷ xs) zero v w = refl
  set_twice (x ∷ xs) (suc n) v w = ap (λ ys. x ∷ ys) (set_twice xs n v w)

  -- writing what stands there changes nothing
  pub set_same : (xs : List (Option X)) (n : ℕ) (x : X) → entry_at xs n ≡ Some x → slice_set xs n (Some x) ≡ xs
  set_same [] n x e = refl
  set_same (y ∷ xs) zero x e = ap (λ z. z ∷ xs) (sym e)
  set_same (y ∷ xs) (suc n) x e = ap (λ ys. y ∷ ys) (set_same xs n x e)

  -- where nothing stood nothing stands
  pub without_each-nothing : (ss : List SymId) (xs : List (Option X)) (n : ℕ) → entry_at xs n ≡ None → entry_at (without_each ss xs) n ≡ None
  without_each-nothing [] xs n e = e
  without_each-nothing (s ∷ ss) xs n e =
      without_each-nothing ss (slice_set xs s.0 None) n
      (elim (same_or n s.0) [
        | inl q ↦ ap (entry_at (slice_set xs s.0 None)) q ∙ entry_at-set_none xs s.0
        | inr d ↦ entry_at-set_other xs s.0 n None d ∙ e
      ])

  pub without_each-gone : (ss : List SymId) (xs : List (Option X)) (k : ℕ) (d : SymId) → k < length ss → entry_at (without_each ss xs) (slice_index_or ss k d).0 ≡ None
  without_each-gone [] xs k d h = absurd (omega arith)
  without_each-gone (s ∷ ss) xs zero d h = without_each-nothing ss (slice_set xs s.0 None) s.0 (entry_at-set_none xs s.0)
  without_each-gone (s ∷ ss) xs (suc k) d h = without_each-gone ss (slice_set xs s.0 None) k d (omega (arith, h))

  pub without_each-other : (ss : List SymId) (xs : List (Option X)) (u : SymId) → All (λ s. u ≢ s) ss → entry_at (without_each ss xs) u.0 ≡ entry_at xs u.0
  without_each-other [] xs u h = refl
  without_each-other (s ∷ ss) xs u h =
      without_each-other ss (slice_set xs s.0 None) u (All-tail (λ s. u ≢ s) s ss h)
      ∙ entry_at-set_other xs s.0 u.0 None (λ e. All-head (λ s. u ≢ s) s ss h (ap symbol_id e))

  -- where each symbol is there, each name stays
  pub those_there-all : (xs : List (Option X)) (names : Names) → AreDistinct names
      → ((n : List ℕ) (s : SymId) → named n names ≡ Some s → is_some (entry_at xs s.0) ≡ true) → those_there xs names ≡ names
  those_there-all xs [] d h = refl
  those_there-all xs (e ∷ es) d h =
      ap (λ b. cond b (e ∷ those_there xs es) (those_there xs es)) (h e.0 e.1 (named_at e.0 e es refl))
      ∙ ap (λ ys. e ∷ ys)
      (those_there-all xs es d.1
      (λ n s there.
      elim (same_name_or n e.0) [
        | inl p ↦ absurd (none_some s (sym d.0 ∙ ap (λ m. named m es) (sym p.1) ∙ there))
        | inr p ↦ h n s (named_past n e es p.1 ∙ there)
      ]))

  -- a name whose symbol is not there may go before
  pub those_there-without : (xs : List (Option X)) (name : List ℕ) (s : SymId) (names : Names) → named name names ≡ Some s → entry_at xs s.0 ≡ None
      → those_there xs (without name names) ≡ those_there xs names
  those_there-without xs name s [] h g = refl
  those_there-without xs name s (e ∷ es) h g =
      let later = those_there-without xs name s es in
      elim (same_name_or name e.0) [
        | inl p ↦
            let same : e.1 ≡ s = cc (named_at name e es p.1, h) in
            ap (λ b. those_there xs (cond b es (e ∷ without name es))) p.0
            ∙ sym (ap (λ b. cond b (e ∷ those_there xs es) (those_there xs es)) (ap (λ (u : SymId). is_some (entry_at xs u.0)) same ∙ ap is_some g))
        | inr p ↦
            ap (λ b. those_there xs (cond b es (e ∷ without name es))) p.0
            ∙ ap (λ ys. cond (is_some (entry_at xs e.1.0)) (e ∷ ys) ys) (later (sym (named_past name e es p.1) ∙ h) g)
      ]

module _ (tables : List (Option Table)) (t : TableId) (x : Table) (at : entry_at tables t.0 ≡ Some x) where
  pub with_names-same : (f : Names → Names) → f x.names ≡ x.names → with_names tables t f ≡ tables
  with_names-same f h =
      ap (λ o. slice_set tables t.0 (option_map (renamed f) o)) at
      ∙ ap (λ names. slice_set tables t.0 (Some (record x { names = names }))) h
      ∙ set_same tables t.0 x at

  pub with_names-twice : (f g h : Names → Names) → g (f x.names) ≡ h x.names → with_names (with_names tables t f) t g ≡ with_names tables t h
  with_names-twice f g h same =
      set_twice tables t.0 (option_map (renamed f) (entry_at tables t.0)) (option_map (renamed g) (entry_at (with_names tables t f) t.0))
      ∙ ap (λ o. slice_set tables t.0 (option_map (renamed g) o)) (entry_at-with_names_same tables t f x at)
      ∙ ap (λ names. slice_set tables t.0 (Some (record x { names = names }))) same
      ∙ sym (ap (λ o. slice_set tables t.0 (option_map (renamed h) o)) at)

module _ {K : Type 0} (t : TableId) where
  -- the state without these symbols
  abbrev pub bulk : Scopes K → List SymId → Scopes K
  bulk a ss = record { tables = with_names a.tables t (those_there (without_each ss a.symbols)); symbols = without_each ss a.symbols }

  pub names_in-bulk : (a : Scopes K) (ss : List SymId) → HasTable a t → names_in (bulk a ss) t ≡ those_there (without_each ss a.symbols) (names_in a t)
  names_in-bulk a ss there =
      let x = some_from (table_at a t) there in
      let f : Names → Names = those_there (without_each ss a.symbols) in
      ap (λ o. option_map_or (λ (v : Table). v.names) o []) (entry_at-with_names_same a.tables t f x.0 x.1)
      ∙ sym (ap (λ o. f (option_map_or (λ (v : Table). v.names) o [])) x.1)

  names_of : (a : Scopes K) (x : Table) → table_at a t ≡ Some x → names_in a t ≡ x.names
  names_of a x e = ap (λ o. option_map_or (λ (v : Table). v.names) o []) e

  pub bulk_none : (a : Scopes K) → Linked a → HasTable a t → bulk a [] ≡ a
  bulk_none a links there =
      let x = some_from (table_at a t) there in
      let all = those_there-all a.symbols (names_in a t) (links.distinct t) (λ n s e. ap is_some (links.lists t n s e).live) in
      let same : those_there a.symbols x.0.names ≡ x.0.names = subst (λ names. those_there a.symbols names ≡ names) (names_of a x.0 x.1) all in
      λ i. record { tables = with_names-same a.tables t x.0 x.1 (those_there a.symbols) same i; symbols = a.symbols }

  -- without one of them
  abbrev first : Scopes K → SymId → Symbol K → Scopes K
  first a s y = record { tables = with_names a.tables t (without y.name); symbols = slice_set a.symbols s.0 None }

  bulk_more : (a : Scopes K) (s : SymId) (ss : List SymId) (y : Symbol K) → Linked a → HasTable a t → symbol_at a s ≡ Some y → y.table ≡ t
      → bulk (first a s y) ss ≡ bulk a (s ∷ ss)
  bulk_more a s ss y links there was in_table =
      let x = some_from (table_at a t) there in
      let left : List (Option (Symbol K)) = without_each ss (slice_set a.symbols s.0 None) in
      let named_s : named y.name x.0.names ≡ Some s = ap (named y.name) (sym (names_of a x.0 x.1)) ∙ ap (λ u. symbol_in a u y.name) (sym in_table) ∙ links.stands s y was in
      let gone = without_each-nothing ss (slice_set a.symbols s.0 None) s.0 (entry_at-set_none a.symbols s.0) in
      let same = those_there-without left y.name s x.0.names named_s gone in
      λ i. record { tables = with_names-twice a.tables t x.0 x.1 (without y.name) (those_there left) (those_there left) same i; symbols = left }

  plain_left : (a : Scopes K) (s : SymId) (y : Symbol K) (u : SymId) → IsPlainIn a t u → IsPlainIn (first a s y) t u
  plain_left a s y u plain z live =
      elim (same_symbol_or u s) [
        | inl q ↦ absurd (none_some z (sym (entry_at-set_none a.symbols s.0) ∙ ap (symbol_at (first a s y)) (sym q) ∙ live))
        | inr d ↦ plain z (sym (entry_at-set_other a.symbols s.0 u.0 None (λ e. d (ap symbol_id e))) ∙ live)
      ]

  -- a symbol that is not live leaves all as it was
  pub removed_dead : (a : Scopes K) (s : SymId) → symbol_at a s ≡ None → removed_from a s ≡ a
  removed_dead a s e =
      ap
      (λ o. option_map_or {T = Symbol K}
      (λ v. record { tables = with_names (without_table a v.owned).tables v.table (without v.name); symbols = slice_set (without_table a v.owned).symbols s.0 None })
      o a)
      e

  -- one by one and at once are alike
  pub removed_each_is : (ss : List SymId) (a : Scopes K) → Linked a → HasTable a t → All (IsPlainIn a t) ss
      → Linked (bulk a ss) × (bulk a ss ≡ removed_each a ss)
  removed_each_is [] a links there plain = let same = bulk_none a links there in (subst (λ (b : Scopes K). Linked b) (sym same) links, same)
  removed_each_is (s ∷ ss) a links there plain = by (symbol_at a s) refl (removed_each_is ss)
    where
      tail : All (IsPlainIn a t) ss
      tail = All-tail (IsPlainIn a t) s ss plain

      by : (o : Option (Symbol K)) → symbol_at a s ≡ o
          → ((b : Scopes K) → Linked b → HasTable b t → All (IsPlainIn b t) ss → Linked (bulk b ss) × (bulk b ss ≡ removed_each b ss))
          → Linked (bulk a (s ∷ ss)) × (bulk a (s ∷ ss) ≡ removed_each a (s ∷ ss))
      by None e later =
          let rest = later a links there tail in
          let same : bulk a ss ≡ bulk a (s ∷ ss) =
          ap (λ xs. record { tables = with_names a.tables t (those_there (without_each ss xs)); symbols = without_each ss xs }) (sym (set_none-nothing a.symbols s.0 e)) in
          let stays = removed_dead a s e in
          (subst (λ (b : Scopes K). Linked b) same rest.0, sym same ∙ rest.1 ∙ ap (λ b. removed_each b ss) (sym stays))
      by (Some y) e later =
          let p = All-head (IsPlainIn a t) s ss plain y e in
          let x = some_from (table_at a t) there in
          let kept = removed_keeps a s y links e p.1 (first a s y).tables (first a s y).symbols (live_count a) refl
          (ap (λ u. with_names a.tables u (without y.name)) (sym p.0)) refl in
          let has : HasTable (first a s y) t = with_names-keeps a.tables t (without y.name) x.0 x.1 is_some refl t.0 ∙ there in
          let rest = later (first a s y) kept.0 has (λ k d within. plain_left a s y _ (tail k d within)) in
          let same = bulk_more a s ss y links there e p.0 in
          (subst (λ (b : Scopes K). Linked b) same rest.0, sym same ∙ rest.1 ∙ ap (λ b. removed_each b ss) kept.2)

  -- what the function needs of what it wrote
  pub bulk_keeps : (ss : List SymId) (a : Scopes K) → Linked a → HasTable a t → All (IsPlainIn a t) ss
      → (tables : List (Option Table)) (symbols : List (Option (Symbol K))) (live n : ℕ) → live ≡ live_count a
      → tables ≡ with_names a.tables t (those_there symbols) → symbols ≡ without_each ss a.symbols
      → count_by is_some symbols + n ≡ count_by is_some a.symbols
      → Linked (record { tables = tables; symbols = symbols }) × (live - n ≡ live_count (record { tables = tables; symbols = symbols }))
      × (record { tables = tables; symbols = symbols } ≡ removed_each a ss)
      × (names_in (record { tables = tables; symbols = symbols }) t ≡ those_there symbols (names_in a t))
  bulk_keeps ss a links there plain tables symbols live n counted p q count =
      let is : ◌≡◌ {A = Scopes K} (record { tables = tables; symbols = symbols }) (bulk a ss) =
      λ i. record { tables = (p ∙ ap (λ xs. with_names a.tables t (those_there xs)) q) i; symbols = q i } in
      let both = removed_each_is ss a links there plain in (
        subst (λ (b : Scopes K). Linked b) (sym is) both.0,
        omega arith,
        is ∙ both.1,
        ap (λ (b : Scopes K). names_in b t) is ∙ names_in-bulk a ss there ∙ ap (λ xs. those_there xs (names_in a t)) (sym q),
      )

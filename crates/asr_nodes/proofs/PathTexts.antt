-- The path of a symbol is the path of the symbol around it, and its own name.
use Rattle.std.proofs.Common.{◌≡◌, ℕ, zero, suc, ◌<◌, List, [], ◌∷◌, ◌++◌, codes, map, length, Option, Some, None, is_some, refl, sym, ap, subst, ◌∙◌, arith, inl, inr, append-nil, append_assoc, false, true≢false}
use Rattle.std.specs.Option.{option_map_or, option_map}
use Rattle.lf_base.specs.declared.id.SymId.{SymId}
use Rattle.lf_base.specs.declared.id.TableId.{TableId}
use Rattle.lf_base.specs.Contents.{joined}
use Rattle.ast_nodes.proofs.Chains.{joined_first}
use Rattle.symtab_arena.specs.Links.{Linked}
use Rattle.symtab_arena.specs.Paths.{path_within, path_of}
use Rattle.symtab_arena.specs.Scopes.{Scopes, IsLive, table_id, symbol_at, owner_of, table_of, name_of}
use Rattle.symtab_arena.specs.declared.table.Symbol.{Symbol}
use Rattle.symtab_arena.proofs.EntryLemmas.{same_or, none_some, there_within}
use Rattle.symtab_arena.proofs.LinkLemmas.{has_table, some_is}
use Rattle.asr_nodes.specs.Reading.{Path}
use Rattle.asr_nodes.specs.Shapes.{front_of}
use Rattle.asr_nodes.specs.Text.{path_text, pointed}

module _ {K : Type 0} (a : Scopes K) (links : Linked a) where
  -- the owner of the table in which a live symbol stands is live, and its table comes before
  around : (s o : SymId) (y : Symbol K) → symbol_at a s ≡ Some y → owner_of a y.table ≡ Some o
      → (x : Symbol K) × (symbol_at a o ≡ Some x) × (x.table.0 < y.table.0)
  around s o y live e =
      elim (same_or y.table.0 0) [
        | inl z ↦ absurd (none_some o (sym links.root_owner ∙ ap (owner_of a) (ap table_id (sym z)) ∙ e))
        | inr d ↦
            let h = links.owners y.table (has_table a y.table y.name s (links.stands s y live)) d in
            let same = some_is h.owner o (sym h.owner_is ∙ e) in
            (h.symbol, ap (symbol_at a) (sym same) ∙ h.live, h.falls)
      ]

  up : (n m : ℕ) (o : Option SymId) → ((u : SymId) → o ≡ Some u → path_within a n u ≡ path_within a m u)
      → option_map_or (path_within a n) o [] ≡ option_map_or (path_within a m) o []
  up n m None h = refl
  up n m (Some u) h = h u refl

  -- more steps than the number of the table change nothing
  steps : (n m : ℕ) (s : SymId) (y : Symbol K) → symbol_at a s ≡ Some y → y.table.0 < n → y.table.0 < m → path_within a n s ≡ path_within a m s
  steps zero m s y live h k = absurd (omega arith)
  steps (suc n) zero s y live h k = absurd (omega arith)
  steps (suc n) (suc m) s y live h k =
      ap (λ o. option_map_or (λ (x : Symbol K). option_map_or (path_within a n) (owner_of a x.table) [] ++ x.name ∷ []) o []) live
      ∙ ap (λ p. p ++ y.name ∷ [])
      (up n m (owner_of a y.table)
      (λ u e. let x = around s u y live e in let falls = x.2 in steps n m u x.0 x.1 (omega (arith, falls)) (omega (arith, falls))))
      ∙ sym (ap (λ o. option_map_or (λ (x : Symbol K). option_map_or (path_within a m) (owner_of a x.table) [] ++ x.name ∷ []) o []) live)

  path_is : (s : SymId) (y : Symbol K) → symbol_at a s ≡ Some y → path_of a s ≡ option_map_or (path_of a) (owner_of a y.table) [] ++ y.name ∷ []
  path_is s y live =
      let within = there_within a.tables y.table.0 (has_table a y.table y.name s (links.stands s y live)) in
      steps (length a.tables) (suc (length a.tables)) s y live within (omega arith)
      ∙ ap (λ o. option_map_or (λ (x : Symbol K). option_map_or (path_of a) (owner_of a x.table) [] ++ x.name ∷ []) o []) live

  -- a live symbol, by its table and its name
  pub record Seen (s : SymId) (t : TableId) : Type 0 where
    pub entry : Symbol K
    pub live : symbol_at a s ≡ Some entry
    pub table : entry.table ≡ t

  pub seen : (s : SymId) (t : TableId) → table_of a s ≡ Some t → Seen s t
  seen s t e = by (symbol_at a s) refl e
    where
      by : (o : Option (Symbol K)) → symbol_at a s ≡ o → option_map (λ y. y.table) o ≡ Some t → Seen s t
      by None h k = absurd (none_some t k)
      by (Some y) h k = record { entry = y; live = h; table = some_is y.table t k }

  pub name_seen : (s : SymId) (y : Symbol K) (name : List ℕ) → symbol_at a s ≡ Some y → name_of a s ≡ Some name → y.name ≡ name
  name_seen s y name live e = some_is y.name name (sym (ap (λ o. option_map (λ (z : Symbol K). z.name) o) live) ∙ e)

  -- a symbol with none around it
  pub path_alone : (s : SymId) (t : TableId) → table_of a s ≡ Some t → owner_of a t ≡ None → (name : List ℕ) × (path_of a s ≡ name ∷ [])
  path_alone s t e none =
      let y = seen s t e in
      (y.entry.name, path_is s y.entry y.live ∙ ap (λ o. option_map_or (path_of a) o [] ++ y.entry.name ∷ []) (ap (owner_of a) y.table ∙ none))

  -- a symbol within another
  pub record Within (s o : SymId) (t : TableId) : Type 0 where
    pub live : IsLive a o
    pub table : TableId
    pub table_is : table_of a o ≡ Some table
    pub falls : table.0 < t.0

  pub within : (s o : SymId) (t : TableId) → table_of a s ≡ Some t → owner_of a t ≡ Some o → Within s o t
  within s o t e owns =
      let y = seen s t e in
      let x = around s o y.entry y.live (ap (owner_of a) y.table ∙ owns) in
      record {
        live = ap is_some x.1;
        table = x.0.table;
        table_is = ap (λ z. option_map (λ (w : Symbol K). w.table) z) x.1;
        falls = subst (λ (u : TableId). x.0.table.0 < u.0) y.table x.2;
      }

  pub path_inside : (s o : SymId) (t : TableId) (name : List ℕ) → table_of a s ≡ Some t → owner_of a t ≡ Some o → name_of a s ≡ Some name → path_of a s ≡ path_of a o ++ name ∷ []
  path_inside s o t name e owns called =
      let y = seen s t e in
      path_is s y.entry y.live
      ∙ ap (λ z. option_map_or (path_of a) z [] ++ y.entry.name ∷ []) (ap (owner_of a) y.table ∙ owns)
      ∙ ap (λ n. path_of a o ++ n ∷ []) (name_seen s y.entry name y.live called)

  -- the path of a live symbol is not empty
  pub path_begins : (s : SymId) (t : TableId) → table_of a s ≡ Some t → (unit : List ℕ) × (names : List (List ℕ)) × (path_of a s ≡ unit ∷ names)
  path_begins s t e =
      let y = seen s t e in
      let p = begins (option_map_or (path_of a) (owner_of a y.entry.table) []) y.entry.name in
      (p.0, p.1, path_is s y.entry y.live ∙ p.2)
    where
      begins : (front : List (List ℕ)) (name : List ℕ) → (unit : List ℕ) × (names : List (List ℕ)) × (front ++ name ∷ [] ≡ unit ∷ names)
      begins [] name = (name, [], refl)
      begins (x ∷ front) name = (x, front ++ name ∷ [], refl)

module _ {K : Type 0} (a : Scopes K) where
  none_within : (n : ℕ) (s : SymId) → symbol_at a s ≡ None → path_within a n s ≡ []
  none_within zero s q = refl
  none_within (suc n) s q = ap (λ o. option_map_or (λ (x : Symbol K). option_map_or (path_within a n) (owner_of a x.table) [] ++ x.name ∷ []) o []) q

  no_symbol : (o : Option (Symbol K)) → is_some o ≡ false → o ≡ None
  no_symbol None e = refl
  no_symbol (Some y) e = absurd (true≢false e)

  -- a symbol that is not live
  pub path_dead : (s : SymId) → is_some (symbol_at a s) ≡ false → path_of a s ≡ []
  path_dead s e = none_within (length a.tables) s (no_symbol (symbol_at a s) e)

pub text_dead : (p : Path) → p ≡ [] → path_text p ≡ joined []
unfolding joined
text_dead p e = ap path_text e

pub text_alone : (p : Path) (name : List ℕ) → p ≡ name ∷ [] → path_text p ≡ joined []
unfolding joined
text_alone p name e = ap path_text e

pub front_alone : (p : Path) (name : List ℕ) → p ≡ name ∷ [] → front_of p ≡ joined []
front_alone p name e = ap front_of e

abbrev pub with_point : List ℕ → List ℕ
with_point name = joined (name ∷ codes "." ∷ [])

maps_last : (names : List (List ℕ)) (name : List ℕ) → map with_point (names ++ name ∷ []) ≡ map with_point names ++ with_point name ∷ []
maps_last [] name = refl
maps_last (x ∷ names) name = ap (λ t. with_point x ∷ t) (maps_last names name)

-- the last name of a path, behind the others
pub front_inside : (p q : Path) (unit : List ℕ) (names : List (List ℕ)) (name : List ℕ) → p ≡ q ++ name ∷ [] → q ≡ unit ∷ names → front_of p ≡ joined (front_of q ∷ joined (name ∷ codes "." ∷ []) ∷ [])
front_inside p q unit names name e b =
    ap front_of (e ∙ ap (λ t. t ++ name ∷ []) b)
    ∙ ap joined (maps_last names name)
    ∙ sym (joined_first (map with_point names) (with_point name ∷ []))
    ∙ sym (ap (λ t. joined (front_of t ∷ with_point name ∷ [])) b)

begins_so : (x : List ℕ) (names : List (List ℕ)) (name : List ℕ) → pointed (x ∷ (names ++ name ∷ [])) ≡ (x ++ (46 ∷ [])) ++ pointed (names ++ name ∷ [])
begins_so x [] name = refl
begins_so x (y ∷ names) name = refl

pointed_last : (names : List (List ℕ)) (name : List ℕ) → pointed (names ++ name ∷ []) ≡ joined (map with_point names) ++ name
unfolding joined
pointed_last [] name = refl
pointed_last (x ∷ names) name =
    begins_so x names name
    ∙ ap (λ t. (x ++ (46 ∷ [])) ++ t) (pointed_last names name)
    ∙ sym (append_assoc (with_point x) (joined (map with_point names)) name)

two_pieces : (x y : List ℕ) → joined (x ∷ y ∷ []) ≡ x ++ y
unfolding joined
two_pieces x y = ap (λ t. x ++ t) (append-nil y)

pub text_inside : (p q : Path) (unit : List ℕ) (names : List (List ℕ)) (name : List ℕ) → p ≡ q ++ name ∷ [] → q ≡ unit ∷ names → path_text p ≡ joined (front_of q ∷ name ∷ [])
text_inside p q unit names name e b =
    ap path_text (e ∙ ap (λ t. t ++ name ∷ []) b)
    ∙ pointed_last names name
    ∙ sym (two_pieces (joined (map with_point names)) name)
    ∙ sym (ap (λ t. joined (front_of t ∷ name ∷ [])) b)

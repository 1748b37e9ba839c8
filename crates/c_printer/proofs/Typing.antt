-- The types of entities: that of a symbol of the unit's table by its node, and no other entity has one.
use Rattle.std.proofs.Common.{◌≡◌, ◌≢◌, ℕ, true, List, [], ◌∷◌, ◌++◌, Option, Some, None, is_some, if◌then◌else◌, refl, sym, ap, ◌∙◌, inl, inr}
use Rattle.std.specs.Option.{option_map, option_and_then}
use Rattle.lf_base.specs.declared.id.SymId.{SymId}
use Rattle.lf_base.specs.declared.id.TableId.{TableId}
use Rattle.symtab_arena.specs.Links.{Linked}
use Rattle.symtab_arena.specs.Scopes.{table_id, symbol_at, symbol_in, owner_of, table_of, name_of}
use Rattle.symtab_arena.specs.declared.table.Symbol.{Symbol as Entry}
use Rattle.symtab_arena.proofs.EntryLemmas.{same_or, none_some}
use Rattle.symtab_arena.proofs.LinkLemmas.{has_table, some_is}
use Rattle.symtab_arena.proofs.NameLemmas.{same_name_or}
use Rattle.asr_nodes.specs.Nodes.{Sound}
use Rattle.asr_nodes.specs.Units.{path}
use Rattle.asr_nodes.specs.Reading.{Path}
use Rattle.asr_nodes.specs.declared.node.Symbol.{Symbol}
use Rattle.asr_nodes.proofs.PathTexts.{seen, within, path_inside, path_begins, path_dead}
use Rattle.c_printer.specs.Files.{Variable, type_in, type_at}
use Rattle.c_printer.specs.Units.{UnitScope, IsUnitScope, variables_in, types_of, symbol_type}
use Rattle.c_printer.specs.declared.scalar.ScalarType.TheVariants.{Integer4}
use Rattle.c_printer.proofs.Naming.{path_lone}
use Rattle.c_printer.proofs.Variables.{type_found}

-- an entity deeper in the unit
deep : (unit : List ℕ) (vs : List (Option Variable)) (v : List ℕ) (names : Path) (n m : List ℕ) → type_at unit vs (((v ∷ names) ++ n ∷ []) ++ m ∷ []) ≡ Integer4
deep unit vs v [] n m = refl
deep unit vs v (x ∷ []) n m = refl
deep unit vs v (x ∷ z ∷ names) n m = refl

owned_of : (o : Option (Entry Symbol)) (t : TableId) → option_and_then (λ (y : Entry Symbol). y.owned) o ≡ Some t → (w : Entry Symbol) × (o ≡ Some w) × (w.owned ≡ Some t)
owned_of None t e = absurd (none_some t e)
owned_of (Some w) t e = (w, refl, e)

module _ (u : UnitScope) (is : IsUnitScope u) (links : Linked u.asr.scopes) where
  unit_path : path u.asr u.id ≡ u.unit ∷ []
  unit_path = path_lone u.asr.scopes links u.id (table_id 0) u.unit is.root links.root_owner is.name_is

  unit_owns : owner_of u.asr.scopes u.table ≡ Some u.id
  unit_owns = let w = owned_of (symbol_at u.asr.scopes u.id) u.table is.table_is in links.owned u.id w.0 u.table w.1 w.2

  pub own_type : Sound u.asr → (s : SymId) (y : Entry Symbol) → symbol_at u.asr.scopes s ≡ Some y → y.table ≡ u.table → types_of u (path u.asr s) ≡ symbol_type (path u.asr) y.what
  own_type h s y live stands =
      ap (types_of u)
      (path_inside u.asr.scopes links s u.id u.table y.name (ap (option_map (λ (z : Entry Symbol). z.table)) live ∙ ap Some stands) unit_owns (ap (option_map (λ (z : Entry Symbol). z.name)) live)
      ∙ ap (λ p. p ++ y.name ∷ []) unit_path)
      ∙ elim (same_name_or u.unit u.unit) [
        | inl p ↦ ap (λ b. if b then type_in (variables_in u.asr u.table) y.name else Integer4) p.0
        | inr p ↦ absurd (p.1 refl)
      ]
      ∙ type_found u.asr links h u.table s y live stands

  -- a table without an owner is the root
  root_alone : (s : SymId) (y : Entry Symbol) → symbol_at u.asr.scopes s ≡ Some y → owner_of u.asr.scopes y.table ≡ None → y.table.0 ≡ 0
  root_alone s y live none =
      elim (same_or y.table.0 0) [
        | inl z ↦ z
        | inr d ↦
            let o = links.owners y.table (has_table u.asr.scopes y.table y.name s (links.stands s y live)) d in
            absurd (none_some o.owner (sym none ∙ o.owner_is))
      ]

  -- a symbol of the root table that is named as the unit is the unit
  same_unit : (s : SymId) (y : Entry Symbol) → symbol_at u.asr.scopes s ≡ Some y → owner_of u.asr.scopes y.table ≡ None → y.name ≡ u.unit → s ≡ u.id
  same_unit s y live none called =
      let w = owned_of (symbol_at u.asr.scopes u.id) u.table is.table_is in
      let root = some_is w.0.table (table_id 0) (sym (ap (option_map (λ (z : Entry Symbol). z.table)) w.1) ∙ is.root) in
      let name = some_is w.0.name u.unit (sym (ap (option_map (λ (z : Entry Symbol). z.name)) w.1) ∙ is.name_is) in
      some_is s u.id
      (sym (links.stands s y live)
      ∙ ap (λ t. symbol_in u.asr.scopes t y.name) (ap table_id (root_alone s y live none) ∙ sym root)
      ∙ ap (λ n. symbol_in u.asr.scopes w.0.table n) (called ∙ sym name)
      ∙ links.stands u.id w.0 w.1)

  -- what the unit owns is its table
  same_table : (s : SymId) (y : Entry Symbol) → symbol_at u.asr.scopes s ≡ Some y → owner_of u.asr.scopes y.table ≡ Some u.id → y.table ≡ u.table
  same_table s y live owns =
      let o = links.owners y.table (has_table u.asr.scopes y.table y.name s (links.stands s y live)) in
      let w = owned_of (symbol_at u.asr.scopes u.id) u.table is.table_is in
      elim (same_or y.table.0 0) [
        | inl z ↦ absurd (none_some u.id (sym links.root_owner ∙ ap (owner_of u.asr.scopes) (ap table_id (sym z)) ∙ owns))
        | inr d ↦
            let same = some_is (o d).owner u.id (sym (o d).owner_is ∙ owns) in
            let entry = some_is (o d).symbol w.0 (sym (o d).live ∙ ap (symbol_at u.asr.scopes) same ∙ w.1) in
            some_is y.table u.table (sym (o d).owns ∙ ap (λ (z : Entry Symbol). z.owned) entry ∙ w.2)
      ]

  by_name : (o : SymId) (z : Entry Symbol) (n : List ℕ) → symbol_at u.asr.scopes o ≡ Some z → owner_of u.asr.scopes z.table ≡ None → o ≢ u.id
      → type_at u.unit (variables_in u.asr u.table) (z.name ∷ n ∷ []) ≡ Integer4
  by_name o z n live none other =
      elim (same_name_or z.name u.unit) [
        | inl p ↦ absurd (other (same_unit o z live none p.1))
        | inr p ↦ ap (λ b. if b then type_in (variables_in u.asr u.table) n else Integer4) p.0
      ]

  -- an entity in another one that is not the unit
  inner : (o : SymId) (z : Entry Symbol) (n : List ℕ) → symbol_at u.asr.scopes o ≡ Some z → o ≢ u.id → types_of u (path u.asr o ++ n ∷ []) ≡ Integer4
  inner o z n live other = by (owner_of u.asr.scopes z.table) refl
    where
      table : table_of u.asr.scopes o ≡ Some z.table
      table = ap (option_map (λ (w : Entry Symbol). w.table)) live

      called : name_of u.asr.scopes o ≡ Some z.name
      called = ap (option_map (λ (w : Entry Symbol). w.name)) live

      by : (r : Option SymId) → owner_of u.asr.scopes z.table ≡ r → types_of u (path u.asr o ++ n ∷ []) ≡ Integer4
      by None e = ap (λ p. types_of u (p ++ n ∷ [])) (path_lone u.asr.scopes links o z.table z.name table e called) ∙ by_name o z n live e other
      by (Some r) e =
          let around = within u.asr.scopes links o r z.table table e in
          let front = path_begins u.asr.scopes links r around.table around.table_is in
          ap (λ p. types_of u (p ++ n ∷ [])) (path_inside u.asr.scopes links o r z.table z.name table e called ∙ ap (λ p. p ++ z.name ∷ []) front.2)
          ∙ deep u.unit (variables_in u.asr u.table) front.0 front.1 z.name n

  entry_of : (s : SymId) → is_some (symbol_at u.asr.scopes s) ≡ true → (y : Entry Symbol) × (symbol_at u.asr.scopes s ≡ Some y)
  entry_of s e = by (symbol_at u.asr.scopes s) e
    where
      by : (o : Option (Entry Symbol)) → is_some o ≡ true → (y : Entry Symbol) × (o ≡ Some y)
      by None e = absurd (cc e)
      by (Some y) e = (y, refl)

  -- a live symbol that does not stand in the unit's table
  live_type : (s : SymId) (y : Entry Symbol) → symbol_at u.asr.scopes s ≡ Some y → y.table ≢ u.table → types_of u (path u.asr s) ≡ Integer4
  live_type s y live other = by (owner_of u.asr.scopes y.table) refl
    where
      table : table_of u.asr.scopes s ≡ Some y.table
      table = ap (option_map (λ (w : Entry Symbol). w.table)) live

      called : name_of u.asr.scopes s ≡ Some y.name
      called = ap (option_map (λ (w : Entry Symbol). w.name)) live

      by : (r : Option SymId) → owner_of u.asr.scopes y.table ≡ r → types_of u (path u.asr s) ≡ Integer4
      by None e = ap (types_of u) (path_lone u.asr.scopes links s y.table y.name table e called)
      by (Some r) e =
          let around = within u.asr.scopes links s r y.table table e in
          let z = entry_of r around.live in
          ap (types_of u) (path_inside u.asr.scopes links s r y.table y.name table e called)
          ∙ inner r z.0 y.name z.1 (λ same. other (same_table s y live (e ∙ ap Some same)))

  pub other_type : (s : SymId) → table_of u.asr.scopes s ≢ Some u.table → types_of u (path u.asr s) ≡ Integer4
  other_type s other = by (symbol_at u.asr.scopes s) refl
    where
      by : (o : Option (Entry Symbol)) → symbol_at u.asr.scopes s ≡ o → types_of u (path u.asr s) ≡ Integer4
      by None e = ap (types_of u) (path_dead u.asr.scopes s (ap is_some e))
      by (Some y) e = live_type s y e (λ same. other (ap (option_map (λ (w : Entry Symbol). w.table)) e ∙ ap Some same))

  -- a symbol of the unit's table, by what it stands for
  pub found_type : Sound u.asr → (s : SymId) (x : Symbol) → table_of u.asr.scopes s ≡ Some u.table → option_map (λ (y : Entry Symbol). y.what) (symbol_at u.asr.scopes s) ≡ Some x
      → types_of u (path u.asr s) ≡ symbol_type (path u.asr) x
  found_type h s x stands what =
      let y = seen u.asr.scopes links s u.table stands in
      own_type h s y.entry y.live y.table
      ∙ ap (symbol_type (path u.asr)) (some_is y.entry.what x (sym (ap (option_map (λ (z : Entry Symbol). z.what)) y.live) ∙ what))

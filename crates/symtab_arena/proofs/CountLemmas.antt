-- The symbols of a table, one at each place.
use Rattle.std.proofs.Common.{◌≡◌, ℕ, zero, suc, ◌+◌, ◌<◌, ◌≤◌, List, [], ◌∷◌, length, slice_get, slice_set, Option, Some, None, is_some, refl, sym, ap, ◌∙◌, inl, inr, arith}
use Rattle.std.proofs.lemmas.List.Sums.{count_by-le-length}
use Rattle.std.specs.List.{count_by}
use Rattle.std.specs.Option.{option_map}
use Rattle.lf_base.specs.declared.id.SymId.{SymId}
use Rattle.lf_base.specs.declared.id.TableId.{TableId}
use Rattle.symtab_arena.specs.Entries.{entry_at}
use Rattle.symtab_arena.specs.Links.{Linked}
use Rattle.symtab_arena.specs.Names.{Names, named, AreDistinct}
use Rattle.symtab_arena.specs.Scopes.{Scopes, symbol_numbers, live_count, names_in, symbol_in_place, table_of}
use Rattle.symtab_arena.specs.Tables.{cleared}
use Rattle.symtab_arena.specs.declared.table.Symbol.{Symbol}
use Rattle.symtab_arena.proofs.EntryLemmas.{same_or, none_some, entry_at-set_other, count-set_none}
use Rattle.symtab_arena.proofs.LinkLemmas.{some_is}
use Rattle.symtab_arena.proofs.NameLemmas.{same_name_or, named_at, named_past}

-- what stands at a place is what its name names
pub named_in_place : (names : Names) → AreDistinct names → (place : ℕ) (e : List ℕ × SymId) → slice_get names place ≡ Some e → named e.0 names ≡ Some e.1
named_in_place [] d place e at = absurd (none_some e at)
named_in_place (f ∷ fs) d zero e at = let same = some_is f e at in named_at e.0 f fs (ap (λ (x : List ℕ × SymId). x.0) (sym same)) ∙ ap (λ (x : List ℕ × SymId). Some x.1) same
named_in_place (f ∷ fs) d (suc place) e at =
    let later = named_in_place fs d.1 place e at in
    elim (same_name_or e.0 f.0) [
      | inl p ↦ absurd (none_some e.1 (sym d.0 ∙ ap (λ n. named n fs) (sym p.1) ∙ later))
      | inr p ↦ named_past e.0 f fs p.1 ∙ later
    ]

-- a name that is there has a place
pub place_of_name : (names : Names) (name : List ℕ) (s : SymId) → named name names ≡ Some s
    → (place : ℕ) × (place < length names) × (option_map (λ (e : List ℕ × SymId). e.1) (slice_get names place) ≡ Some s)
place_of_name [] name s h = absurd (none_some s h)
place_of_name (e ∷ es) name s h =
    let later = place_of_name es name s in
    elim (same_name_or name e.0) [
      | inl p ↦ (zero, omega arith, sym (named_at name e es p.1) ∙ h)
      | inr p ↦ let q = later (sym (named_past name e es p.1) ∙ h) in (suc q.0, omega (arith, q.1), q.2)
    ]

module _ {K : Type 0} where
  -- as many symbols go as are listed
  count_listed : (names : Names) (xs : List (Option (Symbol K))) → AreDistinct names
      → ((n : List ℕ) (s : SymId) → named n names ≡ Some s → (y : Symbol K) × (entry_at xs s.0 ≡ Some y) × (y.name ≡ n))
      → count_by is_some (cleared names xs) + length names ≡ count_by is_some xs
  count_listed [] xs d h = omega arith
  count_listed (e ∷ es) xs d h =
      let first = h e.0 e.1 (named_at e.0 e es refl) in
      let one = count-set_none xs e.1.0 first.0 first.1 in
      let rest = count_listed es (slice_set xs e.1.0 None) d.1
      (λ n s there.
      elim (same_name_or n e.0) [
        | inl p ↦ absurd (none_some s (sym d.0 ∙ ap (λ m. named m es) (sym p.1) ∙ there))
        | inr p ↦
            let z = h n s (named_past n e es p.1 ∙ there) in
            elim (same_or s.0 e.1.0) [
              | inl q ↦
                  let same = some_is first.0 z.0 (sym first.1 ∙ ap (entry_at xs) (sym q) ∙ z.1) in
                  absurd (p.1 (sym z.2 ∙ ap (λ (y : Symbol K). y.name) (sym same) ∙ first.2))
              | inr q ↦ (z.0, entry_at-set_other xs e.1.0 s.0 None q ∙ z.1, z.2)
            ]
      ]) in
      omega arith

  module _ (a : Scopes K) (links : Linked a) (t : TableId) where
    -- a table has no more symbols than are live
    pub table_within_live : length (names_in a t) ≤ live_count a
    table_within_live =
        let all = count_listed (names_in a t) a.symbols (links.distinct t) (λ n s there. let old = links.lists t n s there in (old.symbol, old.live, old.has_name)) in
        omega arith

    pub table_small : length (names_in a t) ≤ symbol_numbers
    table_small =
        let within = table_within_live in
        let count = count_by-le-length is_some a.symbols in
        let given = links.symbols_given in
        omega arith

    -- what is listed in a table stands in it
    pub in_place_stands : (place : ℕ) (s : SymId) → symbol_in_place a t place ≡ Some s → table_of a s ≡ Some t
    in_place_stands place s h = by (slice_get (names_in a t) place) refl h
      where
        by : (o : Option (List ℕ × SymId)) → slice_get (names_in a t) place ≡ o → option_map (λ (e : List ℕ × SymId). e.1) o ≡ Some s → table_of a s ≡ Some t
        by None is q = absurd (none_some s q)
        by (Some e) is q =
            let there = named_in_place (names_in a t) (links.distinct t) place e is in
            let old = links.lists t e.0 s (there ∙ q) in
            ap (option_map (λ (y : Symbol K). y.table)) old.live ∙ ap Some old.in_table

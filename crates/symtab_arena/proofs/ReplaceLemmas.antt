-- The links stay through a change of what a symbol stands for.
use Rattle.std.proofs.Common.{◌≡◌, ℕ, List, slice_set, Option, Some, is_some, refl, sym, ap, subst, ◌∙◌, inl, inr, arith}
use Rattle.std.proofs.lemmas.List.{length-set}
use Rattle.std.specs.List.{count_by}
use Rattle.std.specs.Option.{option_map}
use Rattle.lf_base.specs.declared.id.SymId.{SymId}
use Rattle.symtab_arena.specs.Changes.{standing_for}
use Rattle.symtab_arena.specs.Links.{Linked}
use Rattle.symtab_arena.specs.Scopes.{Scopes, symbol_id, symbol_at, live_count, symbol_in}
use Rattle.symtab_arena.specs.declared.table.Symbol.{Symbol}
use Rattle.symtab_arena.proofs.EntryLemmas.{entry_at_within, entry_at-set_same, entry_at-set_other, count-set_some}
use Rattle.symtab_arena.proofs.LinkLemmas.{same_symbol_or, some_is}

module _ {K : Type 0} (a : Scopes K) (s : SymId) (y : Symbol K) (what : K) (links : Linked a) (was : symbol_at a s ≡ Some y) where
  abbrev after : Scopes K
  after = record { tables = a.tables; symbols = slice_set a.symbols s.0 (Some (standing_for what y)) }

  -- the same symbol, but for what it stands for
  record Alike (x z : Symbol K) : Type 0 where
    same_table : x.table ≡ z.table
    same_name : x.name ≡ z.name
    same_owned : x.owned ≡ z.owned

  back : (u : SymId) (x : Symbol K) → symbol_at after u ≡ Some x → (z : Symbol K) × (symbol_at a u ≡ Some z) × Alike x z
  back u x e =
      elim (same_symbol_or u s) [
        | inl q ↦
            let same = some_is (standing_for what y) x (sym (entry_at-set_same a.symbols s.0 (Some (standing_for what y)) (entry_at_within a.symbols s.0 y was)) ∙ ap (symbol_at after) (sym q) ∙ e) in (
              y,
              ap (symbol_at a) q ∙ was,
              record {
                same_table = ap (λ (v : Symbol K). v.table) (sym same);
                same_name = ap (λ (v : Symbol K). v.name) (sym same);
                same_owned = ap (λ (v : Symbol K). v.owned) (sym same);
              },
            )
        | inr d ↦ (
          x,
          sym (entry_at-set_other a.symbols s.0 u.0 (Some (standing_for what y)) (λ q. d (ap symbol_id q))) ∙ e,
          record { same_table = refl; same_name = refl; same_owned = refl },
        )
      ]

  forth : (u : SymId) (z : Symbol K) → symbol_at a u ≡ Some z → (x : Symbol K) × (symbol_at after u ≡ Some x) × Alike x z
  forth u z e =
      elim (same_symbol_or u s) [
        | inl q ↦
            let same = some_is y z (sym was ∙ ap (symbol_at a) (sym q) ∙ e) in (
              standing_for what y,
              ap (symbol_at after) q ∙ entry_at-set_same a.symbols s.0 (Some (standing_for what y)) (entry_at_within a.symbols s.0 y was),
              record {
                same_table = ap (λ (v : Symbol K). v.table) same;
                same_name = ap (λ (v : Symbol K). v.name) same;
                same_owned = ap (λ (v : Symbol K). v.owned) same;
              },
            )
        | inr d ↦ (
          z,
          entry_at-set_other a.symbols s.0 u.0 (Some (standing_for what y)) (λ q. d (ap symbol_id q)) ∙ e,
          record { same_table = refl; same_name = refl; same_owned = refl },
        )
      ]

  Linked-replaced : Linked after
  Linked-replaced = record {
    root = links.root;
    root_parent = links.root_parent;
    root_owner = links.root_owner;
    owners = λ t h d.
        let o = links.owners t h d in
        let p = forth o.owner o.symbol o.live in
        let number = ap (λ u. u.0) p.2.same_table in
        let falls = o.falls in
        record {
          owner = o.owner;
          symbol = p.0;
          owner_is = o.owner_is;
          live = p.1;
          owns = p.2.same_owned ∙ o.owns;
          parent_is = o.parent_is ∙ ap Some (sym p.2.same_table);
          falls = omega arith;
        };
    owned = λ u x t live owns. let p = back u x live in links.owned u p.0 t p.1 (sym p.2.same_owned ∙ owns);
    stands = λ u x live. let p = back u x live in (λ i. symbol_in a (p.2.same_table i) (p.2.same_name i)) ∙ links.stands u p.0 p.1;
    lists = λ t n u e.
        let old = links.lists t n u e in
        let p = forth u old.symbol old.live in
        record { symbol = p.0; live = p.1; in_table = p.2.same_table ∙ old.in_table; has_name = p.2.same_name ∙ old.has_name };
    distinct = links.distinct;
    symbols_given = let n = length-set a.symbols s.0 (Some (standing_for what y)) in let m = links.symbols_given in omega arith;
    tables_given = let n = length-set a.symbols s.0 (Some (standing_for what y)) in let m = links.tables_given in omega arith;
  }

  pub replaced_keeps : (symbols : List (Option (Symbol K))) (live : ℕ) → live ≡ live_count a
      → symbols ≡ slice_set a.symbols s.0 (option_map (standing_for what) (symbol_at a s))
      → Linked (record { tables = a.tables; symbols = symbols }) × (live ≡ live_count (record { tables = a.tables; symbols = symbols }))
  replaced_keeps symbols live counted p =
      let is : symbols ≡ after.symbols = p ∙ ap (λ o. slice_set a.symbols s.0 (option_map (standing_for what) o)) was in
      let same = count-set_some a.symbols s.0 y (standing_for what y) was in
      subst (λ (xs : List (Option (Symbol K))). Linked (record { tables = a.tables; symbols = xs }) × (live ≡ count_by is_some xs)) (sym is) (Linked-replaced, counted ∙ sym same)

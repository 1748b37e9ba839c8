-- Symbols that are left when others were taken out.
use Rattle.std.proofs.Common.{◌≡◌, ℕ, zero, suc, Bool, true, false, if◌then◌else◌, ◌==◌, List, [], ◌∷◌, map, slice_get, slice_set, Option, Some, None, refl, sym, ap, subst, ◌∙◌}
use Rattle.std.specs.Option.{option_flatten, option_map_or}
use Rattle.lf_base.specs.declared.id.SymId.{SymId}
use Rattle.lf_base.specs.declared.id.TableId.{TableId}
use Rattle.symtab_arena.specs.Changes.{with_names, outside, without_table, removed_from, removed_each}
use Rattle.symtab_arena.specs.Entries.{entry_at}
use Rattle.symtab_arena.specs.Names.{without}
use Rattle.symtab_arena.specs.Scopes.{Scopes, symbol_at}
use Rattle.symtab_arena.specs.declared.table.Symbol.{Symbol as Entry}
use Rattle.asr_nodes.specs.Nodes.{Nodes, Sound}
use Rattle.asr_nodes.specs.declared.node.Symbol.{Symbol}
use Rattle.asr_nodes.proofs.Symbols.{fits, all_fit}

set_left : {A : Type 0} (xs : List (Option A)) (i j : ℕ) (y : A) → entry_at (slice_set xs i None) j ≡ Some y → entry_at xs j ≡ Some y
set_left [] i j y e = e
set_left (x ∷ xs) zero zero y e = absurd (cc)
set_left (x ∷ xs) zero (suc j) y e = e
set_left (x ∷ xs) (suc i) zero y e = e
set_left (x ∷ xs) (suc i) (suc j) y e = set_left xs i j y e

outside_left : {K : Type 0} (t : TableId) (xs : List (Option (Entry K))) (j : ℕ) (y : Entry K) → entry_at (map (outside t) xs) j ≡ Some y → entry_at xs j ≡ Some y
outside_left t [] j y e = e
outside_left t (None ∷ xs) zero y e = e
outside_left t (Some x ∷ xs) zero y e = by (x.table.0 == t.0) e
  where
    by : (b : Bool) → option_flatten (Some (if b then None else Some x)) ≡ Some y → Some x ≡ Some y
    by true e = absurd (cc)
    by false e = e
outside_left t (x ∷ xs) (suc j) y e = outside_left t xs j y e

table_left : {K : Type 0} (a : Scopes K) (o : Option TableId) (id : SymId) (y : Entry K) → symbol_at (without_table a o) id ≡ Some y → symbol_at a id ≡ Some y
table_left a None id y e = e
table_left a (Some t) id y e = outside_left t a.symbols id.0 y e

one_left : {K : Type 0} (a : Scopes K) (s id : SymId) (y : Entry K) → symbol_at (removed_from a s) id ≡ Some y → symbol_at a id ≡ Some y
one_left {K} a s id y e = by (symbol_at a s) e
  where
    by : (o : Option (Entry K)) → symbol_at (option_map_or (λ x. record { tables = with_names (without_table a x.owned).tables x.table (without x.name); symbols = slice_set (without_table a x.owned).symbols s.0 None }) o a) id ≡ Some y → symbol_at a id ≡ Some y
    by None e = e
    by (Some x) e = table_left a x.owned id y (set_left (without_table a x.owned).symbols s.0 id.0 y e)

-- What is left stood there before.
pub each_left : {K : Type 0} (a : Scopes K) (gone : List SymId) (id : SymId) (y : Entry K) → symbol_at (removed_each a gone) id ≡ Some y → symbol_at a id ≡ Some y
each_left a [] id y e = e
each_left a (s ∷ gone) id y e = one_left a s id y (each_left (removed_from a s) gone id y e)

pub left_sound : (a : Nodes) → Sound a → (gone : List SymId) → Sound (record a { scopes = removed_each a.scopes gone })
left_sound a h gone = all_fit a h (removed_each a.scopes gone) (λ id it e. fits a h id it (each_left a.scopes gone id it e))

pub removal_sound : (old inside : Nodes) → inside ≡ old → Sound inside → (gone : List SymId) (sc : Scopes Symbol) → sc ≡ removed_each inside.scopes gone → Sound (record inside { scopes = sc })
removal_sound old inside v h gone sc e = subst (λ z. Sound (record inside { scopes = z })) (sym e) (left_sound inside h gone)

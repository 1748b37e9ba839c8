-- The saved variables of a unit, one behind another.
use Rattle.std.proofs.Common.{◌≡◌, ℕ, zero, suc, ◌+◌, ◌==◌, ◌≤◌, Bool, true, false, List, [], ◌∷◌, ◌++◌, map, length, drop, slice_get, Option, Some, None, refl, sym, ap, ◌∙◌, append-nil, append_assoc}
use Rattle.std.proofs.lemmas.List.{map-append, drop_all}
use Rattle.std.specs.Option.{option_map}
use Rattle.lf_base.specs.declared.id.SymId.{SymId}
use Rattle.symtab_arena.specs.Names.{Names}
use Rattle.asr_nodes.specs.Nodes.{Nodes}
use Rattle.asr_nodes.specs.declared.code.TheConstants.{SAVED}
use Rattle.asr_nodes.proofs.Entities.{listed_at}
use Rattle.asr_nodes.proofs.Missing.{drop_next}
use Rattle.c_nodes.specs.declared.tree.CItem.{CItem}
use Rattle.c_printer.specs.Files.{Variable, saved, saved_where}
use Rattle.c_printer.specs.Units.{variable_at, saved_names}

first_saved : (b : Bool) (v : Variable) (vs : List Variable) → saved_where b v vs ≡ saved_where b v [] ++ vs
first_saved true v vs = refl
first_saved false v vs = refl

pub saved_more : (v : Option Variable) (vs : List (Option Variable)) → saved (v ∷ vs) ≡ saved (v ∷ []) ++ saved vs
saved_more None vs = refl
saved_more (Some v) vs = first_saved (v.storage == SAVED) v (saved vs)

-- the variables of the names from a place on
module _ (a : Nodes) where
  abbrev pub saved_from : ℕ → Names → List Variable
  saved_from place names = saved_names a (drop place names)

  from_next : (vs : List (Option Variable)) (place : ℕ) (v : Option Variable) → slice_get vs place ≡ Some v → saved (drop place vs) ≡ saved (v ∷ []) ++ saved (drop (place + 1) vs)
  from_next vs place v e = ap saved (drop_next vs place v e) ∙ saved_more v (drop (place + 1) vs)

  drop_map : {A B : Type 0} (f : A → B) (n : ℕ) (xs : List A) → drop n (map f xs) ≡ map f (drop n xs)
  drop_map f zero xs = refl
  drop_map f (suc n) [] = refl
  drop_map f (suc n) (x ∷ xs) = drop_map f n xs

  pub saved_next : (names : Names) (place : ℕ) (s : SymId) → option_map (λ e. e.1) (slice_get names place) ≡ Some s → saved_from place names ≡ saved (variable_at a s ∷ []) ++ saved_from (place + 1) names
  saved_next names place s e =
      let vs = map (λ (n : List ℕ × SymId). variable_at a n.1) names in
      sym (ap saved (drop_map (λ (n : List ℕ × SymId). variable_at a n.1) place names))
      ∙ from_next vs place (variable_at a s) (listed_at (variable_at a) (λ (n : List ℕ × SymId). n.1) names place s e)
      ∙ ap (λ t. saved (variable_at a s ∷ []) ++ t) (ap saved (drop_map (λ (n : List ℕ × SymId). variable_at a n.1) (place + 1) names))

  pub saved_end : (names : Names) (place : ℕ) → length names ≤ place → saved_from place names ≡ []
  saved_end names place h = ap (saved_names a) (drop_all place names h)

  -- items of variables behind others
  pub items_next : (item : Variable → CItem) (before : List CItem) (names : Names) (place : ℕ) (s : SymId) → option_map (λ e. e.1) (slice_get names place) ≡ Some s
      → before ++ map item (saved_from place names) ≡ (before ++ map item (saved (variable_at a s ∷ []))) ++ map item (saved_from (place + 1) names)
  items_next item before names place s e =
      ap (λ vs. before ++ map item vs) (saved_next names place s e)
      ∙ ap (λ is. before ++ is) (map-append item (saved (variable_at a s ∷ [])) (saved_from (place + 1) names))
      ∙ sym (append_assoc before (map item (saved (variable_at a s ∷ []))) (map item (saved_from (place + 1) names)))

  pub items_end : (item : Variable → CItem) (before : List CItem) (names : Names) (place : ℕ) → length names ≤ place → before ++ map item (saved_from place names) ≡ before
  items_end item before names place h = ap (λ vs. before ++ map item vs) (saved_end names place h) ∙ append-nil before

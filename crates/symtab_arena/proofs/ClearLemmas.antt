-- What is left once the symbols that a table lists are taken out.
use Rattle.std.proofs.Common.{◌≡◌, ◌≢◌, ℕ, zero, suc, ◌+◌, List, [], ◌∷◌, length, drop, slice_get, slice_set, Option, Some, None, refl, sym, ap, ◌∙◌, inl, inr, arith}
use Rattle.std.proofs.lemmas.List.{length-set}
use Rattle.std.specs.Option.{option_map}
use Rattle.lf_base.specs.declared.id.SymId.{SymId}
use Rattle.symtab_arena.specs.Entries.{entry_at}
use Rattle.symtab_arena.specs.Names.{Names, named, AreDistinct}
use Rattle.symtab_arena.specs.Tables.{cleared}
use Rattle.symtab_arena.proofs.EntryLemmas.{same_or, none_some, entry_at-set_none, entry_at-set_other}
use Rattle.symtab_arena.proofs.NameLemmas.{same_name_or, named_at, named_past}

module _ {X : Type 0} where
  step_at : (names : Names) (place : ℕ) (s : SymId) (xs : List (Option X)) → option_map (λ e. e.1) (slice_get names place) ≡ Some s
      → cleared (drop place names) xs ≡ cleared (drop (suc place) names) (slice_set xs s.0 None)
  step_at [] place s xs h = absurd (none_some s h)
  step_at (e ∷ names) zero s xs h = ap (λ (o : Option SymId). cleared names (slice_set xs (number o) None)) h
    where
      number : Option SymId → ℕ
      number None = 0
      number (Some u) = u.0
  step_at (e ∷ names) (suc place) s xs h = step_at names place s xs h

  -- one turn of the loop
  pub cleared-step : (names : Names) (place : ℕ) (s : SymId) (xs : List (Option X)) → option_map (λ e. e.1) (slice_get names place) ≡ Some s
      → cleared (drop place names) xs ≡ cleared (drop (place + 1) names) (slice_set xs s.0 None)
  cleared-step names place s xs h = let next : suc place ≡ place + 1 = omega arith in step_at names place s xs h ∙ ap (λ n. cleared (drop n names) (slice_set xs s.0 None)) next

  end_at : (names : Names) (place : ℕ) (xs : List (Option X)) → option_map (λ e. e.1) (slice_get names place) ≡ None
      → cleared (drop place names) xs ≡ cleared (drop (suc place) names) xs
  end_at [] zero xs h = refl
  end_at [] (suc place) xs h = refl
  end_at (e ∷ names) zero xs h = absurd (none_some e.1 (sym h))
  end_at (e ∷ names) (suc place) xs h = end_at names place xs h

  pub cleared-end : (names : Names) (place : ℕ) (xs : List (Option X)) → option_map (λ e. e.1) (slice_get names place) ≡ None
      → cleared (drop place names) xs ≡ cleared (drop (place + 1) names) xs
  cleared-end names place xs h = let next : suc place ≡ place + 1 = omega arith in end_at names place xs h ∙ ap (λ n. cleared (drop n names) xs) next

  pub length-cleared : (names : Names) (xs : List (Option X)) → length (cleared names xs) ≡ length xs
  length-cleared [] xs = refl
  length-cleared (e ∷ names) xs = length-cleared names (slice_set xs e.1.0 None) ∙ length-set xs e.1.0 None

  -- where nothing stood nothing stands
  pub cleared-nothing : (names : Names) (xs : List (Option X)) (n : ℕ) → entry_at xs n ≡ None → entry_at (cleared names xs) n ≡ None
  cleared-nothing [] xs n h = h
  cleared-nothing (e ∷ names) xs n h =
      cleared-nothing names (slice_set xs e.1.0 None) n
      (elim (same_or n e.1.0) [
        | inl q ↦ ap (entry_at (slice_set xs e.1.0 None)) q ∙ entry_at-set_none xs e.1.0
        | inr d ↦ entry_at-set_other xs e.1.0 n None d ∙ h
      ])

  -- what is listed is gone
  pub cleared-listed : (names : Names) (xs : List (Option X)) (name : List ℕ) (s : SymId) → named name names ≡ Some s → entry_at (cleared names xs) s.0 ≡ None
  cleared-listed [] xs name s h = absurd (none_some s h)
  cleared-listed (e ∷ names) xs name s h =
      let later = cleared-listed names (slice_set xs e.1.0 None) name s in
      elim (same_name_or name e.0) [
        | inl p ↦
            let same : e.1 ≡ s = cc (named_at name e names p.1, h) in
            cleared-nothing names (slice_set xs e.1.0 None) s.0
            (ap (λ (u : SymId). entry_at (slice_set xs u.0 None) s.0) same ∙ entry_at-set_none xs s.0)
        | inr p ↦ later (sym (named_past name e names p.1) ∙ h)
      ]

  -- what is not listed stays
  pub cleared-other : (names : Names) (xs : List (Option X)) (n : ℕ) → AreDistinct names
      → ((name : List ℕ) (s : SymId) → named name names ≡ Some s → n ≢ s.0) → entry_at (cleared names xs) n ≡ entry_at xs n
  cleared-other [] xs n d h = refl
  cleared-other (e ∷ names) xs n d h =
      cleared-other names (slice_set xs e.1.0 None) n d.1
      (λ name s there.
      elim (same_name_or name e.0) [
        | inl p ↦ absurd (none_some s (sym d.0 ∙ ap (λ m. named m names) (sym p.1) ∙ there))
        | inr p ↦ h name s (named_past name e names p.1 ∙ there)
      ])
      ∙ entry_at-set_other xs e.1.0 n None (h e.0 e.1 (named_at e.0 e names refl))

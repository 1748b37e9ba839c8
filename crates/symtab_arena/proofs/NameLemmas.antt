-- The names of a table after an insertion and a removal.
use Rattle.std.proofs.Common.{◌≡◌, ◌≢◌, ℕ, zero, suc, Bool, true, false, cond, List, [], ◌∷◌, insert, Some, None, refl, sym, ap, subst, ◌∙◌, ◌⊎◌, inl, inr}
use Rattle.std.proofs.lemmas.Slice.Eq.{bytes_eq-Decides}
use Rattle.std.specs.Bool.{Decides}
use Rattle.std.specs.Str.{bytes_eq}
use Rattle.lf_base.specs.declared.id.SymId.{SymId}
use Rattle.symtab_arena.specs.Names.{Names, named, without, AreDistinct}
use Rattle.symtab_arena.proofs.EntryLemmas.{none_some}

pub same_name_or : (n m : List ℕ) → ((bytes_eq n m ≡ true) × (n ≡ m)) ⊎ ((bytes_eq n m ≡ false) × (n ≢ m))
same_name_or n m = by (bytes_eq n m) refl (bytes_eq-Decides n m)
  where
    by : (b : Bool) → bytes_eq n m ≡ b → Decides (bytes_eq n m) (n ≡ m) → ((bytes_eq n m ≡ true) × (n ≡ m)) ⊎ ((bytes_eq n m ≡ false) × (n ≢ m))
    by true e d = inl (e, d.0 e)
    by false e d = inr (e, λ same. absurd (cc (e, d.1 same)))

-- at an entry of its own name and past one of another
pub named_at : (n : List ℕ) (e : List ℕ × SymId) (es : Names) → n ≡ e.0 → named n (e ∷ es) ≡ Some e.1
named_at n e es h = elim (same_name_or n e.0) [ inl p ↦ ap (λ b. cond b (Some e.1) (named n es)) p.0 | inr p ↦ absurd (p.1 h) ]

pub named_past : (n : List ℕ) (e : List ℕ × SymId) (es : Names) → n ≢ e.0 → named n (e ∷ es) ≡ named n es
named_past n e es h = elim (same_name_or n e.0) [ inl p ↦ absurd (h p.1) | inr p ↦ ap (λ b. cond b (Some e.1) (named n es)) p.0 ]

module _ (name : List ℕ) (s : SymId) where
  pub named-insert_other : (es : Names) (i : ℕ) (n : List ℕ) → n ≢ name → named n (insert es i (name, s)) ≡ named n es
  named-insert_other [] zero n h = named_past n (name, s) [] h
  named-insert_other [] (suc i) n h = named_past n (name, s) [] h
  named-insert_other (e ∷ es) zero n h = named_past n (name, s) (e ∷ es) h
  named-insert_other (e ∷ es) (suc i) n h = ap (λ r. cond (bytes_eq n e.0) (Some e.1) r) (named-insert_other es i n h)

  pub named-insert_same : (es : Names) (i : ℕ) → named name es ≡ None → named name (insert es i (name, s)) ≡ Some s
  named-insert_same [] zero h = named_at name (name, s) [] refl
  named-insert_same [] (suc i) h = named_at name (name, s) [] refl
  named-insert_same (e ∷ es) zero h = named_at name (name, s) (e ∷ es) refl
  named-insert_same (e ∷ es) (suc i) h =
      let later = named-insert_same es i in
      elim (same_name_or name e.0) [
        | inl p ↦ absurd (none_some e.1 (sym h ∙ named_at name e es p.1))
        | inr p ↦ named_past name e (insert es i (name, s)) p.1 ∙ later (sym (named_past name e es p.1) ∙ h)
      ]

  pub distinct-insert : (es : Names) (i : ℕ) → named name es ≡ None → AreDistinct es → AreDistinct (insert es i (name, s))
  distinct-insert [] zero h d = (refl, tt)
  distinct-insert [] (suc i) h d = (refl, tt)
  distinct-insert (e ∷ es) zero h d = (h, d)
  distinct-insert (e ∷ es) (suc i) h d =
      let later = distinct-insert es i in
      elim (same_name_or name e.0) [
        | inl p ↦ absurd (none_some e.1 (sym h ∙ named_at name e es p.1))
        | inr p ↦ (named-insert_other es i e.0 (λ q. p.1 (sym q)) ∙ d.0, later (sym (named_past name e es p.1) ∙ h) d.1)
      ]

module _ (name : List ℕ) where
  -- a removal leaves the other names
  pub named-without_other : (es : Names) (n : List ℕ) → n ≢ name → named n (without name es) ≡ named n es
  named-without_other [] n h = refl
  named-without_other (e ∷ es) n h =
      let later = named-without_other es n h in
      elim (same_name_or name e.0) [
        | inl p ↦ ap (λ b. named n (cond b es (e ∷ without name es))) p.0 ∙ sym (named_past n e es (λ q. h (q ∙ sym p.1)))
        | inr p ↦ ap (λ b. named n (cond b es (e ∷ without name es))) p.0 ∙ ap (λ r. cond (bytes_eq n e.0) (Some e.1) r) later
      ]

  pub named-without_same : (es : Names) → AreDistinct es → named name (without name es) ≡ None
  named-without_same [] d = refl
  named-without_same (e ∷ es) d =
      let later = named-without_same es d.1 in
      elim (same_name_or name e.0) [
        | inl p ↦ ap (λ b. named name (cond b es (e ∷ without name es))) p.0 ∙ ap (λ n. named n es) p.1 ∙ d.0
        | inr p ↦ ap (λ b. named name (cond b es (e ∷ without name es))) p.0 ∙ named_past name e (without name es) p.1 ∙ later
      ]

  none-without : (es : Names) (n : List ℕ) → named n es ≡ None → named n (without name es) ≡ None
  none-without [] n h = refl
  none-without (e ∷ es) n h =
      let later = none-without es n in
      elim (same_name_or n e.0) [
        | inl p ↦ absurd (none_some e.1 (sym h ∙ named_at n e es p.1))
        | inr p ↦ elim (same_name_or name e.0) [
          | inl q ↦ ap (λ b. named n (cond b es (e ∷ without name es))) q.0 ∙ sym (named_past n e es p.1) ∙ h
          | inr q ↦ ap (λ b. named n (cond b es (e ∷ without name es))) q.0 ∙ named_past n e (without name es) p.1 ∙ later (sym (named_past n e es p.1) ∙ h)
        ]
      ]

  pub distinct-without : (es : Names) → AreDistinct es → AreDistinct (without name es)
  distinct-without [] d = tt
  distinct-without (e ∷ es) d =
      let later = distinct-without es d.1 in
      let absent = none-without es e.0 d.0 in
      let P : Bool → Type 0 = λ b. AreDistinct (cond b es (e ∷ without name es)) in
      elim (same_name_or name e.0) [
        | inl p ↦ subst P (sym p.0) d.1
        | inr p ↦ subst P (sym p.0) (absent, later)
      ]

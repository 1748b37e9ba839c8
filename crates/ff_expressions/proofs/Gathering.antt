-- What comes of each of a list, gathered from the left; and whether something stands in what is left of a list.
use Rattle.std.proofs.Common.{◌≡◌, ℕ, ◌+◌, ◌<◌, Bool, true, false, ◌||◌, List, [], ◌∷◌, ◌++◌, length, drop, Option, Some, None, refl, sym, ap, ◌∙◌, append_assoc, append-nil, slice_get, ⊎_elim, arith}
use Rattle.std.specs.List.{list_any}
use Rattle.std.proofs.lemmas.List.{at_drop_more}
use Rattle.std.proofs.lemmas.Option.{slice_get-get_or, slice_get_cases}
use Rattle.ff_expressions.specs.Pieces.{ahead, behind, there}

pub behind_more : {A : Type 0} → (first : List A) (x : A) (others : Option (List A)) → behind (first ++ x ∷ []) others ≡ behind first (ahead (Some x) others)
behind_more first x None = refl
behind_more first x (Some others) = ap Some (append_assoc first (x ∷ []) others)

pub behind_none : {A : Type 0} → (others : Option (List A)) → behind [] others ≡ others
behind_none None = refl
behind_none (Some others) = refl

pub behind_all : {A : Type 0} → (first : List A) → behind first (Some []) ≡ Some first
behind_all first = ap Some (append-nil first)

pub ruleset gathering = (behind_more, behind_none, behind_all)

-- there is something at a place within
pub at_place : {A P : Type 0} → (xs : List A) (i : ℕ) → i < length xs → (A → P) → P
at_place xs i h k = ⊎_elim (λ w. k w.0) (λ w. absurd (omega (arith, h, w.0))) (slice_get_cases xs i).1

module _ {A : Type 0} (test : A → Bool) (xs : List A) (i : ℕ) (h : i < length xs) where
  first_of : (t : Bool) → there test (slice_get xs i) ≡ t → (d : A) → list_any test (drop i xs) ≡ (t || list_any test (drop (i + 1) xs))
  first_of t e d =
      at_drop_more (list_any test) xs i d h ∙ ap (λ u. u || list_any test (drop (i + 1) xs)) (sym (ap (there test) (slice_get-get_or xs i d h)) ∙ e)

  -- nothing at this place, or something
  pub any_more : there test (slice_get xs i) ≡ false → list_any test (drop i xs) ≡ list_any test (drop (i + 1) xs)
  any_more e = at_place xs i h (first_of false e)

  pub any_here : there test (slice_get xs i) ≡ true → list_any test (drop i xs) ≡ true
  any_here e = at_place xs i h (first_of true e)

-- Where a number stands in a list.
use Rattle.std.proofs.Common.{◌≡◌, ◌<◌, ◌⊎◌, inl, inr, ℕ, zero, suc, List, [], ◌∷◌, length, take, sym, ◌∙◌, refl, arith}
use Rattle.std.specs.List.{Contains}
use Rattle.std.proofs.lemmas.List.{get_or_default, length-take, get_or-take}
use Rattle.file_order.specs.Orders.{StandsAt}

pub contains_at : (xs : List ℕ) (i x : ℕ) → StandsAt xs i x → Contains xs x
contains_at xs i x h = (i, h.0, get_or_default xs i x 0 h.0 ∙ h.1)

pub at_contains : (xs : List ℕ) (x : ℕ) → Contains xs x → (i : ℕ) × StandsAt xs i x
at_contains xs x h = (h.0, (h.1, get_or_default xs h.0 0 x h.1 ∙ h.2))

pub in_front : (xs : List ℕ) (i j x : ℕ) → i < j → StandsAt xs i x → Contains (take j xs) x
in_front xs i j x l h =
    let within : i < length (take j xs) = omega (arith, length-take j xs, h.0) in
    (i, within, get_or-take j xs i x l ∙ get_or_default xs i x 0 h.0 ∙ h.1)

pub from_front : (xs : List ℕ) (j x : ℕ) → Contains (take j xs) x → (i : ℕ) × (i < j) × StandsAt xs i x
from_front xs j x h =
    let less : h.0 < j = omega (arith, length-take j xs, h.1) in
    let within : h.0 < length xs = omega (arith, length-take j xs, h.1) in
    (h.0, less, (within, get_or_default xs h.0 0 x within ∙ sym (get_or-take j xs h.0 x less) ∙ h.2))

pub not_in_none : (x : ℕ) → Contains [] x → ⊥
not_in_none x h = absurd (omega (arith, h.1))

pub contains_cons : (x : ℕ) (xs : List ℕ) (y : ℕ) → Contains (x ∷ xs) y → (x ≡ y) ⊎ Contains xs y
contains_cons x xs y (zero, less, here) = inl here
contains_cons x xs y (suc k, less, here) = inr (k, omega (arith, less), here)

pub contains_first : (x : ℕ) (xs : List ℕ) → Contains (x ∷ xs) x
contains_first x xs = (0, omega arith, refl)

pub contains_rest : (x : ℕ) (xs : List ℕ) (y : ℕ) → Contains xs y → Contains (x ∷ xs) y
contains_rest x xs y (k, less, here) = (suc k, omega (arith, less), here)

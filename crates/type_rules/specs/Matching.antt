-- Generic resolution: when arguments match a specific procedure, and when two specific procedures are distinguishable
-- (ISO/IEC 1539-1:2018, 15.4.3.4.5 and 15.5.5.2).
use Rattle.std.specs.Prelude.{◌≡◌, ℕ, ◌+◌, ◌<◌, slice_get, Bool, true, false, not, ◌&&◌, ◌||◌, if◌then◌else◌, List, [], ◌∷◌, Option, Some, None}
use Rattle.type_rules.specs.declared.ty.Ty.{Ty}
use Rattle.type_rules.specs.Types.{same}

-- As many types, and the same type, kind and rank at each position.
abbrev pub matches : List Ty → List Ty → Bool
matches [] [] = true
matches (a ∷ xs) (b ∷ ys) = same a b && matches xs ys
matches _ _ = false

-- They differ in number, or in type, kind or rank at some position.
abbrev pub are_distinguishable : List Ty → List Ty → Bool
are_distinguishable [] [] = false
are_distinguishable (a ∷ xs) (b ∷ ys) = not (same a b) || are_distinguishable xs ys
are_distinguishable _ _ = true

-- The place of the first specific, counted from this number on, whose dummies the arguments match.
abbrev pub match_from : ℕ → List (List Ty) → List Ty → Option ℕ
match_from at [] args = None
match_from at (s ∷ more) args = if matches s args then Some at else match_from (at + 1) more args

-- Each two of the specifics are distinguishable.
abbrev pub ArePairwiseDistinguishable : List (List Ty) → Type 0
ArePairwiseDistinguishable ss =
    (i j : ℕ) (s t : List Ty) → i < j → slice_get ss i ≡ Some s → slice_get ss j ≡ Some t → are_distinguishable s t ≡ true

-- The specific at this place is the one whose dummies the arguments match.
pub record IsTheSpecific (ss : List (List Ty)) (args : List Ty) (place : ℕ) : Type 0 where
  pub specific : List Ty
  pub is : slice_get ss place ≡ Some specific
  pub matching : matches specific args ≡ true
  pub only : (j : ℕ) (t : List Ty) → slice_get ss j ≡ Some t → matches t args ≡ true → j ≡ place

-- What generic resolution answers: the one specific, or none.
abbrev pub Resolves : List (List Ty) → List Ty → Option ℕ → Type 0
Resolves ss args (Some place) = IsTheSpecific ss args place
Resolves ss args None = (j : ℕ) (t : List Ty) → slice_get ss j ≡ Some t → matches t args ≡ false

-- Orders of the places 0 to n - 1, where `Before a b` says that a must stand before b.
use Rattle.std.specs.Prelude.{◌≡◌, ◌≢◌, ◌↔◌, ◌⊎◌, ◌<◌, ℕ, List, [], ◌∷◌, length}
use Rattle.std.specs.List.{Contains, slice_index}

-- place p stands at index i of the list
abbrev pub StandsAt : List ℕ → ℕ → ℕ → Type 0
StandsAt order i p = (i < length order) × (slice_index order i ≡ p)

-- a stands in the list somewhere before b
abbrev pub StandsBefore : List ℕ → ℕ → ℕ → Type 0
StandsBefore order a b = (i : ℕ) × (j : ℕ) × (i < j) × StandsAt order i a × StandsAt order j b

-- no place stands in the list twice
abbrev pub IsOnce : List ℕ → Type 0
IsOnce places = (i j : ℕ) → i < j → j < length places → slice_index places i ≢ slice_index places j

-- The list has each place once and no other number, and what must stand before a place does.
pub record IsValidOrder (n : ℕ) (Before : ℕ → ℕ → Type 0) (order : List ℕ) : Type 0 where
  pub places : (p : ℕ) → Contains order p ↔ (p < n)
  pub once : IsOnce order
  pub kept : (a b : ℕ) → Before a b → StandsBefore order a b

-- Lists of numbers in the order of their first numbers that differ; a list is not above those that begin with it.
abbrev pub IsNotAbove : List ℕ → List ℕ → Type 0
IsNotAbove [] ys = Unit {0}
IsNotAbove (x ∷ xs) [] = ⊥
IsNotAbove (x ∷ xs) (y ∷ ys) = (x < y) ⊎ ((x ≡ y) × IsNotAbove xs ys)

-- A valid order that is above no other.
pub record IsLeastOrder (n : ℕ) (Before : ℕ → ℕ → Type 0) (order : List ℕ) : Type 0 where
  pub valid : IsValidOrder n Before order
  pub least : (other : List ℕ) → IsValidOrder n Before other → IsNotAbove order other

-- What holds on a walk.
use Rattle.std.specs.Prelude.{◌≡◌, ℕ, Bool, Option, Some, None, List, [], ◌∷◌, ◌++◌, length, min}
use Rattle.std.specs.List.{Contains, slice_index_or}
use Rattle.file_order.specs.Orders.{StandsAt, IsOnce}
use Rattle.file_order.specs.Cycles.{IsWalk}
use Rattle.file_order.specs.Search.{IsOpen}

-- the lesser of two numbers, or the one that there is
abbrev pub lesser_of : Option ℕ → Option ℕ → Option ℕ
lesser_of None b = b
lesser_of (Some p) None = Some p
lesser_of (Some p) (Some q) = Some (min p q)

-- where the walk came to a place first
abbrev pub first_visit : List (Option ℕ) → ℕ → Option ℕ
first_visit seen p = slice_index_or seen p None

-- The walk has come to a place, which it may have visited before.
pub record IsWalking (Before : ℕ → ℕ → Type 0) (marks : List Bool) (walk : List ℕ) (seen : List (Option ℕ)) (here : ℕ) : Type 0 where
  pub path : IsWalk (IsOpen marks) Before (walk ++ here ∷ [])
  pub here_open : IsOpen marks here
  pub once : IsOnce walk
  pub marked : length seen ≡ length marks
  pub visited : (p i : ℕ) → first_visit seen p ≡ Some i → StandsAt walk i p
  pub new : (p : ℕ) → first_visit seen p ≡ None → Contains walk p → ⊥

-- Why there is no order: places that wait for one another.
use Rattle.std.specs.Prelude.{◌≡◌, ◌<◌, ◌≤◌, ◌+◌, ℕ, Bool, true, List, [], ◌∷◌, ◌++◌, length}
use Rattle.std.specs.List.{slice_index}
use Rattle.file_order.specs.Orders.{IsOnce}

-- A set of places, as a test, in which each place has one that must stand before it.
abbrev pub IsClosed : ℕ → (ℕ → ℕ → Type 0) → (ℕ → Bool) → Type 0
IsClosed n Before set = (b : ℕ) → set b ≡ true → (b < n) × ((a : ℕ) × (set a ≡ true) × Before a b)

-- The place is in such a set, and so in the greatest of them.
abbrev pub IsStuck : ℕ → (ℕ → ℕ → Type 0) → ℕ → Type 0
IsStuck n Before p = (set : ℕ → Bool) × IsClosed n Before set × (set p ≡ true)

-- p is the least place of which P holds
abbrev pub IsLeastOf : (ℕ → Type 0) → ℕ → Type 0
IsLeastOf P p = P p × ((q : ℕ) → P q → p ≤ q)

-- The walk begins at the least place of a set, and goes each time to the least place of the set that must stand before the
-- present one.
pub record IsWalk (In : ℕ → Type 0) (Before : ℕ → ℕ → Type 0) (walk : List ℕ) : Type 0 where
  pub some : 0 < length walk
  pub first : IsLeastOf In (slice_index walk 0)
  pub next : (i : ℕ) → i + 1 < length walk → IsLeastOf (λ a. In a × Before a (slice_index walk i)) (slice_index walk (i + 1))

-- The walk comes to `again` a second time, and before that to no place twice. The cycle is the walk from the first visit of
-- that place up to the second, which is left out.
pub record IsCycle (In : ℕ → Type 0) (Before : ℕ → ℕ → Type 0) (cycle : List ℕ) : Type 0 where
  pub ahead : List ℕ
  pub again : ℕ
  pub rest : List ℕ
  pub is : cycle ≡ again ∷ rest
  pub walk : IsWalk In Before (ahead ++ cycle ++ again ∷ [])
  pub once : IsOnce (ahead ++ cycle)

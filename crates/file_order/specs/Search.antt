-- What holds while an order is searched.
use Rattle.std.specs.Prelude.{◌≡◌, ◌≢◌, ◌↔◌, ◌⊎◌, ◌<◌, ℕ, Bool, true, false, List, [], ◌∷◌, length, take}
use Rattle.std.specs.List.{Contains, slice_index, slice_index_or}
use Rattle.std.specs.Prelude.{Option, Some, None, Result, Ok, Err}
use Rattle.lf_base.specs.declared.fault.Memory.{Memory}
use Rattle.file_order.specs.declared.modules.Modules.{Modules}
use Rattle.file_order.specs.declared.search.Search.{Search}
use Rattle.file_order.specs.Cycles.{IsLeastOf}

-- a row of numbers; none past the last row
abbrev pub row_at : List (List ℕ) → ℕ → List ℕ
row_at rows i = slice_index_or rows i []

-- a stands in the row of b
abbrev pub IsListed : List (List ℕ) → ℕ → ℕ → Type 0
IsListed rows a b = Contains (row_at rows b) a

-- whether the place has no place in the order yet
abbrev pub is_open : List Bool → ℕ → Bool
is_open marks p = slice_index_or marks p false

abbrev pub IsOpen : List Bool → ℕ → Type 0
IsOpen marks p = is_open marks p ≡ true

-- Behind the places that are done, p may come: it is none of them, and they have all that must stand before it.
pub record IsReady (n : ℕ) (Before : ℕ → ℕ → Type 0) (done : List ℕ) (p : ℕ) : Type 0 where
  pub below : p < n
  pub new : Contains done p → ⊥
  pub met : (a : ℕ) → Before a p → Contains done a

-- each place of the list is the least that may come behind those in front of it
abbrev pub IsGreedy : ℕ → (ℕ → ℕ → Type 0) → List ℕ → Type 0
IsGreedy n Before order = (k : ℕ) → k < length order → IsLeastOf (IsReady n Before (take k order)) (slice_index order k)

-- the least of which P holds, if it holds of any
abbrev pub IsLeastIf : (ℕ → Type 0) → Option ℕ → Type 0
IsLeastIf P None = (p : ℕ) → P p → ⊥
IsLeastIf P (Some p) = IsLeastOf P p

-- where the answer is yes, P holds of two, and so of one other than any given one
abbrev pub HasTwoIf : (ℕ → Type 0) → Bool → Type 0
HasTwoIf P true = (p : ℕ) → (a : ℕ) × (a ≢ p) × P a
HasTwoIf P false = Unit {0}

-- each number of the row is less than those in front of it
abbrev pub IsFalling : List ℕ → Type 0
IsFalling row = (i j : ℕ) → i < j → j < length row → slice_index row j < slice_index row i

abbrev pub AreFalling : List (List ℕ) → Type 0
AreFalling rows = (m : ℕ) → IsFalling (row_at rows m)

-- Of the rows, numbers that are not open may have gone.
pub record IsTrimmed (marks : List Bool) (old new : List (List ℕ)) : Type 0 where
  pub count : length new ≡ length old
  pub listed : (a m : ℕ) → IsListed new a m → IsListed old a m
  pub kept : (a m : ℕ) → IsListed old a m → IsOpen marks a → IsListed new a m
  pub falling : AreFalling old → AreFalling new

-- a must stand before b: they are two, and a is a holder of a module that b uses
abbrev pub IsBefore : List (List ℕ) → List (List ℕ) → ℕ → ℕ → Type 0
IsBefore holders uses a b = (a ≢ b) × ((m : ℕ) × IsListed holders a m × IsListed uses m b)

-- the same of all that is noted of the modules
abbrev pub IsBeforeIn : Modules → ℕ → ℕ → Type 0
IsBeforeIn t = IsBefore t.holders t.uses

-- What is noted of the modules fits together.
pub record IsTable (t : Modules) : Type 0 where
  pub falling : AreFalling t.holders
  pub same : length t.held ≡ length t.uses
  pub noted : (a m : ℕ) → IsListed t.holders a m → IsListed t.held m a
  pub held_below : (m a : ℕ) → IsListed t.held m a → m < length t.holders
  pub used_below : (m b : ℕ) → IsListed t.uses m b → m < length t.holders

-- Holders that are not open may have gone, and uses of modules that no other open place holds.
pub record IsLeft (marks : List Bool) (old new : Modules) : Type 0 where
  pub holders : IsTrimmed marks old.holders new.holders
  pub held : new.held ≡ old.held
  pub count : length new.uses ≡ length old.uses
  pub listed : (m b : ℕ) → IsListed new.uses m b → IsListed old.uses m b
  pub kept : (a b m : ℕ) → IsOpen marks a → a ≢ b → IsListed old.holders a m → IsListed old.uses m b → IsListed new.uses m b

-- p uses a module that another open place holds; or no uses of p are left
abbrev pub IsBlocking : List Bool → Modules → Modules → ℕ → Option ℕ → Type 0
IsBlocking marks old new p None = row_at new.uses p ≡ []
IsBlocking marks old new p (Some m) = IsListed old.uses m p × ((a : ℕ) × (a ≢ p) × IsOpen marks a × IsListed old.holders a m)

-- Of those who wait, some have become candidates, and nothing else has changed.
pub record IsReleased (old new : List (List ℕ)) (before after : List ℕ) : Type 0 where
  pub count : length new ≡ length old
  pub listed : (p m : ℕ) → IsListed new p m → IsListed old p m
  pub all : (p m : ℕ) → IsListed old p m → Contains after p ⊎ IsListed new p m
  pub more : (p : ℕ) → Contains before p → Contains after p
  pub only : (p : ℕ) → Contains after p → Contains before p ⊎ ((m : ℕ) × IsListed old p m)

-- who waits for the module waits for an open place other than itself
abbrev pub IsSettled : List Bool → List (List ℕ) → List (List ℕ) → ℕ → Type 0
IsSettled marks holders waiting m = (p : ℕ) → IsListed waiting p m → (a : ℕ) × (a ≢ p) × IsOpen marks a × IsListed holders a m

abbrev pub AreSettled : List Bool → List (List ℕ) → List (List ℕ) → List ℕ → Type 0
AreSettled marks holders waiting modules = (m : ℕ) → Contains modules m → IsSettled marks holders waiting m

-- p waits for a module that it uses, and that another open place a holds
abbrev pub IsWaiting : Modules → List (List ℕ) → List Bool → ℕ → Type 0
IsWaiting all waiting marks p = (a : ℕ) × (m : ℕ) × (a ≢ p) × IsOpen marks a × IsListed all.holders a m × IsListed all.uses m p × IsListed waiting p m

-- `all` is what is noted of the modules, and `now` what is left of it. Each open place is among the candidates, or waits.
pub record IsSearch (all now : Modules) (waiting : List (List ℕ)) (marks : List Bool) (candidates order : List ℕ) : Type 0 where
  pub table : IsTable all
  pub left : IsLeft marks all now
  pub lists : length waiting ≡ length all.holders
  pub marked : length marks ≡ length all.uses
  pub few : (p : ℕ) → Contains candidates p → p < length all.uses
  pub waiters : (p m : ℕ) → IsListed waiting p m → p < length all.uses
  pub covered : (p : ℕ) → IsOpen marks p → Contains candidates p ⊎ IsWaiting all waiting marks p
  pub done : (p : ℕ) → p < length all.uses → Contains order p ↔ (is_open marks p ≡ false)
  pub greedy : IsGreedy (length all.uses) (IsBeforeIn all) order

-- the same of a search, whose candidates are these
abbrev pub IsSearchWith : Modules → Search → List ℕ → Type 0
IsSearchWith all s candidates = IsSearch all s.modules s.waiting s.marks.items candidates s.order.items

abbrev pub IsSound : Search → Type 0
IsSound s = (all : Modules) × IsSearchWith all s s.candidates

-- the least place that may come next, which is a candidate no more; or there are no candidates any more
abbrev pub FindsNext : Modules → Search → Option ℕ → Type 0
FindsNext all s None = IsSearchWith all s []
FindsNext all s (Some p) = IsSearchWith all s (p ∷ s.candidates) × IsOpen s.marks.items p × IsLeastOf (IsReady (length all.uses) (IsBeforeIn all) s.order.items) p

abbrev pub Finds : Modules → Search → Search → Result (Option ℕ) Memory → Type 0
Finds all old new (Ok found) = IsSearchWith all old old.candidates → FindsNext all new found
Finds all old new (Err memory) = Unit {0}

abbrev pub Takes : Modules → ℕ → Search → Search → Result (Unit {0}) Memory → Type 0
Takes all p old new (Ok done) = FindsNext all old (Some p) → IsSearchWith all new new.candidates
Takes all p old new (Err memory) = Unit {0}

abbrev pub Ends : Modules → Search → Search → Result (Unit {0}) Memory → Type 0
Ends all old new (Ok done) = IsSearchWith all old old.candidates → IsSearchWith all new []
Ends all old new (Err memory) = Unit {0}

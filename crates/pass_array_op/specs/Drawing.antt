-- Trees that become others by drawing numbers one behind another, in the order of the source.
use Rattle.std.specs.Prelude.{ℕ, ◌+◌, List, [], ◌∷◌, Option, Some, None}

-- how many numbers are drawn, and what it becomes where the first one is given
pub record Drawn (A : Type 0) : Type 0 where
  pub count : ℕ
  pub from : ℕ → A

-- what draws none
abbrev pub plain : {A : Type 0} → A → Drawn A
plain a = record { count = 0; from = λ n. a }

-- a part, which draws behind those that stand before it
abbrev pub taking : {A B : Type 0} → Drawn (A → B) → Drawn A → Drawn B
taking f a = record { count = f.count + a.count; from = λ n. f.from n (a.from (n + f.count)) }

-- the makers of lists and of optional values, as functions
abbrev pub cons : {A : Type 0} → A → List A → List A
cons x xs = x ∷ xs

abbrev pub some : {A : Type 0} → A → Option A
some x = Some x

-- those of a list, one behind another, and one that may be missing
abbrev pub in_turn : {A : Type 0} → List (Drawn A) → Drawn (List A)
in_turn [] = plain []
in_turn (x ∷ xs) = taking (taking (plain cons) x) (in_turn xs)

abbrev pub perhaps : {A : Type 0} → Option (Drawn A) → Drawn (Option A)
perhaps None = plain None
perhaps (Some a) = taking (plain some) a

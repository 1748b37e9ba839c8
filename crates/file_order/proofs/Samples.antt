-- The small projects.
use Rattle.std.proofs.Common.{◌≡◌, ◌≢◌, ◌<◌, ◌+◌, ⊎_elim, ℕ, zero, suc, Bool, true, false, get_or, List, [], ◌∷◌, sym, subst, refl, arith, codes}
use Rattle.std.specs.List.{Contains}
use Rattle.std.proofs.lemmas.Bool.{cases_eq}
use Rattle.file_order.specs.Answers.{IsLeastFileOrder, IsNamedCycle}
use Rattle.file_order.specs.Cycles.{IsLeastOf, IsClosed, IsStuck, IsWalk}
use Rattle.file_order.specs.Examples.{user_first, circle}
use Rattle.file_order.specs.Modules.{MustPrecede, held_by, used_by}
use Rattle.file_order.specs.Orders.{IsOnce}
use Rattle.file_order.specs.Search.{IsGreedy}
use Rattle.file_order.proofs.Greedy.{greedy_least}
use Rattle.file_order.proofs.NumberLemmas.{at_within}
use Rattle.file_order.proofs.Lists.{contains_first, contains_rest, not_in_none}

empty : (name : List ℕ) → Contains {X = List ℕ} [] name → ⊥
empty name h = absurd (omega (arith, h.1))

-- the module stands before the program that uses it
user_waits : MustPrecede user_first 1 0
user_waits = ((λ e. absurd (omega (arith, e))), (codes "m", (0, omega arith, refl), (0, omega arith, refl)))

holder_free : (a : ℕ) → MustPrecede user_first a 1 → ⊥
holder_free a h = empty h.1.0 h.1.2

user_free : (a : ℕ) → MustPrecede user_first a 0 → a ≡ 1
user_free a h =
    let low : a < 2 = at_within held_by user_first a h.1.0 h.1.1 in
    let other = h.0 in
    omega (arith, low, other)

greedy : IsGreedy 2 (MustPrecede user_first) (1 ∷ 0 ∷ [])
greedy zero within = (
  record { below = omega arith; new = λ h. not_in_none 1 h; met = λ a h. absurd (holder_free a h) },
  λ q ready.
      ⊎_elim
      (λ (same : q ≡ 0). absurd (not_in_none 1 (ready.met 1 (subst (λ (x : ℕ). MustPrecede user_first 1 x) (sym same) user_waits))))
      (λ (other : q ≢ 0). omega (arith, other))
      (cases_eq q 0),
)
greedy (suc zero) within = (
  record {
    below = omega arith;
    new = λ h. absurd (once_of h);
    met = λ a h. subst (λ (x : ℕ). Contains (1 ∷ []) x) (sym (user_free a h)) (contains_first 1 []);
  },
  λ q ready. omega arith,
)
  where
    once_of : Contains {X = ℕ} (1 ∷ []) 0 → ⊥
    once_of (zero, less, here) = absurd (omega (arith, here))
    once_of (suc k, less, here) = absurd (omega (arith, less))
greedy (suc (suc k)) within = absurd (omega (arith, within))

all_in : (p : ℕ) → p < 2 → Contains (1 ∷ 0 ∷ []) p
all_in p below =
    ⊎_elim
    (λ (same : p ≡ 0). subst (λ (x : ℕ). Contains (1 ∷ 0 ∷ []) x) (sym same) (contains_rest 1 (0 ∷ []) 0 (contains_first 0 [])))
    (λ (other : p ≢ 0).
    let is : 1 ≡ p = omega (arith, other) in
    subst (λ (x : ℕ). Contains (1 ∷ 0 ∷ []) x) is (contains_first 1 (0 ∷ [])))
    (cases_eq p 0)

pub user_first_order : IsLeastFileOrder user_first (1 ∷ 0 ∷ [])
user_first_order = greedy_least 2 (MustPrecede user_first) (1 ∷ 0 ∷ []) greedy all_in (λ a b h. at_within used_by user_first b h.1.0 h.1.2)

second_waits : MustPrecede circle 0 1
second_waits = ((λ e. absurd (omega (arith, e))), (codes "x", (0, omega arith, refl), (0, omega arith, refl)))

first_waits : MustPrecede circle 1 0
first_waits = ((λ e. absurd (omega (arith, e))), (codes "y", (0, omega arith, refl), (0, omega arith, refl)))

two : ℕ → Bool
two zero = true
two (suc zero) = true
two (suc (suc p)) = false

two_below : (p : ℕ) → two p ≡ true → p < 2
unfolding two
two_below zero h = omega arith
two_below (suc zero) h = omega arith
two_below (suc (suc p)) h = let never : false ≡ true = h in cc

two_closed : IsClosed 2 (MustPrecede circle) two
unfolding two
two_closed zero h = (omega arith, (1, refl, first_waits))
two_closed (suc zero) h = (omega arith, (0, refl, second_waits))
two_closed (suc (suc p)) h = let never : false ≡ true = h in cc

stuck_first : IsStuck 2 (MustPrecede circle) 0
unfolding two
stuck_first = (two, two_closed, refl)

stuck_second : IsStuck 2 (MustPrecede circle) 1
unfolding two
stuck_second = (two, two_closed, refl)

walk : IsWalk (IsStuck 2 (MustPrecede circle)) (MustPrecede circle) (0 ∷ 1 ∷ 0 ∷ [])
walk = record {
  some = omega arith;
  first = (stuck_first, λ q h. omega arith);
  next = next;
}
  where
    next : (i : ℕ) → i + 1 < 3 → IsLeastOf (λ a. IsStuck 2 (MustPrecede circle) a × MustPrecede circle a (get_or (0 ∷ 1 ∷ 0 ∷ []) i 0)) (get_or (0 ∷ 1 ∷ 0 ∷ []) (i + 1) 0)
    next zero less = ((stuck_second, first_waits), λ q h. let other = h.1.0 in omega (arith, other))
    next (suc zero) less = ((stuck_first, second_waits), λ q h. omega arith)
    next (suc (suc i)) less = absurd (omega (arith, less))

once : IsOnce (0 ∷ 1 ∷ [])
once zero zero less within same = absurd (omega (arith, less))
once zero (suc zero) less within same = absurd (omega (arith, same))
once zero (suc (suc j)) less within same = absurd (omega (arith, within))
once (suc i) j less within same = absurd (omega (arith, less, within))

pub circle_cycle : IsNamedCycle circle (0 ∷ 1 ∷ [])
circle_cycle = record { ahead = []; again = 0; rest = 1 ∷ []; is = refl; walk = walk; once = once }

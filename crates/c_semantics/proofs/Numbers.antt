-- The numbers of objects that were declared one behind another, and what is left when they end.
use Rattle.std.proofs.Common.{◌≡◌, ℕ, suc, ◌-◌, Bool, true, false, List, [], ◌∷◌, ◌++◌, length, drop, refl, ap, ◌∙◌, arith, length-append}
use Rattle.std.specs.Prelude.{◌==◌}
use Rattle.std.proofs.lemmas.Bool.Decides.{nat_tests}

pub itself : (k : ℕ) → (k == k) ≡ true
itself k = grind (arith, nat_tests)

pub both_next : (j k : ℕ) → (suc j == suc k) ≡ (j == k)
both_next j k = by_test (j == k) refl
  where
    by_test : (t : Bool) → (j == k) ≡ t → (suc j == suc k) ≡ (j == k)
    by_test true e = grind (arith, nat_tests)
    by_test false e = grind (arith, nat_tests)

pub later1 : (k : ℕ) → (suc k == k) ≡ false
later1 k = grind (arith, nat_tests)

pub later2 : (k : ℕ) → (suc (suc k) == k) ≡ false
later2 k = grind (arith, nat_tests)

pub later3 : (k : ℕ) → (suc (suc (suc k)) == k) ≡ false
later3 k = grind (arith, nat_tests)

pub later4 : (k : ℕ) → (suc (suc (suc (suc k))) == k) ≡ false
later4 k = grind (arith, nat_tests)

pub later5 : (k : ℕ) → (suc (suc (suc (suc (suc k)))) == k) ≡ false
later5 k = grind (arith, nat_tests)

-- equal numbers of objects, and different ones
pub ruleset numbers = (itself, both_next, later1, later2, later3, later4, later5)

-- the objects in front end, and the others are left
pub dropped : {A : Type 0} (front rest : List A) → drop (length (front ++ rest) - length rest) (front ++ rest) ≡ rest
dropped [] rest = let none : length rest - length rest ≡ 0 = omega arith in ap (λ k. drop k rest) none
dropped (x ∷ front) rest =
    let more : length (x ∷ front ++ rest) - length rest ≡ suc (length (front ++ rest) - length rest) = omega (arith, length-append front rest) in
    ap (λ k. drop k (x ∷ front ++ rest)) more ∙ dropped front rest

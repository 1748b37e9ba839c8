-- What a heap's places are, by what the heap holds.
use Rattle.std.proofs.Common.{◌≡◌, ◌≤◌, ℕ, List, [], ◌∷◌, map, subst, false, arith}
use Rattle.std.specs.List.{All, AllByRecursion}
use Rattle.std.specs.List.Sorted.{IsPermutation}
use Rattle.std.specs.declared.cmp.Reverse.{Reverse}
use Rattle.std.specs.Ordering.{nat_cmp, is_lt}
use Rattle.std.proofs.lemmas.List.Sorted.{IsPermutation-map}
use Rattle.std.proofs.lemmas.List.Elements.{All-nil, All-cons}
use Rattle.std.proofs.lemmas.Bool.Decides.{nat_tests}

pub pushed : (old : List ℕ) (items items' : List (Reverse ℕ)) (r : Reverse ℕ) → map (λ r. r.0) items ≡ old → IsPermutation (r ∷ items) items' → IsPermutation (r.0 ∷ old) (map (λ r. r.0) items')
pushed old items items' r is p = subst (λ (v : List ℕ). IsPermutation (r.0 ∷ v) (map (λ r. r.0) items')) is (IsPermutation-map (λ r. r.0) (r ∷ items) items' p)

pub popped : (old : List ℕ) (items items' : List (Reverse ℕ)) (r : Reverse ℕ) → map (λ r. r.0) items ≡ old → IsPermutation items (r ∷ items') → IsPermutation old (r.0 ∷ map (λ r. r.0) items')
popped old items items' r is p = subst (λ (v : List ℕ). IsPermutation v (r.0 ∷ map (λ r. r.0) items')) is (IsPermutation-map (λ r. r.0) items (r ∷ items') p)

not_less : (a b : ℕ) → is_lt (nat_cmp a b) ≡ false → b ≤ a
not_less a b h = grind (arith, nat_tests)

pub least : (r : Reverse ℕ) (items : List (Reverse ℕ)) → AllByRecursion (λ s. is_lt (nat_cmp s.0 r.0) ≡ false) items → All (λ q. r.0 ≤ q) (map (λ r. r.0) items)
least r [] h = All-nil (λ q. r.0 ≤ q)
least r (s ∷ items) h = All-cons (λ q. r.0 ≤ q) s.0 (map (λ r. r.0) items) (not_less s.0 r.0 h.0) (least r items h.1)

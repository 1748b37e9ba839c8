-- One node in the place of another.
use Rattle.std.proofs.Common.{◌≡◌, ℕ, zero, suc, ◌+◌, ◌<◌, ◌≤◌, Bool, true, List, length, Option, Some, refl, sym, subst, ◌∙◌, arith, true≢false, ◌⊎◌, inl, inr}
use Rattle.std.specs.List.{list_all, AllByRecursion}
use Rattle.asr_nodes.specs.Walks.{passes, ends, Founded, tree_within}
use Rattle.asr_nodes.proofs.Counts.{In, short}
use Rattle.asr_nodes.proofs.Walks.{all_weaker, all_each, seen, ends_kept, tree_kept, tree_is}

module _ {K : Type 0} {X : K → Type 0} (parts : (k : K) → X k → List K) (look new : (k : K) → Option (X k)) (n : ℕ) (founded : Founded parts look n) where
  -- x stands at the place at, and at all free keys what stood there; the walks from the parts of x are over free keys;
  -- and keys lists the keys at which something stands
  module _ (at : K) (x : X at) (free : K → Bool) (here : new at ≡ Some x) (decides : (k : K) → (k ≡ at) ⊎ (free k ≡ true)) (elsewhere : (k : K) → free k ≡ true → new k ≡ look k) (apart : list_all (ends parts free look n) (parts at x) ≡ true) (keys : List K) (covers : (k : K) (y : X k) → new k ≡ Some y → In k keys) (counted : length keys ≡ n) where
    holds : (k : K) (y : X k) → free k ≡ true → look k ≡ Some y → new k ≡ Some y
    holds k y t e = elsewhere k t ∙ e

    part_ends : (m : ℕ) (k : K) → n ≤ m → ends parts free look n k ≡ true → ends parts (λ _. true) new m k ≡ true
    part_ends m k l e = ends_kept parts free (λ _. true) look new holds (λ _ _. refl) n m k l e

    place_ends : (m : ℕ) → n ≤ m → ends parts (λ _. true) new (suc m) at ≡ true
    place_ends m l =
        subst (λ o. passes (λ y. list_all (ends parts (λ _. true) new m) (parts at y)) o ≡ true) (sym here)
        (all_weaker (ends parts free look n) (ends parts (λ _. true) new m) (λ k. part_ends m k l) (parts at x) apart)

    walk_ends : (i m : ℕ) (k : K) → i + n < m → ends parts (λ _. true) look i k ≡ true → ends parts (λ _. true) new m k ≡ true
    walk_ends zero m k l e = absurd (true≢false (sym e))
    walk_ends (suc i) zero k l e = absurd (omega arith)
    walk_ends (suc i) (suc m) k l e =
        let z = seen (λ y. list_all (ends parts (λ _. true) look i) (parts k y)) (look k) e in
        elim (decides k) as (λ _. ends parts (λ _. true) new (suc m) k ≡ true) [
          | inl p ↦ subst (λ j. ends parts (λ _. true) new (suc m) j ≡ true) (sym p) (place_ends m (omega arith))
          | inr t ↦
              subst (λ o. passes (λ y. list_all (ends parts (λ _. true) new m) (parts k y)) o ≡ true) (sym (elsewhere k t ∙ z.1))
              (all_weaker (ends parts (λ _. true) look i) (ends parts (λ _. true) new m) (λ j. walk_ends i m j (omega arith)) (parts k z.0) z.2)
        ]

    ends_long : (k : K) (y : X k) → new k ≡ Some y → ends parts (λ _. true) new (suc (n + n)) k ≡ true
    ends_long k y e =
        elim (decides k) as (λ _. ends parts (λ _. true) new (suc (n + n)) k ≡ true) [
          | inl p ↦ subst (λ j. ends parts (λ _. true) new (suc (n + n)) j ≡ true) (sym p) (place_ends (n + n) (omega arith))
          | inr t ↦ walk_ends n (suc (n + n)) k (omega arith) (founded.ends_from k y (sym (elsewhere k t) ∙ e))
        ]

    pub still_founded : Founded parts new n
    still_founded = record {
      ends_from = λ k y e.
          subst (λ m. ends parts (λ _. true) new m k ≡ true) counted
          (short parts (λ _. true) new keys covers (suc (n + n)) k (ends_long k y e));
    }

    module _ {T : K → Type 0} (tree : ((k : K) → T k) → (k : K) → X k → T k) (no_tree : (k : K) → T k) (same : (f g : (k : K) → T k) (k : K) (x : X k) → AllByRecursion (λ j. f j ≡ g j) (parts k x) → tree f k x ≡ tree g k x) where
      pub trees_apart : (k : K) → ends parts free look n k ≡ true → tree_within tree no_tree new n k ≡ tree_within tree no_tree look n k
      trees_apart k e = tree_kept parts tree no_tree same free look new holds n n k (omega arith) e

      -- the place has the new node's tree
      pub tree_here : tree_within tree no_tree new n at ≡ tree (tree_within tree no_tree look n) at x
      tree_here =
          tree_is parts tree no_tree same new n still_founded at x here
          ∙ same _ _ at x (all_each (ends parts free look n) (λ k. tree_within tree no_tree new n k ≡ tree_within tree no_tree look n k) trees_apart (parts at x) apart)

      pub tree_other : (k : K) (y : X k) → free k ≡ true → look k ≡ Some y → tree_within tree no_tree new n k ≡ tree (tree_within tree no_tree new n) k y
      tree_other k y t e = tree_is parts tree no_tree same new n still_founded k y (holds k y t e)

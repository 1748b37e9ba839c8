-- Which walks do not come by a key.
use Rattle.std.proofs.Common.{◌≡◌, ℕ, zero, suc, Bool, true, false, List, Option, Some, sym, subst, ◌∙◌, arith, true≢false, ◌⊎◌, inl, inr}
use Rattle.std.specs.List.{list_all}
use Rattle.std.proofs.lemmas.Bool.{and_from}
use Rattle.asr_nodes.specs.Walks.{passes, ends, Founded}
use Rattle.asr_nodes.proofs.Counts.{tests}
use Rattle.asr_nodes.proofs.Walks.{all_weaker, seen, longer}

module _ {K : Type 0} {X : K → Type 0} (parts : (k : K) → X k → List K) (look : (k : K) → Option (X k)) (at : K) (free : K → Bool) (decides : (k : K) → (k ≡ at) ⊎ (free k ≡ true)) where
  still : (n : ℕ) → ends parts (λ _. true) look (suc n) at ≡ false → ends parts (λ _. true) look n at ≡ false
  still n h =
      elim (tests (ends parts (λ _. true) look n at)) as (λ _. ends parts (λ _. true) look n at ≡ false) [
        | inl t ↦ absurd (true≢false (sym (longer parts (λ _. true) look n (suc n) at (omega arith) t) ∙ h))
        | inr f ↦ f
      ]

  -- A walk that is shorter than any from the key does not come by it.
  shorter : (n : ℕ) (k : K) → ends parts (λ _. true) look n at ≡ false → ends parts (λ _. true) look n k ≡ true → ends parts free look n k ≡ true
  shorter zero k h e = absurd (true≢false (sym e))
  shorter (suc n) k h e =
      let z = seen (λ y. list_all (ends parts (λ _. true) look n) (parts k y)) (look k) e in
      elim (decides k) as (λ _. ends parts free look (suc n) k ≡ true) [
        | inl p ↦ absurd (true≢false (sym (subst (λ j. ends parts (λ _. true) look (suc n) j ≡ true) p e) ∙ h))
        | inr t ↦
            and_from _ _ t
            (subst (λ o. passes (λ y. list_all (ends parts free look n) (parts k y)) o ≡ true) (sym z.1)
            (all_weaker (ends parts (λ _. true) look n) (ends parts free look n) (λ j. shorter n j (still n h)) (parts k z.0) z.2))
      ]

  parts_within : (n : ℕ) (x : X at) → look at ≡ Some x → ends parts (λ _. true) look n at ≡ true → list_all (ends parts free look n) (parts at x) ≡ true
  parts_within zero x s e = absurd (true≢false (sym e))
  parts_within (suc n) x s e =
      elim (tests (ends parts (λ _. true) look n at)) as (λ _. list_all (ends parts free look (suc n)) (parts at x) ≡ true) [
        | inl t ↦ all_weaker _ _ (λ k. longer parts free look n (suc n) k (omega arith)) (parts at x) (parts_within n x s t)
        | inr f ↦
            all_weaker (ends parts (λ _. true) look n) (ends parts free look (suc n)) (λ k t. longer parts free look n (suc n) k (omega arith) (shorter n k f t)) (parts at x)
            (subst (λ o. passes (λ y. list_all (ends parts (λ _. true) look n) (parts at y)) o ≡ true) s e)
      ]

  -- The walks from the parts of the node at the key do not come by it.
  pub own_parts_avoid : (n : ℕ) → Founded parts look n → (x : X at) → look at ≡ Some x → list_all (ends parts free look n) (parts at x) ≡ true
  own_parts_avoid n f x s = parts_within n x s (f.ends_from at x s)

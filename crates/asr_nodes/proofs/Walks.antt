-- Walks over nodes by key.
use Rattle.std.proofs.Common.{◌≡◌, ℕ, zero, suc, ◌≤◌, Bool, true, List, [], ◌∷◌, Option, Some, None, refl, sym, ap, subst, ◌∙◌, arith, true≢false, ◌⊎◌, inl, inr}
use Rattle.std.specs.List.{list_all, AllByRecursion}
use Rattle.std.proofs.lemmas.Bool.{and_parts, and_from}
use Rattle.asr_nodes.specs.Walks.{passes, made, ends, Founded, Holds, tree_within}

module _ {K : Type 0} where
  pub all_weaker : (p q : K → Bool) → ((k : K) → p k ≡ true → q k ≡ true) → (ks : List K) → list_all p ks ≡ true → list_all q ks ≡ true
  all_weaker p q h [] e = refl
  all_weaker p q h (k ∷ ks) e = let a = and_parts _ _ e in and_from _ _ (h k a.0) (all_weaker p q h ks a.1)

  pub all_each : (p : K → Bool) (P : K → Type 0) → ((k : K) → p k ≡ true → P k) → (ks : List K) → list_all p ks ≡ true → AllByRecursion P ks
  all_each p P h [] e = tt
  all_each p P h (k ∷ ks) e = let a = and_parts _ _ e in (h k a.0, all_each p P h ks a.1)

pub seen : {A : Type 0} (p : A → Bool) (o : Option A) → passes p o ≡ true → (x : A) × (o ≡ Some x) × (p x ≡ true)
seen p (Some x) e = (x, refl, e)
seen p None e = absurd (true≢false (sym e))

module _ {K : Type 0} {X : K → Type 0} (parts : (k : K) → X k → List K) where
  abbrev Looks : Type 0
  Looks = (k : K) → Option (X k)

  -- What ends here ends where the nodes at free keys stand too,
  pub ends_kept : (free wide : K → Bool) (look more : Looks) → ((k : K) (x : X k) → free k ≡ true → look k ≡ Some x → more k ≡ Some x) → ((k : K) → free k ≡ true → wide k ≡ true) → (n m : ℕ) (k : K) → n ≤ m → ends parts free look n k ≡ true → ends parts wide more m k ≡ true
  ends_kept free wide look more h w zero m k l e = absurd (true≢false (sym e))
  ends_kept free wide look more h w (suc n) zero k l e = absurd (omega arith)
  ends_kept free wide look more h w (suc n) (suc m) k l e =
      let a = and_parts _ _ e in
      let z = seen (λ x. list_all (ends parts free look n) (parts k x)) (look k) a.1 in
      and_from _ _ (w k a.0)
      (subst (λ o. passes (λ x. list_all (ends parts wide more m) (parts k x)) o ≡ true) (sym (h k z.0 a.0 z.1))
      (all_weaker _ _ (λ j. ends_kept free wide look more h w n m j (omega arith)) (parts k z.0) z.2))

  pub longer : (free : K → Bool) (look : Looks) (n m : ℕ) (k : K) → n ≤ m → ends parts free look n k ≡ true → ends parts free look m k ≡ true
  longer free look n m k l = ends_kept free free look look (λ _ _ _ e. e) (λ _ e. e) n m k l

  pub more_founded : (look more : Looks) (n : ℕ) → Founded parts look n → Holds look more → ((k : K) (x : X k) → more k ≡ Some x → (look k ≡ Some x) ⊎ (list_all (ends parts (λ _. true) look n) (parts k x) ≡ true)) → Founded parts more (suc n)
  more_founded look more n f h c =
      record {
        ends_from = λ k x e.
            elim (c k x e) as (λ _. ends parts (λ _. true) more (suc n) k ≡ true) [
              | inl d ↦ ends_kept (λ _. true) (λ _. true) look more (λ j y _. h j y) (λ _ t. t) n (suc n) k (omega arith) (f.ends_from k x d)
              | inr d ↦
                  subst (λ o. passes (λ y. list_all (ends parts (λ _. true) more n) (parts k y)) o ≡ true) (sym e)
                  (all_weaker _ _ (λ j. ends_kept (λ _. true) (λ _. true) look more (λ i y _. h i y) (λ _ t. t) n n j (omega arith)) (parts k x) d)
            ];
      }

  -- The parts of a node stand there.
  pub parts_end : (look : Looks) (n : ℕ) → Founded parts look n → (k : K) (x : X k) → look k ≡ Some x → list_all (ends parts (λ _. true) look n) (parts k x) ≡ true
  parts_end look n f k x e =
      let t = longer (λ _. true) look n (suc n) k (omega arith) (f.ends_from k x e) in
      subst (λ o. passes (λ y. list_all (ends parts (λ _. true) look n) (parts k y)) o ≡ true) e t

  module _ {T : K → Type 0} (tree : ((k : K) → T k) → (k : K) → X k → T k) (no_tree : (k : K) → T k) (same : (f g : (k : K) → T k) (k : K) (x : X k) → AllByRecursion (λ j. f j ≡ g j) (parts k x) → tree f k x ≡ tree g k x) where
    -- and finds the same tree.
    pub tree_kept : (free : K → Bool) (look more : Looks) → ((k : K) (x : X k) → free k ≡ true → look k ≡ Some x → more k ≡ Some x) → (n m : ℕ) (k : K) → n ≤ m → ends parts free look n k ≡ true → tree_within tree no_tree more m k ≡ tree_within tree no_tree look n k
    tree_kept free look more h zero m k l e = absurd (true≢false (sym e))
    tree_kept free look more h (suc n) zero k l e = absurd (omega arith)
    tree_kept free look more h (suc n) (suc m) k l e =
        let a = and_parts _ _ e in
        let z = seen (λ x. list_all (ends parts free look n) (parts k x)) (look k) a.1 in
        ap (made (tree (tree_within tree no_tree more m) k) (no_tree k)) (h k z.0 a.0 z.1)
        ∙ same _ _ k z.0 (all_each (ends parts free look n) (λ j. tree_within tree no_tree more m j ≡ tree_within tree no_tree look n j) (λ j. tree_kept free look more h n m j (omega arith)) (parts k z.0) z.2)
        ∙ sym (ap (made (tree (tree_within tree no_tree look n) k) (no_tree k)) z.1)

    -- The tree at a key is made of the trees at the keys of its node's parts.
    pub tree_is : (look : Looks) (n : ℕ) → Founded parts look n → (k : K) (x : X k) → look k ≡ Some x → tree_within tree no_tree look n k ≡ tree (tree_within tree no_tree look n) k x
    tree_is look n f k x e =
        sym (tree_kept (λ _. true) look look (λ _ _ _ d. d) n (suc n) k (omega arith) (f.ends_from k x e))
        ∙ ap (made (tree (tree_within tree no_tree look n) k) (no_tree k)) e

    pub more_keeps : (look more : Looks) (n : ℕ) → Founded parts look n → Holds look more → (k : K) (x : X k) → look k ≡ Some x → tree_within tree no_tree more (suc n) k ≡ tree_within tree no_tree look n k
    more_keeps look more n f h k x e = tree_kept (λ _. true) look more (λ j y _ d. h j y d) n (suc n) k (omega arith) (f.ends_from k x e)

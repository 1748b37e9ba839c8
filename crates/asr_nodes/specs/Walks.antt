-- Nodes by key, each of which names the keys of its parts: which walks over them end, and the tree that stands at a key.
-- K are the keys, X k what may stand at the key k, and T k its trees.
use Rattle.std.specs.Prelude.{◌≡◌, ℕ, zero, suc, Bool, true, false, ◌&&◌, List, Option, Some, None}
use Rattle.std.specs.List.{list_all}

abbrev pub passes : {A : Type 0} → (A → Bool) → Option A → Bool
passes test (Some a) = test a
passes test None = false

abbrev pub made : {A B : Type 0} → (A → B) → B → Option A → B
made f none (Some a) = f a
made f none None = none

module _ {K : Type 0} {X : K → Type 0} where
  module _ (parts : (k : K) → X k → List K) where
    -- whether a walk ends within n steps, all of them at free keys at which a node stands
    abbrev pub ends : (K → Bool) → ((k : K) → Option (X k)) → ℕ → K → Bool
    ends free look zero k = false
    ends free look (suc n) k = free k && passes (λ x. list_all (ends free look n) (parts k x)) (look k)

    -- a walk from any node ends within n steps
    pub record Founded (look : (k : K) → Option (X k)) (n : ℕ) : Type 0 where
      pub ends_from : (k : K) (x : X k) → look k ≡ Some x → ends (λ _. true) look n k ≡ true

  module _ {T : K → Type 0} (tree : ((k : K) → T k) → (k : K) → X k → T k) (no_tree : (k : K) → T k) where
    -- the tree that n steps of a walk find
    abbrev pub tree_within : ((k : K) → Option (X k)) → ℕ → (k : K) → T k
    tree_within look zero k = no_tree k
    tree_within look (suc n) k = made (tree (tree_within look n) k) (no_tree k) (look k)

  -- what stands, stands there too
  abbrev pub Holds : ((k : K) → Option (X k)) → ((k : K) → Option (X k)) → Type 0
  Holds look more = (k : K) (x : X k) → look k ≡ Some x → more k ≡ Some x

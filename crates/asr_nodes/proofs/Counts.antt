-- How many keys of a list pass a test, and why no walk that ends has more steps than there are nodes.
use Rattle.std.proofs.Common.{◌≡◌, ℕ, zero, suc, ◌+◌, ◌<◌, ◌≤◌, Bool, true, false, ◌&&◌, List, [], ◌∷◌, length, Option, Some, None, refl, sym, ap, subst, ◌∙◌, arith, true≢false, ◌⊎◌, inl, inr}
use Rattle.std.specs.List.{list_all}
use Rattle.std.proofs.lemmas.Bool.{and_parts}
use Rattle.asr_nodes.specs.Walks.{passes, ends}
use Rattle.asr_nodes.proofs.Walks.{seen, longer}

pub bit : Bool → ℕ
bit true = 1
bit false = 0

bit_true : (b : Bool) → b ≡ true → bit b ≡ 1
unfolding bit
bit_true b e = ap bit e

bit_false : (b : Bool) → b ≡ false → bit b ≡ 0
unfolding bit
bit_false b e = ap bit e

pub tests : (b : Bool) → (b ≡ true) ⊎ (b ≡ false)
tests true = inl refl
tests false = inr refl

alike : (b c : Bool) → (b ≡ true → c ≡ true) → (c ≡ true → b ≡ true) → b ≡ c
alike true c h k = sym (h refl)
alike false true h k = k refl
alike false false h k = refl

module _ {K : Type 0} where
  -- a key of a list
  abbrev pub In : K → List K → Type 0
  In k [] = ⊥
  In k (j ∷ js) = (k ≡ j) ⊎ In k js

  abbrev pub count : (K → Bool) → List K → ℕ
  count p [] = 0
  count p (k ∷ ks) = bit (p k) + count p ks

  count_most : (p : K → Bool) (ks : List K) → count p ks ≤ length ks
  count_most p [] = omega arith
  count_most p (k ∷ ks) =
      let m = count_most p ks in
      elim (tests (p k)) as (λ _. count p (k ∷ ks) ≤ length (k ∷ ks)) [ inl e ↦ let b = bit_true _ e in omega arith | inr e ↦ let b = bit_false _ e in omega arith ]

  count_full : (p : K → Bool) (ks : List K) → length ks ≤ count p ks → (k : K) → In k ks → p k ≡ true
  count_full p [] h k i = absurd i
  count_full p (j ∷ js) h k i =
      let m = count_most p js in
      elim (tests (p j)) as (λ _. p k ≡ true) [
        | inl e ↦ let b = bit_true _ e in elim i as (λ _. p k ≡ true) [ inl q ↦ ap p q ∙ e | inr q ↦ count_full p js (omega arith) k q ]
        | inr e ↦ let b = bit_false _ e in absurd (omega arith)
      ]

  module _ (p q : K → Bool) (h : (k : K) → p k ≡ true → q k ≡ true) where
    count_le : (ks : List K) → count p ks ≤ count q ks
    count_le [] = omega arith
    count_le (k ∷ ks) =
        let m = count_le ks in
        elim (tests (p k)) as (λ _. count p (k ∷ ks) ≤ count q (k ∷ ks)) [
          | inl e ↦ let b = bit_true _ e in let d = bit_true _ (h k e) in omega arith
          | inr e ↦ let b = bit_false _ e in omega arith
        ]

    abbrev Agree : List K → Type 0
    Agree ks = (k : K) → In k ks → q k ≡ p k

    agree_next : (j : K) (js : List K) → Agree js → q j ≡ p j → Agree (j ∷ js)
    agree_next j js a e k i = elim i as (λ _. q k ≡ p k) [ inl c ↦ ap q c ∙ e ∙ sym (ap p c) | inr c ↦ a k c ]

    -- the two tests agree on the list, or the second passes more
    pub same_or_more : (ks : List K) → Agree ks ⊎ (count p ks < count q ks)
    same_or_more [] = inl (λ k i. absurd i)
    same_or_more (j ∷ js) =
        let m = count_le js in
        elim (same_or_more js) as (λ _. Agree (j ∷ js) ⊎ (count p (j ∷ js) < count q (j ∷ js))) [
          | inl s ↦
              elim (tests (p j)) as (λ _. Agree (j ∷ js) ⊎ (count p (j ∷ js) < count q (j ∷ js))) [
                | inl e ↦ inl (agree_next j js s (h j e ∙ sym e))
                | inr e ↦
                    elim (tests (q j)) as (λ _. Agree (j ∷ js) ⊎ (count p (j ∷ js) < count q (j ∷ js))) [
                      | inl d ↦ let b = bit_false _ e in let c = bit_true _ d in inr (omega arith)
                      | inr d ↦ inl (agree_next j js s (d ∙ sym e))
                    ]
              ]
          | inr s ↦
              elim (tests (p j)) as (λ _. Agree (j ∷ js) ⊎ (count p (j ∷ js) < count q (j ∷ js))) [
                | inl e ↦ let b = bit_true _ e in let d = bit_true _ (h j e) in inr (omega arith)
                | inr e ↦ let b = bit_false _ e in inr (omega arith)
              ]
        ]

  all_alike : (p q : K → Bool) → ((k : K) → p k ≡ q k) → (ks : List K) → list_all p ks ≡ list_all q ks
  all_alike p q h [] = refl
  all_alike p q h (k ∷ ks) = ap (λ b. b && list_all p ks) (h k) ∙ ap (λ b. q k && b) (all_alike p q h ks)

passes_alike : {A : Type 0} (p q : A → Bool) → ((x : A) → p x ≡ q x) → (o : Option A) → passes p o ≡ passes q o
passes_alike p q h (Some x) = h x
passes_alike p q h None = refl

-- keys lists all keys at which a node stands
module _ {K : Type 0} {X : K → Type 0} (parts : (k : K) → X k → List K) (free : K → Bool) (look : (k : K) → Option (X k)) (keys : List K) (covers : (k : K) (x : X k) → look k ≡ Some x → In k keys) where
  inside : (n : ℕ) (k : K) → ends parts free look n k ≡ true → In k keys
  inside zero k e = absurd (true≢false (sym e))
  inside (suc n) k e =
      let z = seen (λ x. list_all (ends parts free look n) (parts k x)) (look k) (and_parts _ _ e).1 in
      covers k z.0 z.1

  abbrev Steady : ℕ → Type 0
  Steady n = (k : K) → ends parts free look (suc n) k ≡ ends parts free look n k

  steady_next : (n : ℕ) → Steady n → Steady (suc n)
  steady_next n h k =
      ap (λ b. free k && b)
      (passes_alike (λ x. list_all (ends parts free look (suc n)) (parts k x)) (λ x. list_all (ends parts free look n) (parts k x)) (λ x. all_alike (ends parts free look (suc n)) (ends parts free look n) h (parts k x)) (look k))

  steady_inside : (n : ℕ) → ((k : K) → In k keys → ends parts free look (suc n) k ≡ ends parts free look n k) → Steady n
  steady_inside n h k =
      alike _ _ (λ e. sym (h k (inside (suc n) k e)) ∙ e) (λ e. longer parts free look n (suc n) k (omega arith) e)

  -- n steps find the end from at least n keys, or from all from which there is one
  grows : (n : ℕ) → (n ≤ count (ends parts free look n) keys) ⊎ Steady n
  grows zero = inl (omega arith)
  grows (suc n) =
      elim (grows n) as (λ _. (suc n ≤ count (ends parts free look (suc n)) keys) ⊎ Steady (suc n)) [
        | inl l ↦
            elim (same_or_more (ends parts free look n) (ends parts free look (suc n)) (λ k. longer parts free look n (suc n) k (omega arith)) keys) as (λ _. (suc n ≤ count (ends parts free look (suc n)) keys) ⊎ Steady (suc n)) [
              | inl a ↦ inr (steady_next n (steady_inside n a))
              | inr a ↦ inl (omega arith)
            ]
        | inr h ↦ inr (steady_next n h)
      ]

  steady_all : (n m : ℕ) → Steady n → Steady (m + n)
  steady_all n zero h = let e : n ≡ 0 + n = omega arith in subst Steady e h
  steady_all n (suc m) h = let e : suc (m + n) ≡ suc m + n = omega arith in subst Steady e (steady_next (m + n) (steady_all n m h))

  steady_on : (n m : ℕ) (k : K) → Steady n → ends parts free look (m + n) k ≡ ends parts free look n k
  steady_on n zero k h = let e : 0 + n ≡ n = omega arith in ap (λ i. ends parts free look i k) e
  steady_on n (suc m) k h = let e : suc m + n ≡ suc (m + n) = omega arith in ap (λ i. ends parts free look i k) e ∙ steady_all n m h k ∙ steady_on n m k h

  -- A walk that ends has no more steps than there are nodes.
  pub short : (m : ℕ) (k : K) → ends parts free look m k ≡ true → ends parts free look (length keys) k ≡ true
  short m k e =
      elim (grows (length keys)) as (λ _. ends parts free look (length keys) k ≡ true) [
        | inl l ↦ count_full (ends parts free look (length keys)) keys l k (inside m k e)
        | inr h ↦ sym (steady_on (length keys) m k h) ∙ longer parts free look m (m + length keys) k (omega arith) e
      ]

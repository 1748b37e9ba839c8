-- What stands at a number after a write, a push and a map.
use Rattle.std.proofs.Common.{◌≡◌, ◌≢◌, ℕ, zero, suc, ◌+◌, ◌<◌, ◌≤◌, true, List, [], ◌∷◌, ◌++◌, length, map, slice_set, get_or, Option, Some, None, is_some, refl, sym, ap, ◌⊎◌, inl, inr, arith, true≢false}
use Rattle.std.proofs.lemmas.Bool.Decides.{eqb_tells}
use Rattle.std.proofs.lemmas.List.Sums.{sum_by-append}
use Rattle.std.specs.List.{count_by}
use Rattle.symtab_arena.specs.Entries.{entry_at}

pub same_or : (n m : ℕ) → (n ≡ m) ⊎ (n ≢ m)
same_or n m = elim (eqb_tells n m) [ inl p ↦ inl p.1 | inr p ↦ inr p.1 ]

module _ {X : Type 0} where
  pub none_some : (x : X) → None ≡ Some x → ⊥
  none_some x e = true≢false (sym (ap is_some e))

  pub some_from : (o : Option X) → is_some o ≡ true → (x : X) × (o ≡ Some x)
  some_from None e = absurd (true≢false (sym e))
  some_from (Some x) e = (x, refl)

  pub entry_at_within : (xs : List (Option X)) (n : ℕ) (x : X) → entry_at xs n ≡ Some x → n < length xs
  entry_at_within [] n x e = absurd (none_some x e)
  entry_at_within (y ∷ xs) zero x e = omega arith
  entry_at_within (y ∷ xs) (suc n) x e = omega (arith, entry_at_within xs n x e)

  pub there_within : (xs : List (Option X)) (n : ℕ) → is_some (entry_at xs n) ≡ true → n < length xs
  there_within xs n h = let p = some_from (entry_at xs n) h in entry_at_within xs n p.0 p.1

  -- what indexing reads there
  pub entry_at_read : (xs : List (Option X)) (n : ℕ) (o : Option X) → n < length xs → o ≡ get_or xs n o → entry_at xs n ≡ o
  entry_at_read [] n o h e = absurd (omega arith)
  entry_at_read (x ∷ xs) zero o h e = sym e
  entry_at_read (x ∷ xs) (suc n) o h e = entry_at_read xs n o (omega arith) e

  pub entry_at_past : (xs : List (Option X)) (n : ℕ) → length xs ≤ n → entry_at xs n ≡ None
  entry_at_past [] n h = refl
  entry_at_past (y ∷ xs) zero h = absurd (omega arith)
  entry_at_past (y ∷ xs) (suc n) h = entry_at_past xs n (omega arith)

  pub entry_at-set_same : (xs : List (Option X)) (n : ℕ) (v : Option X) → n < length xs → entry_at (slice_set xs n v) n ≡ v
  entry_at-set_same [] n v h = absurd (omega arith)
  entry_at-set_same (y ∷ xs) zero v h = refl
  entry_at-set_same (y ∷ xs) (suc n) v h = entry_at-set_same xs n v (omega arith)

  pub entry_at-set_other : (xs : List (Option X)) (n m : ℕ) (v : Option X) → m ≢ n → entry_at (slice_set xs n v) m ≡ entry_at xs m
  entry_at-set_other [] n m v h = refl
  entry_at-set_other (y ∷ xs) zero zero v h = absurd (h refl)
  entry_at-set_other (y ∷ xs) zero (suc m) v h = refl
  entry_at-set_other (y ∷ xs) (suc n) zero v h = refl
  entry_at-set_other (y ∷ xs) (suc n) (suc m) v h = entry_at-set_other xs n m v (λ e. h (ap suc e))

  pub entry_at-push_last : (xs : List (Option X)) (v : Option X) → entry_at (xs ++ v ∷ []) (length xs) ≡ v
  entry_at-push_last [] v = refl
  entry_at-push_last (y ∷ xs) v = entry_at-push_last xs v

  pub entry_at-push_other : (xs : List (Option X)) (v : Option X) (n : ℕ) → n ≢ length xs → entry_at (xs ++ v ∷ []) n ≡ entry_at xs n
  entry_at-push_other [] v zero h = absurd (h refl)
  entry_at-push_other [] v (suc n) h = refl
  entry_at-push_other (y ∷ xs) v zero h = refl
  entry_at-push_other (y ∷ xs) v (suc n) h = entry_at-push_other xs v n (λ e. h (ap suc e))

  pub entry_at-map : (f : Option X → Option X) → f None ≡ None → (xs : List (Option X)) (n : ℕ) → entry_at (map f xs) n ≡ f (entry_at xs n)
  entry_at-map f h [] n = sym h
  entry_at-map f h (y ∷ xs) zero = refl
  entry_at-map f h (y ∷ xs) (suc n) = entry_at-map f h xs n

  -- two lists with the same thing at each number are one
  pub same_entries : (xs ys : List (Option X)) → length xs ≡ length ys → ((n : ℕ) → entry_at xs n ≡ entry_at ys n) → xs ≡ ys
  same_entries [] [] l h = refl
  same_entries [] (y ∷ ys) l h = absurd (omega arith)
  same_entries (x ∷ xs) [] l h = absurd (omega arith)
  same_entries (x ∷ xs) (y ∷ ys) l h = λ i. h zero i ∷ same_entries xs ys (omega arith) (λ n. h (suc n)) i

  pub entry_at-set_none : (xs : List (Option X)) (n : ℕ) → entry_at (slice_set xs n None) n ≡ None
  entry_at-set_none [] n = refl
  entry_at-set_none (y ∷ xs) zero = refl
  entry_at-set_none (y ∷ xs) (suc n) = entry_at-set_none xs n

  -- taking out what is not there changes nothing
  pub set_none-nothing : (xs : List (Option X)) (n : ℕ) → entry_at xs n ≡ None → slice_set xs n None ≡ xs
  set_none-nothing [] n e = refl
  set_none-nothing (y ∷ xs) zero e = ap (λ z. z ∷ xs) (sym e)
  set_none-nothing (y ∷ xs) (suc n) e = ap (λ zs. y ∷ zs) (set_none-nothing xs n e)

  count_first : (o : Option X) (xs : List (Option X)) → count_by is_some (o ∷ xs) ≡ count_by is_some (o ∷ []) + count_by is_some xs
  count_first o xs = sum_by-append _ (o ∷ []) xs

  -- taking one out leaves one fewer
  pub count-set_none : (xs : List (Option X)) (n : ℕ) (x : X) → entry_at xs n ≡ Some x → count_by is_some (slice_set xs n None) + 1 ≡ count_by is_some xs
  count-set_none [] n x e = absurd (none_some x e)
  count-set_none (y ∷ xs) zero x e =
      let was = count_first (Some x) xs in
      let now = count_first None xs in
      let same = ap (λ o. count_by is_some (o ∷ xs)) e in
      omega arith
  count-set_none (y ∷ xs) (suc n) x e =
      let was = count_first y xs in
      let now = count_first y (slice_set xs n None) in
      let rest = count-set_none xs n x e in
      omega arith

  -- a change of what stands there leaves as many
  pub count-set_some : (xs : List (Option X)) (n : ℕ) (x y : X) → entry_at xs n ≡ Some x → count_by is_some (slice_set xs n (Some y)) ≡ count_by is_some xs
  count-set_some [] n x y e = absurd (none_some x e)
  count-set_some (z ∷ xs) zero x y e =
      let was = count_first (Some x) xs in
      let now = count_first (Some y) xs in
      let same = ap (λ o. count_by is_some (o ∷ xs)) e in
      omega arith
  count-set_some (z ∷ xs) (suc n) x y e =
      let was = count_first z xs in
      let now = count_first z (slice_set xs n (Some y)) in
      let rest = count-set_some xs n x y e in
      omega arith

-- A list in which each place is the least that may come is the least valid order, and has no stuck place.
use Rattle.std.proofs.Common.{◌≡◌, ◌<◌, ◌≤◌, ℕ, zero, suc, Bool, true, List, [], ◌∷◌, ◌++◌, length, get_or, take, sym, refl, ◌∙◌, ap, subst, inl, inr, ⊎_elim, arith}
use Rattle.std.specs.List.{Contains}
use Rattle.std.proofs.lemmas.Bool.{cases_lt}
use Rattle.std.proofs.lemmas.List.{get_or_append_left, take-append-le, take_at, get_or_push, length_push, append_assoc, length-append, get_or_at, append-nil}
use Rattle.file_order.specs.Orders.{StandsAt, IsOnce, IsValidOrder, IsNotAbove, IsLeastOrder}
use Rattle.file_order.specs.Cycles.{IsLeastOf, IsClosed, IsStuck}
use Rattle.file_order.specs.Search.{IsReady, IsGreedy}
use Rattle.file_order.proofs.Lists.{contains_at, at_contains, in_front, from_front}

module _ (n : ℕ) (Before : ℕ → ℕ → Type 0) where
  moved : (done done' : List ℕ) (p p' : ℕ) → done ≡ done' → p ≡ p' → IsLeastOf (IsReady n Before done) p → IsLeastOf (IsReady n Before done') p'
  moved done done' p p' d e h = subst (λ (x : ℕ). IsLeastOf (IsReady n Before done') x) e (subst (λ (x : List ℕ). IsLeastOf (IsReady n Before x) p) d h)

  pub greedy_none : IsGreedy n Before []
  greedy_none k l = absurd (omega (arith, l))

  pub greedy_push : (order : List ℕ) (p : ℕ) → IsGreedy n Before order → IsLeastOf (IsReady n Before order) p → IsGreedy n Before (order ++ p ∷ [])
  greedy_push order p greedy next k l =
      ⊎_elim
      (λ (less : k < length order). moved (take k order) (take k (order ++ p ∷ [])) (get_or order k 0) (get_or (order ++ p ∷ []) k 0)
      (sym (take-append-le k order (p ∷ []) (omega arith))) (sym (get_or_append_left order (p ∷ []) 0 k less)) (greedy k less))
      (λ (more : length order ≤ k).
      let last : length order ≡ k = omega (arith, length_push order p, l) in
      moved order (take k (order ++ p ∷ [])) p (get_or (order ++ p ∷ []) k 0)
      (sym (take_at order (p ∷ []) k last)) (sym (get_or_push order p 0 k last)) next)
      (cases_lt k (length order))

  pub greedy_once : (order : List ℕ) → IsGreedy n Before order → IsOnce order
  greedy_once order greedy i j less within same =
      (greedy j within).0.new (in_front order i j (get_or order j 0) less (omega arith, same))

  pub greedy_below : (order : List ℕ) → IsGreedy n Before order → (p : ℕ) → Contains order p → p < n
  greedy_below order greedy p h =
      let here = at_contains order p h in
      subst (λ (x : ℕ). x < n) here.1.1 (greedy here.0 here.1.0).0.below

  pub greedy_valid : (order : List ℕ) → IsGreedy n Before order → ((p : ℕ) → p < n → Contains order p) → ((a b : ℕ) → Before a b → b < n) → IsValidOrder n Before order
  greedy_valid order greedy all within = record {
    places = λ p. (greedy_below order greedy p, all p);
    once = greedy_once order greedy;
    kept = λ a b h.
        let there = at_contains order b (all b (within a b h)) in
        let front = from_front order there.0 a ((greedy there.0 there.1.0).0.met a (subst (λ (x : ℕ). Before a x) (sym there.1.1) h)) in
        (front.0, there.0, front.1, front.2, there.1);
  }

  -- in a valid order, what must stand before the place at an index stands at a lower one
  pub earlier : (order : List ℕ) → IsValidOrder n Before order → (k a : ℕ) → k < length order → Before a (get_or order k 0) → (i : ℕ) × (i < k) × StandsAt order i a
  earlier order valid k a within h =
      let pair = valid.kept a (get_or order k 0) h in
      let i = pair.0 in
      let j = pair.1 in
      ⊎_elim
      (λ (before : j < k). absurd (valid.once j k before within pair.4.1))
      (λ (not_before : k ≤ j).
      ⊎_elim
      (λ (after : k < j). absurd (valid.once k j after pair.4.0 (sym pair.4.1)))
      (λ (not_after : j ≤ k). (i, omega (arith, pair.2), pair.3))
      (cases_lt k j))
      (cases_lt j k)

  no_stuck_in : (order : List ℕ) → ((k a : ℕ) → k < length order → Before a (get_or order k 0) → (i : ℕ) × (i < k) × StandsAt order i a) → (set : ℕ → Bool) → IsClosed n Before set → (m k : ℕ) → k < m → k < length order → set (get_or order k 0) ≡ true → ⊥
  no_stuck_in order earlier set closed zero k less within h = absurd (omega (arith, less))
  no_stuck_in order earlier set closed (suc m) k less within h =
      let one = (closed (get_or order k 0) h).1 in
      let front = earlier k one.0 within one.2 in
      no_stuck_in order earlier set closed m front.0 (omega (arith, front.1, less)) front.2.0 (ap set front.2.1 ∙ one.1)

  not_stuck_in : (order : List ℕ) → ((k a : ℕ) → k < length order → Before a (get_or order k 0) → (i : ℕ) × (i < k) × StandsAt order i a) → (p : ℕ) → Contains order p → IsStuck n Before p → ⊥
  not_stuck_in order earlier p h stuck =
      let here = at_contains order p h in
      no_stuck_in order earlier stuck.0 stuck.1 (suc here.0) here.0 (omega arith) here.1.0 (ap stuck.0 here.1.1 ∙ stuck.2)

  pub greedy_not_stuck : (order : List ℕ) → IsGreedy n Before order → (p : ℕ) → Contains order p → IsStuck n Before p → ⊥
  greedy_not_stuck order greedy = not_stuck_in order (λ k a within h. from_front order k a ((greedy k within).0.met a h))

  pub valid_not_stuck : (order : List ℕ) → IsValidOrder n Before order → (p : ℕ) → Contains order p → IsStuck n Before p → ⊥
  valid_not_stuck order valid = not_stuck_in order (earlier order valid)

  pub stuck_below : (p : ℕ) → IsStuck n Before p → p < n
  stuck_below p stuck = (stuck.1 p stuck.2).0

  pub no_order : (order : List ℕ) → IsValidOrder n Before order → (p : ℕ) → IsStuck n Before p → ⊥
  no_order order valid p stuck = valid_not_stuck order valid p ((valid.places p).1 (stuck_below p stuck)) stuck

  here_next : (order : List ℕ) → IsGreedy n Before order → (done : List ℕ) (x : ℕ) (xs : List ℕ) → order ≡ done ++ x ∷ xs → IsLeastOf (IsReady n Before done) x
  here_next order greedy done x xs e =
      let within : length done < length order = omega (arith, ap length e, length-append done (x ∷ xs)) in
      moved (take (length done) order) done (get_or order (length done) 0) x
      (ap (take (length done)) e ∙ take_at done (x ∷ xs) (length done) refl)
      (ap (λ (o : List ℕ). get_or o (length done) 0) e ∙ get_or_at done x xs 0 (length done) refl)
      (greedy (length done) within)

  -- in a valid order each place may come behind those in front of it
  valid_ready : (order : List ℕ) → IsValidOrder n Before order → (done : List ℕ) (y : ℕ) (ys : List ℕ) → order ≡ done ++ y ∷ ys → IsReady n Before done y
  valid_ready order valid done y ys e =
      let within : length done < length order = omega (arith, ap length e, length-append done (y ∷ ys)) in
      let here : get_or order (length done) 0 ≡ y = ap (λ (o : List ℕ). get_or o (length done) 0) e ∙ get_or_at done y ys 0 (length done) refl in
      let front : take (length done) order ≡ done = ap (take (length done)) e ∙ take_at done (y ∷ ys) (length done) refl in
      record {
        below = (valid.places y).0 (contains_at order (length done) y (within, here));
        new = λ h.
            let there = at_contains done y h in
            let same : get_or order there.0 0 ≡ get_or done there.0 0 = ap (λ (o : List ℕ). get_or o there.0 0) e ∙ get_or_append_left done (y ∷ ys) 0 there.0 there.1.0 in
            valid.once there.0 (length done) there.1.0 within (same ∙ there.1.1 ∙ sym here);
        met = λ a h.
            let i = earlier order valid (length done) a within (subst (λ (z : ℕ). Before a z) (sym here) h) in
            subst (λ (o : List ℕ). Contains o a) front (in_front order i.0 (length done) a i.1 i.2);
      }

  -- What is left of a greedy order is not above what is left of a valid one that begins alike.
  not_above : (order other : List ℕ) → IsGreedy n Before order → ((p : ℕ) → p < n → Contains order p) → IsValidOrder n Before other → (done xs ys : List ℕ) → order ≡ done ++ xs → other ≡ done ++ ys → IsNotAbove xs ys
  not_above order other greedy all valid done [] ys e f = tt
  not_above order other greedy all valid done (x ∷ xs) [] e f =
      let next = here_next order greedy done x xs e in
      next.0.new (subst (λ (o : List ℕ). Contains o x) (f ∙ append-nil done) ((valid.places x).1 next.0.below))
  not_above order other greedy all valid done (x ∷ xs) (y ∷ ys) e f =
      let next = here_next order greedy done x xs e in
      let upto : x ≤ y = next.1 y (valid_ready other valid done y ys f) in
      ⊎_elim
      (λ (less : x < y). inl less)
      (λ (not_less : y ≤ x).
      let same : x ≡ y = omega arith in
      inr (
        same,
        not_above order other greedy all valid (done ++ x ∷ []) xs ys
            (e ∙ sym (append_assoc done (x ∷ []) xs))
            (f ∙ ap (λ (z : ℕ). done ++ z ∷ ys) (sym same) ∙ sym (append_assoc done (x ∷ []) ys)),
      ))
      (cases_lt x y)

  pub greedy_least : (order : List ℕ) → IsGreedy n Before order → ((p : ℕ) → p < n → Contains order p) → ((a b : ℕ) → Before a b → b < n) → IsLeastOrder n Before order
  greedy_least order greedy all within = record {
    valid = greedy_valid order greedy all within;
    least = λ other valid. not_above order other greedy all valid [] order other refl refl;
  }

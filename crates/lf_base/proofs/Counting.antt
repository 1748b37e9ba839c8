-- A loop whose count is known beside one that keeps its count in its state and tests it inside its body, both ways.
use Rattle.std.proofs.Common.{ℕ, zero, suc, ◌+◌, ◌≤◌, true, Option, Some, None, refl, arith}
use Rattle.lf_base.specs.Outcome.{Location, Owed}
use Rattle.lf_base.specs.Acts.{Act, give, next_or, iterate}
use Rattle.lf_base.specs.Order.{Grows, Link, BelowFrom}
use Rattle.lf_base.specs.Loops.{counted, Exited, Entered}
use Rattle.lf_base.proofs.Stretches.{Left, grows_bind, grows_give, grows_cut, grows_next, grows_iterate, below_bind}
use Rattle.lf_base.specs.Monotone.{NoShorter}
use Rattle.lf_base.proofs.Monotone.{same_self, bind_no_shorter, next_no_shorter}

pub grows_counted : {S B : Type 0} (count n : ℕ) (body : Act S (Option B)) → Grows body → Grows (counted count n body)
grows_counted {S} {B} zero n body g = grows_give {A = Option B} None
grows_counted {S} {B} (suc count) zero body g = grows_cut S (Option B)
grows_counted (suc count) (suc n) body g = grows_bind body (next_or (counted count n body)) g (grows_next (counted count n body) (grows_counted count n body g))

pub counted_no_shorter : {S B : Type 0} (count n n' : ℕ) → n ≤ n' → (body body' : Act S (Option B)) → NoShorter body body' → Grows body' → NoShorter (counted count n body) (counted count n' body')
counted_no_shorter {S} {B} zero n n' le body body' h g = same_self (give {S = S} {A = Option B} None)
counted_no_shorter (suc count) zero n' le body body' h g = λ s w. grows_counted (suc count) n' body' g s w
counted_no_shorter (suc count) (suc n) zero le body body' h g = absurd (omega arith)
counted_no_shorter (suc count) (suc n) (suc n') le body body' h g =
    bind_no_shorter body body' (next_or (counted count n body)) (next_or (counted count n' body')) h
    (next_no_shorter (counted count n body) (counted count n' body') (counted_no_shorter count n n' (omega arith) body body' h g))
    (grows_next (counted count n' body') (grows_counted count n' body' g))

-- Q says of two states how many turns are left. From Q (suc count) a turn goes to Q count; from Q 0 the loop with
-- its test inside is left.
module _ {S S' B B' : Type 0} (W : Owed) (P : Option Location → Option Location → Type 0) (Q : ℕ → S → S' → Type 0) (L : Link S B S' B') (out : B') (body : Act S (Option B)) (whole : Act S' (Option B')) (g : Grows whole) (goes : (count : ℕ) → BelowFrom W P (Q (suc count)) (Left W P (Q count) L) body whole) (leaves : BelowFrom W P (Q 0) (λ u s o' s'. Exited (Q 0) L out None s o' s') (give (tt {0})) whole) where
  next_there : (count : ℕ) (more : Act S (Option B)) (more' : Act S' (Option B')) → BelowFrom W P (Q count) (Exited (Q 0) L out) more more' → (o : Option B) (o' : Option B') → BelowFrom W P (λ s s'. Left W P (Q count) L o s o' s') (Exited (Q 0) L out) (next_or more o) (next_or more' o')
  next_there count more more' h None None = h
  next_there count more more' h None (Some b') = λ s s' w r. absurd r
  next_there count more more' h (Some b) None = λ s s' w r. absurd r
  next_there count more more' h (Some b) (Some b') = λ s s' w r. (Some b', s', r, refl)

  out_there : (more' : Act S' (Option B')) (o' : Option B') → BelowFrom W P (λ s s'. Exited (Q 0) L out None s o' s') (Exited (Q 0) L out) (give None) (next_or more' o')
  out_there more' None = λ s s' w r. absurd r
  out_there more' (Some b') = λ s s' w r. (Some b', s', r, refl)

  grows_more : (n' : ℕ) (o : Option B') → Grows (next_or (iterate n' (give true) whole) o)
  grows_more n' = grows_next (iterate n' (give true) whole) (grows_iterate n' (give true) whole (grows_give true) g)

  pub counted_there : (count n n' : ℕ) → n + 1 ≤ n' → BelowFrom W P (Q count) (Exited (Q 0) L out) (counted count n body) (iterate n' (give true) whole)
  counted_there count n zero le = absurd (omega arith)
  counted_there zero n (suc n') le = below_bind W P (Q 0) (λ u s o' s'. Exited (Q 0) L out None s o' s') (Exited (Q 0) L out) (give (tt {0})) whole (λ u. give None) (next_or (iterate n' (give true) whole)) leaves (λ u o'. out_there (iterate n' (give true) whole) o') (grows_more n')
  counted_there (suc count) zero (suc n') le = λ s s' w q. grows_iterate (suc n') (give true) whole (grows_give true) g s' w
  counted_there (suc count) (suc n) (suc n') le = below_bind W P (Q (suc count)) (Left W P (Q count) L) (Exited (Q 0) L out) body whole (next_or (counted count n body)) (next_or (iterate n' (give true) whole)) (goes count) (next_there count (counted count n body) (iterate n' (give true) whole) (counted_there count n n' (omega arith))) (grows_more n')

module _ {S S' B B' : Type 0} (W : Owed) (P : Option Location → Option Location → Type 0) (Q : ℕ → S → S' → Type 0) (L : Link S B S' B') (out : B) (whole : Act S (Option B)) (body : Act S' (Option B')) (g : Grows body) (goes : (count : ℕ) → BelowFrom W P (Q (suc count)) (Left W P (Q count) L) whole body) (leaves : BelowFrom W P (Q 0) (λ o s u s'. Entered (Q 0) L out o s None s') whole (give (tt {0}))) where
  next_back : (count : ℕ) (more : Act S (Option B)) (more' : Act S' (Option B')) → BelowFrom W P (Q count) (Entered (Q 0) L out) more more' → (o : Option B) (o' : Option B') → BelowFrom W P (λ s s'. Left W P (Q count) L o s o' s') (Entered (Q 0) L out) (next_or more o) (next_or more' o')
  next_back count more more' h None None = h
  next_back count more more' h None (Some b') = λ s s' w r. absurd r
  next_back count more more' h (Some b) None = λ s s' w r. absurd r
  next_back count more more' h (Some b) (Some b') = λ s s' w r. (Some b', s', r, refl)

  out_back : (more : Act S (Option B)) (o : Option B) → BelowFrom W P (λ s s'. Entered (Q 0) L out o s None s') (Entered (Q 0) L out) (next_or more o) (give None)
  out_back more None = λ s s' w r. absurd r
  out_back more (Some b) = λ s s' w r. (None, s', r, refl)

  pub counted_back : (count n n' : ℕ) → n ≤ n' → BelowFrom W P (Q count) (Entered (Q 0) L out) (iterate n (give true) whole) (counted count n' body)
  counted_back count zero n' le = λ s s' w q. grows_counted count n' body g s' w
  counted_back zero (suc n) n' le = below_bind W P (Q 0) (λ o s u s'. Entered (Q 0) L out o s None s') (Entered (Q 0) L out) whole (give (tt {0})) (next_or (iterate n (give true) whole)) (λ u. give None) leaves (λ o u. out_back (iterate n (give true) whole) o) (λ u. grows_give {A = Option B'} None)
  counted_back (suc count) (suc n) zero le = absurd (omega arith)
  counted_back (suc count) (suc n) (suc n') le = below_bind W P (Q (suc count)) (Left W P (Q count) L) (Entered (Q 0) L out) whole body (next_or (iterate n (give true) whole)) (next_or (counted count n' body)) (goes count) (next_back count (iterate n (give true) whole) (counted count n' body) (counted_back count n n' (omega arith))) (grows_next (counted count n' body) (grows_counted count n' body g))

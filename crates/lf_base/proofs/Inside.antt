-- A loop that tests before each turn beside one whose test stands inside its body, both ways.
use Rattle.std.proofs.Common.{◌≡◌, ℕ, zero, suc, ◌+◌, ◌≤◌, Bool, true, false, cond, Option, Some, None, refl, sym, ap, subst, ◌∙◌, arith}
use Rattle.lf_base.specs.Outcome.{Location, Written, Ended, Cut, Wrong, Owed}
use Rattle.lf_base.specs.Acts.{Stretch, Going, Stopped, Act, then_do, give, cut, next_or, turn, iterate}
use Rattle.lf_base.specs.Order.{Grows, Link, Below, BelowFrom}
use Rattle.lf_base.specs.Loops.{checked, with_test, landing, left_with, half, once, OrOut, Exited, OrIn, Entered}
use Rattle.lf_base.proofs.Stretches.{Left, Tested, grows_bind, grows_give, grows_next, grows_iterate, below_bind, extends_then, grows_cond}

-- what follows a turn that `once` tells of
abbrev after : {S B : Type 0} → Act S (Option B) → Option (Option B) → Act S (Option B)
after more None = more
after more (Some o) = give o

after_left : {S B : Type 0} (more : Act S (Option B)) (x : Stretch S (Option B)) → then_do x (next_or more) ≡ then_do (then_do x (λ o. give (left_with o))) (after more)
after_left more (Going None s w) = refl
after_left more (Going (Some b) s w) = refl
after_left more (Stopped o) = refl

after_half : {S B : Type 0} (body more : Act S (Option B)) (x : Stretch S Bool) → then_do x (turn body more) ≡ then_do (then_do x (half body)) (after more)
after_half body more (Going true s w) = after_left more (body s w)
after_half body more (Going false s w) = refl
after_half body more (Stopped o) = refl

grows_after : {S B : Type 0} (more : Act S (Option B)) → Grows more → (o : Option (Option B)) → Grows (after more o)
grows_after more g None = g
grows_after more g (Some o) = grows_give o

pub grows_half : {S B : Type 0} (body : Act S (Option B)) → Grows body → (t : Bool) → Grows (half body t)
grows_half body g true = grows_bind body (λ o. give (left_with o)) g (λ o. grows_give (left_with o))
grows_half {S} {B} body g false = grows_give {A = Option (Option B)} (Some None)

pub grows_checked : {S B : Type 0} (out : B) (body : Act S (Option B)) → Grows body → (t : Bool) → Grows (checked out body t)
grows_checked out body g true = g
grows_checked {S} {B} out body g false = grows_give {A = Option B} (Some out)

pub grows_landing : {S B : Type 0} (lands : B → Bool) (o : Option B) → Grows {S = S} (landing lands o)
grows_landing {S} {B} lands None = grows_give {A = Option B} None
grows_landing {S} {B} lands (Some b) = grows_cond (lands b) (give None) (give (Some b)) (grows_give {A = Option B} None) (grows_give (Some b))

-- less is said of the states in which a loop ends
module _ {S B S' B' : Type 0} (Q T : S → S' → Type 0) (k : (s : S) (s' : S') → Q s s' → T s s') where
  pub exited_weaker : (L : Link S B S' B') (out : B') (o : Option B) (s : S) (o' : Option B') (s' : S') → Exited Q L out o s o' s' → Exited T L out o s o' s'
  exited_weaker L out o s None s' h = h
  exited_weaker L out None s (Some b') s' h = (h.0, k s s' h.1)
  exited_weaker L out (Some b) s (Some b') s' h = h

  pub entered_weaker : (L : Link S B S' B') (out : B) (o : Option B) (s : S) (o' : Option B') (s' : S') → Entered Q L out o s o' s' → Entered T L out o s o' s'
  entered_weaker L out None s o' s' h = h
  entered_weaker L out (Some b) s None s' h = (h.0, k s s' h.1)
  entered_weaker L out (Some b) s (Some b') s' h = h

grows_forever : {S B : Type 0} (n : ℕ) (body : Act S (Option B)) → Grows body → Grows (iterate n (give true) body)
grows_forever n body g = grows_iterate n (give true) body (grows_give true) g

-- at a label, where a signal lands or goes on
both_land : {S S' B B' : Type 0} (W : Owed) (P : Option Location → Option Location → Type 0) (Q : S → S' → Type 0) (M : Link S B S' B') (b : B) (b' : B') (s : S) (s' : S') (w : Written) (l l' : Bool) → l' ≡ l → (l ≡ true → Q s s') → (l ≡ false → M b s b' s') → Below W P (Left W P Q M) (cond l (give {S = S} None) (give (Some b)) s w) (cond l' (give {S = S'} None) (give (Some b')) s' w)
both_land W P Q M b b' s s' w true true e q m = (None, s', q refl, refl)
both_land W P Q M b b' s s' w false false e q m = (Some b', s', m refl, refl)
both_land W P Q M b b' s s' w true false e q m = absurd (cc e)
both_land W P Q M b b' s s' w false true e q m = absurd (cc e)

-- The loop that tests first is below the other, which has a turn more.
module _ {S S' B B' : Type 0} (W : Owed) (P : Option Location → Option Location → Type 0) (Q : S → S' → Type 0) (L : Link S B S' B') (out : B') where
  next_there : (more : Act S (Option B)) (more' : Act S' (Option B')) → BelowFrom W P Q (Exited Q L out) more more' → (o : Option (Option B)) (o' : Option B') → BelowFrom W P (λ s s'. Left W P Q (OrOut Q L out) o s o' s') (Exited Q L out) (after more o) (next_or more' o')
  next_there more more' h None None = h
  next_there more more' h None (Some b') = λ s s' w r. absurd r
  next_there more more' h (Some o) None = λ s s' w r. absurd r
  next_there more more' h (Some o) (Some b') = λ s s' w r. (Some b', s', r, refl)

  -- for any body of the second loop that stands to one turn of the first as `once` has it
  pub tested_there : (n n' : ℕ) → n + 1 ≤ n' → (test : Act S Bool) (body : Act S (Option B)) (whole : Act S' (Option B')) → Grows whole → BelowFrom W P Q (Left W P Q (OrOut Q L out)) (once test body) whole → BelowFrom W P Q (Left W P Q (OrOut Q L out)) (once test cut) whole → BelowFrom W P Q (Exited Q L out) (iterate n test body) (iterate n' (give true) whole)
  tested_there n zero le test body whole g h k s s' w q = absurd (omega arith)
  tested_there zero (suc n') le test body whole g h k s s' w q =
      subst (λ z. Below W P (Exited Q L out) z (iterate (suc n') (give true) whole s' w)) (sym (after_half cut cut (test s w)))
      (below_bind W P Q (Left W P Q (OrOut Q L out)) (Exited Q L out) (once test cut) whole (after cut) (next_or (iterate n' (give true) whole)) k
      (next_there cut (iterate n' (give true) whole) (λ t t' v r. grows_forever n' whole g t' v))
      (grows_next (iterate n' (give true) whole) (grows_forever n' whole g)) s s' w q)
  tested_there (suc n) (suc n') le test body whole g h k s s' w q =
      subst (λ z. Below W P (Exited Q L out) z (iterate (suc n') (give true) whole s' w)) (sym (after_half body (iterate n test body) (test s w)))
      (below_bind W P Q (Left W P Q (OrOut Q L out)) (Exited Q L out) (once test body) whole (after (iterate n test body)) (next_or (iterate n' (give true) whole)) h
      (next_there (iterate n test body) (iterate n' (give true) whole) (tested_there n n' (omega arith) test body whole g h k))
      (grows_next (iterate n' (give true) whole) (grows_forever n' whole g)) s s' w q)

  -- the arm of a turn in which the test holds
  pub mapped_there : (x : Stretch S (Option B)) (y : Stretch S' (Option B')) → Below W P (Left W P Q L) x y → Below W P (Left W P Q (OrOut Q L out)) (then_do x (λ o. give (left_with o))) y
  mapped_there (Going None s w) y (None, s', r, e) = (None, s', r, e)
  mapped_there (Going None s w) y (Some b', s', r, e) = absurd r
  mapped_there (Going (Some b) s w) y (None, s', r, e) = absurd r
  mapped_there (Going (Some b) s w) y (Some b', s', r, e) = (Some b', s', r, e)
  mapped_there (Stopped (Ended w status location)) y h = h
  mapped_there (Stopped (Cut w)) y h = h
  mapped_there (Stopped (Wrong fault)) y h = h

  half_there : (body : Act S (Option B)) (body' : Act S' (Option B')) → BelowFrom W P Q (Left W P Q L) body body' → (t t' : Bool) → BelowFrom W P (λ s s'. Tested W P Q L t s t' s') (Left W P Q (OrOut Q L out)) (half body t) (checked out body' t')
  half_there body body' h true true = λ s s' w r. mapped_there (body s w) (body' s' w) (h s s' w r.1)
  half_there body body' h false false = λ s s' w r. (Some out, s', (refl, r.1), refl)
  half_there body body' h true false = λ s s' w r. absurd (cc r.0)
  half_there body body' h false true = λ s s' w r. absurd (cc r.0)

  once_there : (test : Act S Bool) (test' : Act S' Bool) (body : Act S (Option B)) (body' : Act S' (Option B')) → Grows body' → BelowFrom W P Q (Tested W P Q L) test test' → BelowFrom W P Q (Left W P Q L) body body' → BelowFrom W P Q (Left W P Q (OrOut Q L out)) (once test body) (with_test out test' body')
  once_there test test' body body' g t h = below_bind W P Q (Tested W P Q L) (Left W P Q (OrOut Q L out)) test test' (half body) (checked out body') t (half_there body body' h) (grows_checked out body' g)

  pub inside_there : (n n' : ℕ) → n + 1 ≤ n' → (test : Act S Bool) (test' : Act S' Bool) (body : Act S (Option B)) (body' : Act S' (Option B')) → Grows test' → Grows body' → BelowFrom W P Q (Tested W P Q L) test test' → BelowFrom W P Q (Left W P Q L) body body' → BelowFrom W P Q (Exited Q L out) (iterate n test body) (iterate n' (give true) (with_test out test' body'))
  inside_there n n' le test test' body body' gt gb t h =
      tested_there n n' le test body (with_test out test' body') (grows_bind test' (checked out body') gt (grows_checked out body' gb))
      (once_there test test' body body' gb t h)
      (once_there test test' cut body' gb t (λ s s' w q. gb s' w))

  one_lands : (M : Link S B S' B') (b' : B') (s : S) (s' : S') (w : Written) → Q s s' → (l' : Bool) → l' ≡ true → Below W P (Left W P Q M) (Going None s w) (cond l' (give {S = S'} None) (give (Some b')) s' w)
  one_lands M b' s s' w q true e = (None, s', q, refl)
  one_lands M b' s s' w q false e = absurd (cc e)

  -- behind the label, at which the signals that the first loop takes land too
  pub landing_there : (M : Link S B S' B') (lands : B → Bool) (lands' : B' → Bool) → lands' out ≡ true → ((b : B) (s : S) (b' : B') (s' : S') → L b s b' s' → (lands' b' ≡ lands b) × (lands b ≡ true → Q s s') × (lands b ≡ false → M b s b' s')) → (o : Option B) (o' : Option B') → BelowFrom W P (λ s s'. Exited Q L out o s o' s') (Left W P Q M) (landing lands o) (landing lands' o')
  landing_there M lands lands' is h o None = λ s s' w r. absurd r
  landing_there M lands lands' is h None (Some b') = λ s s' w r. one_lands M b' s s' w r.1 (lands' b') (ap lands' r.0 ∙ is)
  landing_there M lands lands' is h (Some b) (Some b') = λ s s' w r. let x = h b s b' s' r in both_land W P Q M b b' s s' w (lands b) (lands' b') x.0 x.1 x.2

-- The other way round: the loop with its test inside is first.
module _ {S S' B B' : Type 0} (W : Owed) (P : Option Location → Option Location → Type 0) (Q : S → S' → Type 0) (L : Link S B S' B') (out : B) where
  next_back : (more : Act S (Option B)) (more' : Act S' (Option B')) → BelowFrom W P Q (Entered Q L out) more more' → (o : Option B) (o' : Option (Option B')) → BelowFrom W P (λ s s'. Left W P Q (OrIn Q L out) o s o' s') (Entered Q L out) (next_or more o) (after more' o')
  next_back more more' h None None = h
  next_back more more' h None (Some o') = λ s s' w r. absurd r
  next_back more more' h (Some b) None = λ s s' w r. absurd r
  next_back more more' h (Some b) (Some o') = λ s s' w r. (o', s', r, refl)

  pub tested_back : (n n' : ℕ) → n ≤ n' → (whole : Act S (Option B)) (test' : Act S' Bool) (body' : Act S' (Option B')) → Grows test' → Grows body' → BelowFrom W P Q (Left W P Q (OrIn Q L out)) whole (once test' body') → BelowFrom W P Q (Entered Q L out) (iterate n (give true) whole) (iterate n' test' body')
  tested_back zero n' le whole test' body' gt gb h s s' w q = grows_iterate n' test' body' gt gb s' w
  tested_back (suc n) zero le whole test' body' gt gb h s s' w q = absurd (omega arith)
  tested_back (suc n) (suc n') le whole test' body' gt gb h s s' w q =
      subst (λ z. Below W P (Entered Q L out) (iterate (suc n) (give true) whole s w) z) (sym (after_half body' (iterate n' test' body') (test' s' w)))
      (below_bind W P Q (Left W P Q (OrIn Q L out)) (Entered Q L out) whole (once test' body') (next_or (iterate n (give true) whole)) (after (iterate n' test' body')) h
      (next_back (iterate n (give true) whole) (iterate n' test' body') (tested_back n n' (omega arith) whole test' body' gt gb h))
      (grows_after (iterate n' test' body') (grows_iterate n' test' body' gt gb)) s s' w q)

  left_back : (o : Option B) (s : S) (o' : Option B') (s' : S') → Left W P Q L o s o' s' → Left W P Q (OrIn Q L out) o s (left_with o') s'
  left_back None s None s' r = r
  left_back None s (Some b') s' r = absurd r
  left_back (Some b) s None s' r = absurd r
  left_back (Some b) s (Some b') s' r = r

  -- the arm of a turn in which the test holds
  pub mapped_back : (x : Stretch S (Option B)) (y : Stretch S' (Option B')) → Below W P (Left W P Q L) x y → Below W P (Left W P Q (OrIn Q L out)) x (then_do y (λ o. give (left_with o)))
  mapped_back (Going o s w) y h = (left_with h.0, h.1, left_back o s h.0 h.1 h.2, ap (λ z. then_do z (λ o. give (left_with o))) h.3)
  mapped_back (Stopped (Ended w status location)) y h = (h.0, h.1, ap (λ z. then_do z (λ o. give (left_with o))) h.2)
  mapped_back (Stopped (Cut w)) y h = extends_then w y (λ o. give (left_with o)) (λ o. grows_give (left_with o)) h
  mapped_back (Stopped (Wrong fault)) y h = (h.0, ap (λ z. then_do z (λ o. give (left_with o))) h.1)

  half_back : (body : Act S (Option B)) (body' : Act S' (Option B')) → BelowFrom W P Q (Left W P Q L) body body' → (t t' : Bool) → BelowFrom W P (λ s s'. Tested W P Q L t s t' s') (Left W P Q (OrIn Q L out)) (checked out body t) (half body' t')
  half_back body body' h true true = λ s s' w r. mapped_back (body s w) (body' s' w) (h s s' w r.1)
  half_back body body' h false false = λ s s' w r. (Some None, s', (refl, r.1), refl)
  half_back body body' h true false = λ s s' w r. absurd (cc r.0)
  half_back body body' h false true = λ s s' w r. absurd (cc r.0)

  pub inside_back : (n n' : ℕ) → n ≤ n' → (test : Act S Bool) (test' : Act S' Bool) (body : Act S (Option B)) (body' : Act S' (Option B')) → Grows test' → Grows body' → BelowFrom W P Q (Tested W P Q L) test test' → BelowFrom W P Q (Left W P Q L) body body' → BelowFrom W P Q (Entered Q L out) (iterate n (give true) (with_test out test body)) (iterate n' test' body')
  inside_back n n' le test test' body body' gt gb t h =
      tested_back n n' le (with_test out test body) test' body' gt gb
      (below_bind W P Q (Tested W P Q L) (Left W P Q (OrIn Q L out)) test test' (checked out body) (half body') t (half_back body body' h) (grows_half body' gb))

  one_lands_back : (M : Link S B S' B') (b : B) (s : S) (s' : S') (w : Written) → Q s s' → (l : Bool) → l ≡ true → Below W P (Left W P Q M) (cond l (give {S = S} None) (give (Some b)) s w) (Going None s' w)
  one_lands_back M b s s' w q true e = (None, s', q, refl)
  one_lands_back M b s s' w q false e = absurd (cc e)

  pub landing_back : (M : Link S B S' B') (lands : B → Bool) (lands' : B' → Bool) → lands out ≡ true → ((b : B) (s : S) (b' : B') (s' : S') → L b s b' s' → (lands' b' ≡ lands b) × (lands b ≡ true → Q s s') × (lands b ≡ false → M b s b' s')) → (o : Option B) (o' : Option B') → BelowFrom W P (λ s s'. Entered Q L out o s o' s') (Left W P Q M) (landing lands o) (landing lands' o')
  landing_back M lands lands' is h None o' = λ s s' w r. absurd r
  landing_back M lands lands' is h (Some b) None = λ s s' w r. one_lands_back M b s s' w r.1 (lands b) (ap lands r.0 ∙ is)
  landing_back M lands lands' is h (Some b) (Some b') = λ s s' w r. let x = h b s b' s' r in both_land W P Q M b b' s s' w (lands b) (lands' b') x.0 x.1 x.2

-- Near meanings: from the order of outcomes both ways, and from equality.
use Rattle.std.proofs.Common.{◌≡◌, ℕ, ◌+◌, ◌%◌, ◌≤◌, Option, Some, None, refl, sym, ap, subst, ◌∙◌, arith}
use Rattle.lf_base.specs.Outcome.{Location, Written, Fault, Away, Outcome, Ended, Cut, Wrong, KeepsLocation, KeptLocation, Extends, Owed, OnlyAway}
use Rattle.lf_base.specs.Near.{IsNearBy, IsMonotone}
use Rattle.lf_base.specs.Acts.{Stretch, Going, Stopped, away, outcome_of}
use Rattle.lf_base.specs.Order.{ExtendsIn, Link, Below, BelowFrom}

-- the order on whole outcomes
abbrev pub Reaches : Owed → (Option Location → Option Location → Type 0) → Outcome → Outcome → Type 0
Reaches W P (Ended sofar status location) y = (location' : Option Location) × P location location' × (y ≡ Ended sofar status location')
Reaches W P (Cut sofar) y = Extends sofar y
Reaches W P (Wrong fault) y = W fault × (y ≡ Wrong fault)

extends_out : {S : Type 0} (sofar : Written) (y : Stretch S ℕ) → ExtendsIn sofar y → Extends sofar (outcome_of y)
extends_out sofar (Going a s later) h = h
extends_out sofar (Stopped outcome) h = h

-- related statuses are the same
pub reaches : {S S' : Type 0} (W : Owed) (P : Option Location → Option Location → Type 0) (R : Link S ℕ S' ℕ) → P None None → ((a : ℕ) (s : S) (a' : ℕ) (s' : S') → R a s a' s' → a' ≡ a) → (x : Stretch S ℕ) (y : Stretch S' ℕ) → Below W P R x y → Reaches W P (outcome_of x) (outcome_of y)
reaches W P R none same (Going a s w) y h = (None, none, ap outcome_of h.3 ∙ ap (λ k. Ended w (k % 256) None) (same a s h.0 h.1 h.2))
reaches W P R none same (Stopped (Ended sofar status location)) y h = (h.0, h.1, ap outcome_of h.2)
reaches W P R none same (Stopped (Cut sofar)) y h = extends_out sofar y h
reaches W P R none same (Stopped (Wrong fault)) y h = (h.0, ap outcome_of h.1)

near_of_reaches : (W : Owed) (k e : ℕ) (f c : ℕ → ℕ → Outcome) → ((n d : ℕ) → Reaches W KeepsLocation (f n d) (c (n + k) (d + e))) → ((n d : ℕ) → Reaches W KeptLocation (c n d) (f (n + k) (d + e))) → IsNearBy W k e f c
near_of_reaches W k e f c there back = record {
  ended = λ n d sofar status location is. subst (λ o. Reaches W KeepsLocation o (c (n + k) (d + e))) is (there n d);
  ended_only = λ n d sofar status location is. subst (λ o. Reaches W KeptLocation o (f (n + k) (d + e))) is (back n d);
  cut = λ n d sofar is. subst (λ o. Reaches W KeepsLocation o (c (n + k) (d + e))) is (there n d);
  cut_only = λ n d sofar is. subst (λ o. Reaches W KeptLocation o (f (n + k) (d + e))) is (back n d);
  wrong = λ n d fault is. subst (λ o. Reaches W KeepsLocation o (c (n + k) (d + e))) is (there n d);
  wrong_only = λ n d fault is. subst (λ o. Reaches W KeptLocation o (f (n + k) (d + e))) is (back n d);
}

-- Each goes at least as far as the other at all bounds that are large enough. One number k serves the turn more of
-- a loop that tests inside its body and the turns of all helpers, since it bounds each execution of a loop by itself.
pub near_of_below : {S S' : Type 0} (W : Owed) (R : Link S ℕ S' ℕ) (R' : Link S' ℕ S ℕ) → ((a : ℕ) (s : S) (a' : ℕ) (s' : S') → R a s a' s' → a' ≡ a) → ((a : ℕ) (s : S') (a' : ℕ) (s' : S) → R' a s a' s' → a' ≡ a) → (k e : ℕ) (x : ℕ → ℕ → Stretch S ℕ) (y : ℕ → ℕ → Stretch S' ℕ) → ((n n' d d' : ℕ) → n + k ≤ n' → d + e ≤ d' → Below W KeepsLocation R (x n d) (y n' d')) → ((n n' d d' : ℕ) → n + k ≤ n' → d + e ≤ d' → Below W KeptLocation R' (y n d) (x n' d')) → IsNearBy W k e (λ n d. outcome_of (x n d)) (λ n d. outcome_of (y n d))
near_of_below W R R' same same' k e x y there back =
    near_of_reaches W k e (λ n d. outcome_of (x n d)) (λ n d. outcome_of (y n d))
    (λ n d. reaches W KeepsLocation R tt same (x n d) (y (n + k) (d + e)) (there n (n + k) d (d + e) (omega arith) (omega arith)))
    (λ n d. reaches W KeptLocation R' tt same' (y n d) (x (n + k) (d + e)) (back n (n + k) d (d + e) (omega arith) (omega arith)))

keeps_same : (p : Option Location) → KeepsLocation p p
keeps_same None = tt
keeps_same (Some p) = refl

-- Meanings that are equal at all bounds are near, within any larger ones.
pub near_of_equal : (W : Owed) (k e : ℕ) (f c : ℕ → ℕ → Outcome) → IsMonotone f → ((n d : ℕ) → c n d ≡ f n d) → ((n d : ℕ) (fault : Fault) → f n d ≡ Wrong fault → W fault) → IsNearBy W k e f c
near_of_equal W k e f c larger same owed = record {
  ended = λ n d sofar status location is. (location, keeps_same location, same (n + k) (d + e) ∙ larger.ended n (n + k) d (d + e) (omega arith) (omega arith) sofar status location is);
  ended_only = λ n d sofar status location is. (location, keeps_same location, larger.ended n (n + k) d (d + e) (omega arith) (omega arith) sofar status location (sym (same n d) ∙ is));
  cut = λ n d sofar is. subst (Extends sofar) (sym (same (n + k) (d + e))) (larger.cut n (n + k) d (d + e) (omega arith) (omega arith) sofar is);
  cut_only = λ n d sofar is. larger.cut n (n + k) d (d + e) (omega arith) (omega arith) sofar (sym (same n d) ∙ is);
  wrong = λ n d fault is. (owed n d fault is, same (n + k) (d + e) ∙ larger.wrong n (n + k) d (d + e) (omega arith) (omega arith) fault is);
  wrong_only = λ n d fault is. (owed n d fault (sym (same n d) ∙ is), larger.wrong n (n + k) d (d + e) (omega arith) (omega arith) fault (sym (same n d) ∙ is));
}

-- what is away on both sides, where that may come
pub below_away : {S A S' A' : Type 0} (W : Owed) (P : Option Location → Option Location → Type 0) (Q : S → S' → Type 0) (R : Link S A S' A') → ((sofar : Written) → W (Away sofar)) → BelowFrom W P Q R away away
below_away W P Q R owed s s' w q = (owed w, refl)

-- Near but for what is away: each side is away where the other is, with the same output, and has a rule elsewhere.
pub away_alike : (k e : ℕ) (f c : ℕ → ℕ → Outcome) → IsNearBy OnlyAway k e f c → (n d : ℕ) (sofar : Written) → f n d ≡ Wrong (Away sofar) → c (n + k) (d + e) ≡ Wrong (Away sofar)
away_alike k e f c h n d sofar is = (h.wrong n d (Away sofar) is).1

pub never_else : (k e : ℕ) (f c : ℕ → ℕ → Outcome) → IsNearBy OnlyAway k e f c → (n d : ℕ) (fault : Fault) → f n d ≡ Wrong fault → OnlyAway fault
never_else k e f c h n d fault is = (h.wrong n d fault is).0

-- Links of near meanings, one behind another, and wider bounds.
use Rattle.std.proofs.Common.{◌≡◌, ℕ, ◌+◌, ◌*◌, ◌≤◌, List, refl, sym, ap, subst, ◌∙◌, arith, length}
use Rattle.lf_base.specs.Outcome.{Written, Outcome, Ended, Cut, Wrong, Extends, Owed, Never, Meaning}
use Rattle.lf_base.specs.Near.{IsNearBy, slack, Near, Agree, IsMonotone}
use Rattle.lf_base.proofs.Outcomes.{extends_more, keeps_more}

abbrev Bounded : Type 0
Bounded = ℕ → ℕ → Outcome

-- the same meaning at bounds that are written otherwise
at_bounds : (m : Bounded) (n n' d d' : ℕ) (o : Outcome) → n ≡ n' → d ≡ d' → m n d ≡ o → m n' d' ≡ o
at_bounds m n n' d d' o p q h = ap (λ x. m x d') (sym p) ∙ ap (λ y. m n y) (sym q) ∙ h

extends_at : (m : Bounded) (n n' d d' : ℕ) (sofar : Written) → n ≡ n' → d ≡ d' → Extends sofar (m n d) → Extends sofar (m n' d')
extends_at m n n' d d' sofar p q h = subst (λ o. Extends sofar o) (sym (at_bounds m n n' d d' (m n d) p q refl)) h

extends_by : (sofar : Written) (o o' : Outcome) → o ≡ o' → Extends sofar o' → Extends sofar o
extends_by sofar o o' e h = subst (λ x. Extends sofar x) (sym e) h

module _ (W : Owed) (k e k' e' : ℕ) (f g h : Bounded) (p : IsNearBy W k e f g) (q : IsNearBy W k' e' g h) where
  assoc : (n a b : ℕ) → (n + a) + b ≡ n + (a + b)
  assoc n a b = omega arith

  swapped : (n a b : ℕ) → (n + b) + a ≡ n + (a + b)
  swapped n a b = omega arith

  ahead : (n d : ℕ) (sofar : Written) (o : Outcome) → g (n + k) (d + e) ≡ o → Extends sofar o → Extends sofar (h (n + (k + k')) (d + (e + e')))
  ahead n d sofar (Ended later status location) is x =
      let y = q.ended (n + k) (d + e) later status location is in
      extends_by sofar (h (n + (k + k')) (d + (e + e'))) (Ended later status y.0) (at_bounds h _ _ _ _ _ (assoc n k k') (assoc d e e') y.2) x
  ahead n d sofar (Cut later) is x = extends_more sofar later (h (n + (k + k')) (d + (e + e'))) x (extends_at h _ _ _ _ later (assoc n k k') (assoc d e e') (q.cut (n + k) (d + e) later is))
  ahead n d sofar (Wrong fault) is x = extends_by sofar (h (n + (k + k')) (d + (e + e'))) (Wrong fault) (at_bounds h _ _ _ _ _ (assoc n k k') (assoc d e e') (q.wrong (n + k) (d + e) fault is).1) x

  behind : (n d : ℕ) (sofar : Written) (o : Outcome) → g (n + k') (d + e') ≡ o → Extends sofar o → Extends sofar (f (n + (k + k')) (d + (e + e')))
  behind n d sofar (Ended later status location) is x =
      let y = p.ended_only (n + k') (d + e') later status location is in
      extends_by sofar (f (n + (k + k')) (d + (e + e'))) (Ended later status y.0) (at_bounds f _ _ _ _ _ (swapped n k k') (swapped d e e') y.2) x
  behind n d sofar (Cut later) is x = extends_more sofar later (f (n + (k + k')) (d + (e + e'))) x (extends_at f _ _ _ _ later (swapped n k k') (swapped d e e') (p.cut_only (n + k') (d + e') later is))
  behind n d sofar (Wrong fault) is x = extends_by sofar (f (n + (k + k')) (d + (e + e'))) (Wrong fault) (at_bounds f _ _ _ _ _ (swapped n k k') (swapped d e e') (p.wrong_only (n + k') (d + e') fault is).1) x

  pub near_further : IsNearBy W (k + k') (e + e') f h
  near_further = record {
    ended = λ n d sofar status location is.
        let x = p.ended n d sofar status location is in
        let y = q.ended (n + k) (d + e) sofar status x.0 x.2 in
        (y.0, keeps_more location x.0 y.0 x.1 y.1, at_bounds h _ _ _ _ _ (assoc n k k') (assoc d e e') y.2);
    ended_only = λ n d sofar status location is.
        let x = q.ended_only n d sofar status location is in
        let y = p.ended_only (n + k') (d + e') sofar status x.0 x.2 in
        (y.0, keeps_more y.0 x.0 location y.1 x.1, at_bounds f _ _ _ _ _ (swapped n k k') (swapped d e e') y.2);
    cut = λ n d sofar is. ahead n d sofar (g (n + k) (d + e)) refl (p.cut n d sofar is);
    cut_only = λ n d sofar is. behind n d sofar (g (n + k') (d + e')) refl (q.cut_only n d sofar is);
    wrong = λ n d fault is.
        let x = p.wrong n d fault is in
        (x.0, at_bounds h _ _ _ _ _ (assoc n k k') (assoc d e e') (q.wrong (n + k) (d + e) fault x.1).1);
    wrong_only = λ n d fault is.
        let x = q.wrong_only n d fault is in
        (x.0, at_bounds f _ _ _ _ _ (swapped n k k') (swapped d e e') (p.wrong_only (n + k') (d + e') fault x.1).1);
  }

-- what was cut, at larger bounds
grown : (m : Bounded) → IsMonotone m → (n n' d d' : ℕ) → n ≤ n' → d ≤ d' → (sofar : Written) (o : Outcome) → m n d ≡ o → Extends sofar o → Extends sofar (m n' d')
grown m mono n n' d d' ln ld sofar (Ended later status location) is x = extends_by sofar (m n' d') (Ended later status location) (mono.ended n n' d d' ln ld later status location is) x
grown m mono n n' d d' ln ld sofar (Cut later) is x = extends_more sofar later (m n' d') x (mono.cut n n' d d' ln ld later is)
grown m mono n n' d d' ln ld sofar (Wrong fault) is x = extends_by sofar (m n' d') (Wrong fault) (mono.wrong n n' d d' ln ld fault is) x

pub near_wider : (W : Owed) (k e k' e' : ℕ) (f c : Bounded) → IsMonotone f → IsMonotone c → k ≤ k' → e ≤ e' → IsNearBy W k e f c → IsNearBy W k' e' f c
near_wider W k e k' e' f c mf mc lk le p = record {
  ended = λ n d sofar status location is.
      let x = p.ended n d sofar status location is in
      (x.0, x.1, mc.ended (n + k) (n + k') (d + e) (d + e') (omega arith) (omega arith) sofar status x.0 x.2);
  ended_only = λ n d sofar status location is.
      let x = p.ended_only n d sofar status location is in
      (x.0, x.1, mf.ended (n + k) (n + k') (d + e) (d + e') (omega arith) (omega arith) sofar status x.0 x.2);
  cut = λ n d sofar is. grown c mc (n + k) (n + k') (d + e) (d + e') (omega arith) (omega arith) sofar (c (n + k) (d + e)) refl (p.cut n d sofar is);
  cut_only = λ n d sofar is. grown f mf (n + k) (n + k') (d + e) (d + e') (omega arith) (omega arith) sofar (f (n + k) (d + e)) refl (p.cut_only n d sofar is);
  wrong = λ n d fault is.
      let x = p.wrong n d fault is in
      (x.0, mc.wrong (n + k) (n + k') (d + e) (d + e') (omega arith) (omega arith) fault x.1);
  wrong_only = λ n d fault is.
      let x = p.wrong_only n d fault is in
      (x.0, mf.wrong (n + k) (n + k') (d + e) (d + e') (omega arith) (omega arith) fault x.1);
}

-- Seven links give the bounds of seven, and so those of eight.
pub seven_links : (f0 f1 f2 f3 f4 f5 f6 f7 : Meaning) → ((input : List ℕ) → IsMonotone (f0 input)) → ((input : List ℕ) → IsMonotone (f7 input)) → Near f0 f1 → Near f1 f2 → Near f2 f3 → Near f3 f4 → Near f4 f5 → Near f5 f6 → Near f6 f7 → Agree f0 f7
seven_links f0 f1 f2 f3 f4 f5 f6 f7 m0 m7 l1 l2 l3 l4 l5 l6 l7 = record {
  on = λ input.
      let k : ℕ = slack (length input) in
      let a2 = near_further Never _ _ _ _ _ _ _ (l1.on input) (l2.on input) in
      let a3 = near_further Never _ _ _ _ _ _ _ a2 (l3.on input) in
      let a4 = near_further Never _ _ _ _ _ _ _ a3 (l4.on input) in
      let a5 = near_further Never _ _ _ _ _ _ _ a4 (l5.on input) in
      let a6 = near_further Never _ _ _ _ _ _ _ a5 (l6.on input) in
      let a7 = near_further Never _ _ _ _ _ _ _ a6 (l7.on input) in
      near_wider Never _ _ (8 * k) 64 (f0 input) (f7 input) (m0 input) (m7 input) (omega arith) (omega arith) a7;
}

-- One link is within the bounds of eight.
pub one_link : (f c : Meaning) → ((input : List ℕ) → IsMonotone (f input)) → ((input : List ℕ) → IsMonotone (c input)) → Near f c → Agree f c
one_link f c mf mc l = record {
  on = λ input. near_wider Never _ _ (8 * slack (length input)) 64 (f input) (c input) (mf input) (mc input) (omega arith) (omega arith) (l.on input);
}

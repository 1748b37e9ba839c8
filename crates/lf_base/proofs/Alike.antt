-- Straight-line code: one law for both directions, with no premise on what writes more.
use Rattle.std.proofs.Common.{Option, refl, sym, ap, subst}
use Rattle.lf_base.specs.Outcome.{Location, Ended, Cut, Wrong, Owed}
use Rattle.lf_base.specs.Acts.{Stretch, Going, Stopped, Act, then_do, bind, give}
use Rattle.lf_base.specs.Order.{Link, Below, BelowFrom}
use Rattle.lf_base.specs.Alike.{Alike, AlikeFrom}
use Rattle.lf_base.proofs.Outcomes.{begun_same}

module _ {S S' : Type 0} (P : Option Location → Option Location → Type 0) where
  pub alike_then : {A A' B B' : Type 0} (R : Link S A S' A') (T : Link S B S' B') (x : Stretch S A) (y : Stretch S' A') (go : A → Act S B) (go' : A' → Act S' B') → Alike P R x y → ((a : A) (a' : A') → AlikeFrom P (λ s s'. R a s a' s') T (go a) (go' a')) → Alike P T (then_do x go) (then_do y go')
  alike_then R T (Going a s w) y go go' h k = subst (λ z. Alike P T (go a s w) (then_do z go')) (sym h.3) (k a h.0 s h.1 w h.2)
  alike_then R T (Stopped (Ended w status location)) y go go' h k = (h.0, h.1, ap (λ z. then_do z go') h.2)
  alike_then R T (Stopped (Cut w)) y go go' h k = ap (λ z. then_do z go') h
  alike_then R T (Stopped (Wrong fault)) y go go' h k = absurd h

  pub alike_bind : {A A' B B' : Type 0} (Q : S → S' → Type 0) (R : Link S A S' A') (T : Link S B S' B') (act : Act S A) (act' : Act S' A') (go : A → Act S B) (go' : A' → Act S' B') → AlikeFrom P Q R act act' → ((a : A) (a' : A') → AlikeFrom P (λ s s'. R a s a' s') T (go a) (go' a')) → AlikeFrom P Q T (bind act go) (bind act' go')
  alike_bind Q R T act act' go go' h k s s' w q = alike_then R T (act s w) (act' s' w) go go' (h s s' w q) k

  pub alike_give : {A A' : Type 0} (Q : S → S' → Type 0) (R : Link S A S' A') (a : A) (a' : A') → ((s : S) (s' : S') → Q s s' → R a s a' s') → AlikeFrom P Q R (give a) (give a')
  alike_give Q R a a' h s s' w q = (a', s', h s s' q, refl)

  -- more is related than is asked for
  pub alike_weaker : {A A' : Type 0} (R T : Link S A S' A') (x : Stretch S A) (y : Stretch S' A') → ((a : A) (s : S) (a' : A') (s' : S') → R a s a' s' → T a s a' s') → Alike P R x y → Alike P T x y
  alike_weaker R T (Going a s w) y k h = (h.0, h.1, k a s h.0 h.1 h.2, h.3)
  alike_weaker R T (Stopped (Ended w status location)) y k h = h
  alike_weaker R T (Stopped (Cut w)) y k h = h
  alike_weaker R T (Stopped (Wrong fault)) y k h = h

  below_of : {A A' : Type 0} (W : Owed) (R : Link S A S' A') (x : Stretch S A) (y : Stretch S' A') → Alike P R x y → Below W P R x y
  below_of W R (Going a s w) y h = h
  below_of W R (Stopped (Ended w status location)) y h = h
  below_of W R (Stopped (Cut w)) y h = subst (λ z. Below W P R (Stopped (Cut w)) z) (sym h) (begun_same w)
  below_of W R (Stopped (Wrong fault)) y h = absurd h

  -- the order from the first to the second
  pub alike_there : {A A' : Type 0} (W : Owed) (Q : S → S' → Type 0) (R : Link S A S' A') (act : Act S A) (act' : Act S' A') → AlikeFrom P Q R act act' → BelowFrom W P Q R act act'
  alike_there W Q R act act' h s s' w q = below_of W R (act s w) (act' s' w) (h s s' w q)

  turned : {A A' : Type 0} (W : Owed) (R : Link S A S' A') (x : Stretch S A) (y : Stretch S' A') → Alike P R x y → Below W (λ p q. P q p) (λ a' s' a s. R a s a' s') y x
  turned W R (Going a s w) y h = subst (λ z. Below W (λ p q. P q p) (λ a' s' a s. R a s a' s') z (Going a s w)) (sym h.3) (a, s, h.2, refl)
  turned W R (Stopped (Ended w status location)) y h = subst (λ z. Below W (λ p q. P q p) (λ a' s' a s. R a s a' s') z (Stopped (Ended w status location))) (sym h.2) (location, h.1, refl)
  turned W R (Stopped (Cut w)) y h = subst (λ z. Below W (λ p q. P q p) (λ a' s' a s. R a s a' s') z (Stopped (Cut w))) (sym h) (begun_same w)
  turned W R (Stopped (Wrong fault)) y h = absurd h

  -- the order from the second to the first
  pub alike_back : {A A' : Type 0} (W : Owed) (Q : S → S' → Type 0) (R : Link S A S' A') (act : Act S A) (act' : Act S' A') → AlikeFrom P Q R act act' → BelowFrom W (λ p q. P q p) (λ s' s. Q s s') (λ a' s' a s. R a s a' s') act' act
  alike_back W Q R act act' h s' s w q = turned W R (act s w) (act' s' w) (h s s' w q)

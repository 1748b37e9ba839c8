-- The lemmas on links at equal states: a loop that tests first beside the same loop with its test inside.
use Rattle.std.proofs.Common.{◌≡◌, ℕ, ◌+◌, ◌≤◌, Bool, true, Option, Some, None, refl, sym, subst}
use Rattle.lf_base.specs.Outcome.{Location, Written, Ended, Cut, Wrong, KeepsLocation, Any}
use Rattle.lf_base.specs.Acts.{Stretch, Going, Stopped, Act, give, iterate}
use Rattle.lf_base.specs.Order.{Grows, Below, BelowFrom, Link, Same}
use Rattle.lf_base.specs.Loops.{with_test, Exited}
use Rattle.lf_base.proofs.Outcomes.{begun_same}
use Rattle.lf_base.proofs.Stretches.{Left, Tested, below_weaker}
use Rattle.lf_base.proofs.Inside.{inside_there}

abbrev Q : (S : Type 0) → S → S → Type 0
Q S s s' = s' ≡ s

keeps_same : (p : Option Location) → KeepsLocation p p
keeps_same None = tt
keeps_same (Some p) = refl

-- what goes as far as itself
self : {S A : Type 0} (R : Link S A S A) → ((a : A) (s : S) → R a s a s) → (x : Stretch S A) → Below Any KeepsLocation R x x
self R r (Going a s w) = (a, s, r a s, refl)
self R r (Stopped (Ended w k p)) = (p, keeps_same p, refl)
self R r (Stopped (Cut w)) = begun_same w
self R r (Stopped (Wrong f)) = (tt, refl)

from_self : {S A : Type 0} (R : Link S A S A) → ((a : A) (s : S) → R a s a s) → (act : Act S A) → BelowFrom Any KeepsLocation (Q S) R act act
from_self R r act s s' w e = subst (λ z. Below Any KeepsLocation R (act s w) (act z w)) (sym e) (self R r (act s w))

left_same : {S B : Type 0} (o : Option B) (s : S) → Left Any KeepsLocation (Q S) (Same {S = S} {A = B}) o s o s
left_same None s = refl
left_same (Some b) s = (refl, refl)

state_same : {S B : Type 0} (out : B) (o : Option B) (s : S) (o' : Option B) (s' : S) → Exited (Q S) (Same {S = S} {A = B}) out o s o' s' → s' ≡ s
state_same out o s None s' h = absurd h
state_same out None s (Some b') s' h = h.1
state_same out (Some b) s (Some b') s' h = h.1

pub same_inside : {S B : Type 0} (out : B) (n n' : ℕ) → n + 1 ≤ n' → (test : Act S Bool) (body : Act S (Option B)) → Grows test → Grows body → (state : S) (sofar : Written) → Below Any KeepsLocation (λ o s o' s'. s' ≡ s) (iterate n test body state sofar) (iterate n' (give true) (with_test out test body) state sofar)
same_inside {S} {B} out n n' le test body gt gb state sofar =
    below_weaker Any KeepsLocation (Exited (Q S) Same out) (λ o s o' s'. s' ≡ s) (state_same out) (iterate n test body state sofar) (iterate n' (give true) (with_test out test body) state sofar)
    (inside_there Any KeepsLocation (Q S) Same out n n' le test test body body gt gb (from_self (Tested {B = B} {B' = B} Any KeepsLocation (Q S) Same) (λ t s. (refl, refl)) test) (from_self (Left Any KeepsLocation (Q S) Same) left_same body) state state sofar refl)

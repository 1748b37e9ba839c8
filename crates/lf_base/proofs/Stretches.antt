-- The order of outcomes goes through each combinator.
use Rattle.std.proofs.Common.{◌≡◌, ℕ, zero, suc, ◌≤◌, Bool, true, false, List, Option, Some, None, refl, sym, ap, subst, arith, [], ◌∷◌, cond}
use Rattle.std.specs.List.{AllByRecursion}
use Rattle.lf_base.specs.Outcome.{Location, Written, Fault, Ended, Cut, Wrong, IsBegun, Began, Owed, Any}
use Rattle.lf_base.specs.Acts.{Stretch, Going, Stopped, Act, then_do, bind, give, look, change, print, complain, stop, trap, cut, wrong, away, given, next_or, in_order, within, turn, iterate}
use Rattle.lf_base.specs.declared.trap.Trap.{Trap}
use Rattle.lf_base.specs.Order.{ExtendsIn, Grows, Link, Below, BelowFrom, Same}
use Rattle.lf_base.proofs.Outcomes.{front_same, front_append, begun_same, begun_more, extends_more}

module _ {S A : Type 0} where
  pub extends_in_more : (a b : Written) (x : Stretch S A) → IsBegun a b → ExtendsIn b x → ExtendsIn a x
  extends_in_more a b (Going value state later) p q = begun_more a b later p q
  extends_in_more a b (Stopped outcome) p q = extends_more a b outcome p q

-- an act behind a stretch
pub extends_then : {S A B : Type 0} (sofar : Written) (x : Stretch S A) (go : A → Act S B) → ((a : A) → Grows (go a)) → ExtendsIn sofar x → ExtendsIn sofar (then_do x go)
extends_then sofar (Going value state later) go more h = extends_in_more sofar later (go value state later) h (more value state later)
extends_then sofar (Stopped outcome) go more h = h

pub grows_bind : {S A B : Type 0} (act : Act S A) (go : A → Act S B) → Grows act → ((a : A) → Grows (go a)) → Grows (bind act go)
grows_bind act go h more state sofar = extends_then sofar (act state sofar) go more (h state sofar)

pub grows_give : {S A : Type 0} (value : A) → Grows {S = S} (give value)
grows_give value state sofar = begun_same sofar

pub grows_look : {S A : Type 0} (f : S → A) → Grows (look f)
grows_look f state sofar = begun_same sofar

pub grows_change : {S : Type 0} (f : S → S) → Grows (change f)
grows_change f state sofar = begun_same sofar

pub grows_print : {S : Type 0} (bytes : List ℕ) → Grows {S = S} (print bytes)
grows_print bytes state sofar = record { out = front_append sofar.out bytes; err = front_same sofar.err }

pub grows_complain : {S : Type 0} (bytes : List ℕ) → Grows {S = S} (complain bytes)
grows_complain bytes state sofar = record { out = front_same sofar.out; err = front_append sofar.err bytes }

pub grows_stop : (S A : Type 0) (status : ℕ) → Grows {S = S} {A = A} (stop status)
grows_stop S A status state sofar = begun_same sofar

pub grows_trap : (S A : Type 0) (cause : Trap) (text : List ℕ) (location : Option Location) → Grows {S = S} {A = A} (trap cause text location)
grows_trap S A cause text location state sofar = record { out = front_same sofar.out; err = front_append sofar.err text }

pub grows_cut : (S A : Type 0) → Grows {S = S} {A = A} cut
grows_cut S A state sofar = begun_same sofar

pub grows_wrong : (S A : Type 0) (fault : Fault) → ((sofar : Written) → Began sofar fault) → Grows {S = S} {A = A} (wrong fault)
grows_wrong S A fault began state sofar = began sofar

pub grows_away : (S A : Type 0) → Grows {S = S} {A = A} away
grows_away S A state sofar = begun_same sofar

pub grows_given : (S : Type 0) {A : Type 0} (fault : Fault) → ((sofar : Written) → Began sofar fault) → (o : Option A) → Grows {S = S} (given fault o)
grows_given S {A} fault began None = grows_wrong S A fault began
grows_given S fault began (Some value) = grows_give value

pub grows_next : {S B : Type 0} (more : Act S (Option B)) → Grows more → (o : Option B) → Grows (next_or more o)
grows_next more h None = h
grows_next {S} {B} more h (Some left) = grows_give {A = Option B} (Some left)

pub grows_order : {S B : Type 0} (acts : List (Act S (Option B))) → AllByRecursion (Grows) acts → Grows (in_order acts)
grows_order {S} {B} [] h = grows_give {A = Option B} None
grows_order (act ∷ acts) h = grows_bind act (next_or (in_order acts)) h.0 (grows_next (in_order acts) (grows_order acts h.1))

-- one of two, by a truth value
pub grows_cond : {S A : Type 0} (b : Bool) (x y : Act S A) → Grows x → Grows y → Grows (cond b x y)
grows_cond true x y g h = g
grows_cond false x y g h = h

pub grows_within : {S A : Type 0} (enter : S → S) (leave : S → S → S) (act : Act S A) → Grows act → Grows (within enter leave act)
grows_within enter leave act h state sofar = extends_then sofar (act (enter state) sofar) (λ value inner later. Going value (leave state inner) later) (λ a s w. begun_same w) (h (enter state) sofar)

pub grows_turn : {S B : Type 0} (body more : Act S (Option B)) → Grows body → Grows more → (t : Bool) → Grows (turn body more t)
grows_turn body more h k true = grows_bind body (next_or more) h (grows_next more k)
grows_turn {S} {B} body more h k false = grows_give {A = Option B} None

pub grows_iterate : {S B : Type 0} (n : ℕ) (test : Act S Bool) (body : Act S (Option B)) → Grows test → Grows body → Grows (iterate n test body)
grows_iterate {S} {B} zero test body t b = grows_bind test (turn cut cut) t (grows_turn cut cut (grows_cut S (Option B)) (grows_cut S (Option B)))
grows_iterate (suc n) test body t b = grows_bind test (turn body (iterate n test body)) t (grows_turn body (iterate n test body) b (grows_iterate n test body t b))

module _ {S S' : Type 0} (W : Owed) (P : Option Location → Option Location → Type 0) where
  pub below_then : {A A' B B' : Type 0} (Q : Link S A S' A') (R : Link S B S' B') (x : Stretch S A) (y : Stretch S' A') (go : A → Act S B) (go' : A' → Act S' B') → Below W P Q x y → ((a : A) (s : S) (a' : A') (s' : S') (sofar : Written) → Q a s a' s' → Below W P R (go a s sofar) (go' a' s' sofar)) → ((a' : A') → Grows (go' a')) → Below W P R (then_do x go) (then_do y go')
  below_then Q R (Going value state sofar) y go go' h k more = subst (λ z. Below W P R (go value state sofar) (then_do z go')) (sym h.3) (k value state h.0 h.1 sofar h.2)
  below_then Q R (Stopped (Ended sofar status location)) y go go' h k more = (h.0, h.1, ap (λ z. then_do z go') h.2)
  below_then Q R (Stopped (Cut sofar)) y go go' h k more = extends_then sofar y go' more h
  below_then Q R (Stopped (Wrong fault)) y go go' h k more = (h.0, ap (λ z. then_do z go') h.1)

  pub below_bind : {A A' B B' : Type 0} (Q : S → S' → Type 0) (R : Link S A S' A') (T : Link S B S' B') (act : Act S A) (act' : Act S' A') (go : A → Act S B) (go' : A' → Act S' B') → BelowFrom W P Q R act act' → ((a : A) (a' : A') → BelowFrom W P (λ s s'. R a s a' s') T (go a) (go' a')) → ((a' : A') → Grows (go' a')) → BelowFrom W P Q T (bind act go) (bind act' go')
  below_bind Q R T act act' go go' h k more state state' sofar r = below_then R T (act state sofar) (act' state' sofar) go go' (h state state' sofar r) (λ a s a' s' w q. k a a' s s' w q) more

  pub below_give : {A A' : Type 0} (Q : S → S' → Type 0) (R : Link S A S' A') (a : A) (a' : A') → ((s : S) (s' : S') → Q s s' → R a s a' s') → BelowFrom W P Q R (give a) (give a')
  below_give Q R a a' h state state' sofar r = (a', state', h state state' r, refl)

  -- A cut is below whatever writes more.
  pub below_cut : {A A' : Type 0} (Q : S → S' → Type 0) (R : Link S A S' A') (act' : Act S' A') → Grows act' → BelowFrom W P Q R cut act'
  below_cut Q R act' more state state' sofar r = more state' sofar

-- a loop, where the second may make more turns
module _ {S S' B B' : Type 0} (W : Owed) (P : Option Location → Option Location → Type 0) (Q : S → S' → Type 0) (L : Link S B S' B') where
  -- both go on, or both are left with related values
  abbrev pub Left : Link S (Option B) S' (Option B')
  Left None s None s' = Q s s'
  Left None s (Some b') s' = ⊥
  Left (Some b) s None s' = ⊥
  Left (Some b) s (Some b') s' = L b s b' s'

  -- both tests hold, or both fail
  abbrev pub Tested : Link S Bool S' Bool
  Tested t s t' s' = (t' ≡ t) × Q s s'

  pub next_below : (more : Act S (Option B)) (more' : Act S' (Option B')) → BelowFrom W P Q Left more more' → (o : Option B) (o' : Option B') → BelowFrom W P (λ s s'. Left o s o' s') Left (next_or more o) (next_or more' o')
  next_below more more' h None None = h
  next_below more more' h None (Some b') = λ s s' w r. absurd r
  next_below more more' h (Some b) None = λ s s' w r. absurd r
  next_below more more' h (Some b) (Some b') = λ s s' w r. (Some b', s', r, refl)

  -- acts in order, each below its fellow
  abbrev pub OrderBelow : List (Act S (Option B)) → List (Act S' (Option B')) → Type 0
  OrderBelow [] [] = Unit {0}
  OrderBelow [] (b ∷ ys) = ⊥
  OrderBelow (a ∷ xs) [] = ⊥
  OrderBelow (a ∷ xs) (b ∷ ys) = BelowFrom W P Q Left a b × Grows b × OrderBelow xs ys

  order_grows : (xs : List (Act S (Option B))) (ys : List (Act S' (Option B'))) → OrderBelow xs ys → Grows (in_order ys)
  order_grows xs [] h = grows_order {B = B'} [] tt
  order_grows [] (b ∷ ys) h = absurd h
  order_grows (a ∷ xs) (b ∷ ys) h = grows_bind b (next_or (in_order ys)) h.1 (grows_next (in_order ys) (order_grows xs ys h.2))

  pub order_below : (xs : List (Act S (Option B))) (ys : List (Act S' (Option B'))) → OrderBelow xs ys → BelowFrom W P Q Left (in_order xs) (in_order ys)
  order_below [] [] h = λ s s' w r. (None, s', r, refl)
  order_below [] (b ∷ ys) h = absurd h
  order_below (a ∷ xs) [] h = absurd h
  order_below (a ∷ xs) (b ∷ ys) h = below_bind W P Q Left Left a b (next_or (in_order xs)) (next_or (in_order ys)) h.0 (next_below (in_order xs) (in_order ys) (order_below xs ys h.2)) (grows_next (in_order ys) (order_grows xs ys h.2))

  turn_below : (body more : Act S (Option B)) (body' more' : Act S' (Option B')) → BelowFrom W P Q Left body body' → BelowFrom W P Q Left more more' → Grows more' → (t t' : Bool) → BelowFrom W P (λ s s'. Tested t s t' s') Left (turn body more t) (turn body' more' t')
  turn_below body more body' more' h k g true true = λ s s' w r. below_bind W P Q Left Left body body' (next_or more) (next_or more') h (next_below more more' k) (grows_next more' g) s s' w r.1
  turn_below body more body' more' h k g false false = λ s s' w r. (None, s', r.1, refl)
  turn_below body more body' more' h k g true false = λ s s' w r. absurd (cc r.0)
  turn_below body more body' more' h k g false true = λ s s' w r. absurd (cc r.0)

  cut_turn_below : (body' more' : Act S' (Option B')) → Grows body' → Grows more' → (t t' : Bool) → BelowFrom W P (λ s s'. Tested t s t' s') Left (turn cut cut t) (turn body' more' t')
  cut_turn_below body' more' h g true true = λ s s' w r. grows_turn body' more' h g true s' w
  cut_turn_below body' more' h g false false = λ s s' w r. (None, s', r.1, refl)
  cut_turn_below body' more' h g true false = λ s s' w r. absurd (cc r.0)
  cut_turn_below body' more' h g false true = λ s s' w r. absurd (cc r.0)

  pub iterate_below : (n n' : ℕ) → n ≤ n' → (test : Act S Bool) (test' : Act S' Bool) (body : Act S (Option B)) (body' : Act S' (Option B')) → BelowFrom W P Q Tested test test' → BelowFrom W P Q Left body body' → Grows test' → Grows body' → BelowFrom W P Q Left (iterate n test body) (iterate n' test' body')
  iterate_below zero zero le test test' body body' t b gt gb = below_bind W P Q Tested Left test test' (turn cut cut) (turn cut cut) t (cut_turn_below cut cut (grows_cut S' (Option B')) (grows_cut S' (Option B'))) (grows_turn cut cut (grows_cut S' (Option B')) (grows_cut S' (Option B')))
  iterate_below zero (suc n') le test test' body body' t b gt gb = below_bind W P Q Tested Left test test' (turn cut cut) (turn body' (iterate n' test' body')) t (cut_turn_below body' (iterate n' test' body') gb (grows_iterate n' test' body' gt gb)) (grows_turn body' (iterate n' test' body') gb (grows_iterate n' test' body' gt gb))
  iterate_below (suc n) zero le test test' body body' t b gt gb = absurd (omega arith)
  iterate_below (suc n) (suc n') le test test' body body' t b gt gb = below_bind W P Q Tested Left test test' (turn body (iterate n test body)) (turn body' (iterate n' test' body')) t (turn_below body (iterate n test body) body' (iterate n' test' body') b (iterate_below n n' (omega arith) test test' body body' t b gt gb) (grows_iterate n' test' body' gt gb)) (grows_turn body' (iterate n' test' body') gb (grows_iterate n' test' body' gt gb))

-- What goes as far as itself.
pub below_self : {S A : Type 0} (x : Stretch S A) → Below Any (λ p q. q ≡ p) Same x x
below_self (Going value state sofar) = (value, state, (refl, refl), refl)
below_self (Stopped (Ended sofar status location)) = (location, refl, refl)
below_self (Stopped (Cut sofar)) = begun_same sofar
below_self (Stopped (Wrong fault)) = (tt, refl)

-- the same with a weaker relation of what goes on
pub below_weaker : {S A S' A' : Type 0} (W : Owed) (P : Option Location → Option Location → Type 0) (R T : Link S A S' A') → ((a : A) (s : S) (a' : A') (s' : S') → R a s a' s' → T a s a' s') → (x : Stretch S A) (y : Stretch S' A') → Below W P R x y → Below W P T x y
below_weaker W P R T k (Going value state sofar) y h = (h.0, h.1, k value state h.0 h.1 h.2, h.3)
below_weaker W P R T k (Stopped (Ended sofar status location)) y h = h
below_weaker W P R T k (Stopped (Cut sofar)) y h = h
below_weaker W P R T k (Stopped (Wrong fault)) y h = h

-- nothing is owed where there is no rule, and places are the same
abbrev U : Owed
U = Any

abbrev P : Option Location → Option Location → Type 0
P p q = q ≡ p

abbrev Q : (S : Type 0) → S → S → Type 0
Q S s s' = s' ≡ s

from_self : {S A : Type 0} (act : Act S A) (R : Link S A S A) → ((a : A) (s : S) → R a s a s) → BelowFrom U P (Q S) R act act
from_self {S} act R r s s' w e = subst (λ z. Below U P R (act s w) (act z w)) (sym e) (below_weaker U P Same R (λ a t a' t' h. subst (λ b. R a t b t') (sym h.0) (subst (λ z. R a t a z) (sym h.1) (r a t))) (act s w) (act s w) (below_self (act s w)))

pub left_same : {S B : Type 0} (o : Option B) (s : S) → Left U P (Q S) Same o s o s
left_same None s = refl
left_same (Some b) s = (refl, refl)

pub same_left : {S B : Type 0} (o : Option B) (s : S) (o' : Option B) (s' : S) → Left U P (Q S) Same o s o' s' → Same o s o' s'
same_left None s None s' h = (refl, h)
same_left None s (Some b') s' h = absurd h
same_left (Some b) s None s' h = absurd h
same_left (Some b) s (Some b') s' h = (ap Some h.0, h.1)

-- a loop beside itself with more turns
pub loop_larger : {S B : Type 0} (n n' : ℕ) → n ≤ n' → (test : Act S Bool) (body : Act S (Option B)) → Grows test → Grows body → (state : S) (sofar : Written) → Below U P Same (iterate n test body state sofar) (iterate n' test body state sofar)
loop_larger {S} {B} n n' le test body gt gb state sofar =
    below_weaker U P (Left U P (Q S) Same) Same same_left (iterate n test body state sofar) (iterate n' test body state sofar)
    (iterate_below U P (Q S) Same n n' le test test body body (from_self test (Tested {B = B} {B' = B} U P (Q S) Same) (λ t s. (refl, refl))) (from_self body (Left U P (Q S) Same) left_same) gt gb state state sofar refl)

-- an act in a state of its own beside its fellow in one
pub within_below : {S S' A A' : Type 0} (W : Owed) (P : Option Location → Option Location → Type 0) (Q K : S → S' → Type 0) (R T : Link S A S' A') (enter : S → S) (leave : S → S → S) (enter' : S' → S') (leave' : S' → S' → S') (act : Act S A) (act' : Act S' A') → ((s : S) (s' : S') → Q s s' → K (enter s) (enter' s')) → ((s : S) (s' : S') → Q s s' → (a : A) (t : S) (a' : A') (t' : S') → R a t a' t' → T a (leave s t) a' (leave' s' t')) → BelowFrom W P K R act act' → BelowFrom W P Q T (within enter leave act) (within enter' leave' act')
within_below W P Q K R T enter leave enter' leave' act act' into out h state state' sofar q =
    below_then W P R T (act (enter state) sofar) (act' (enter' state') sofar) (λ value inner later. Going value (leave state inner) later) (λ value inner later. Going value (leave' state' inner) later)
    (h (enter state) (enter' state') sofar (into state state' q))
    (λ a s a' s' w r. (a', leave' state' s', out state state' q a s a' s' r, refl))
    (λ a' s w. begun_same w)

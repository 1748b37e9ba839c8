-- Larger bounds keep what ended and only add to what was written: through each combinator.
use Rattle.std.proofs.Common.{◌≡◌, ℕ, ◌≤◌, Bool, List, [], ◌∷◌, map, Option, refl, sym, ap, subst, ◌∙◌, true, false, cond, Some, None}
use Rattle.std.specs.List.{AllByRecursion}
use Rattle.lf_base.specs.Outcome.{Location, Written, Fault, Ended, Cut, Wrong, Extends, Owed, Any}
use Rattle.lf_base.specs.Acts.{Stretch, Going, Stopped, Act, bind, in_order, within, iterate, outcome_of, give, next_or}
use Rattle.lf_base.specs.Order.{ExtendsIn, Grows, Link, Below, BelowFrom, Same}
use Rattle.lf_base.specs.Near.{IsMonotone}
use Rattle.lf_base.specs.Monotone.{SameLocation, NoShorter}
use Rattle.lf_base.proofs.Outcomes.{begun_same}
use Rattle.lf_base.proofs.Stretches.{below_self, below_weaker, below_then, Left, Tested, iterate_below, OrderBelow, order_below, left_same, same_left}

abbrev U : Owed
U = Any

abbrev Q : (S : Type 0) → S → S → Type 0
Q S s s' = s' ≡ s

pub same_self : {S A : Type 0} (act : Act S A) → NoShorter act act
same_self act s w = below_self (act s w)

pub bind_no_shorter : {S A B : Type 0} (act act' : Act S A) (go go' : A → Act S B) → NoShorter act act' → ((a : A) → NoShorter (go a) (go' a)) → ((a : A) → Grows (go' a)) → NoShorter (bind act go) (bind act' go')
bind_no_shorter act act' go go' h k g s w =
    below_then U SameLocation Same Same (act s w) (act' s w) go go' (h s w)
    (λ a t a' t' v r. subst (λ b. Below U SameLocation Same (go a t v) (go' b t' v)) (sym r.0) (subst (λ u. Below U SameLocation Same (go a t v) (go' a u v)) (sym r.1) (k a t v)))
    g

pub cond_no_shorter : {S A : Type 0} (b : Bool) (x x' y : Act S A) → NoShorter x x' → NoShorter (cond b x y) (cond b x' y)
cond_no_shorter true x x' y h = h
cond_no_shorter false x x' y h = same_self y

pub next_no_shorter : {S B : Type 0} (more more' : Act S (Option B)) → NoShorter more more' → (o : Option B) → NoShorter (next_or more o) (next_or more' o)
next_no_shorter more more' h None = h
next_no_shorter {S} {B} more more' h (Some b) = same_self (give {S = S} {A = Option B} (Some b))

-- from states that are the same
from_same : {S A : Type 0} (act act' : Act S A) (R : Link S A S A) → ((a : A) (s : S) → R a s a s) → NoShorter act act' → BelowFrom U SameLocation (Q S) R act act'
from_same act act' R r h s s' w e =
    subst (λ z. Below U SameLocation R (act s w) (act' z w)) (sym e)
    (below_weaker U SameLocation Same R (λ a t a' t' q. subst (λ b. R a t b t') (sym q.0) (subst (λ z. R a t a z) (sym q.1) (r a t))) (act s w) (act' s w) (h s w))

pub iterate_no_shorter : {S B : Type 0} (n n' : ℕ) → n ≤ n' → (test test' : Act S Bool) (body body' : Act S (Option B)) → NoShorter test test' → NoShorter body body' → Grows test' → Grows body' → NoShorter (iterate n test body) (iterate n' test' body')
iterate_no_shorter {S} {B} n n' le test test' body body' h k gt gb s w =
    below_weaker U SameLocation (Left U SameLocation (Q S) Same) Same same_left (iterate n test body s w) (iterate n' test' body' s w)
    (iterate_below U SameLocation (Q S) Same n n' le test test' body body' (from_same test test' (Tested {B = B} {B' = B} U SameLocation (Q S) Same) (λ t z. (refl, refl)) h) (from_same body body' (Left U SameLocation (Q S) Same) left_same k) gt gb s s w refl)

-- acts in order, made of the same list
pub order_no_shorter : {S B X : Type 0} (f g : X → Act S (Option B)) (xs : List X) → AllByRecursion (λ x. NoShorter (f x) (g x) × Grows (g x)) xs → NoShorter (in_order (map f xs)) (in_order (map g xs))
order_no_shorter {S} {B} {X} f g xs h s w =
    below_weaker U SameLocation (Left U SameLocation (Q S) Same) Same same_left (in_order (map f xs) s w) (in_order (map g xs) s w)
    (order_below U SameLocation (Q S) Same (map f xs) (map g xs) (all xs h) s s w refl)
  where
    all : (ys : List X) → AllByRecursion (λ x. NoShorter (f x) (g x) × Grows (g x)) ys → OrderBelow U SameLocation (Q S) (Same {S = S} {A = B}) (map f ys) (map g ys)
    all [] k = tt
    all (y ∷ ys) k = (from_same (f y) (g y) (Left U SameLocation (Q S) Same) left_same k.0.0, k.0.1, all ys k.1)

pub within_no_shorter : {S A : Type 0} (enter : S → S) (leave : S → S → S) (act act' : Act S A) → NoShorter act act' → NoShorter (within enter leave act) (within enter leave act')
within_no_shorter {S} enter leave act act' h s w =
    below_then U SameLocation Same Same (act (enter s) w) (act' (enter s) w) (λ value inner later. Going value (leave s inner) later) (λ value inner later. Going value (leave s inner) later) (h (enter s) w)
    (λ a t a' t' v r. (a', leave s t', (r.0, ap (leave s) r.1), refl))
    (λ a t v. begun_same v)

-- a whole program
pub outcomes_monotone : {S : Type 0} (act : ℕ → ℕ → Act S ℕ) (s : S) (w : Written) → ((n n' d d' : ℕ) → n ≤ n' → d ≤ d' → NoShorter (act n d) (act n' d')) → ((n d : ℕ) → Grows (act n d)) → IsMonotone (λ n d. outcome_of (act n d s w))
outcomes_monotone {S} act s w h g = record {
  ended = λ n n' d d' ln ld sofar status location is. ended (act n d s w) (act n' d' s w) (h n n' d d' ln ld s w) sofar status location is;
  cut = λ n n' d d' ln ld sofar is. was_cut (act n d s w) (act n' d' s w) (h n n' d d' ln ld s w) sofar is;
  wrong = λ n n' d d' ln ld fault is. was_wrong (act n d s w) (act n' d' s w) (h n n' d d' ln ld s w) fault is;
}
  where
    ended : (x y : Stretch S ℕ) → Below U SameLocation Same x y → (sofar : Written) (status : ℕ) (location : Option Location) → outcome_of x ≡ Ended sofar status location → outcome_of y ≡ Ended sofar status location
    ended (Going a t v) y b sofar status location is = ap outcome_of b.3 ∙ ap (λ k. outcome_of (Going k b.1 v)) b.2.0 ∙ is
    ended (Stopped (Ended v k p)) y b sofar status location is = ap outcome_of b.2 ∙ ap (λ q. Ended v k q) b.1 ∙ is
    ended (Stopped (Cut v)) y b sofar status location is = cc
    ended (Stopped (Wrong f)) y b sofar status location is = cc

    extends_out : (y : Stretch S ℕ) (v : Written) → ExtendsIn v y → Extends v (outcome_of y)
    extends_out (Going a t x) v b = b
    extends_out (Stopped o) v b = b

    was_cut : (x y : Stretch S ℕ) → Below U SameLocation Same x y → (sofar : Written) → outcome_of x ≡ Cut sofar → Extends sofar (outcome_of y)
    was_cut (Going a t v) y b sofar is = absurd (cc)
    was_cut (Stopped (Ended v k p)) y b sofar is = absurd (cc)
    was_cut (Stopped (Cut v)) y b sofar is = let e : v ≡ sofar = cc in subst (λ x. Extends x (outcome_of y)) e (extends_out y v b)
    was_cut (Stopped (Wrong f)) y b sofar is = absurd (cc)

    was_wrong : (x y : Stretch S ℕ) → Below U SameLocation Same x y → (fault : Fault) → outcome_of x ≡ Wrong fault → outcome_of y ≡ Wrong fault
    was_wrong (Going a t v) y b fault is = absurd (cc)
    was_wrong (Stopped (Ended v k p)) y b fault is = absurd (cc)
    was_wrong (Stopped (Cut v)) y b fault is = absurd (cc)
    was_wrong (Stopped (Wrong f)) y b fault is = ap outcome_of b.1 ∙ is

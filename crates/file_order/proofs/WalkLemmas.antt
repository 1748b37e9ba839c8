-- The steps of a walk.
use Rattle.std.proofs.Common.{◌≡◌, ◌≢◌, ◌<◌, ◌≤◌, ◌+◌, ◌⊎◌, inl, inr, ⊎_elim, ℕ, Bool, false, Option, Some, None, List, [], ◌∷◌, ◌++◌, length, get_or, set, take, drop, min, sym, ◌∙◌, ap, subst, arith}
use Rattle.std.specs.List.{Contains}
use Rattle.std.specs.Option.{IsSome}
use Rattle.std.proofs.lemmas.Bool.{cases_eq, cases_lt}
use Rattle.std.proofs.lemmas.List.{get_or_append_left, get_or_push, length_push, get_or-set_same, get_or-set_other, length-set, get_or_past, take-append-drop, drop_more, get_or_default}
use Rattle.std.proofs.lemmas.List.Elements.{Contains-append_left, Contains-push, Contains-push_cases}
use Rattle.file_order.specs.Orders.{IsOnce}
use Rattle.file_order.specs.Cycles.{IsLeastOf, IsWalk, IsCycle}
use Rattle.file_order.specs.Search.{row_at, is_open, IsOpen, IsListed, IsLeastIf, IsTrimmed, IsBefore}
use Rattle.file_order.specs.Walks.{lesser_of, first_visit, IsWalking}
use Rattle.file_order.proofs.Lists.{contains_at}
use Rattle.file_order.proofs.Falling.{not_both}

-- the lesser of the least of two sets
pub least_lesser : (P Q : ℕ → Type 0) (a b : Option ℕ) → IsLeastIf P a → IsLeastIf Q b → IsLeastIf (λ q. P q ⊎ Q q) (lesser_of a b)
least_lesser P Q None None h k = λ q g. ⊎_elim (λ (p : P q). h q p) (λ (p : Q q). k q p) g
least_lesser P Q None (Some y) h k = (inr k.0, λ q g. ⊎_elim (λ (p : P q). absurd (h q p)) (λ (p : Q q). k.1 q p) g)
least_lesser P Q (Some x) None h k = (inl h.0, λ q g. ⊎_elim (λ (p : P q). h.1 q p) (λ (p : Q q). absurd (k q p)) g)
least_lesser P Q (Some x) (Some y) h k =
    ⊎_elim
    (λ (less : x < y).
    let is : x ≡ min x y = omega arith in
    subst (λ (z : ℕ). IsLeastIf (λ q. P q ⊎ Q q) (Some z)) is (inl h.0, λ q g. ⊎_elim (λ (p : P q). h.1 q p) (λ (p : Q q). let upto : y ≤ q = k.1 q p in omega arith) g))
    (λ (more : y ≤ x).
    let is : y ≡ min x y = omega arith in
    subst (λ (z : ℕ). IsLeastIf (λ q. P q ⊎ Q q) (Some z)) is (inr k.0, λ q g. ⊎_elim (λ (p : P q). let upto : x ≤ q = h.1 q p in omega arith) (λ (p : Q q). k.1 q p) g))
    (cases_lt x y)

pub least_as : (P Q : ℕ → Type 0) (o : Option ℕ) → ((q : ℕ) → P q → Q q) → ((q : ℕ) → Q q → P q) → IsLeastIf P o → IsLeastIf Q o
least_as P Q None to from h = λ q g. h q (from q g)
least_as P Q (Some p) to from h = (to p h.0, λ q g. h.1 q (from q g))

-- an open place that must stand before a place, by one of these modules
abbrev pub IsBeforeBy : List Bool → List (List ℕ) → List ℕ → ℕ → ℕ → Type 0
IsBeforeBy marks holders modules here a = (a ≢ here) × IsOpen marks a × ((m : ℕ) × Contains modules m × IsListed holders a m)

-- one more module, by holders that were trimmed meanwhile
pub before_more : (marks : List Bool) (holders mid : List (List ℕ)) (modules : List ℕ) (here m : ℕ) (a b c : Option ℕ) → IsTrimmed marks holders mid → IsLeastIf (IsBeforeBy marks holders modules here) a → IsLeastIf (λ q. (q ≢ here) × IsOpen marks q × IsListed mid q m) b → c ≡ lesser_of a b → IsLeastIf (IsBeforeBy marks holders (modules ++ m ∷ []) here) c
before_more marks holders mid modules here m a b c t least other e =
    subst (λ (o : Option ℕ). IsLeastIf (IsBeforeBy marks holders (modules ++ m ∷ []) here) o) (sym e)
    (least_as (λ q. IsBeforeBy marks holders modules here q ⊎ ((q ≢ here) × IsOpen marks q × IsListed mid q m)) (IsBeforeBy marks holders (modules ++ m ∷ []) here) (lesser_of a b)
    (λ q h. ⊎_elim
    (λ (was : IsBeforeBy marks holders modules here q). (was.0, was.1, (was.2.0, Contains-append_left modules (m ∷ []) was.2.0 was.2.1, was.2.2)))
    (λ (now : (q ≢ here) × IsOpen marks q × IsListed mid q m). (now.0, now.1, (m, Contains-push modules m, t.listed q m now.2)))
    h)
    (λ q h. ⊎_elim
    (λ (was : Contains modules h.2.0). inl (h.0, h.1, (h.2.0, was, h.2.2)))
    (λ (is : m ≡ h.2.0). inr (h.0, h.1, t.kept q m (subst (λ (x : ℕ). IsListed holders q x) (sym is) h.2.2) h.1))
    (Contains-push_cases modules m h.2.0 h.2.1))
    (least_lesser (IsBeforeBy marks holders modules here) (λ q. (q ≢ here) × IsOpen marks q × IsListed mid q m) a b least other))

pub before_all : (marks : List Bool) (holders uses : List (List ℕ)) (modules : List ℕ) (here : ℕ) (o : Option ℕ) → modules ≡ row_at uses here → IsLeastIf (IsBeforeBy marks holders modules here) o → IsLeastIf (λ a. IsOpen marks a × IsBefore holders uses a here) o
before_all marks holders uses modules here o e h =
    least_as (IsBeforeBy marks holders modules here) (λ a. IsOpen marks a × IsBefore holders uses a here) o
    (λ q g. (g.1, (g.0, (g.2.0, g.2.2, subst (λ (xs : List ℕ). Contains xs g.2.0) e g.2.1))))
    (λ q g. (g.1.0, g.0, (g.1.1.0, subst (λ (xs : List ℕ). Contains xs g.1.1.0) (sym e) g.1.1.2, g.1.1.1)))
    h

pub least_is_some : (P : ℕ → Type 0) (o : Option ℕ) → IsLeastIf P o → (a : ℕ) × P a → IsSome o
least_is_some P None h some = absurd (h some.0 some.1)
least_is_some P (Some p) h some = cc

-- the same by holders that were trimmed
pub step_as : (marks : List Bool) (holders mid uses : List (List ℕ)) (here p : ℕ) → IsTrimmed marks holders mid → IsLeastOf (λ a. IsOpen marks a × IsBefore mid uses a here) p → IsLeastOf (λ a. IsOpen marks a × IsBefore holders uses a here) p
step_as marks holders mid uses here p t h = (
  (h.0.0, (h.0.1.0, (h.0.1.1.0, t.listed p h.0.1.1.0 h.0.1.1.1, h.0.1.1.2))),
  λ q g. h.1 q (g.0, (g.1.0, (g.1.1.0, t.kept q g.1.1.0 g.1.1.1 g.0, g.1.1.2))),
)

pub still_waits : (marks : List Bool) (holders mid uses : List (List ℕ)) (here : ℕ) → IsTrimmed marks holders mid → (a : ℕ) × IsOpen marks a × IsBefore holders uses a here → (a : ℕ) × IsOpen marks a × IsBefore mid uses a here
still_waits marks holders mid uses here t w = (w.0, w.1, (w.2.0, (w.2.1.0, t.kept w.0 w.2.1.0 w.2.1.1 w.1, w.2.1.2)))

module _ (In : ℕ → Type 0) (Before : ℕ → ℕ → Type 0) where
  pub walk_first : (p : ℕ) → IsLeastOf In p → IsWalk In Before (p ∷ [])
  walk_first p least = record {
    some = omega arith;
    first = least;
    next = λ i h. absurd (omega (arith, h));
  }

  pub walk_more : (walk : List ℕ) (p q : ℕ) → IsWalk In Before (walk ++ p ∷ []) → IsLeastOf (λ a. In a × Before a p) q → IsWalk In Before (walk ++ p ∷ [] ++ q ∷ [])
  walk_more walk p q w least =
      let ys = walk ++ p ∷ [] in
      let long = length_push walk p in
      let longer = length_push (walk ++ p ∷ []) q in
      record {
        some = omega (arith, w.some, longer);
        first = subst (λ (x : ℕ). IsLeastOf In x) (sym (get_or_append_left (walk ++ p ∷ []) (q ∷ []) 0 0 w.some)) w.first;
        next = λ i h.
            ⊎_elim
            (λ (less : i + 1 < length (walk ++ p ∷ [])).
            subst (λ (x : ℕ). IsLeastOf (λ a. In a × Before a x) (get_or (walk ++ p ∷ [] ++ q ∷ []) (i + 1) 0)) (sym (get_or_append_left (walk ++ p ∷ []) (q ∷ []) 0 i (omega arith)))
            (subst (λ (x : ℕ). IsLeastOf (λ a. In a × Before a (get_or (walk ++ p ∷ []) i 0)) x) (sym (get_or_append_left (walk ++ p ∷ []) (q ∷ []) 0 (i + 1) less)) (w.next i less)))
            (λ (more : length (walk ++ p ∷ []) ≤ i + 1).
            let last : length (walk ++ p ∷ []) ≡ i + 1 = omega (arith, longer, h) in
            let here : get_or (walk ++ p ∷ [] ++ q ∷ []) i 0 ≡ p = get_or_append_left (walk ++ p ∷ []) (q ∷ []) 0 i (omega (arith, last)) ∙ get_or_push walk p 0 i (omega (arith, last, long)) in
            subst (λ (x : ℕ). IsLeastOf (λ a. In a × Before a x) (get_or (walk ++ p ∷ [] ++ q ∷ []) (i + 1) 0)) (sym here)
            (subst (λ (x : ℕ). IsLeastOf (λ a. In a × Before a p) x) (sym (get_or_push (walk ++ p ∷ []) q 0 (i + 1) last)) least))
            (cases_lt (i + 1) (length (walk ++ p ∷ [])));
      }

  pub once_more : (walk : List ℕ) (p : ℕ) → IsOnce walk → (Contains walk p → ⊥) → IsOnce (walk ++ p ∷ [])
  once_more walk p once new i j less within same =
      let long = length_push walk p in
      ⊎_elim
      (λ (old : j < length walk).
      once i j less old (sym (get_or_append_left walk (p ∷ []) 0 i (omega arith)) ∙ same ∙ get_or_append_left walk (p ∷ []) 0 j old))
      (λ (last : length walk ≤ j).
      let is : length walk ≡ j = omega (arith, long, within) in
      let inside : i < length walk = omega arith in
      new (contains_at walk i p (inside, sym (get_or_append_left walk (p ∷ []) 0 i inside) ∙ same ∙ get_or_push walk p 0 j is)))
      (cases_lt j (length walk))

pub walking_more : (Before : ℕ → ℕ → Type 0) (marks : List Bool) (walk : List ℕ) (seen : List (Option ℕ)) (here next : ℕ) → IsWalking Before marks walk seen here → first_visit seen here ≡ None → here < length seen → IsLeastOf (λ a. IsOpen marks a × Before a here) next → IsWalking Before marks (walk ++ here ∷ []) (set seen here (Some (length walk))) next
walking_more Before marks walk seen here next w unseen within least =
    let at_here : first_visit (set seen here (Some (length walk))) here ≡ Some (length walk) = get_or-set_same seen here (Some (length walk)) None within in
    let elsewhere : (p : ℕ) → p ≢ here → first_visit (set seen here (Some (length walk))) p ≡ first_visit seen p = λ p other. get_or-set_other seen here p (Some (length walk)) None other in
    let long = length_push walk here in
    record {
      path = walk_more (IsOpen marks) Before walk here next w.path least;
      here_open = least.0.0;
      once = once_more (IsOpen marks) Before walk here w.once (w.new here unseen);
      marked = length-set seen here (Some (length walk)) ∙ w.marked;
      visited = λ p i h.
          ⊎_elim
          (λ (same : p ≡ here).
          let found : Some (length walk) ≡ Some i = sym at_here ∙ ap (first_visit (set seen here (Some (length walk)))) (sym same) ∙ h in
          let is : length walk ≡ i = cc in
          (omega (arith, long, is), get_or_push walk here 0 i is ∙ sym same))
          (λ (other : p ≢ here).
          let old = w.visited p i (sym (elsewhere p other) ∙ h) in
          (omega (arith, long, old.0), get_or_append_left walk (here ∷ []) 0 i old.0 ∙ old.1))
          (cases_eq p here);
      new = λ p h c.
          ⊎_elim
          (λ (same : p ≡ here). let never : Some (length walk) ≡ None = sym at_here ∙ ap (first_visit (set seen here (Some (length walk)))) (sym same) ∙ h in cc)
          (λ (other : p ≢ here).
          ⊎_elim
          (λ (old : Contains walk p). w.new p (sym (elsewhere p other) ∙ h) old)
          (λ (is : here ≡ p). other (sym is))
          (Contains-push_cases walk here p c))
          (cases_eq p here);
    }

pub here_within : (Before : ℕ → ℕ → Type 0) (marks : List Bool) (walk : List ℕ) (seen : List (Option ℕ)) (here : ℕ) → IsWalking Before marks walk seen here → here < length seen
here_within Before marks walk seen here w =
    ⊎_elim
    (λ (less : here < length marks). omega (arith, w.marked))
    (λ (more : length marks ≤ here). absurd (not_both (is_open marks here) w.here_open (get_or_past marks here false more)))
    (cases_lt here (length marks))

pub visit_is : (seen : List (Option ℕ)) (here : ℕ) (read at : Option ℕ) → here < length seen → read ≡ get_or seen here read → read ≡ at → first_visit seen here ≡ at
visit_is seen here read at within e f = get_or_default seen here None read within ∙ sym e ∙ f

pub walking_end : (Before : ℕ → ℕ → Type 0) (marks : List Bool) (walk : List ℕ) (seen : List (Option ℕ)) (here first : ℕ) → IsWalking Before marks walk seen here → first_visit seen here ≡ Some first → IsCycle (IsOpen marks) Before (drop first walk)
walking_end Before marks walk seen here first w found =
    let at = w.visited here first found in
    let whole = take-append-drop first walk in
    record {
      ahead = take first walk;
      again = here;
      rest = drop (first + 1) walk;
      is = drop_more walk first 0 at.0 ∙ ap (λ (x : ℕ). x ∷ drop (first + 1) walk) at.1;
      walk = subst (λ (xs : List ℕ). IsWalk (IsOpen marks) Before (xs ++ here ∷ [])) (sym whole) w.path;
      once = subst IsOnce (sym whole) w.once;
    }

-- the same for equal sets and conditions
pub cycle_as : (In In' : ℕ → Type 0) (Before Before' : ℕ → ℕ → Type 0) → ((p : ℕ) → In p → In' p) → ((p : ℕ) → In' p → In p) → ((a b : ℕ) → In a → Before a b → Before' a b) → ((a b : ℕ) → In a → Before' a b → Before a b) → (cycle : List ℕ) → IsCycle In Before cycle → IsCycle In' Before' cycle
cycle_as In In' Before Before' to from more less cycle c = record {
  ahead = c.ahead;
  again = c.again;
  rest = c.rest;
  is = c.is;
  walk = record {
    some = c.walk.some;
    first = (to _ c.walk.first.0, λ q h. c.walk.first.1 q (from q h));
    next = λ i h.
        let step = c.walk.next i h in
        ((to _ step.0.0, more _ _ step.0.0 step.0.1), λ q g. let in_q = from q g.0 in step.1 q (in_q, less q _ in_q g.1));
  };
  once = c.once;
}

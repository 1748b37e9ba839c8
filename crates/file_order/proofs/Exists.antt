-- Where no place is stuck, the places have an order.
use Rattle.std.proofs.Common.{◌≡◌, ◌≢◌, ◌<◌, ◌≤◌, ◌+◌, ◌⊎◌, inl, inr, ⊎_elim, ℕ, zero, suc, Bool, true, false, ◌||◌, eqb, List, [], ◌∷◌, ◌++◌, length, get_or, sym, ◌∙◌, subst, refl, arith}
use Rattle.std.specs.List.{Contains, list_any}
use Rattle.std.proofs.lemmas.Bool.{cases_eq, cases_lt}
use Rattle.std.proofs.lemmas.Bool.Decides.{nat_tests}
use Rattle.std.proofs.lemmas.List.{length_push, get_or_default}
use Rattle.std.proofs.lemmas.Map.Keys.{IsDistinct-from_apart}
use Rattle.std.proofs.lemmas.Map.Steps.{length-le_from_distinct_below}
use Rattle.file_order.specs.Orders.{IsOnce, IsLeastOrder}
use Rattle.file_order.specs.Cycles.{IsLeastOf, IsStuck}
use Rattle.file_order.specs.Search.{IsReady, IsGreedy}
use Rattle.ast_nodes.specs.declared.file.File.{File}
use Rattle.file_order.specs.Laws.{HasOrderOrStuck}
use Rattle.file_order.specs.Modules.{at_place, held_by, used_by, MustPrecede}
use Rattle.file_order.proofs.NumberLemmas.{same_name, at_within}
use Rattle.file_order.proofs.Lists.{contains_rest}
use Rattle.file_order.proofs.Greedy.{greedy_none, greedy_push, greedy_once, greedy_below, greedy_least}

abbrev pub Dec : Type 0 → Type 0
Dec P = P ⊎ (P → ⊥)

-- whether it holds, as a test
abbrev yes : {P : Type 0} → Dec P → Bool
yes (inl p) = true
yes (inr n) = false

yes_true : (P : Type 0) (d : Dec P) → P → yes d ≡ true
yes_true P (inl p) h = refl
yes_true P (inr n) h = absurd (n h)

true_yes : (P : Type 0) (d : Dec P) → yes d ≡ true → P
true_yes P (inl p) h = p
true_yes P (inr n) h = let never : false ≡ true = h in cc

pub both : (P Q : Type 0) → Dec P → Dec Q → Dec (P × Q)
both P Q (inl p) (inl q) = inl (p, q)
both P Q (inl p) (inr n) = inr (λ h. n h.1)
both P Q (inr n) d = inr (λ h. n h.0)

pub not_so : (P : Type 0) → Dec P → Dec (P → ⊥)
not_so P (inl p) = inr (λ n. n p)
not_so P (inr n) = inl n

-- the least number below n of which P holds, if there is one
pub least_below : (P : ℕ → Type 0) → ((k : ℕ) → Dec (P k)) → (n : ℕ) → ((k : ℕ) × (k < n) × P k × ((j : ℕ) → j < k → P j → ⊥)) ⊎ ((k : ℕ) → k < n → P k → ⊥)
least_below P dec zero = inr (λ k less h. absurd (omega (arith, less)))
least_below P dec (suc n) =
    ⊎_elim
    (λ (found : (k : ℕ) × (k < n) × P k × ((j : ℕ) → j < k → P j → ⊥)). inl (found.0, omega (arith, found.1), found.2, found.3))
    (λ (none : (k : ℕ) → k < n → P k → ⊥).
    ⊎_elim
    (λ (p : P n). inl (n, omega arith, p, none))
    (λ (not : P n → ⊥). inr (λ k less h.
    ⊎_elim
    (λ (same : k ≡ n). not (subst P same h))
    (λ (other : k ≢ n). none k (omega (arith, less, other)) h)
    (cases_eq k n)))
    (dec n))
    (least_below P dec n)

pub contains_dec : {X : Type 0} → ((x y : X) → Dec (x ≡ y)) → (xs : List X) (x : X) → Dec (Contains xs x)
contains_dec same [] x = inr (λ h. absurd (omega (arith, h.1)))
contains_dec {X} same (y ∷ ys) x =
    ⊎_elim
    (λ (here : y ≡ x). inl (0, omega arith, here))
    (λ (not_here : y ≡ x → ⊥).
    ⊎_elim
    (λ (there : Contains ys x). inl (suc there.0, omega (arith, there.1), there.2))
    (λ (nowhere : Contains ys x → ⊥). inr (λ h. parts y ys x not_here nowhere h))
    (contains_dec same ys x))
    (same y x)
  where
    parts : {X : Type 0} (y : X) (ys : List X) (x : X) → (y ≡ x → ⊥) → (Contains ys x → ⊥) → Contains (y ∷ ys) x → ⊥
    parts y ys x a b (zero, less, here) = a here
    parts y ys x a b (suc k, less, here) = b (k, omega (arith, less), here)

less_dec : (a b : ℕ) → Dec (a < b)
less_dec a b =
    ⊎_elim
    (λ (less : a < b). inl less)
    (λ (more : b ≤ a). inr (λ (less : a < b). absurd (omega arith)))
    (cases_lt a b)

apart : (a b : ℕ) → a ≢ b → eqb a b ≡ false
apart a b h = grind (arith, nat_tests)

alike : (a b : ℕ) → eqb a b ≡ true → a ≡ b
alike a b h = grind (arith, nat_tests)

one_of : (a b : Bool) → (a || b) ≡ true → (a ≡ true) ⊎ (b ≡ true)
one_of true b h = inl refl
one_of false b h = inr h

any_in : (xs : List ℕ) (q : ℕ) → list_any (eqb q) xs ≡ true → Contains xs q
any_in [] q h = let never : false ≡ true = h in cc
any_in (x ∷ xs) q h =
    ⊎_elim
    (λ (here : eqb q x ≡ true). (0, omega arith, sym (alike q x here)))
    (λ (there : list_any (eqb q) xs ≡ true). contains_rest x xs q (any_in xs q there))
    (one_of (eqb q x) (list_any (eqb q) xs) h)

once_short : (xs : List ℕ) (n : ℕ) → IsOnce xs → ((p : ℕ) → Contains xs p → p < n) → length xs ≤ n
once_short xs n once below =
    length-le_from_distinct_below xs n
    (IsDistinct-from_apart eqb xs (λ i j d less within.
    apart (get_or xs i d) (get_or xs j d) (λ same. once i j less within (get_or_default xs i 0 d (omega arith) ∙ same ∙ get_or_default xs j d 0 within))))
    (λ q h. below q (any_in xs q h))

module _ (n : ℕ) (Before : ℕ → ℕ → Type 0) (dec : (a b : ℕ) → Dec (Before a b)) (within : (a b : ℕ) → Before a b → a < n) where
  abbrev IsBlocked : List ℕ → ℕ → ℕ → Type 0
  IsBlocked done p a = Before a p × (Contains done a → ⊥)

  blocker_dec : (done : List ℕ) (p : ℕ) → ((a : ℕ) × IsBlocked done p a) ⊎ ((a : ℕ) → IsBlocked done p a → ⊥)
  blocker_dec done p =
      ⊎_elim
      (λ (found : (a : ℕ) × (a < n) × IsBlocked done p a × ((j : ℕ) → j < a → IsBlocked done p j → ⊥)). inl (found.0, found.2))
      (λ (none : (a : ℕ) → a < n → IsBlocked done p a → ⊥). inr (λ a h. none a (within a p h.0) h))
      (least_below (IsBlocked done p) (λ a. both (Before a p) (Contains done a → ⊥) (dec a p) (not_so (Contains done a) (contains_dec cases_eq done a))) n)

  -- a place below n that is not done is ready, or another that is not done must stand before it
  ready_or : (done : List ℕ) (p : ℕ) → p < n → (Contains done p → ⊥) → IsReady n Before done p ⊎ ((a : ℕ) × IsBlocked done p a)
  ready_or done p below new =
      ⊎_elim
      (λ (found : (a : ℕ) × IsBlocked done p a). inr found)
      (λ (none : (a : ℕ) → IsBlocked done p a → ⊥).
      inl (record {
        below = below;
        new = new;
        met = λ a h.
            ⊎_elim
            (λ (c : Contains done a). c)
            (λ (not : Contains done a → ⊥). absurd (none a (h, not)))
            (contains_dec cases_eq done a);
      }))
      (blocker_dec done p)

  ready_dec : (done : List ℕ) (p : ℕ) → Dec (IsReady n Before done p)
  ready_dec done p =
      ⊎_elim
      (λ (below : p < n).
      ⊎_elim
      (λ (c : Contains done p). inr (λ (r : IsReady n Before done p). r.new c))
      (λ (new : Contains done p → ⊥).
      ⊎_elim
      (λ (ready : IsReady n Before done p). inl ready)
      (λ (found : (a : ℕ) × IsBlocked done p a). inr (λ (r : IsReady n Before done p). found.1.1 (r.met found.0 found.1.0)))
      (ready_or done p below new))
      (contains_dec cases_eq done p))
      (λ (past : n ≤ p). inr (λ (r : IsReady n Before done p). absurd (omega (arith, r.below))))
      (cases_lt p n)

  next_dec : (done : List ℕ) → ((p : ℕ) × IsLeastOf (IsReady n Before done) p) ⊎ ((p : ℕ) → IsReady n Before done p → ⊥)
  next_dec done =
      ⊎_elim
      (λ (found : (p : ℕ) × (p < n) × IsReady n Before done p × ((j : ℕ) → j < p → IsReady n Before done j → ⊥)).
      inl (
        found.0,
        (
          found.2,
          λ q ready.
              ⊎_elim
              (λ (less : q < found.0). absurd (found.3 q less ready))
              (λ (upto : found.0 ≤ q). upto)
              (cases_lt q found.0),
        ),
      ))
      (λ (none : (p : ℕ) → p < n → IsReady n Before done p → ⊥). inr (λ p ready. none p ready.below ready))
      (least_below (IsReady n Before done) (ready_dec done) n)

  abbrev IsLeft : List ℕ → ℕ → Type 0
  IsLeft done p = (p < n) × (Contains done p → ⊥)

  left_dec : (done : List ℕ) (p : ℕ) → Dec (IsLeft done p)
  left_dec done p = both (p < n) (Contains done p → ⊥) (less_dec p n) (not_so (Contains done p) (contains_dec cases_eq done p))

  -- where none is ready, those that are left are stuck
  left_stuck : (done : List ℕ) → ((p : ℕ) → IsReady n Before done p → ⊥) → (p : ℕ) → IsLeft done p → IsStuck n Before p
  left_stuck done none p left = (
    λ q. yes (left_dec done q),
    (λ b h.
        let b_left = true_yes (IsLeft done b) (left_dec done b) h in
        ⊎_elim
        (λ (ready : IsReady n Before done b). absurd (none b ready))
        (λ (found : (a : ℕ) × IsBlocked done b a).
        (b_left.0, (found.0, yes_true (IsLeft done found.0) (left_dec done found.0) (within found.0 b found.1.0, found.1.1), found.1.0)))
        (ready_or done b b_left.0 b_left.1)),
    yes_true (IsLeft done p) (left_dec done p) left,
  )

  stops : ((a b : ℕ) → Before a b → b < n) → (done : List ℕ) → IsGreedy n Before done → ((p : ℕ) → IsReady n Before done p → ⊥) → ((order : List ℕ) × IsLeastOrder n Before order) ⊎ ((p : ℕ) × IsStuck n Before p)
  stops inside done greedy none =
      ⊎_elim
      (λ (found : (p : ℕ) × (p < n) × IsLeft done p × ((j : ℕ) → j < p → IsLeft done j → ⊥)). inr (found.0, left_stuck done none found.0 found.2))
      (λ (whole : (p : ℕ) → p < n → IsLeft done p → ⊥).
      inl (
        done,
        greedy_least n Before done greedy (λ p below.
            ⊎_elim
            (λ (c : Contains done p). c)
            (λ (not : Contains done p → ⊥). absurd (whole p below (below, not)))
            (contains_dec cases_eq done p)) inside,
      ))
      (least_below (IsLeft done) (left_dec done) n)

  grows : ((a b : ℕ) → Before a b → b < n) → (m : ℕ) (done : List ℕ) → IsGreedy n Before done → n ≤ length done + m → ((order : List ℕ) × IsLeastOrder n Before order) ⊎ ((p : ℕ) × IsStuck n Before p)
  grows inside zero done greedy enough =
      ⊎_elim
      (λ (next : (p : ℕ) × IsLeastOf (IsReady n Before done) p).
      let more = greedy_push n Before done next.0 greedy next.1 in
      let short = once_short (done ++ next.0 ∷ []) n (greedy_once n Before (done ++ next.0 ∷ []) more) (greedy_below n Before (done ++ next.0 ∷ []) more) in
      absurd (omega (arith, length_push done next.0, short, enough)))
      (λ (none : (p : ℕ) → IsReady n Before done p → ⊥). stops inside done greedy none)
      (next_dec done)
  grows inside (suc m) done greedy enough =
      ⊎_elim
      (λ (next : (p : ℕ) × IsLeastOf (IsReady n Before done) p).
      grows inside m (done ++ next.0 ∷ []) (greedy_push n Before done next.0 greedy next.1) (omega (arith, length_push done next.0, enough)))
      (λ (none : (p : ℕ) → IsReady n Before done p → ⊥). stops inside done greedy none)
      (next_dec done)

  pub order_or_stuck : ((a b : ℕ) → Before a b → b < n) → ((order : List ℕ) × IsLeastOrder n Before order) ⊎ ((p : ℕ) × IsStuck n Before p)
  order_or_stuck inside = grows inside n [] (greedy_none n Before) (omega arith)

-- whether two lists of names have one in common
shared_dec : (xs ys : List (List ℕ)) → Dec ((name : List ℕ) × Contains xs name × Contains ys name)
shared_dec [] ys = inr (λ h. absurd (omega (arith, h.1.1)))
shared_dec (x ∷ xs) ys =
    ⊎_elim
    (λ (here : Contains ys x). inl (x, (0, omega arith, refl), here))
    (λ (not_here : Contains ys x → ⊥).
    ⊎_elim
    (λ (there : (name : List ℕ) × Contains xs name × Contains ys name). inl (there.0, (suc there.1.0, omega (arith, there.1.1), there.1.2), there.2))
    (λ (nowhere : (name : List ℕ) × Contains xs name × Contains ys name → ⊥). inr (λ h. only x xs ys not_here nowhere h.0 h.1 h.2))
    (shared_dec xs ys))
    (contains_dec same_name ys x)
  where
    only : (x : List ℕ) (xs ys : List (List ℕ)) → (Contains ys x → ⊥) → ((name : List ℕ) × Contains xs name × Contains ys name → ⊥) → (name : List ℕ) → Contains (x ∷ xs) name → Contains ys name → ⊥
    only x xs ys a b name (zero, less, here) c = a (subst (λ (n : List ℕ). Contains ys n) (sym here) c)
    only x xs ys a b name (suc k, less, here) c = b (name, (k, omega (arith, less), here), c)

must_dec : (files : List File) (a b : ℕ) → Dec (MustPrecede files a b)
must_dec files a b = both (a ≢ b) ((name : List ℕ) × Contains (at_place held_by files a) name × Contains (at_place used_by files b) name) (not_so (a ≡ b) (cases_eq a b)) (shared_dec (at_place held_by files a) (at_place used_by files b))

pub files_order_or_stuck : (files : List File) → HasOrderOrStuck files
files_order_or_stuck files = order_or_stuck (length files) (MustPrecede files) (must_dec files)
    (λ a b h. at_within held_by files a h.1.0 h.1.1)
    (λ a b h. at_within used_by files b h.1.0 h.1.2)

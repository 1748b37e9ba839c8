-- The steps of a search.
use Rattle.std.proofs.Common.{◌≡◌, ◌≢◌, ◌↔◌, ◌<◌, ◌≤◌, ◌+◌, inl, inr, ⊎_elim, ℕ, Option, Some, None, Result, Ok, Err, OnOk, Bool, true, false, List, [], ◌∷◌, ◌++◌, length, set, replicate, sym, ◌∙◌, ap, subst, refl, arith}
use Rattle.std.specs.List.{Contains, All}
use Rattle.std.specs.List.Sorted.{IsPermutation}
use Rattle.std.specs.Option.{is_some}
use Rattle.std.proofs.lemmas.Bool.{cases_eq, cases_lt, cases_Bool}
use Rattle.std.proofs.lemmas.List.{get_or-set_same, get_or-set_other, length-set, get_or-replicate, get_or_past, length-replicate}
use Rattle.std.proofs.lemmas.List.Elements.{Contains-append_left, Contains-push, Contains-push_cases, All-contains}
use Rattle.std.proofs.lemmas.List.Sorted.{Contains-permutation, IsPermutation-sym}
use Rattle.lf_base.specs.declared.fault.Memory.{Memory}
use Rattle.file_order.specs.declared.modules.Modules.{Modules}
use Rattle.file_order.specs.declared.search.Search.{Search}
use Rattle.file_order.specs.Orders.{IsLeastOrder}
use Rattle.file_order.specs.Cycles.{IsLeastOf, IsStuck}
use Rattle.file_order.specs.Search.{row_at, is_open, IsListed, IsOpen, IsLeastIf, HasTwoIf, IsTrimmed, IsBeforeIn, IsTable, IsLeft, IsReleased, IsSettled, AreSettled, IsReady, IsSearch, IsWaiting, IsSearchWith, FindsNext, Takes}
use Rattle.file_order.proofs.Falling.{not_both, row_other, row_same, trimmed_none, trimmed_more, popped_listed, popped_kept}
use Rattle.file_order.proofs.Lists.{contains_cons, contains_first, contains_rest, not_in_none}
use Rattle.file_order.proofs.Greedy.{greedy_none, greedy_push, greedy_not_stuck, greedy_least, stuck_below}

pub left_none : (marks : List Bool) (old : Modules) → IsLeft marks old old
left_none marks old = record {
  holders = trimmed_none marks old.holders;
  held = refl;
  count = refl;
  listed = λ m b h. h;
  kept = λ a b m o apart holds h. h;
}

pub left_more : (marks : List Bool) (old mid new : Modules) → IsLeft marks old mid → IsLeft marks mid new → IsLeft marks old new
left_more marks old mid new s t = record {
  holders = trimmed_more marks old.holders mid.holders new.holders s.holders t.holders;
  held = t.held ∙ s.held;
  count = t.count ∙ s.count;
  listed = λ m b h. s.listed m b (t.listed m b h);
  kept = λ a b m o apart holds h. t.kept a b m o apart (s.holders.kept a m holds o) (s.kept a b m o apart holds h);
}

-- a use of a module that no other open place holds is taken out
pub left_pop : (marks : List Bool) (old mid new : Modules) (place m : ℕ) → IsLeft marks old mid → IsTrimmed marks mid.holders new.holders → ((a : ℕ) → (a ≢ place) × IsOpen marks a × IsListed mid.holders a m → ⊥) → new.held ≡ mid.held → row_at mid.uses place ≡ row_at new.uses place ++ m ∷ [] → new.uses ≡ set mid.uses place (row_at new.uses place) → IsLeft marks old new
left_pop marks old mid new place m s t free held row others =
    left_more marks old mid new s (record {
      holders = t;
      held = held;
      count = ap length others ∙ length-set mid.uses place (row_at new.uses place);
      listed = λ x b h. popped_listed mid.uses new.uses place m x b row others h;
      kept = λ a b x o apart holds h.
          popped_kept mid.uses new.uses place m x b row others
          (λ here is. free a ((λ same. apart (same ∙ sym here)), o, subst (λ (y : ℕ). IsListed mid.holders a y) (sym is) holds)) h;
    })

-- a module of which another place was found
pub blocked : (marks : List Bool) (old mid : Modules) (place m : ℕ) (o : Option ℕ) → IsLeft marks old mid → IsListed mid.uses m place → IsLeastIf (λ a. (a ≢ place) × IsOpen marks a × IsListed mid.holders a m) o → is_some o ≡ true → IsListed old.uses m place × ((a : ℕ) × (a ≢ place) × IsOpen marks a × IsListed old.holders a m)
blocked marks old mid place m None s named least some = let never : false ≡ true = some in absurd cc
blocked marks old mid place m (Some x) s named least some = (s.listed m place named, (x, least.0.0, least.0.1, s.holders.listed x m least.0.2))

pub free_of : (P : ℕ → Type 0) (o : Option ℕ) → IsLeastIf P o → is_some o ≡ false → (a : ℕ) → P a → ⊥
free_of P None least none a h = least a h
free_of P (Some x) least none a h = let never : true ≡ false = none in cc

-- the numbers of modules that are left are below their count
pub used_left : (marks : List Bool) (all now : Modules) → IsTable all → IsLeft marks all now → (m p : ℕ) → IsListed now.uses m p → m < length now.holders
used_left marks all now t l m p h = let less = t.used_below m p (l.listed m p h) in omega (arith, less, l.holders.count)

pub held_left : (marks : List Bool) (all now : Modules) → IsTable all → IsLeft marks all now → (m p : ℕ) → IsListed now.held m p → m < length now.holders
held_left marks all now t l m p h = let less = t.held_below m p (subst (λ (rows : List (List ℕ)). IsListed rows m p) l.held h) in omega (arith, less, l.holders.count)

pub released_more : (old mid new : List (List ℕ)) (before now after : List ℕ) → IsReleased old mid before now → IsReleased mid new now after → IsReleased old new before after
released_more old mid new before now after r s = record {
  count = s.count ∙ r.count;
  listed = λ p m h. r.listed p m (s.listed p m h);
  all = λ p m h.
      ⊎_elim
      (λ (c : Contains now p). inl (s.more p c))
      (λ (w : IsListed mid p m). s.all p m w)
      (r.all p m h);
  more = λ p h. s.more p (r.more p h);
  only = λ p h.
      ⊎_elim
      (λ (c : Contains now p). r.only p c)
      (λ (w : (m : ℕ) × IsListed mid p m). inr (w.0, r.listed p w.0 w.1))
      (s.only p h);
}

pub released_pop : (place : ℕ) (old mid new : List (List ℕ)) (before now after : List ℕ) (x : ℕ) → IsReleased old mid before now → row_at mid place ≡ row_at new place ++ x ∷ [] → new ≡ set mid place (row_at new place) → IsPermutation (x ∷ now) after → IsReleased old new before after
released_pop place old mid new before now after x r row others moved =
    released_more old mid new before now after r (record {
      count = ap length others ∙ length-set mid place (row_at new place);
      listed = λ p m h. popped_listed mid new place x p m row others h;
      all = λ p m h.
          ⊎_elim
          (λ (is : x ≡ p). inl (Contains-permutation (x ∷ now) after p moved (subst (λ (y : ℕ). Contains (x ∷ now) y) is (contains_first x now))))
          (λ (other : x ≢ p). inr (popped_kept mid new place x p m row others (λ here goes. other goes) h))
          (cases_eq x p);
      more = λ p h. Contains-permutation (x ∷ now) after p moved (contains_rest x now p h);
      only = λ p h.
          ⊎_elim
          (λ (is : x ≡ p). inr (place, subst (λ (xs : List ℕ). Contains xs p) (sym row) (subst (λ (y : ℕ). Contains (row_at new place ++ x ∷ []) y) is (Contains-push (row_at new place) x))))
          (λ (was : Contains now p). inl was)
          (contains_cons x now p (Contains-permutation after (x ∷ now) p (IsPermutation-sym (x ∷ now) after moved) h));
    })

pub settled_none : (marks : List Bool) (holders waiting : List (List ℕ)) (m : ℕ) → row_at waiting m ≡ [] → IsSettled marks holders waiting m
settled_none marks holders waiting m none p h = absurd (not_in_none p (subst (λ (xs : List ℕ). Contains xs p) none h))

-- one more module that is settled, by holders that were trimmed meanwhile
pub settled_more : (marks : List Bool) (holders mid waiting waiting' : List (List ℕ)) (modules : List ℕ) (m : ℕ) → AreSettled marks holders waiting modules → ((p x : ℕ) → IsListed waiting' p x → IsListed waiting p x) → IsTrimmed marks holders mid → IsSettled marks mid waiting' m → AreSettled marks holders waiting' (modules ++ m ∷ [])
settled_more marks holders mid waiting waiting' modules m old fewer t now x h p listed =
    ⊎_elim
    (λ (was : Contains modules x). old x was p (fewer p x listed))
    (λ (is : m ≡ x).
    let found = now p (subst (λ (y : ℕ). IsListed waiting' p y) (sym is) listed) in
    (found.0, found.1, found.2, subst (λ (y : ℕ). IsListed holders found.0 y) is (t.listed found.0 m found.3)))
    (Contains-push_cases modules m x h)

-- what must stand before a place is one of the places
pub before_below : (all : Modules) → IsTable all → (a b : ℕ) → IsBeforeIn all a b → a < length all.uses
before_below all t a b h =
    let listed = t.noted a h.1.0 h.1.1 in
    ⊎_elim
    (λ (less : a < length all.held). omega (arith, less, t.same))
    (λ (more : length all.held ≤ a). absurd (not_in_none h.1.0 (subst (λ (xs : List ℕ). Contains xs h.1.0) (get_or_past all.held a [] more) listed)))
    (cases_lt a (length all.held))

-- and so is a place before which something must stand
pub user_below : (all : Modules) (a b : ℕ) → IsBeforeIn all a b → b < length all.uses
user_below all a b h =
    ⊎_elim
    (λ (less : b < length all.uses). less)
    (λ (more : length all.uses ≤ b). absurd (not_in_none h.1.0 (subst (λ (xs : List ℕ). Contains xs h.1.0) (get_or_past all.uses b [] more) h.1.2)))
    (cases_lt b (length all.uses))

module _ (all now : Modules) (waiting : List (List ℕ)) (marks : List Bool) (order : List ℕ) where
  -- other candidates, among which each is that was and is open
  pub with_candidates : (old new : List ℕ) → IsSearch all now waiting marks old order → ((p : ℕ) → IsOpen marks p → Contains old p → Contains new p) → ((p : ℕ) → Contains new p → Contains old p) → IsSearch all now waiting marks new order
  with_candidates old new s more only = record {
    table = s.table;
    left = s.left;
    lists = s.lists;
    marked = s.marked;
    few = λ p h. s.few p (only p h);
    waiters = s.waiters;
    covered = λ p o.
        ⊎_elim
        (λ (c : Contains old p). inl (more p o c))
        (λ (w : IsWaiting all waiting marks p). inr w)
        (s.covered p o);
    done = s.done;
    greedy = s.greedy;
  }

  pub popped : (old new : List ℕ) (p : ℕ) → IsPermutation old (p ∷ new) → IsSearch all now waiting marks old order → IsSearch all now waiting marks (p ∷ new) order
  popped old new p moved s = with_candidates old (p ∷ new) s (λ q o c. Contains-permutation old (p ∷ new) q moved c) (λ q c. Contains-permutation (p ∷ new) old q (IsPermutation-sym old (p ∷ new) moved) c)

  -- a place that is not open is no candidate
  pub passed : (new : List ℕ) (p : ℕ) → is_open marks p ≡ false → IsSearch all now waiting marks (p ∷ new) order → IsSearch all now waiting marks new order
  passed new p shut s = with_candidates (p ∷ new) new s
      (λ q o c. ⊎_elim
      (λ (same : p ≡ q). absurd (not_both (is_open marks q) o (ap (is_open marks) (sym same) ∙ shut)))
      (λ (h : Contains new q). h)
      (contains_cons p new q c))
      (λ q c. contains_rest p new q c)

  pub trimmed : (candidates : List ℕ) (new : Modules) → IsLeft marks now new → IsSearch all now waiting marks candidates order → IsSearch all new waiting marks candidates order
  trimmed candidates new t s = record {
    table = s.table;
    left = left_more marks all now new s.left t;
    lists = s.lists;
    marked = s.marked;
    few = s.few;
    waiters = s.waiters;
    covered = s.covered;
    done = s.done;
    greedy = s.greedy;
  }

  -- p waits for a module from now on
  pub waits : (candidates : List ℕ) (new : List (List ℕ)) (p m : ℕ) → IsListed all.uses m p → (a : ℕ) × (a ≢ p) × IsOpen marks a × IsListed all.holders a m → new ≡ set waiting m (row_at waiting m ++ p ∷ []) → IsSearch all now waiting marks (p ∷ candidates) order → IsSearch all now new marks candidates order
  waits candidates new p m named why e s =
      let inside : m < length waiting = omega (arith, s.table.used_below m p named, s.lists) in
      let here : row_at new m ≡ row_at waiting m ++ p ∷ [] = row_same waiting new m (row_at waiting m ++ p ∷ []) e inside in
      let grown : (q x : ℕ) → IsListed waiting q x → IsListed new q x = λ q x h.
      ⊎_elim
      (λ (same : x ≡ m). subst (λ (xs : List ℕ). Contains xs q) (sym here ∙ ap (row_at new) (sym same)) (Contains-append_left (row_at waiting m) (p ∷ []) q (subst (λ (y : ℕ). IsListed waiting q y) same h)))
      (λ (other : x ≢ m). subst (λ (xs : List ℕ). Contains xs q) (sym (row_other waiting new m x (row_at waiting m ++ p ∷ []) e other)) h)
      (cases_eq x m) in
      record {
        table = s.table;
        left = s.left;
        lists = ap length e ∙ length-set waiting m (row_at waiting m ++ p ∷ []) ∙ s.lists;
        marked = s.marked;
        few = λ q h. s.few q (contains_rest p candidates q h);
        waiters = λ q x h.
            ⊎_elim
            (λ (same : x ≡ m).
            ⊎_elim
            (λ (old : IsListed waiting q m). s.waiters q m old)
            (λ (is : p ≡ q). s.few q (subst (λ (y : ℕ). Contains (p ∷ candidates) y) is (contains_first p candidates)))
            (Contains-push_cases (row_at waiting m) p q (subst (λ (xs : List ℕ). Contains xs q) (ap (row_at new) same ∙ here) h)))
            (λ (other : x ≢ m). s.waiters q x (subst (λ (xs : List ℕ). Contains xs q) (row_other waiting new m x (row_at waiting m ++ p ∷ []) e other) h))
            (cases_eq x m);
        covered = λ q open_q.
            ⊎_elim
            (λ (c : Contains (p ∷ candidates) q).
            ⊎_elim
            (λ (is : p ≡ q). inr (subst (λ (x : ℕ). IsWaiting all new marks x) is (why.0, m, why.1, why.2, why.3, named, subst (λ (xs : List ℕ). Contains xs p) (sym here) (Contains-push (row_at waiting m) p))))
            (λ (old : Contains candidates q). inl old)
            (contains_cons p candidates q c))
            (λ (w : IsWaiting all waiting marks q). inr (w.0, w.1, w.2, w.3, w.4, w.5, grown q w.1 w.6))
            (s.covered q open_q);
        done = s.done;
        greedy = s.greedy;
      }

  -- the least candidate is the next place, where no uses of it are left
  pub is_next : (candidates : List ℕ) (p : ℕ) → IsSearch all now waiting marks (p ∷ candidates) order → All (λ q. p ≤ q) candidates → IsOpen marks p → row_at now.uses p ≡ [] → IsLeastOf (IsReady (length all.uses) (IsBeforeIn all) order) p
  is_next candidates p s least o none =
      let below : p < length all.uses = s.few p (contains_first p candidates) in (
        record {
          below = below;
          new = λ h. not_both (is_open marks p) o ((s.done p below).0 h);
          met = λ a h.
              ⊎_elim
              (λ (open_a : is_open marks a ≡ true). absurd (not_in_none h.1.0 (subst (λ (xs : List ℕ). Contains xs h.1.0) none (s.left.kept a p h.1.0 open_a h.0 h.1.1 h.1.2))))
              (λ (shut : is_open marks a ≡ false). (s.done a (before_below all s.table a p h)).1 shut)
              (cases_Bool (is_open marks a));
        },
        λ q ready.
            ⊎_elim
            (λ (open_q : is_open marks q ≡ true).
            ⊎_elim
            (λ (c : Contains (p ∷ candidates) q).
            ⊎_elim
            (λ (is : p ≡ q). omega arith)
            (λ (old : Contains candidates q). All-contains (λ (x : ℕ). p ≤ x) candidates q least old)
            (contains_cons p candidates q c))
            (λ (w : IsWaiting all waiting marks q).
            let before : IsBeforeIn all w.0 q = (w.2, (w.1, w.4, w.5)) in
            absurd (not_both (is_open marks w.0) w.3 ((s.done w.0 (before_below all s.table w.0 q before)).0 (ready.met w.0 before))))
            (s.covered q open_q))
            (λ (shut : is_open marks q ≡ false). absurd (ready.new ((s.done q ready.below).1 shut)))
            (cases_Bool (is_open marks q)),
      )

  -- the next place comes last in the order, and those that waited for modules that it holds are candidates, or wait further
  pub taken : (candidates : List ℕ) (p : ℕ) → IsSearch all now waiting marks (p ∷ candidates) order → IsLeastOf (IsReady (length all.uses) (IsBeforeIn all) order) p
      → (holders' waiting' : List (List ℕ)) (candidates' : List ℕ) → IsTrimmed (set marks p false) now.holders holders' → IsReleased waiting waiting' candidates candidates' → AreSettled (set marks p false) now.holders waiting' (row_at now.held p)
      → IsSearch all (record { holders = holders'; held = now.held; uses = now.uses }) waiting' (set marks p false) candidates' (order ++ p ∷ [])
  taken candidates p s next holders' waiting' candidates' t r settled =
      let within : p < length marks = omega (arith, next.0.below, s.marked) in
      let here : is_open (set marks p false) p ≡ false = get_or-set_same marks p false false within in
      let there : (q : ℕ) → q ≢ p → is_open (set marks p false) q ≡ is_open marks q = λ q h. get_or-set_other marks p q false false h in
      let was_open : (q : ℕ) → IsOpen (set marks p false) q → (q ≢ p) × IsOpen marks q = λ q o.
      ⊎_elim
      (λ (same : q ≡ p). absurd (not_both (is_open (set marks p false) q) o (ap (is_open (set marks p false)) same ∙ here)))
      (λ (other : q ≢ p). (other, sym (there q other) ∙ o))
      (cases_eq q p) in
      let l = s.left in
      record {
        table = s.table;
        left = record {
          holders = record {
            count = t.count ∙ l.holders.count;
            listed = λ a m h. l.holders.listed a m (t.listed a m h);
            kept = λ a m h o. t.kept a m (l.holders.kept a m h (was_open a o).1) o;
            falling = λ f. t.falling (l.holders.falling f);
          };
          held = l.held;
          count = l.count;
          listed = l.listed;
          kept = λ a b m o apart holds h. l.kept a b m (was_open a o).1 apart holds h;
        };
        lists = r.count ∙ s.lists;
        marked = length-set marks p false ∙ s.marked;
        few = λ q h.
            ⊎_elim
            (λ (c : Contains candidates q). s.few q (contains_rest p candidates q c))
            (λ (w : (m : ℕ) × IsListed waiting q m). s.waiters q w.0 w.1)
            (r.only q h);
        waiters = λ q m h. s.waiters q m (r.listed q m h);
        covered = λ q o.
            let was = was_open q o in
            ⊎_elim
            (λ (c : Contains (p ∷ candidates) q).
            ⊎_elim
            (λ (is : p ≡ q). absurd (was.0 (sym is)))
            (λ (old : Contains candidates q). inl (r.more q old))
            (contains_cons p candidates q c))
            (λ (w : IsWaiting all waiting marks q).
            ⊎_elim
            (λ (free : Contains candidates' q). inl free)
            (λ (still : IsListed waiting' q w.1).
            ⊎_elim
            (λ (same : w.0 ≡ p).
            let held : IsListed now.held w.1 p = subst (λ (rows : List (List ℕ)). IsListed rows w.1 p) (sym l.held) (s.table.noted p w.1 (subst (λ (x : ℕ). IsListed all.holders x w.1) same w.4)) in
            let found = settled w.1 held q still in
            inr (found.0, w.1, found.1, found.2, l.holders.listed found.0 w.1 found.3, w.5, still))
            (λ (other : w.0 ≢ p). inr (w.0, w.1, w.2, there w.0 other ∙ w.3, w.4, w.5, still))
            (cases_eq w.0 p))
            (r.all q w.1 w.6))
            (s.covered q was.1);
        done = λ q below. (
          λ h.
              ⊎_elim
              (λ (same : q ≡ p). ap (is_open (set marks p false)) same ∙ here)
              (λ (other : q ≢ p).
              ⊎_elim
              (λ (old : Contains order q). there q other ∙ (s.done q below).0 old)
              (λ (is : p ≡ q). absurd (other (sym is)))
              (Contains-push_cases order p q h))
              (cases_eq q p),
          λ shut.
              ⊎_elim
              (λ (same : q ≡ p). subst (λ (x : ℕ). Contains (order ++ p ∷ []) x) (sym same) (Contains-push order p))
              (λ (other : q ≢ p). Contains-append_left order (p ∷ []) q ((s.done q below).1 (sym (there q other) ∙ shut)))
              (cases_eq q p),
        );
        greedy = greedy_push (length all.uses) (IsBeforeIn all) order p s.greedy next;
      }

pub empty_rows : (n p : ℕ) → row_at (replicate n []) p ≡ []
empty_rows n p =
    ⊎_elim
    (λ (less : p < n). get_or-replicate n p [] [] less)
    (λ (more : n ≤ p). get_or_past (replicate n []) p [] (omega (arith, length-replicate {A = List ℕ} n [])))
    (cases_lt p n)

-- all places are open candidates at first
pub begins : (all : Modules) (candidates : List ℕ) → IsTable all → ((p : ℕ) → Contains candidates p ↔ (p < length all.uses)) → IsSearch all all (replicate (length all.holders) []) (replicate (length all.uses) true) candidates []
begins all candidates table whole =
    record {
      table = table;
      left = left_none (replicate (length all.uses) true) all;
      lists = length-replicate {A = List ℕ} (length all.holders) [];
      marked = length-replicate (length all.uses) true;
      few = λ p h. (whole p).0 h;
      waiters = λ p m h. absurd (not_in_none p (subst (λ (xs : List ℕ). Contains xs p) (empty_rows (length all.holders) m) h));
      covered = λ p o.
          ⊎_elim
          (λ (less : p < length all.uses). inl ((whole p).1 less))
          (λ (more : length all.uses ≤ p). absurd (not_both (is_open (replicate (length all.uses) true) p) o (get_or_past (replicate (length all.uses) true) p false (omega (arith, length-replicate (length all.uses) true)))))
          (cases_lt p (length all.uses));
      done = λ p below. (λ h. absurd (not_in_none p h), λ shut. absurd (not_both (is_open (replicate (length all.uses) true) p) (get_or-replicate (length all.uses) p true false below) shut));
      greedy = greedy_none (length all.uses) (IsBeforeIn all);
    }

-- What a search leaves at its end, when there are no candidates.
module _ (all now : Modules) (waiting : List (List ℕ)) (marks : List Bool) (order : List ℕ) (s : IsSearch all now waiting marks [] order) where
  pub open_below : (p : ℕ) → IsOpen marks p → p < length all.uses
  open_below p o =
      ⊎_elim
      (λ (less : p < length all.uses). less)
      (λ (more : length all.uses ≤ p). absurd (not_both (is_open marks p) o (get_or_past marks p false (omega (arith, s.marked)))))
      (cases_lt p (length all.uses))

  -- what must stand before a place by what is left, must do so by all, and the other way for an open one
  pub before_all : (a b : ℕ) → IsBeforeIn now a b → IsBeforeIn all a b
  before_all a b h = (h.0, (h.1.0, s.left.holders.listed a h.1.0 h.1.1, s.left.listed h.1.0 b h.1.2))

  pub before_left : (a b : ℕ) → IsOpen marks a → IsBeforeIn all a b → IsBeforeIn now a b
  before_left a b o h = (h.0, (h.1.0, s.left.holders.kept a h.1.0 h.1.1 o, s.left.kept a b h.1.0 o h.0 h.1.1 h.1.2))

  open_waits_all : (p : ℕ) → IsOpen marks p → (a : ℕ) × IsOpen marks a × IsBeforeIn all a p
  open_waits_all p o =
      ⊎_elim
      (λ (c : Contains [] p). absurd (not_in_none p c))
      (λ (w : IsWaiting all waiting marks p). (w.0, w.3, (w.2, (w.1, w.4, w.5))))
      (s.covered p o)

  pub open_stuck : (p : ℕ) → IsOpen marks p → IsStuck (length all.uses) (IsBeforeIn all) p
  open_stuck p o = (is_open marks, (λ b open_b. (open_below b open_b, open_waits_all b open_b)), o)

  pub open_waits : (p : ℕ) → IsOpen marks p → (a : ℕ) × IsOpen marks a × IsBeforeIn now a p
  open_waits p o = let w = open_waits_all p o in (w.0, w.1, before_left w.0 p w.1 w.2)

  pub stuck_open : (p : ℕ) → IsStuck (length all.uses) (IsBeforeIn all) p → IsOpen marks p
  stuck_open p stuck =
      ⊎_elim
      (λ (o : is_open marks p ≡ true). o)
      (λ (shut : is_open marks p ≡ false). absurd (greedy_not_stuck (length all.uses) (IsBeforeIn all) order s.greedy p ((s.done p (stuck_below (length all.uses) (IsBeforeIn all) p stuck)).1 shut) stuck))
      (cases_Bool (is_open marks p))

  pub ends_least : ((p : ℕ) → is_open marks p ≡ false) → IsLeastOrder (length all.uses) (IsBeforeIn all) order
  ends_least shut = greedy_least (length all.uses) (IsBeforeIn all) order s.greedy (λ p below. (s.done p below).1 (shut p)) (user_below all)

pub begins_with : (all now : Modules) (waiting : List (List ℕ)) (marks : List Bool) (candidates order : List ℕ) → IsTable all → ((p : ℕ) → Contains candidates p ↔ (p < length all.uses)) → now ≡ all → waiting ≡ replicate (length all.holders) [] → marks ≡ replicate (length all.uses) true → order ≡ [] → IsSearch all now waiting marks candidates order
begins_with all now waiting marks candidates order table whole e f g h =
    subst (λ (x : Modules). IsSearch all x waiting marks candidates order) (sym e)
    (subst (λ (x : List (List ℕ)). IsSearch all all x marks candidates order) (sym f)
    (subst (λ (x : List Bool). IsSearch all all (replicate (length all.holders) []) x candidates order) (sym g)
    (subst (λ (x : List ℕ). IsSearch all all (replicate (length all.holders) []) (replicate (length all.uses) true) candidates x) (sym h)
    (begins all candidates table whole))))

pub whole_more : (old new : List ℕ) (n : ℕ) → ((p : ℕ) → Contains old p ↔ (p < n)) → IsPermutation (n ∷ old) new → (p : ℕ) → Contains new p ↔ (p < n + 1)
whole_more old new n whole moved p = (
  λ h.
      ⊎_elim
      (λ (is : n ≡ p). omega arith)
      (λ (was : Contains old p). let less : p < n = (whole p).0 was in omega arith)
      (contains_cons n old p (Contains-permutation new (n ∷ old) p (IsPermutation-sym (n ∷ old) new moved) h)),
  λ less.
      Contains-permutation (n ∷ old) new p moved (⊎_elim
      (λ (is : p ≡ n). subst (λ (x : ℕ). Contains (n ∷ old) x) (sym is) (contains_first n old))
      (λ (other : p ≢ n). contains_rest n old p ((whole p).1 (omega (arith, other))))
      (cases_eq p n)),
)

pub takes : (all : Modules) (p : ℕ) (old new : Search) (r : Result (Unit {0}) Memory) → OnOk r (FindsNext all old (Some p) → IsSearchWith all new new.candidates) → Takes all p old new r
takes all p old new (Ok u) h = h
takes all p old new (Err e) h = tt

pub on_all : (r : Result (Unit {0}) Memory) (A B C D : Type 0) → OnOk r A → OnOk r B → OnOk r C → (A → B → C → D) → OnOk r D
on_all (Ok u) A B C D a b c f = f a b c
on_all (Err e) A B C D a b c f = tt

pub settled_two : (marks : List Bool) (holders waiting : List (List ℕ)) (m : ℕ) (b : Bool) → b ≡ true → HasTwoIf (λ a. IsOpen marks a × IsListed holders a m) b → IsSettled marks holders waiting m
settled_two marks holders waiting m true e h p listed = let two = h p in (two.0, two.1, two.2.0, two.2.1)
settled_two marks holders waiting m false e h p listed = let never : false ≡ true = e in absurd cc

-- a place is taken, where the marks and the modules of the place are known by other names
pub taken_by : (all now : Modules) (waiting : List (List ℕ)) (marks marks' : List Bool) (order order' : List ℕ) (candidates : List ℕ) (p : ℕ) (modules : List ℕ) (holders' waiting' : List (List ℕ)) (candidates' : List ℕ) → marks' ≡ set marks p false → order' ≡ order ++ p ∷ [] → modules ≡ row_at now.held p
    → IsTrimmed marks' now.holders holders' → IsReleased waiting waiting' candidates candidates' → AreSettled marks' now.holders waiting' modules
    → IsSearch all now waiting marks (p ∷ candidates) order → IsLeastOf (IsReady (length all.uses) (IsBeforeIn all) order) p → IsSearch all (record { holders = holders'; held = now.held; uses = now.uses }) waiting' marks' candidates' order'
taken_by all now waiting marks marks' order order' candidates p modules holders' waiting' candidates' e f g t r settled s next =
    subst (λ (m : List Bool). IsSearch all (record { holders = holders'; held = now.held; uses = now.uses }) waiting' m candidates' order') (sym e)
    (subst (λ (o : List ℕ). IsSearch all (record { holders = holders'; held = now.held; uses = now.uses }) waiting' (set marks p false) candidates' o) (sym f)
    (taken all now waiting marks order candidates p s next holders' waiting' candidates'
    (subst (λ (m : List Bool). IsTrimmed m now.holders holders') e t) r
    (subst (λ (ms : List ℕ). AreSettled (set marks p false) now.holders waiting' ms) g (subst (λ (m : List Bool). AreSettled m now.holders waiting' modules) e settled))))

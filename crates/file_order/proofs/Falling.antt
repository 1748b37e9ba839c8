-- Rows whose numbers fall, and the last open number of a row.
use Rattle.std.proofs.Common.{◌≡◌, ◌≢◌, ◌<◌, ◌≤◌, ⊎_elim, ℕ, Option, Some, None, IfSome, IfNone, Bool, true, false, not, eqb, List, [], ◌∷◌, ◌++◌, length, get_or, set, sym, ◌∙◌, ap, subst, refl, arith}
use Rattle.std.specs.List.{Contains}
use Rattle.std.specs.Option.{is_some, option_to_list, option_eq}
use Rattle.std.proofs.lemmas.Bool.{cases_eq, cases_lt}
use Rattle.std.proofs.lemmas.Bool.Decides.{nat_tests}
use Rattle.std.proofs.lemmas.List.{get_or-set_same, get_or-set_other, length-set, length_push, same_from_push, get_or_append_left, get_or_push}
use Rattle.std.proofs.lemmas.List.Elements.{Contains-append_left, Contains-push, Contains-push_cases}
use Rattle.file_order.specs.Search.{row_at, is_open, IsListed, IsOpen, IsLeastIf, HasTwoIf, IsFalling, AreFalling, IsTrimmed}
use Rattle.file_order.proofs.Lists.{contains_at, at_contains, not_in_none}

-- the last of a list is what a pop takes out
pub popped_last : (old new front : List ℕ) (x : ℕ) (taken : Option ℕ) → old ≡ new ++ option_to_list taken → IfNone taken (old ≡ []) → old ≡ front ++ x ∷ [] → old ≡ new ++ x ∷ []
popped_last old new front x None e none f = absurd (omega (arith, ap length (sym none ∙ f), length_push front x))
popped_last old new front x (Some y) e none f = e ∙ ap (λ (z : ℕ). new ++ z ∷ []) (same_from_push new front y x (sym e ∙ f)).1

pub last_in : (old front : List ℕ) (x : ℕ) → old ≡ front ++ x ∷ [] → Contains old x
last_in old front x e = subst (λ (xs : List ℕ). Contains xs x) (sym e) (Contains-push front x)

pub not_both : (b : Bool) → b ≡ true → b ≡ false → ⊥
not_both b t f = cc

-- what a test of a number that may be absent says
pub is_some_of : (o : Option ℕ) (p : ℕ) → option_eq eqb o (Some p) ≡ true → o ≡ Some p
is_some_of None p h = let never : false ≡ true = h in absurd cc
is_some_of (Some x) p h = let same : x ≡ p = grind (arith, nat_tests) in ap Some same

pub is_not_some_of : (o : Option ℕ) (p : ℕ) → option_eq eqb o (Some p) ≡ false → o ≡ Some p → ⊥
is_not_some_of None p h same = let never : None ≡ Some p = same in cc
is_not_some_of (Some x) p h same = let is : x ≡ p = cc in grind (arith, nat_tests)

pub not_true : (b c : Bool) → b ≡ not c → b ≡ true → c ≡ false
not_true b true e t = let never : false ≡ true = sym e ∙ t in absurd cc
not_true b false e t = refl

-- a list with x in the row of a place has the same rows elsewhere
pub row_other : (old new : List (List ℕ)) (place b : ℕ) (ys : List ℕ) → new ≡ set old place ys → b ≢ place → row_at new b ≡ row_at old b
row_other old new place b ys e h = ap (λ (x : List (List ℕ)). row_at x b) e ∙ get_or-set_other old place b ys [] h

pub row_same : (old new : List (List ℕ)) (place : ℕ) (ys : List ℕ) → new ≡ set old place ys → place < length old → row_at new place ≡ ys
row_same old new place ys e within = ap (λ (x : List (List ℕ)). row_at x place) e ∙ get_or-set_same old place ys [] within

pub falling_none : IsFalling []
falling_none i j less within = absurd (omega (arith, within))

pub falling_front : (front : List ℕ) (x : ℕ) → IsFalling (front ++ x ∷ []) → IsFalling front
falling_front front x f i j less within =
    let long = length_push front x in
    let inside : i < length front = omega arith in
    omega (arith, f i j less (omega (arith, long, within)), get_or_append_left front (x ∷ []) 0 i inside, get_or_append_left front (x ∷ []) 0 j within)

pub falling_last : (front : List ℕ) (x q : ℕ) → IsFalling (front ++ x ∷ []) → Contains front q → x < q
falling_last front x q f c =
    let at = at_contains front q c in
    let long = length_push front x in
    let less = f at.0 (length front) at.1.0 (omega (arith, long)) in
    omega (arith, less, at.1.1, get_or_append_left front (x ∷ []) 0 at.0 at.1.0, get_or_push front x 0 (length front) refl)

pub falling_push : (front : List ℕ) (x : ℕ) → IsFalling front → ((q : ℕ) → Contains front q → x < q) → IsFalling (front ++ x ∷ [])
falling_push front x f least i j less within =
    let long = length_push front x in
    ⊎_elim
    (λ (old : j < length front). omega (arith, f i j less old, get_or_append_left front (x ∷ []) 0 i (omega arith), get_or_append_left front (x ∷ []) 0 j old))
    (λ (last : length front ≤ j).
    let is : length front ≡ j = omega (arith, long, within) in
    let inside : i < length front = omega arith in
    omega (arith, least (get_or front i 0) (contains_at front i (get_or front i 0) (inside, refl)), get_or_append_left front (x ∷ []) 0 i inside, get_or_push front x 0 j is))
    (cases_lt j (length front))

-- a row that lost its last number
pub falling_pop : (old new : List (List ℕ)) (place x : ℕ) → row_at old place ≡ row_at new place ++ x ∷ [] → new ≡ set old place (row_at new place) → AreFalling old → AreFalling new
falling_pop old new place x row others f m =
    ⊎_elim
    (λ (here : m ≡ place). subst (λ (k : ℕ). IsFalling (row_at new k)) (sym here) (falling_front (row_at new place) x (subst IsFalling row (f place))))
    (λ (there : m ≢ place). subst IsFalling (sym (row_other old new place m (row_at new place) others there)) (f m))
    (cases_eq m place)

pub trimmed_none : (marks : List Bool) (old : List (List ℕ)) → IsTrimmed marks old old
trimmed_none marks old = record { count = refl; listed = λ a b h. h; kept = λ a b h o. h; falling = λ f. f }

pub trimmed_more : (marks : List Bool) (old mid new : List (List ℕ)) → IsTrimmed marks old mid → IsTrimmed marks mid new → IsTrimmed marks old new
trimmed_more marks old mid new s t = record {
  count = t.count ∙ s.count;
  listed = λ a b h. s.listed a b (t.listed a b h);
  kept = λ a b h o. t.kept a b (s.kept a b h o) o;
  falling = λ f. t.falling (s.falling f);
}

-- what a pop takes out of the row of a place, and what it leaves
pub popped_listed : (mid new : List (List ℕ)) (place x a b : ℕ) → row_at mid place ≡ row_at new place ++ x ∷ [] → new ≡ set mid place (row_at new place) → IsListed new a b → IsListed mid a b
popped_listed mid new place x a b row others h =
    ⊎_elim
    (λ (here : b ≡ place). subst (λ (xs : List ℕ). Contains xs a) (sym row ∙ ap (row_at mid) (sym here)) (Contains-append_left (row_at new place) (x ∷ []) a (subst (λ (y : ℕ). Contains (row_at new y) a) here h)))
    (λ (there : b ≢ place). subst (λ (xs : List ℕ). Contains xs a) (row_other mid new place b (row_at new place) others there) h)
    (cases_eq b place)

pub popped_kept : (mid new : List (List ℕ)) (place x a b : ℕ) → row_at mid place ≡ row_at new place ++ x ∷ [] → new ≡ set mid place (row_at new place) → (b ≡ place → x ≡ a → ⊥) → IsListed mid a b → IsListed new a b
popped_kept mid new place x a b row others stays h =
    ⊎_elim
    (λ (here : b ≡ place).
    ⊎_elim
    (λ (left : Contains (row_at new place) a). subst (λ (y : ℕ). Contains (row_at new y) a) (sym here) left)
    (λ (goes : x ≡ a). absurd (stays here goes))
    (Contains-push_cases (row_at new place) x a (subst (λ (xs : List ℕ). Contains xs a) (ap (row_at mid) here ∙ row) h)))
    (λ (there : b ≢ place). subst (λ (xs : List ℕ). Contains xs a) (sym (row_other mid new place b (row_at new place) others there)) h)
    (cases_eq b place)

pub trimmed_pop : (marks : List Bool) (old mid new : List (List ℕ)) (place x : ℕ) → IsTrimmed marks old mid → row_at mid place ≡ row_at new place ++ x ∷ [] → new ≡ set mid place (row_at new place) → is_open marks x ≡ false → IsTrimmed marks old new
trimmed_pop marks old mid new place x t row others shut =
    trimmed_more marks old mid new t (record {
      count = ap length others ∙ length-set mid place (row_at new place);
      listed = λ a b h. popped_listed mid new place x a b row others h;
      kept = λ a b h o. popped_kept mid new place x a b row others (λ here goes. not_both (is_open marks a) o (ap (is_open marks) (sym goes) ∙ shut)) h;
      falling = falling_pop mid new place x row others;
    })

-- the last open number of a row that falls is the least
pub least_of_row : (marks : List Bool) (rows : List (List ℕ)) (m : ℕ) (P : ℕ → Type 0) (o : Option ℕ) → IfSome o (IsOpen marks) → IfSome o (λ p. (front : List ℕ) × (row_at rows m ≡ front ++ p ∷ [])) → IfNone o (row_at rows m ≡ [])
    → IsFalling (row_at rows m) → ((q : ℕ) → P q → IsListed rows q m) → ((q : ℕ) → o ≡ Some q → IsOpen marks q → IsListed rows q m → P q) → IsLeastIf P o
least_of_row marks rows m P None open_o last none f into from = λ q h. not_in_none q (subst (λ (xs : List ℕ). Contains xs q) none (into q h))
least_of_row marks rows m P (Some p) open_o last none f into from = (
  from p refl open_o (last_in (row_at rows m) last.0 p last.1),
  λ q h.
      ⊎_elim
      (λ (front : Contains last.0 q). let less = falling_last last.0 p q (subst IsFalling last.1 f) front in omega (arith, less))
      (λ (same : p ≡ q). omega (arith, same))
      (Contains-push_cases last.0 p q (subst (λ (xs : List ℕ). Contains xs q) last.1 (into q h))),
)

-- A row whose last number was put aside and back, with the rows trimmed in between.
module _ (marks : List Bool) (old mid cut new : List (List ℕ)) (m x : ℕ) (within : m < length old) (row : row_at old m ≡ row_at mid m ++ x ∷ []) (others : mid ≡ set old m (row_at mid m)) (t : IsTrimmed marks mid cut) (back : new ≡ set cut m (row_at cut m ++ x ∷ [])) where
  put_row : row_at new m ≡ row_at cut m ++ x ∷ []
  put_row = row_same cut new m (row_at cut m ++ x ∷ []) back (omega (arith, within, ap length others, length-set old m (row_at mid m), t.count))

  put_other : (b : ℕ) → b ≢ m → row_at new b ≡ row_at cut b
  put_other b apart = row_other cut new m b (row_at cut m ++ x ∷ []) back apart

  put_listed : (a b : ℕ) → IsListed new a b → IsListed old a b
  put_listed a b h =
      ⊎_elim
      (λ (here : b ≡ m).
      ⊎_elim
      (λ (front : Contains (row_at cut m) a). popped_listed old mid m x a b row others (t.listed a b (subst (λ (k : ℕ). Contains (row_at cut k) a) (sym here) front)))
      (λ (is : x ≡ a). subst (λ (xs : List ℕ). Contains xs a) (sym row ∙ ap (row_at old) (sym here)) (subst (λ (y : ℕ). Contains (row_at mid m ++ x ∷ []) y) is (Contains-push (row_at mid m) x)))
      (Contains-push_cases (row_at cut m) x a (subst (λ (xs : List ℕ). Contains xs a) (ap (row_at new) here ∙ put_row) h)))
      (λ (there : b ≢ m). popped_listed old mid m x a b row others (t.listed a b (subst (λ (xs : List ℕ). Contains xs a) (put_other b there) h)))
      (cases_eq b m)

  put_kept : (a b : ℕ) → IsListed old a b → IsOpen marks a → IsListed new a b
  put_kept a b h o =
      ⊎_elim
      (λ (here : b ≡ m).
      subst (λ (xs : List ℕ). Contains xs a) (sym put_row ∙ ap (row_at new) (sym here))
      (⊎_elim
      (λ (front : Contains (row_at mid m) a). Contains-append_left (row_at cut m) (x ∷ []) a (t.kept a m front o))
      (λ (is : x ≡ a). subst (λ (y : ℕ). Contains (row_at cut m ++ x ∷ []) y) is (Contains-push (row_at cut m) x))
      (Contains-push_cases (row_at mid m) x a (subst (λ (xs : List ℕ). Contains xs a) (ap (row_at old) here ∙ row) h))))
      (λ (there : b ≢ m). subst (λ (xs : List ℕ). Contains xs a) (sym (put_other b there)) (t.kept a b (popped_kept old mid m x a b row others (λ here goes. there here) h) o))
      (cases_eq b m)

  mid_falling : AreFalling old → AreFalling mid
  mid_falling f = falling_pop old mid m x row others f

  above : AreFalling old → (q : ℕ) → IsListed cut q m → x < q
  above f q h = falling_last (row_at mid m) x q (subst IsFalling row (f m)) (t.listed q m h)

  put_falling : AreFalling old → AreFalling new
  put_falling f b =
      let rows = t.falling (mid_falling f) in
      ⊎_elim
      (λ (here : b ≡ m). subst IsFalling (sym put_row ∙ ap (row_at new) (sym here)) (falling_push (row_at cut m) x (rows m) (above f)))
      (λ (there : b ≢ m). subst IsFalling (sym (put_other b there)) (rows b))
      (cases_eq b m)

  pub put_trimmed : IsTrimmed marks old new
  put_trimmed = record {
    count = ap length back ∙ length-set cut m (row_at cut m ++ x ∷ []) ∙ t.count ∙ ap length others ∙ length-set old m (row_at mid m);
    listed = put_listed;
    kept = put_kept;
    falling = put_falling;
  }

  pub put_least : AreFalling old → (o : Option ℕ) → IfSome o (IsOpen marks) → IfSome o (λ p. (front : List ℕ) × (row_at cut m ≡ front ++ p ∷ [])) → IfNone o (row_at cut m ≡ []) → IsLeastIf (λ a. (a ≢ x) × IsOpen marks a × IsListed old a m) o
  put_least f o open_o last none =
      least_of_row marks cut m (λ a. (a ≢ x) × IsOpen marks a × IsListed old a m) o open_o last none (t.falling (mid_falling f) m)
      (λ q h. ⊎_elim
      (λ (front : Contains (row_at mid m) q). t.kept q m front h.1)
      (λ (is : x ≡ q). absurd (h.0 (sym is)))
      (Contains-push_cases (row_at mid m) x q (subst (λ (xs : List ℕ). Contains xs q) row h.2)))
      (λ q some open_q h. (let less = above f q h in λ same. absurd (omega (arith, less, same)), open_q, popped_listed old mid m x q m row others (t.listed q m h)))

-- the last open one is the least other than a place that it is not
pub least_last : (marks : List Bool) (old new : List (List ℕ)) (m place : ℕ) (o : Option ℕ) → IsTrimmed marks old new → AreFalling old → IfSome o (IsOpen marks) → IfSome o (λ p. (front : List ℕ) × (row_at new m ≡ front ++ p ∷ [])) → IfNone o (row_at new m ≡ []) → (o ≡ Some place → ⊥) → IsLeastIf (λ a. (a ≢ place) × IsOpen marks a × IsListed old a m) o
least_last marks old new m place o t f open_o last none other =
    least_of_row marks new m (λ a. (a ≢ place) × IsOpen marks a × IsListed old a m) o open_o last none (t.falling f m)
    (λ q h. t.kept q m h.2 h.1)
    (λ q some open_q h. (λ same. other (some ∙ ap Some same), open_q, t.listed q m h))

-- the same in the rows before they were trimmed
pub least_before : (marks : List Bool) (old mid : List (List ℕ)) (m place : ℕ) (o : Option ℕ) → IsTrimmed marks old mid → IsLeastIf (λ a. (a ≢ place) × IsOpen marks a × IsListed mid a m) o → IsLeastIf (λ a. (a ≢ place) × IsOpen marks a × IsListed old a m) o
least_before marks old mid m place None t least = λ q h. least q (h.0, h.1, t.kept q m h.2 h.1)
least_before marks old mid m place (Some p) t least = ((least.0.0, least.0.1, t.listed p m least.0.2), λ q h. least.1 q (h.0, h.1, t.kept q m h.2 h.1))

-- the last open one and another
pub two_open : (marks : List Bool) (old mid : List (List ℕ)) (m first : ℕ) (o : Option ℕ) → IsTrimmed marks old mid → IsOpen marks first → IsListed mid first m → IsLeastIf (λ a. (a ≢ first) × IsOpen marks a × IsListed mid a m) o → (p second : ℕ) → o ≡ Some second → (a : ℕ) × (a ≢ p) × (IsOpen marks a × IsListed old a m)
two_open marks old mid m first None t open_first listed least p second none = let never : None ≡ Some second = none in absurd cc
two_open marks old mid m first (Some x) t open_first listed least p second some =
    ⊎_elim
    (λ (same : p ≡ first). (x, (λ e. least.0.0 (e ∙ same)), (least.0.1, t.listed x m least.0.2)))
    (λ (other : p ≢ first). (first, (λ e. other (sym e)), (open_first, t.listed first m listed)))
    (cases_eq p first)

pub two_if : (P : ℕ → Type 0) (o : Option ℕ) (b : Bool) → b ≡ is_some o → ((p second : ℕ) → o ≡ Some second → (a : ℕ) × (a ≢ p) × P a) → HasTwoIf P b
two_if P None b e h = subst (HasTwoIf P) (sym e) tt
two_if P (Some x) b e h = subst (HasTwoIf P) (sym e) (λ p. h p x refl)

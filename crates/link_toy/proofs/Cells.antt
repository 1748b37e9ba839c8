-- The relation of variables and memory: through an assignment, a temporary, a count and a call.
use Rattle.std.proofs.Common.{◌≡◌, ℕ, suc, ◌+◌, ◌≤◌, ◌<◌, Bool, true, false, cond, eqb, ltb, List, [], ◌∷◌, ◌||◌, Option, Some, None, refl, sym, ap, subst, ◌∙◌, arith, lt-ltb, le-ltb, eq-eqb, ne_eqb, eqb-true}
use Rattle.std.proofs.lemmas.Bool.{eqb-false}
use Rattle.std.proofs.lemmas.Map.{update_apart}
use Rattle.link_toy.specs.Source.{Scope, is_among, is_declared}
use Rattle.link_toy.specs.Meaning.{slot, Store, find, put, zeros, opened}
use Rattle.link_toy.specs.Target.{Memory, cell, set_cell, call_cells, enter_frame, leave_frame}
use Rattle.link_toy.specs.Translation.{Layout, IsLayout, initial_memory}
use Rattle.link_toy.specs.Relation.{ObjectsHold, Kept, CellsKept, Stands, with_count, in_procedure, in_call, Unchanged, Besides}
use Rattle.link_toy.proofs.Helper.{cell_set, cell_apart}

-- what a variable has that is written
pub put_here : (x v u : ℕ) (s : Store) → find x s ≡ Some u → find x (put x v s) ≡ Some v
put_here x v u [] e = absurd (cc e)
put_here x v u (s ∷ store) e = by_test (eqb x s.name) refl (put_here x v u store)
  where
    by_test : (b : Bool) → eqb x s.name ≡ b → (find x store ≡ Some u → find x (put x v store) ≡ Some v) → find x (cond b (slot s.name v ∷ store) (s ∷ put x v store)) ≡ Some v
    by_test true is behind = ap (λ b. cond b (Some v) (find x store)) is
    by_test false is behind = ap (λ b. cond b (Some s.value) (find x (put x v store))) is ∙ behind (sym (ap (λ b. cond b (Some s.value) (find x store)) is) ∙ e)

pub put_apart : (x v y : ℕ) (s : Store) → eqb y x ≡ false → find y (put x v s) ≡ find y s
put_apart x v y [] apart = refl
put_apart x v y (s ∷ store) apart = by_test (eqb x s.name) refl (put_apart x v y store apart)
  where
    by_test : (b : Bool) → eqb x s.name ≡ b → find y (put x v store) ≡ find y store → find y (cond b (slot s.name v ∷ store) (s ∷ put x v store)) ≡ cond (eqb y s.name) (Some s.value) (find y store)
    by_test true is behind =
        let not_there : eqb y s.name ≡ false = subst (λ z. eqb y z ≡ false) (eqb-true x s.name is) apart in
        ap (λ b. cond b (Some v) (find y store)) not_there ∙ sym (ap (λ b. cond b (Some s.value) (find y store)) not_there)
    by_test false is behind = ap (λ z. cond (eqb y s.name) (Some s.value) z) behind

zeros_hold : (x : ℕ) (names : List ℕ) → is_among x names ≡ true → find x (zeros names) ≡ Some 0
zeros_hold x [] d = absurd (cc d)
zeros_hold x (y ∷ names) d = by_test (eqb x y) refl (zeros_hold x names)
  where
    by_test : (b : Bool) → eqb x y ≡ b → (is_among x names ≡ true → find x (zeros names) ≡ Some 0) → cond (eqb x y) (Some 0) (find x (zeros names)) ≡ Some 0
    by_test true is behind = ap (λ b. cond b (Some 0) (find x (zeros names))) is
    by_test false is behind = ap (λ b. cond b (Some 0) (find x (zeros names))) is ∙ behind (sym (ap (λ b. b || is_among x names) is) ∙ d)

pub opened_holds : (scope : Scope) (v x : ℕ) → is_declared scope x ≡ true → find x (opened scope v) ≡ Some (cond (eqb x scope.argument) v 0)
opened_holds scope v x d = by_test (eqb x scope.argument) refl
  where
    by_test : (b : Bool) → eqb x scope.argument ≡ b → cond (eqb x scope.argument) (Some v) (find x (zeros scope.others)) ≡ Some (cond b v 0)
    by_test true is = ap (λ b. cond b (Some v) (find x (zeros scope.others))) is
    by_test false is = ap (λ b. cond b (Some v) (find x (zeros scope.others))) is ∙ zeros_hold x scope.others (sym (ap (λ b. b || is_among x scope.others) is) ∙ d)

argument_declared : (scope : Scope) → is_declared scope scope.argument ≡ true
argument_declared scope = ap (λ b. b || is_among scope.argument scope.others) (eq-eqb scope.argument scope.argument refl)

pub unchanged_same : (t : ℕ) (m : Memory) → Unchanged t m m
unchanged_same t m = (refl, (λ a b. refl))

pub unchanged_more : (t t' : ℕ) → t ≤ t' → (m m' m'' : Memory) → Unchanged t m m' → Unchanged t' m' m'' → Unchanged t m m''
unchanged_more t t' le m m' m'' h k = (k.0 ∙ h.0, (λ a b. let e = h.0 in k.1 a (omega (arith, b, e)) ∙ h.1 a b))

pub unchanged_set : (t o v : ℕ) (m : Memory) → t ≤ o → Unchanged t m (set_cell o v m)
unchanged_set t o v m le = (refl, (λ a b. update_apart m.cells (m.frame + o) (Some v) a (λ e. omega (arith, e, b))))

pub cell_kept : (t o : ℕ) (m m' : Memory) → o < t → Unchanged t m m' → cell o m' ≡ cell o m
cell_kept t o m m' lt h = ap (λ f. m'.cells (f + o)) h.0 ∙ h.1 (m.frame + o) (omega arith)

module _ (scope : Scope) (layout : Layout) (ok : IsLayout scope layout) where
  pub objects_kept : (t : ℕ) → layout.base ≤ t → (s : Store) (m m' : Memory) → ObjectsHold scope layout s m → Unchanged t m m' → ObjectsHold scope layout s m'
  objects_kept t le s m m' h k x d = let y = h x d in (y.0, y.1, cell_kept t (layout.object x) m m' (let i = ok.inside x d in omega (arith, i)) k ∙ y.2)

  -- what is put into temporaries from the top on
  pub stands_kept : (kept : Kept) (t : ℕ) → layout.base ≤ kept.top → kept.top ≤ t → (s : Store) (m m' : Memory) → Stands scope layout kept s m → Unchanged t m m' → Stands scope layout kept s m'
  stands_kept kept t low le s m m' h k = (
    objects_kept t (omega arith) s m m' h.0 k,
    k.0 ∙ h.1,
    (λ a b. let e = h.1 in k.1 a (omega (arith, b, e)) ∙ h.2 a b),
    (λ c b lt. cell_kept t c m m' (omega arith) k ∙ h.3 c b lt),
  )

  objects_assigned : (x v : ℕ) → is_declared scope x ≡ true → (s : Store) (m : Memory) → ObjectsHold scope layout s m → ObjectsHold scope layout (put x v s) (set_cell (layout.object x) v m)
  objects_assigned x v dx s m h y dy = by_test (eqb y x) refl
    where
      by_test : (b : Bool) → eqb y x ≡ b → (u : ℕ) × (find y (put x v s) ≡ Some u) × (cell (layout.object y) (set_cell (layout.object x) v m) ≡ Some u)
      by_test true is = subst (λ z. (u : ℕ) × (find z (put x v s) ≡ Some u) × (cell (layout.object z) (set_cell (layout.object x) v m) ≡ Some u)) (sym (eqb-true y x is)) (v, put_here x v (h x dx).0 s (h x dx).1, cell_set (layout.object x) v m)
      by_test false is = let k = h y dy in (k.0, put_apart x v y s is ∙ k.1, cell_apart (layout.object x) v (layout.object y) m (λ e. eqb-false y x is (ok.apart y x dy dx e)) ∙ k.2)

  pub stands_assigned : (kept : Kept) (x v : ℕ) → is_declared scope x ≡ true → (s : Store) (m : Memory) → Stands scope layout kept s m → Stands scope layout kept (put x v s) (set_cell (layout.object x) v m)
  stands_assigned kept x v dx s m h = (
    objects_assigned x v dx s m h.0,
    h.1,
    (λ a below. let fr = h.1 in update_apart m.cells (m.frame + layout.object x) (Some v) a (λ e. omega (arith, e, below, fr)) ∙ h.2 a below),
    (λ c b lt. cell_apart (layout.object x) v c m (λ e. let i = ok.inside x dx in omega (arith, e, i, b)) ∙ h.3 c b lt),
  )

  -- a count begins in the temporary at the top, goes down, and is forgotten
  module _ (kept : Kept) (low : layout.base ≤ kept.top) where
    pub count_begins : (v : ℕ) (s : Store) (m : Memory) → Besides kept.top v (Stands scope layout kept) s m → Stands scope layout (with_count kept v) s m
    count_begins v s m h = (h.1.0, h.1.1, h.1.2, (λ c b lt. by_test c b lt (eqb c kept.top) refl))
      where
        by_test : (c : ℕ) → layout.base ≤ c → c < suc kept.top → (b : Bool) → eqb c kept.top ≡ b → cell c m ≡ cond b (Some v) (kept.counts c)
        by_test c b lt true is = ap (λ z. cell z m) (eqb-true c kept.top is) ∙ h.0
        by_test c b lt false is = h.1.3 c b (let other = eqb-false c kept.top is in omega (arith, lt, other))

    pub count_is : (v : ℕ) (s : Store) (m : Memory) → Stands scope layout (with_count kept v) s m → cell kept.top m ≡ Some v
    count_is v s m h = h.3 kept.top low (omega arith) ∙ ap (λ b. cond b (Some v) (kept.counts kept.top)) (eq-eqb kept.top kept.top refl)

    pub count_ends : (v : ℕ) (s : Store) (m : Memory) → Stands scope layout (with_count kept v) s m → Stands scope layout kept s m
    count_ends v s m h = (h.0, h.1, h.2, (λ c b lt. h.3 c b (omega arith) ∙ ap (λ b. cond b (Some v) (kept.counts c)) (ne_eqb c kept.top (λ e. omega (arith, e, lt)))))

    pub counts_down : (v u : ℕ) (s : Store) (m : Memory) → Stands scope layout (with_count kept v) s m → Stands scope layout (with_count kept u) s (set_cell kept.top u m)
    counts_down v u s m h = count_begins u s (set_cell kept.top u m) (cell_set kept.top u m, stands_kept kept kept.top low (omega arith) s m (set_cell kept.top u m) (count_ends v s m h) (unchanged_set kept.top kept.top u m (omega arith)))

  -- a call's frame behind the temporaries below t
  module _ (t v : ℕ) (m : Memory) where
    abbrev argument : ℕ
    argument = layout.object scope.argument

    abbrev cells : ℕ → Option ℕ
    cells = call_cells t layout.base argument v m

    abbrev spot : ℕ → ℕ
    spot x = m.frame + t + layout.object x

    call_keeps : (a : ℕ) → a < m.frame + t → cells a ≡ m.cells a
    call_keeps a below = ap (λ b. cond b (m.cells a) (cond (eqb a (m.frame + t + argument)) (Some v) (cond (ltb a (m.frame + t + layout.base)) (Some 0) None))) (lt-ltb a (m.frame + t) below)

    call_sets : (x : ℕ) → is_declared scope x ≡ true → cells (spot x) ≡ Some (cond (eqb x scope.argument) v 0)
    call_sets x d = ap (λ b. cond b (m.cells (spot x)) (cond (eqb (spot x) (m.frame + t + argument)) (Some v) (cond (ltb (spot x) (m.frame + t + layout.base)) (Some 0) None))) (le-ltb (spot x) (m.frame + t) (omega arith)) ∙ by_test (eqb x scope.argument) refl
      where
        by_test : (b : Bool) → eqb x scope.argument ≡ b → cond (eqb (spot x) (m.frame + t + argument)) (Some v) (cond (ltb (spot x) (m.frame + t + layout.base)) (Some 0) None) ≡ Some (cond b v 0)
        by_test true e = ap (λ b. cond b (Some v) (cond (ltb (spot x) (m.frame + t + layout.base)) (Some 0) None)) (eq-eqb (spot x) (m.frame + t + argument) (ap (λ y. m.frame + t + layout.object y) (eqb-true x scope.argument e)))
        by_test false e =
            ap (λ b. cond b (Some v) (cond (ltb (spot x) (m.frame + t + layout.base)) (Some 0) None)) (ne_eqb (spot x) (m.frame + t + argument) (λ h. eqb-false x scope.argument e (ok.apart x scope.argument d (argument_declared scope) (omega (arith, h)))))
            ∙ ap (λ b. cond b (Some 0) None) (lt-ltb (spot x) (m.frame + t + layout.base) (let i = ok.inside x d in omega (arith, i)))

    pub call_begins : (kept : Kept) → kept.top ≡ t → m.frame ≡ kept.frame → Stands scope layout (in_call layout kept cells) (opened scope v) (enter_frame t layout.base argument v m)
    call_begins kept et ef = ((λ x d. (cond (eqb x scope.argument) v 0, opened_holds scope v x d, call_sets x d)), omega (arith, et, ef), (λ a below. refl), (λ c b lt. absurd (omega (arith, b, lt))))

    pub call_returns : (kept : Kept) (s : Store) (inner : Memory) → kept.top ≡ t → layout.base ≤ t → Stands scope layout kept s m → CellsKept (in_call layout kept cells) inner → Stands scope layout kept s (leave_frame m inner)
    call_returns kept s inner et low h k =
        stands_kept kept t (omega (arith, et)) (omega (arith, et)) s m (leave_frame m inner) h
        (refl, (λ a below. let fr = h.1 in k a (omega (arith, below, fr, et)) ∙ call_keeps a below))

  pub started : Stands scope layout (in_procedure layout (λ a. None) 0) (opened scope 0) (initial_memory layout)
  started = (
    (λ x d. (0, opened_holds scope 0 x d ∙ ap Some (same (eqb x scope.argument)), ap (λ b. cond b (Some 0) None) (lt-ltb (0 + layout.object x) layout.base (let i = ok.inside x d in omega (arith, i))))),
    refl,
    (λ a below. absurd (omega arith)),
    (λ c b lt. absurd (omega (arith, b, lt))),
  )
    where
      same : (b : Bool) → ◌≡◌ {A = ℕ} (cond b 0 0) 0
      same true = refl
      same false = refl

-- Assignments through a new variable: every act matches, and so whole programs are near.
use Rattle.std.proofs.Common.{◌≡◌, ℕ, ◌+◌, ◌*◌, leb, Bool, true, false, cond, eqb, ◌||◌, [], Option, Some, None, refl, sym, ap, subst, ◌∙◌, eqb-true, eq-eqb}
use Rattle.std.proofs.lemmas.Bool.{and_parts}
use Rattle.lf_base.specs.Outcome.{Location, Written, Fault, Stuck, Wrong, Never, written}
use Rattle.lf_base.specs.Traps.{trap_text}
use Rattle.lf_base.specs.declared.trap.Trap.TheVariants.{IntegerOverflow}
use Rattle.lf_base.specs.Near.{IsNearBy}
use Rattle.lf_base.specs.Acts.{Act, then_do, bind, give, look, change, print, trap_at, given, next_or, iterate}
use Rattle.lf_base.specs.Depth.{calls}
use Rattle.lf_base.specs.Loops.{landing, counted}
use Rattle.lf_base.specs.Equal.{World, MatchAt, Match, Always, Anyhow}
use Rattle.lf_base.proofs.Equals.{bind_bind}
use Rattle.lf_base.proofs.Matches.{bind_match, give_match, look_match, change_match, print_match, trap_match, next_match, iterate_match, within_match, match_outcomes, step_match, given_match, cond_match, landing_match, counted_match, calls_match}
use Rattle.lf_base.proofs.Nearby.{near_of_equal}
use Rattle.link_toy.specs.Source.{Expression, Number, Variable, Sum, Less, Product, Statement, Skip, Sequence, Assign, While, Repeat, Exit, Call, Print, Scope, Program, IsFine, is_among, is_declared, knows, is_fine}
use Rattle.link_toy.specs.Meaning.{Store, Signal, Leave, leaves, by_name, find, put, zeros, opened, enter, leave, less, is_true, largest_factor, line_of, product, fetch, assign, value, test, invoke, exec, callee, success, whole, run}
use Rattle.link_toy.specs.Temporary.{through, widened, passed, IsNew}
use Rattle.link_toy.proofs.Larger.{source_larger}
use Rattle.link_toy.proofs.Cells.{put_here, put_apart}
use Rattle.link_toy.proofs.Names.{Declares, names_put, names_opened, found}
use Rattle.link_toy.proofs.Values.{fetch_is}
use Rattle.link_toy.proofs.Straight.{assign_is}

-- the declared variables have the same values, and the new one has any
abbrev Beside : Scope → ℕ → Store → Store → Type 0
Beside scope t s s' = ((x : ℕ) → is_declared scope x ≡ true → find x s' ≡ find x s) × (u : ℕ) × (find t s' ≡ Some u)

-- the new variable is written and read, and then x is written
copy_is : (here : Location) (scope : Scope) (n : ℕ) (inner : ℕ → Act Store (Unit {0})) (t x v u : ℕ) (s : Store) (w : Written) → find t s ≡ Some u → bind (bind (assign by_name t v) (λ a. give None)) (next_or (exec by_name scope n inner (Assign here x (Variable t)))) s w ≡ bind (assign by_name x v) (λ a. give None) (put t v s) w
copy_is here scope n inner t x v u s w e =
    ap (λ z. then_do (then_do z (λ a. give None)) (next_or (exec by_name scope n inner (Assign here x (Variable t))))) (assign_is t v u s w e)
    ∙ ap (λ z. then_do z (λ v. bind (assign by_name x v) (λ a. give None))) (fetch_is t v (put t v s) w (put_here t v u s e))

module _ (scope : Scope) (t : ℕ) (new : IsNew t scope) where
  abbrev W : World Store
  W = Declares scope

  abbrev Q : Store → Store → Type 0
  Q = Beside scope t

  abbrev Matches : {A : Type 0} → Act Store A → Act Store A → Type 0
  Matches act act' = Match W Q Always Anyhow act act'

  apart_new : (x : ℕ) → is_declared scope x ≡ true → eqb x t ≡ false
  apart_new x d = by_test (eqb x t) refl
    where
      by_test : (b : Bool) → eqb x t ≡ b → b ≡ false
      by_test false is = refl
      by_test true is = absurd (let f : true ≡ false = sym d ∙ ap (is_declared scope) (eqb-true x t is) ∙ new in cc)

  new_apart : (x : ℕ) → is_declared scope x ≡ true → eqb t x ≡ false
  new_apart x d = by_test (eqb t x) refl
    where
      by_test : (b : Bool) → eqb t x ≡ b → b ≡ false
      by_test false is = refl
      by_test true is = absurd (let f : true ≡ false = sym d ∙ ap (is_declared scope) (sym (eqb-true t x is)) ∙ new in cc)

  beside_new : (v : ℕ) (s s' : Store) → Q s s' → Q s (put t v s')
  beside_new v s s' q = ((λ x d. put_apart t v x s' (apart_new x d) ∙ q.0 x d), v, put_here t v q.1 s' q.2)

  beside_put : (x v : ℕ) → is_declared scope x ≡ true → (s s' : Store) (u : ℕ) → find x s ≡ Some u → Q s s' → Q (put x v s) (put x v s')
  beside_put x v dx s s' u e q = ((λ y dy. by_test y dy (eqb y x) refl), q.1, put_apart x v t s' (new_apart x dx) ∙ q.2)
    where
      by_test : (y : ℕ) → is_declared scope y ≡ true → (b : Bool) → eqb y x ≡ b → find y (put x v s') ≡ find y (put x v s)
      by_test y dy true is = ap (λ z. find z (put x v s')) (eqb-true y x is) ∙ put_here x v u s' (q.0 x dx ∙ e) ∙ sym (put_here x v u s e) ∙ ap (λ z. find z (put x v s)) (sym (eqb-true y x is))
      by_test y dy false is = put_apart x v y s' is ∙ q.0 y dy ∙ sym (put_apart x v y s is)

  beside_opened : (v : ℕ) → Q (opened scope v) (opened (widened t scope) v)
  beside_opened v = (
    (λ x d. ap (λ b. cond (eqb x scope.argument) (Some v) (cond b (Some 0) (find x (zeros scope.others)))) (apart_new x d)),
    0,
    ap (λ b. cond b (Some v) (cond (eqb t t) (Some 0) (find t (zeros scope.others)))) not_argument ∙ ap (λ b. cond b (Some 0) (find t (zeros scope.others))) (eq-eqb t t refl),
  )
    where
      by_parts : (b c : Bool) → (b || c) ≡ false → b ≡ false
      by_parts true c e = absurd (cc e)
      by_parts false c e = refl

      not_argument : eqb t scope.argument ≡ false
      not_argument = by_parts (eqb t scope.argument) (is_among t scope.others) new

  given_alike : {A : Type 0} (a : A) → Matches (give a) (give a)
  given_alike a = give_match W Q Always Anyhow a (λ s i p. tt)

  abbrev HasValue : Option ℕ → Store → Type 0
  HasValue o s = (v : ℕ) × (o ≡ Some v)

  fetch_alike : (x : ℕ) → is_declared scope x ≡ true → Matches (fetch by_name x) (fetch by_name x)
  fetch_alike x d =
      bind_match W Q Always HasValue Anyhow (look (find x)) (look (find x)) (given Stuck) (given Stuck)
      (look_match W Q Always HasValue (find x) (find x) (λ s i p. found scope x s i d) (λ s s' i q. q.0 x d))
      (λ o s i p. given_match W Q (λ t. W.later s t × HasValue o t) Anyhow Stuck o (λ t j q. (q.1.0, q.1.1, tt)))

  assign_alike : (x v : ℕ) → is_declared scope x ≡ true → Matches (assign by_name x v) (assign by_name x v)
  assign_alike x v d =
      step_match W Q (fetch by_name x) (fetch by_name x) (λ old. change (put x v)) (λ old. change (put x v)) (fetch_alike x d)
      (λ old. change_match W Q Always Anyhow (put x v) (put x v) (λ s i p. (names_put x v s, tt)) (λ s s' i p q. let y = found scope x s i d in beside_put x v d s s' y.0 y.1 q))

  product_alike : (here : Location) (u v : ℕ) → Matches (product here u v) (product here u v)
  product_alike here u v = cond_match W Q Always Anyhow (leb u largest_factor) (give (u * v)) (trap_at IntegerOverflow here) (give (u * v)) (trap_at IntegerOverflow here) (given_alike (u * v)) (trap_match W Q Always Anyhow IntegerOverflow (trap_text IntegerOverflow here) (Some here))

  module _ (here : Location) where
    abbrev valued : Expression → Act Store ℕ
    valued = value by_name here

    operator_alike : (a b : Expression) (operator : ℕ → ℕ → Act Store ℕ) → Matches (valued a) (valued a) → Matches (valued b) (valued b) → ((u v : ℕ) → Matches (operator u v) (operator u v)) → Matches (bind (valued a) (λ u. bind (valued b) (operator u))) (bind (valued a) (λ u. bind (valued b) (operator u)))
    operator_alike a b operator ha hb h = step_match W Q (valued a) (valued a) (λ u. bind (valued b) (operator u)) (λ u. bind (valued b) (operator u)) ha (λ u. step_match W Q (valued b) (valued b) (operator u) (operator u) hb (h u))

    value_alike : (e : Expression) → knows scope e ≡ true → Matches (valued e) (valued e)
    value_alike (Number v) f = given_alike v
    value_alike (Variable x) f = fetch_alike x f
    value_alike (Sum a b) f = let both = and_parts (knows scope a) (knows scope b) f in operator_alike a b (λ u v. give (u + v)) (value_alike a both.0) (value_alike b both.1) (λ u v. given_alike (u + v))
    value_alike (Less a b) f = let both = and_parts (knows scope a) (knows scope b) f in operator_alike a b (λ u v. give (less u v)) (value_alike a both.0) (value_alike b both.1) (λ u v. given_alike (less u v))
    value_alike (Product a b) f = let both = and_parts (knows scope a) (knows scope b) f in operator_alike a b (product here) (value_alike a both.0) (value_alike b both.1) (product_alike here)

    test_alike : (e : Expression) → knows scope e ≡ true → Matches (test by_name here e) (test by_name here e)
    test_alike e f = step_match W Q (valued e) (valued e) (λ v. give (is_true v)) (λ v. give (is_true v)) (value_alike e f) (λ v. given_alike (is_true v))

  module _ (n : ℕ) (inner inner' : ℕ → Act Store (Unit {0})) (calls_alike : (p : ℕ) → Matches (inner p) (inner' p)) where
    abbrev first : Statement → Act Store (Option Signal)
    first = exec by_name scope n inner

    abbrev other : Statement → Act Store (Option Signal)
    other = exec by_name (widened t scope) n inner'

    abbrev second : Statement → Act Store (Option Signal)
    second st = other (through t st)

    on : Matches (give {S = Store} {A = Option Signal} None) (give None)
    on = given_alike {A = Option Signal} None

    invoke_alike : (p v : ℕ) → Matches (invoke scope (inner p) v) (invoke (widened t scope) (inner' p) v)
    invoke_alike p v =
        within_match W W Q Q Always Always Anyhow Anyhow (enter scope v) leave (enter (widened t scope) v) leave (bind (inner p) (λ u. give None)) (bind (inner' p) (λ u. give None))
        (λ s i q. (names_opened scope v, tt)) (λ s s' i p q. beside_opened v) (λ s i q a z l k. (refl, tt)) (λ s z s' z' i q l r. q)
        (step_match W Q (inner p) (inner' p) (λ u. give None) (λ u. give None) (calls_alike p) (λ u. on))

    put_through : (here : Location) (x v : ℕ) → is_declared scope x ≡ true → Matches (bind (assign by_name x v) (λ u. give None)) (bind (bind (assign by_name t v) (λ u. give None)) (next_or (other (Assign here x (Variable t)))))
    put_through here x v d s s' i p q w =
        subst (λ z. MatchAt W Q s Anyhow (bind (assign by_name x v) (λ u. give {A = Option Signal} None) s w) z) (sym (copy_is here (widened t scope) n inner' t x v q.1 s' w q.2))
        (step_match W Q (assign by_name x v) (assign by_name x v) (λ u. give None) (λ u. give None) (assign_alike x v d) (λ u. on) s (put t v s') i p (beside_new v s s' q) w)

    assign_through : (here : Location) (x : ℕ) (e : Expression) → is_declared scope x ≡ true → knows scope e ≡ true → Matches (first (Assign here x e)) (second (Assign here x e))
    assign_through here x e d f s s' i p q w =
        subst (λ z. MatchAt W Q s Anyhow (first (Assign here x e) s w) z) (sym (bind_bind (value by_name here e) (λ v. bind (assign by_name t v) (λ u. give None)) (next_or (other (Assign here x (Variable t)))) s' w))
        (step_match W Q (value by_name here e) (value by_name here e) (λ v. bind (assign by_name x v) (λ u. give None)) (λ v. bind (bind (assign by_name t v) (λ u. give None)) (next_or (other (Assign here x (Variable t))))) (value_alike here e f) (λ v. put_through here x v d) s s' i p q w)

    pub statements_alike : (st : Statement) → is_fine scope st ≡ true → Matches (first st) (second st)
    statements_alike Skip f = on
    statements_alike (Sequence a b) f =
        let both = and_parts (is_fine scope a) (is_fine scope b) f in
        step_match W Q (first a) (second a) (next_or (first b)) (next_or (second b)) (statements_alike a both.0) (next_match W Q Always (first b) (second b) (statements_alike b both.1))
    statements_alike (Assign here x e) f = let both = and_parts (is_declared scope x) (knows scope e) f in assign_through here x e both.0 both.1
    statements_alike (While here e body) f =
        let both = and_parts (knows scope e) (is_fine scope body) f in
        step_match W Q (iterate n (test by_name here e) (first body)) (iterate n (test by_name here e) (second body)) (landing leaves) (landing leaves)
        (iterate_match W Q n (test by_name here e) (test by_name here e) (first body) (second body) (test_alike here e both.0) (statements_alike body both.1))
        (landing_match W Q Always leaves)
    statements_alike (Repeat here e body) f =
        let both = and_parts (knows scope e) (is_fine scope body) f in
        step_match W Q (value by_name here e) (value by_name here e) (λ count. bind (counted count n (first body)) (landing leaves)) (λ count. bind (counted count n (second body)) (landing leaves)) (value_alike here e both.0)
        (λ count. step_match W Q (counted count n (first body)) (counted count n (second body)) (landing leaves) (landing leaves) (counted_match W Q count n (first body) (second body) (statements_alike body both.1)) (landing_match W Q Always leaves))
    statements_alike Exit f = given_alike (Some Leave)
    statements_alike (Call here p e) f = step_match W Q (value by_name here e) (value by_name here e) (invoke scope (inner p)) (invoke (widened t scope) (inner' p)) (value_alike here e f) (invoke_alike p)
    statements_alike (Print here e) f =
        step_match W Q (value by_name here e) (value by_name here e) (λ v. bind (print (line_of v)) (λ u. give None)) (λ v. bind (print (line_of v)) (λ u. give None)) (value_alike here e f)
        (λ v. step_match W Q (print (line_of v)) (print (line_of v)) (λ u. give None) (λ u. give None) (print_match W Q Always (line_of v)) (λ u. on))

module _ (t : ℕ) (p : Program) (fine : IsFine p) (new : IsNew t p.scope) where
  abbrev Alike : {A : Type 0} → Act Store A → Act Store A → Type 0
  Alike act act' = Match (Declares p.scope) (Beside p.scope t) Always Anyhow act act'

  module _ (n : ℕ) where
    abbrev plain : ℕ → ℕ → Act Store (Unit {0})
    plain d = calls (callee by_name p.scope n p.bodies) d

    abbrev longer : ℕ → ℕ → Act Store (Unit {0})
    longer d = calls (callee by_name (widened t p.scope) n (passed t p).bodies) d

    one_call : (inner inner' : ℕ → Act Store (Unit {0})) → ((q q' : ℕ) → q' ≡ q → Alike (inner q) (inner' q')) → (q q' : ℕ) → q' ≡ q → Alike (callee by_name p.scope n p.bodies inner q) (callee by_name (widened t p.scope) n (passed t p).bodies inner' q')
    one_call inner inner' h q q' k =
        subst (λ z. Alike (callee by_name p.scope n p.bodies inner q) (callee by_name (widened t p.scope) n (passed t p).bodies inner' z)) (sym k)
        (step_match (Declares p.scope) (Beside p.scope t) (exec by_name p.scope n inner (p.bodies q)) (exec by_name (widened t p.scope) n inner' (through t (p.bodies q))) (λ o. give tt) (λ o. give tt) (statements_alike p.scope t new n inner inner' (λ r. h r r refl) (p.bodies q) (fine.bodies q)) (λ o. given_alike p.scope t new (tt {0})))

    all_calls : (d q : ℕ) → Alike (plain d q) (longer d q)
    all_calls d q = calls_match (Declares p.scope) (Beside p.scope t) (λ q q'. q' ≡ q) (λ q. Always) (λ q. Anyhow) (callee by_name p.scope n p.bodies) (callee by_name (widened t p.scope) n (passed t p).bodies) one_call d q q refl

    whole_alike : (d : ℕ) → Alike (whole by_name p n d) (whole by_name (passed t p) n d)
    whole_alike d = step_match (Declares p.scope) (Beside p.scope t) (exec by_name p.scope n (plain d) p.main) (exec by_name (widened t p.scope) n (longer d) (through t p.main)) (λ o. give success) (λ o. give success) (statements_alike p.scope t new n (plain d) (longer d) (all_calls d) p.main fine.main) (λ o. given_alike p.scope t new {A = ℕ} success)

    outcomes : (d : ℕ) → MatchAt (Declares p.scope) (Beside p.scope t) (opened p.scope 0) Anyhow (whole by_name p n d (opened p.scope 0) (written [] [])) (whole by_name (passed t p) n d (opened (widened t p.scope) 0) (written [] []))
    outcomes d = whole_alike d (opened p.scope 0) (opened (widened t p.scope) 0) (names_opened p.scope 0) tt (beside_opened p.scope t new 0) (written [] [])

    same_outcome : (d : ℕ) → (run (passed t p) n d ≡ run p n d) × ((fault : Fault) → run p n d ≡ Wrong fault → ⊥)
    same_outcome d = match_outcomes (Declares p.scope) (Beside p.scope t) (opened p.scope 0) Anyhow (whole by_name p n d (opened p.scope 0) (written [] [])) (whole by_name (passed t p) n d (opened (widened t p.scope) 0) (written [] [])) (outcomes d)

  pub near_passed : IsNearBy Never 0 0 (run p) (run (passed t p))
  near_passed = near_of_equal Never 0 0 (run p) (run (passed t p)) (source_larger by_name p) (λ n d. (same_outcome n d).0) (λ n d fault is. (same_outcome n d).1 fault is)

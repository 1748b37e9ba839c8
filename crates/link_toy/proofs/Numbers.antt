-- Names resolved to numbers: every act is the same act, and so whole programs are near.
use Rattle.std.proofs.Common.{◌≡◌, ℕ, ◌+◌, ◌*◌, leb, true, [], Option, Some, None, refl, sym, ap, subst}
use Rattle.std.proofs.lemmas.Bool.{and_parts}
use Rattle.lf_base.specs.Outcome.{Location, Written, Stuck, Never, written}
use Rattle.lf_base.specs.Traps.{trap_text}
use Rattle.lf_base.specs.declared.trap.Trap.TheVariants.{IntegerOverflow}
use Rattle.lf_base.specs.Near.{IsNearBy}
use Rattle.lf_base.specs.Acts.{Act, bind, give, look, change, print, trap_at, given, next_or, iterate, outcome_of}
use Rattle.lf_base.specs.Depth.{calls}
use Rattle.lf_base.specs.Loops.{landing, counted}
use Rattle.lf_base.specs.Equal.{World, Equal, Always, Anyhow}
use Rattle.lf_base.proofs.Equals.{bind_equal, give_equal, print_equal, trap_equal, next_equal, iterate_equal, within_equal, sound_outcome, step_equal, look_equal, change_equal, given_equal, cond_equal, landing_equal, counted_equal, calls_equal}
use Rattle.lf_base.proofs.Nearby.{near_of_equal}
use Rattle.link_toy.specs.Source.{Expression, Number, Variable, Sum, Less, Product, Statement, Skip, Sequence, Assign, While, Repeat, Exit, Call, Print, Scope, Program, IsFine, is_declared, knows, is_fine, declared, number_of}
use Rattle.link_toy.specs.Meaning.{Store, Signal, Leave, leaves, by_name, find, put, opened, enter, leave, less, is_true, largest_factor, line_of, product, fetch, assign, value, test, invoke, exec, callee, success, whole, run}
use Rattle.link_toy.specs.Numbered.{names_of, by_number, put_number, resolve_expression, resolve, resolved, run_numbered}
use Rattle.link_toy.proofs.Larger.{source_larger}
use Rattle.link_toy.proofs.Names.{Declares, names_put, names_opened, found, find_by_number, put_by_number}

module _ (scope : Scope) where
  abbrev W : World Store
  W = Declares scope

  abbrev Same : {A : Type 0} → Act Store A → Act Store A → Type 0
  Same act act' = Equal W Always Anyhow act act'

  given_same : {A : Type 0} (a : A) → Same (give a) (give a)
  given_same a = give_equal W Always Anyhow a (λ s i p. tt)

  abbrev HasValue : Option ℕ → Store → Type 0
  HasValue o s = (v : ℕ) × (o ≡ Some v)

  fetch_same : (x : ℕ) → is_declared scope x ≡ true → Same (fetch by_name x) (fetch by_number (number_of scope x))
  fetch_same x d =
      bind_equal W Always HasValue Anyhow (look (find x)) (look (by_number.read (number_of scope x))) (given Stuck) (given Stuck)
      (look_equal W Always HasValue (find x) (by_number.read (number_of scope x)) (λ s i p. found scope x s i d) (λ s i p. find_by_number scope x s i))
      (λ o s i p. given_equal W (λ t. W.later s t × HasValue o t) Anyhow Stuck o (λ t j q. (q.1.0, q.1.1, tt)))

  assign_same : (x v : ℕ) → is_declared scope x ≡ true → Same (assign by_name x v) (assign by_number (number_of scope x) v)
  assign_same x v d =
      step_equal W (fetch by_name x) (fetch by_number (number_of scope x)) (λ old. change (put x v)) (λ old. change (put_number (number_of scope x) v)) (fetch_same x d)
      (λ old. change_equal W Always Anyhow (put x v) (put_number (number_of scope x) v) (λ s i p. (names_put x v s, tt)) (λ s i p. put_by_number scope x v s i))

  product_same : (here : Location) (u v : ℕ) → Same (product here u v) (product here u v)
  product_same here u v = cond_equal W Always Anyhow (leb u largest_factor) (give (u * v)) (give (u * v)) (trap_at IntegerOverflow here) (trap_at IntegerOverflow here) (given_same (u * v)) (trap_equal W Always Anyhow IntegerOverflow (trap_text IntegerOverflow here) (Some here))

  module _ (here : Location) where
    abbrev named : Expression → Act Store ℕ
    named = value by_name here

    abbrev numbered : Expression → Act Store ℕ
    numbered e = value by_number here (resolve_expression scope e)

    operator_same : (a b : Expression) (operator : ℕ → ℕ → Act Store ℕ) → Same (named a) (numbered a) → Same (named b) (numbered b) → ((u v : ℕ) → Same (operator u v) (operator u v)) → Same (bind (named a) (λ u. bind (named b) (operator u))) (bind (numbered a) (λ u. bind (numbered b) (operator u)))
    operator_same a b operator ha hb h = step_equal W (named a) (numbered a) (λ u. bind (named b) (operator u)) (λ u. bind (numbered b) (operator u)) ha (λ u. step_equal W (named b) (numbered b) (operator u) (operator u) hb (h u))

    value_same : (e : Expression) → knows scope e ≡ true → Same (named e) (numbered e)
    value_same (Number v) f = given_same v
    value_same (Variable x) f = fetch_same x f
    value_same (Sum a b) f = let both = and_parts (knows scope a) (knows scope b) f in operator_same a b (λ u v. give (u + v)) (value_same a both.0) (value_same b both.1) (λ u v. given_same (u + v))
    value_same (Less a b) f = let both = and_parts (knows scope a) (knows scope b) f in operator_same a b (λ u v. give (less u v)) (value_same a both.0) (value_same b both.1) (λ u v. given_same (less u v))
    value_same (Product a b) f = let both = and_parts (knows scope a) (knows scope b) f in operator_same a b (product here) (value_same a both.0) (value_same b both.1) (product_same here)

    test_same : (e : Expression) → knows scope e ≡ true → Same (test by_name here e) (test by_number here (resolve_expression scope e))
    test_same e f = step_equal W (named e) (numbered e) (λ v. give (is_true v)) (λ v. give (is_true v)) (value_same e f) (λ v. given_same (is_true v))

  module _ (n : ℕ) (inner inner' : ℕ → Act Store (Unit {0})) (calls_same : (p : ℕ) → Same (inner p) (inner' p)) where
    abbrev first : Statement → Act Store (Option Signal)
    first = exec by_name scope n inner

    abbrev second : Statement → Act Store (Option Signal)
    second st = exec by_number scope n inner' (resolve scope st)

    on : Same (give {S = Store} {A = Option Signal} None) (give None)
    on = given_same {A = Option Signal} None

    invoke_same : (p v : ℕ) → Same (invoke scope (inner p) v) (invoke scope (inner' p) v)
    invoke_same p v =
        within_equal W W Always Always Anyhow Anyhow (enter scope v) leave (bind (inner p) (λ u. give None)) (bind (inner' p) (λ u. give None))
        (λ s i q. (names_opened scope v, tt)) (λ s i q a t l k. (refl, tt))
        (step_equal W (inner p) (inner' p) (λ u. give None) (λ u. give None) (calls_same p) (λ u. on))

    pub statements_same : (st : Statement) → is_fine scope st ≡ true → Same (first st) (second st)
    statements_same Skip f = on
    statements_same (Sequence a b) f =
        let both = and_parts (is_fine scope a) (is_fine scope b) f in
        step_equal W (first a) (second a) (next_or (first b)) (next_or (second b)) (statements_same a both.0) (next_equal W Always (first b) (second b) (statements_same b both.1))
    statements_same (Assign here x e) f =
        let both = and_parts (is_declared scope x) (knows scope e) f in
        step_equal W (named here e) (numbered here e) (λ v. bind (assign by_name x v) (λ u. give None)) (λ v. bind (assign by_number (number_of scope x) v) (λ u. give None)) (value_same here e both.1)
        (λ v. step_equal W (assign by_name x v) (assign by_number (number_of scope x) v) (λ u. give None) (λ u. give None) (assign_same x v both.0) (λ u. on))
    statements_same (While here e body) f =
        let both = and_parts (knows scope e) (is_fine scope body) f in
        step_equal W (iterate n (test by_name here e) (first body)) (iterate n (test by_number here (resolve_expression scope e)) (second body)) (landing leaves) (landing leaves)
        (iterate_equal W n (test by_name here e) (test by_number here (resolve_expression scope e)) (first body) (second body) (test_same here e both.0) (statements_same body both.1))
        (landing_equal W Always leaves)
    statements_same (Repeat here e body) f =
        let both = and_parts (knows scope e) (is_fine scope body) f in
        step_equal W (named here e) (numbered here e) (λ count. bind (counted count n (first body)) (landing leaves)) (λ count. bind (counted count n (second body)) (landing leaves)) (value_same here e both.0)
        (λ count. step_equal W (counted count n (first body)) (counted count n (second body)) (landing leaves) (landing leaves) (counted_equal W count n (first body) (second body) (statements_same body both.1)) (landing_equal W Always leaves))
    statements_same Exit f = given_same (Some Leave)
    statements_same (Call here p e) f = step_equal W (named here e) (numbered here e) (invoke scope (inner p)) (invoke scope (inner' p)) (value_same here e f) (invoke_same p)
    statements_same (Print here e) f =
        step_equal W (named here e) (numbered here e) (λ v. bind (print (line_of v)) (λ u. give None)) (λ v. bind (print (line_of v)) (λ u. give None)) (value_same here e f)
        (λ v. step_equal W (print (line_of v)) (print (line_of v)) (λ u. give None) (λ u. give None) (print_equal W Always (line_of v)) (λ u. on))

module _ (p : Program) (fine : IsFine p) (n : ℕ) where
  abbrev by_names : ℕ → ℕ → Act Store (Unit {0})
  by_names d = calls (callee by_name p.scope n p.bodies) d

  abbrev by_numbers : ℕ → ℕ → Act Store (Unit {0})
  by_numbers d = calls (callee by_number p.scope n (resolved p).bodies) d

  one_call : (inner inner' : ℕ → Act Store (Unit {0})) → ((q q' : ℕ) → q' ≡ q → Same p.scope (inner q) (inner' q')) → (q q' : ℕ) → q' ≡ q → Same p.scope (callee by_name p.scope n p.bodies inner q) (callee by_number p.scope n (resolved p).bodies inner' q')
  one_call inner inner' h q q' k =
      subst (λ z. Same p.scope (callee by_name p.scope n p.bodies inner q) (callee by_number p.scope n (resolved p).bodies inner' z)) (sym k)
      (step_equal (Declares p.scope) (exec by_name p.scope n inner (p.bodies q)) (exec by_number p.scope n inner' (resolve p.scope (p.bodies q))) (λ o. give tt) (λ o. give tt) (statements_same p.scope n inner inner' (λ r. h r r refl) (p.bodies q) (fine.bodies q)) (λ o. given_same p.scope (tt {0})))

  all_calls : (d q : ℕ) → Same p.scope (by_names d q) (by_numbers d q)
  all_calls d q = calls_equal (Declares p.scope) (λ q q'. q' ≡ q) (λ q. Always) (λ q. Anyhow) (callee by_name p.scope n p.bodies) (callee by_number p.scope n (resolved p).bodies) one_call d q q refl

  pub statement_numbered : (d : ℕ) (st : Statement) → is_fine p.scope st ≡ true → Same p.scope (exec by_name p.scope n (by_names d) st) (exec by_number p.scope n (by_numbers d) (resolve p.scope st))
  statement_numbered d st f = statements_same p.scope n (by_names d) (by_numbers d) (all_calls d) st f

  whole_numbered : (d : ℕ) → Same p.scope (whole by_name p n d) (whole by_number (resolved p) n d)
  whole_numbered d = step_equal (Declares p.scope) (exec by_name p.scope n (by_names d) p.main) (exec by_number p.scope n (by_numbers d) (resolve p.scope p.main)) (λ o. give success) (λ o. give success) (statement_numbered d p.main fine.main) (λ o. given_same p.scope {A = ℕ} success)

pub equal_from : (p : Program) → IsFine p → (n d : ℕ) (st : Statement) → is_fine p.scope st ≡ true → (s : Store) (w : Written) → names_of s ≡ declared p.scope → exec by_number p.scope n (calls (callee by_number p.scope n (resolved p).bodies) d) (resolve p.scope st) s w ≡ exec by_name p.scope n (calls (callee by_name p.scope n p.bodies) d) st s w
equal_from p fine n d st f s w h = (statement_numbered p fine n d st f s h tt w).1

pub near_numbered : (p : Program) → IsFine p → IsNearBy Never 0 0 (run p) (run_numbered p)
near_numbered p fine =
    near_of_equal Never 0 0 (run p) (run_numbered p) (source_larger by_name p)
    (λ n d. ap outcome_of (whole_numbered p fine n d (opened p.scope 0) (names_opened p.scope 0) tt (written [] [])).1)
    (λ n d fault is. sound_outcome (Declares p.scope) (opened p.scope 0) Anyhow (whole by_name p n d (opened p.scope 0) (written [] [])) (whole_numbered p fine n d (opened p.scope 0) (names_opened p.scope 0) tt (written [] [])).0 fault is)

-- The source goes at least as far as its code, at the same bounds.
use Rattle.std.proofs.Common.{◌≡◌, ℕ, zero, suc, ◌+◌, ◌≤◌, true, false, eqb, Option, Some, None, refl, sym, subst, arith, eq-eqb}
use Rattle.std.proofs.lemmas.Bool.{and_parts}
use Rattle.lf_base.specs.Outcome.{Location, Written, KeepsLocation, KeptLocation, Never}
use Rattle.lf_base.specs.Acts.{Going, Act, bind, give, next_or, iterate}
use Rattle.lf_base.specs.Order.{Grows, Link, Below, BelowFrom}
use Rattle.lf_base.specs.Monotone.{NoShorter}
use Rattle.lf_base.specs.Alike.{AlikeFrom}
use Rattle.lf_base.specs.Loops.{landing, half, once, counted, OrIn, Entered}
use Rattle.lf_base.proofs.Outcomes.{begun_same}
use Rattle.lf_base.proofs.Stretches.{Left, grows_bind, grows_give, grows_next, grows_within, below_bind, below_then, below_weaker, next_below}
use Rattle.lf_base.proofs.Alike.{alike_back}
use Rattle.lf_base.proofs.Enough.{from_enough}
use Rattle.lf_base.proofs.Equals.{bind_bind}
use Rattle.lf_base.proofs.Inside.{tested_back, mapped_back, landing_back, grows_half, grows_landing, entered_weaker}
use Rattle.lf_base.proofs.Counting.{grows_counted, counted_back}
use Rattle.link_toy.specs.Source.{Expression, Statement, Skip, Sequence, Assign, While, Repeat, Exit, Call, Print, Scope, knows, is_fine}
use Rattle.link_toy.specs.Meaning.{Store, Signal, Leave, leaves, by_name, is_true, opened, enter, leave, largest_factor, value, test, invoke, exec}
use Rattle.link_toy.specs.Target.{CStatement, Load, Subtract, Constant, Invoke, Set, Forever, Labelled, Memory, set_cell, call_cells, enter_frame, leave_frame, invoke_c, Callable, Procedure, exec_c}
use Rattle.link_toy.specs.Translation.{Layout, IsLayout, evaluate, while_turn, repeat_turn, translate}
use Rattle.link_toy.specs.Relation.{Kept, CellsKept, Stands, with_count, in_procedure, in_call, Besides, InTemporary, ExitJumps}
use Rattle.link_toy.proofs.Growth.{grows_exec, grows_test}
use Rattle.link_toy.proofs.Helper.{after_load}
use Rattle.link_toy.proofs.Cells.{count_begins, count_is, count_ends, counts_down, call_begins, call_returns}
use Rattle.link_toy.proofs.Values.{Helps}
use Rattle.link_toy.proofs.Straight.{LeftThere, LeftBack, stored, assigned, printed}
use Rattle.link_toy.proofs.There.{behind_test, test_jumps, test_passes, turn_counts}

module _ (scope : Scope) (layout : Layout) (ok : IsLayout scope layout) (n n' : ℕ) (le : n ≤ n') (inner : Callable → Act Memory ℕ) (inner' : ℕ → Act Store (Unit {0})) (g' : (p : ℕ) → Grows (inner' p)) (enough : Callable → Act Memory ℕ) (helps : Helps (n + largest_factor) enough) (to_enough : (st : CStatement) → NoShorter (exec_c n inner st) (exec_c (n + largest_factor) enough st)) where
  abbrev H : Kept → Memory → Store → Type 0
  H kept m s = Stands scope layout kept s m

  abbrev S : Kept → Store → Memory → Type 0
  S = Stands scope layout

  abbrev J : Kept → ℕ → Link Memory ℕ Store Signal
  J kept label j m b s = ExitJumps (S kept) label b s j m

  abbrev StoredBack : Kept → Link Memory (Option ℕ) Store ℕ
  StoredBack kept o m v s = InTemporary kept.top (S kept) v s o m

  abbrev source : Statement → Act Store (Option Signal)
  source = exec by_name scope n' inner'

  abbrev run_code : CStatement → Act Memory (Option ℕ)
  run_code = exec_c n inner

  abbrev code : Statement → ℕ → ℕ → Act Memory (Option ℕ)
  code st t label = run_code (translate scope layout st t label)

  -- turns enough for the helper
  abbrev more : ℕ
  more = n + largest_factor

  more_enough : largest_factor ≤ more
  more_enough = omega arith

  abbrev at_enough : CStatement → Act Memory (Option ℕ)
  at_enough = exec_c more enough

  abbrev Claim : Statement → Type 0
  Claim st = is_fine scope st ≡ true → (label : ℕ) (kept : Kept) → layout.base ≤ kept.top → BelowFrom Never KeptLocation (H kept) (LeftBack (S kept) label) (code st kept.top label) (source st)

  value_back : (here : Location) (e : Expression) → knows scope e ≡ true → (kept : Kept) → layout.base ≤ kept.top → BelowFrom Never KeptLocation (H kept) (StoredBack kept) (run_code (evaluate layout.object here e kept.top)) (value by_name here e)
  value_back here e f kept low =
      from_enough Never KeptLocation (StoredBack kept) (H kept) (run_code (evaluate layout.object here e kept.top)) (at_enough (evaluate layout.object here e kept.top)) (value by_name here e) (to_enough (evaluate layout.object here e kept.top))
      (alike_back KeepsLocation Never (S kept) (InTemporary kept.top (S kept)) (value by_name here e) (at_enough (evaluate layout.object here e kept.top)) (stored scope layout ok kept low more more_enough enough helps here e f))

  turned : (label : ℕ) (kept : Kept) (o : Option ℕ) (m : Memory) (o' : Option Signal) (s : Store) → LeftThere (S kept) label o' s o m → LeftBack (S kept) label o m o' s
  turned label kept None m None s r = r
  turned label kept None m (Some b) s r = absurd r
  turned label kept (Some j) m None s r = absurd r
  turned label kept (Some j) m (Some b) s r = r

  -- what is alike at turns enough
  straight : (st : Statement) (label : ℕ) (kept : Kept) → AlikeFrom KeepsLocation (S kept) (LeftThere (S kept) label) (source st) (at_enough (translate scope layout st kept.top label)) → BelowFrom Never KeptLocation (H kept) (LeftBack (S kept) label) (code st kept.top label) (source st)
  straight st label kept h =
      let there : CStatement = translate scope layout st kept.top label in
      from_enough Never KeptLocation (LeftBack (S kept) label) (H kept) (run_code there) (at_enough there) (source st) (to_enough there)
      (λ m s w q. below_weaker Never KeptLocation (λ o m o' s. LeftThere (S kept) label o' s o m) (LeftBack (S kept) label) (turned label kept) (at_enough there m w) (source st s w)
      (alike_back KeepsLocation Never (S kept) (LeftThere (S kept) label) (source st) (at_enough there) h m s w q))

  lands : (label : ℕ) (kept : Kept) (j : ℕ) (m : Memory) (b : Signal) (s : Store) → J kept (suc label) j m b s → (leaves b ≡ eqb (suc label) j) × (eqb (suc label) j ≡ true → H kept m s) × (eqb (suc label) j ≡ false → J kept label j m b s)
  lands label kept j m Leave s r = (sym (eq-eqb (suc label) j (sym r.0)), λ e. r.1, λ e. absurd (let f : eqb (suc label) j ≡ true = eq-eqb (suc label) j (sym r.0) in cc))

  lands_back : (label : ℕ) (kept : Kept) (o : Option ℕ) (o' : Option Signal) → BelowFrom Never KeptLocation (λ m s. Entered (H kept) (J kept (suc label)) (suc label) o m o' s) (LeftBack (S kept) label) (landing (eqb (suc label)) o) (landing leaves o')
  lands_back label kept = landing_back Never KeptLocation (H kept) (J kept (suc label)) (suc label) (J kept label) (eqb (suc label)) leaves (eq-eqb (suc label) (suc label) refl) (lands label kept)

  module _ (here : Location) (e : Expression) (fine : knows scope e ≡ true) (label : ℕ) (kept : Kept) (low : layout.base ≤ kept.top) where
    abbrev t : ℕ
    t = kept.top

    abbrev Turned : Link Memory (Option ℕ) Store (Option (Option Signal))
    Turned = Left Never KeptLocation (H kept) (OrIn (H kept) (J kept label) label)

    module _ (b : Act Store (Option Signal)) (rest : Act Memory (Option ℕ)) (h : BelowFrom Never KeptLocation (H kept) (LeftBack (S kept) label) rest b) (gb : Grows b) where
      half_turn : (o : Option ℕ) (v : ℕ) → BelowFrom Never KeptLocation (λ m s. StoredBack kept o m v s) Turned (next_or (behind_test t label rest) o) (half b (is_true v))
      half_turn (Some j) v m s w r = absurd (cc r.0)
      half_turn None zero m s w r = subst (λ z. Below Never KeptLocation Turned z (half b false s w)) (sym (test_jumps t label rest m w r.1.0)) (Some None, s, (refl, r.1.1), refl)
      half_turn None (suc v) m s w r = subst (λ z. Below Never KeptLocation Turned z (half b true s w)) (sym (test_passes t label v rest m w r.1.0)) (mapped_back Never KeptLocation (H kept) (J kept label) label (rest m w) (b s w) (h m s w r.1.1))

      a_turn : BelowFrom Never KeptLocation (H kept) Turned (bind (run_code (evaluate layout.object here e t)) (next_or (behind_test t label rest))) (once (test by_name here e) b)
      a_turn m s w q =
          subst (λ z. Below Never KeptLocation Turned (bind (run_code (evaluate layout.object here e t)) (next_or (behind_test t label rest)) m w) z) (sym (bind_bind (value by_name here e) (λ v. give (is_true v)) (half b) s w))
          (below_bind Never KeptLocation (H kept) (StoredBack kept) Turned (run_code (evaluate layout.object here e t)) (value by_name here e) (next_or (behind_test t label rest)) (λ v. half b (is_true v))
          (value_back here e fine kept low) half_turn (λ v. grows_half b gb (is_true v)) m s w q)

  while_back : (here : Location) (e : Expression) → knows scope e ≡ true → (body : Statement) (label : ℕ) (kept : Kept) → layout.base ≤ kept.top → BelowFrom Never KeptLocation (H kept) (LeftBack (S kept) (suc label)) (code body kept.top (suc label)) (source body) → BelowFrom Never KeptLocation (H kept) (LeftBack (S kept) label) (code (While here e body) kept.top label) (source (While here e body))
  while_back here e fine body label kept low h =
      let inside : CStatement = translate scope layout body kept.top (suc label) in
      let turn : CStatement = while_turn (evaluate layout.object here e kept.top) kept.top (suc label) inside in
      let gb = grows_exec by_name scope n' inner' g' body in
      below_bind Never KeptLocation (H kept) (Entered (H kept) (J kept (suc label)) (suc label)) (LeftBack (S kept) label) (run_code (Forever turn)) (iterate n' (test by_name here e) (source body)) (landing (eqb (suc label))) (landing leaves)
      (tested_back Never KeptLocation (H kept) (J kept (suc label)) (suc label) n n' le (run_code turn) (test by_name here e) (source body) (grows_test by_name here e) gb (a_turn here e fine (suc label) kept low (source body) (run_code inside) h gb))
      (lands_back label kept) (grows_landing leaves)

  module _ (body : Statement) (fine : is_fine scope body ≡ true) (claim : Claim body) (label : ℕ) (kept : Kept) (low : layout.base ≤ kept.top) where
    abbrev turn : CStatement
    turn = repeat_turn kept.top (suc label) (translate scope layout body (suc kept.top) (suc label))

    abbrev Count : ℕ → Memory → Store → Type 0
    Count count = H (with_count kept count)

    still : (count : ℕ) (o : Option ℕ) (m : Memory) (o' : Option Signal) (s : Store) → LeftBack (S (with_count kept count)) (suc label) o m o' s → Left Never KeptLocation (Count count) (J kept (suc label)) o m o' s
    still count None m None s r = r
    still count None m (Some b) s r = absurd r
    still count (Some j) m None s r = absurd r
    still count (Some j) m (Some b) s r = (r.0, count_ends scope layout ok kept low count s m r.1)

    goes : (count : ℕ) → BelowFrom Never KeptLocation (Count (suc count)) (Left Never KeptLocation (Count count) (J kept (suc label))) (run_code turn) (source body)
    goes count m s w q =
        subst (λ z. Below Never KeptLocation (Left Never KeptLocation (Count count) (J kept (suc label))) z (source body s w)) (sym (turn_counts kept.top (suc label) count n inner (translate scope layout body (suc kept.top) (suc label)) m w (count_is scope layout ok kept low (suc count) s m q)))
        (below_weaker Never KeptLocation (LeftBack (S (with_count kept count)) (suc label)) (Left Never KeptLocation (Count count) (J kept (suc label))) (still count) (code body (suc kept.top) (suc label) (set_cell kept.top count m) w) (source body s w)
        (claim fine (suc label) (with_count kept count) (omega arith) (set_cell kept.top count m) s w (counts_down scope layout ok kept low (suc count) count s m q)))

    goes_out : BelowFrom Never KeptLocation (Count 0) (λ o m u s. Entered (Count 0) (J kept (suc label)) (suc label) o m None s) (run_code turn) (give (tt {0}))
    goes_out m s w q =
        subst (λ z. Below Never KeptLocation (λ o m u s. Entered (Count 0) (J kept (suc label)) (suc label) o m None s) z (Going (tt {0}) s w)) (sym (test_jumps kept.top (suc label) (bind (run_code (Set kept.top (Subtract (Load kept.top) (Constant 1)))) (next_or (code body (suc kept.top) (suc label)))) m w (count_is scope layout ok kept low 0 s m q)))
        (tt, s, (refl, q), refl)

    repeat_loop : (count : ℕ) → BelowFrom Never KeptLocation (λ m s. Besides kept.top count (S kept) s m) (LeftBack (S kept) label) (run_code (Labelled (suc label) (Forever turn))) (bind (counted count n' (source body)) (landing leaves))
    repeat_loop count m s w q =
        below_then Never KeptLocation (Entered (H kept) (J kept (suc label)) (suc label)) (LeftBack (S kept) label) (run_code (Forever turn) m w) (counted count n' (source body) s w) (landing (eqb (suc label))) (landing leaves)
        (below_weaker Never KeptLocation (Entered (Count 0) (J kept (suc label)) (suc label)) (Entered (H kept) (J kept (suc label)) (suc label)) (entered_weaker (Count 0) (H kept) (λ m s r. count_ends scope layout ok kept low 0 s m r) (J kept (suc label)) (suc label)) (run_code (Forever turn) m w) (counted count n' (source body) s w)
        (counted_back Never KeptLocation Count (J kept (suc label)) (suc label) (run_code turn) (source body) (grows_exec by_name scope n' inner' g' body) goes goes_out count n n' le m s w (count_begins scope layout ok kept low count s m q)))
        (λ o m2 o' s2 w2 r. lands_back label kept o o' m2 s2 w2 r)
        (grows_landing leaves)

    begun : (o : Option ℕ) (count : ℕ) → BelowFrom Never KeptLocation (λ m s. StoredBack kept o m count s) (LeftBack (S kept) label) (next_or (run_code (Labelled (suc label) (Forever turn))) o) (bind (counted count n' (source body)) (landing leaves))
    begun None count m s w r = repeat_loop count m s w r.1
    begun (Some j) count m s w r = absurd (cc r.0)

    grows_repeat : (count : ℕ) → Grows (bind (counted count n' (source body)) (landing leaves))
    grows_repeat count = grows_bind (counted count n' (source body)) (landing leaves) (grows_counted count n' (source body) (grows_exec by_name scope n' inner' g' body)) (grows_landing leaves)

    repeat_back : (here : Location) (e : Expression) → knows scope e ≡ true → BelowFrom Never KeptLocation (H kept) (LeftBack (S kept) label) (code (Repeat here e body) kept.top label) (source (Repeat here e body))
    repeat_back here e known =
        below_bind Never KeptLocation (H kept) (StoredBack kept) (LeftBack (S kept) label) (run_code (evaluate layout.object here e kept.top)) (value by_name here e) (next_or (run_code (Labelled (suc label) (Forever turn)))) (λ count. bind (counted count n' (source body)) (landing leaves))
        (value_back here e known kept low) begun grows_repeat

  module _ (calls_back : (before : ℕ → Option ℕ) (frame p : ℕ) → BelowFrom Never KeptLocation (H (in_procedure layout before frame)) (λ a m a' s. CellsKept (in_procedure layout before frame) m) (inner (Procedure p)) (inner' p)) (label : ℕ) (kept : Kept) (low : layout.base ≤ kept.top) where
    falls_through : (o : Option ℕ) (m : Memory) (o' : Option Signal) (s : Store) → o ≡ None → o' ≡ None → H kept m s → LeftBack (S kept) label o m o' s
    falls_through None m None s e e' h = h
    falls_through None m (Some b) s e e' h = absurd (cc e')
    falls_through (Some j) m None s e e' h = absurd (cc e)
    falls_through (Some j) m (Some b) s e e' h = absurd (cc e)

    called : (p v : ℕ) (m : Memory) (s : Store) (w : Written) → H kept m s → Below Never KeptLocation (LeftBack (S kept) label) (invoke_c kept.top layout.base (layout.object scope.argument) (inner (Procedure p)) v m w) (invoke scope (inner' p) v s w)
    called p v m s w q =
        let arg : ℕ = layout.object scope.argument in
        let inside : Kept = in_call layout kept (call_cells kept.top layout.base arg v m) in
        below_then Never KeptLocation (λ o i o' i'. (o ≡ None) × (o' ≡ None) × CellsKept inside i) (LeftBack (S kept) label) (bind (inner (Procedure p)) (λ u. give None) (enter_frame kept.top layout.base arg v m) w) (bind (inner' p) (λ u. give None) (opened scope v) w) (λ value i later. Going value (leave_frame m i) later) (λ value i later. Going value (leave s i) later)
        (below_bind Never KeptLocation (H inside) (λ a i a' i'. CellsKept inside i) (λ o i o' i'. (o ≡ None) × (o' ≡ None) × CellsKept inside i) (inner (Procedure p)) (inner' p) (λ u. give None) (λ u. give None)
        (calls_back inside.before inside.frame p) (λ u u' i i' x k. (None, i', (refl, refl, k), refl)) (λ u. grows_give {A = Option Signal} None) (enter_frame kept.top layout.base arg v m) (opened scope v) w (call_begins scope layout ok kept.top v m kept refl q.1))
        (λ o i o' i' x k. (o', s, falls_through o (leave_frame m i) o' s k.0 k.1 (call_returns scope layout ok kept.top v m kept s i refl low q k.2), refl))
        (λ a' i x. begun_same x)

    after_argument : (p : ℕ) (o : Option ℕ) (v : ℕ) → BelowFrom Never KeptLocation (λ m s. StoredBack kept o m v s) (LeftBack (S kept) label) (next_or (run_code (Invoke p kept.top kept.top layout.base (layout.object scope.argument))) o) (invoke scope (inner' p) v)
    after_argument p (Some j) v m s w r = absurd (cc r.0)
    after_argument p None v m s w r = subst (λ z. Below Never KeptLocation (LeftBack (S kept) label) z (invoke scope (inner' p) v s w)) (sym (after_load kept.top v m w (invoke_c kept.top layout.base (layout.object scope.argument) (inner (Procedure p))) r.1.0)) (called p v m s w r.1.1)

    grows_invoke : (p v : ℕ) → Grows (invoke scope (inner' p) v)
    grows_invoke p v = grows_within (enter scope v) leave (bind (inner' p) (λ u. give None)) (grows_bind (inner' p) (λ u. give None) (g' p) (λ u. grows_give {A = Option Signal} None))

    call_back : (here : Location) (p : ℕ) (e : Expression) → knows scope e ≡ true → BelowFrom Never KeptLocation (H kept) (LeftBack (S kept) label) (code (Call here p e) kept.top label) (source (Call here p e))
    call_back here p e fine =
        below_bind Never KeptLocation (H kept) (StoredBack kept) (LeftBack (S kept) label) (run_code (evaluate layout.object here e kept.top)) (value by_name here e) (next_or (run_code (Invoke p kept.top kept.top layout.base (layout.object scope.argument)))) (invoke scope (inner' p))
        (value_back here e fine kept low) (after_argument p) (grows_invoke p)

  module _ (calls_back : (before : ℕ → Option ℕ) (frame p : ℕ) → BelowFrom Never KeptLocation (H (in_procedure layout before frame)) (λ a m a' s. CellsKept (in_procedure layout before frame) m) (inner (Procedure p)) (inner' p)) where
    pub back : (st : Statement) → Claim st
    back Skip u label kept low = λ m s w q. (None, s, q, refl)
    back (Sequence a b) u label kept low =
        let both = and_parts (is_fine scope a) (is_fine scope b) u in
        below_bind Never KeptLocation (H kept) (LeftBack (S kept) label) (LeftBack (S kept) label) (code a kept.top label) (source a) (next_or (code b kept.top label)) (next_or (source b)) (back a both.0 label kept low)
        (next_below Never KeptLocation (H kept) (J kept label) (code b kept.top label) (source b) (back b both.1 label kept low))
        (grows_next (source b) (grows_exec by_name scope n' inner' g' b))
    back (Assign here x e) u label kept low = straight (Assign here x e) label kept (assigned scope layout ok kept low more more_enough enough helps label n' inner' here x e u)
    back (While here e body) u label kept low = let both = and_parts (knows scope e) (is_fine scope body) u in while_back here e both.0 body label kept low (back body both.1 (suc label) kept low)
    back (Repeat here e body) u label kept low = let both = and_parts (knows scope e) (is_fine scope body) u in repeat_back body both.1 (back body) label kept low here e both.0
    back Exit u label kept low = λ m s w q. (Some Leave, s, (refl, q), refl)
    back (Call here p e) u label kept low = call_back calls_back label kept low here p e u
    back (Print here e) u label kept low = straight (Print here e) label kept (printed scope layout ok kept low more more_enough enough helps label n' inner' here e u)

-- The code goes at least as far as the source, at turns enough for the helper more.
use Rattle.std.proofs.Common.{◌≡◌, ℕ, zero, suc, ◌+◌, ◌-◌, ◌≤◌, true, false, eqb, Option, Some, None, refl, sym, ap, subst, ◌∙◌, arith, eq-eqb}
use Rattle.std.proofs.lemmas.Bool.{and_parts}
use Rattle.lf_base.specs.Outcome.{Location, Written, KeepsLocation, Never}
use Rattle.lf_base.specs.Acts.{Going, Act, then_do, bind, give, cut, next_or, iterate}
use Rattle.lf_base.specs.Order.{Grows, Link, Below, BelowFrom}
use Rattle.lf_base.specs.Loops.{landing, half, once, counted, OrOut, Exited}
use Rattle.lf_base.proofs.Outcomes.{begun_same}
use Rattle.lf_base.proofs.Stretches.{Left, grows_give, grows_next, below_bind, below_then, below_weaker, next_below}
use Rattle.lf_base.proofs.Alike.{alike_there}
use Rattle.lf_base.proofs.Equals.{bind_bind}
use Rattle.lf_base.proofs.Inside.{tested_there, mapped_there, landing_there, grows_landing, exited_weaker}
use Rattle.lf_base.proofs.Counting.{counted_there}
use Rattle.link_toy.specs.Source.{Expression, Statement, Skip, Sequence, Assign, While, Repeat, Exit, Call, Print, Scope, knows, is_fine}
use Rattle.link_toy.specs.Meaning.{Store, Signal, Leave, leaves, by_name, is_true, opened, leave, largest_factor, value, test, invoke, exec}
use Rattle.link_toy.specs.Target.{CStatement, Load, Subtract, Constant, Invoke, Then, Unless, Set, Forever, Labelled, Memory, cell, set_cell, load, store_in, unless, call_cells, enter_frame, leave_frame, invoke_c, Callable, Procedure, exec_c}
use Rattle.link_toy.specs.Translation.{Layout, IsLayout, evaluate, while_turn, repeat_turn, translate}
use Rattle.link_toy.specs.Relation.{Kept, CellsKept, Stands, with_count, in_procedure, in_call, Besides, InTemporary, ExitJumps}
use Rattle.link_toy.proofs.Growth.{grows_c}
use Rattle.link_toy.proofs.Helper.{after_load}
use Rattle.link_toy.proofs.Cells.{count_begins, count_is, count_ends, counts_down, call_begins, call_returns}
use Rattle.link_toy.proofs.Values.{Helps}
use Rattle.link_toy.proofs.Straight.{LeftThere, stored, assigned, printed}

-- what follows a test: a jump out, or the rest
abbrev pub behind_test : ℕ → ℕ → Act Memory (Option ℕ) → Act Memory (Option ℕ)
behind_test t label rest = bind (bind (load t) (unless label)) (next_or rest)

pub test_jumps : (t label : ℕ) (rest : Act Memory (Option ℕ)) (m : Memory) (w : Written) → cell t m ≡ Some 0 → behind_test t label rest m w ≡ Going (Some label) m w
test_jumps t label rest m w e = ap (λ z. then_do z (next_or rest)) (after_load t 0 m w (unless label) e)

pub test_passes : (t label v : ℕ) (rest : Act Memory (Option ℕ)) (m : Memory) (w : Written) → cell t m ≡ Some (suc v) → behind_test t label rest m w ≡ rest m w
test_passes t label v rest m w e = ap (λ z. then_do z (next_or rest)) (after_load t (suc v) m w (unless label) e)

-- a turn of a loop that counts: its count goes down, and the body follows
pub turn_counts : (t label count : ℕ) (n : ℕ) (inner : Callable → Act Memory ℕ) (body : CStatement) (m : Memory) (w : Written) → cell t m ≡ Some (suc count) → exec_c n inner (repeat_turn t label body) m w ≡ exec_c n inner body (set_cell t count m) w
turn_counts t label count n inner body m w e =
    test_passes t label count (bind (exec_c n inner (Set t (Subtract (Load t) (Constant 1)))) (next_or (exec_c n inner body))) m w e
    ∙ ap (λ z. then_do z (next_or (exec_c n inner body))) (ap (λ z. then_do z (store_in t)) (after_load t (suc count) m w (λ u. give (u - 1)) e) ∙ ap (λ z. Going None (set_cell t z m) w) (omega arith))

module _ (scope : Scope) (layout : Layout) (ok : IsLayout scope layout) (n n' : ℕ) (le : n + largest_factor ≤ n') (inner : ℕ → Act Store (Unit {0})) (inner' : Callable → Act Memory ℕ) (g' : (p : Callable) → Grows (inner' p)) (helps : Helps n' inner') where
  abbrev H : Kept → Store → Memory → Type 0
  H = Stands scope layout

  abbrev source : Statement → Act Store (Option Signal)
  source = exec by_name scope n inner

  abbrev run_code : CStatement → Act Memory (Option ℕ)
  run_code = exec_c n' inner'

  abbrev code : Statement → ℕ → ℕ → Act Memory (Option ℕ)
  code st t label = run_code (translate scope layout st t label)

  enough : largest_factor ≤ n'
  enough = omega (arith, le)

  abbrev Claim : Statement → Type 0
  Claim st = is_fine scope st ≡ true → (label : ℕ) (kept : Kept) → layout.base ≤ kept.top → BelowFrom Never KeepsLocation (H kept) (LeftThere (H kept) label) (source st) (code st kept.top label)

  lands : (label : ℕ) (kept : Kept) (b : Signal) (s : Store) (j : ℕ) (m : Memory) → ExitJumps (H kept) (suc label) b s j m → (eqb (suc label) j ≡ leaves b) × (leaves b ≡ true → H kept s m) × (leaves b ≡ false → ExitJumps (H kept) label b s j m)
  lands label kept Leave s j m r = (eq-eqb (suc label) j (sym r.0), λ e. r.1, λ e. absurd (cc e))

  -- behind the label of a loop
  landed : (label : ℕ) (kept : Kept) (act : Act Store (Option Signal)) (act' : Act Memory (Option ℕ)) → BelowFrom Never KeepsLocation (H kept) (Exited (H kept) (ExitJumps (H kept) (suc label)) (suc label)) act act' → BelowFrom Never KeepsLocation (H kept) (LeftThere (H kept) label) (bind act (landing leaves)) (bind act' (landing (eqb (suc label))))
  landed label kept act act' h =
      below_bind Never KeepsLocation (H kept) (Exited (H kept) (ExitJumps (H kept) (suc label)) (suc label)) (LeftThere (H kept) label) act act' (landing leaves) (landing (eqb (suc label))) h
      (landing_there Never KeepsLocation (H kept) (ExitJumps (H kept) (suc label)) (suc label) (ExitJumps (H kept) label) leaves (eqb (suc label)) (eq-eqb (suc label) (suc label) refl) (lands label kept))
      (grows_landing (eqb (suc label)))

  value_there : (here : Location) (e : Expression) → knows scope e ≡ true → (kept : Kept) → layout.base ≤ kept.top → BelowFrom Never KeepsLocation (H kept) (InTemporary kept.top (H kept)) (value by_name here e) (run_code (evaluate layout.object here e kept.top))
  value_there here e f kept low = alike_there KeepsLocation Never (H kept) (InTemporary kept.top (H kept)) (value by_name here e) (run_code (evaluate layout.object here e kept.top)) (stored scope layout ok kept low n' enough inner' helps here e f)

  module _ (here : Location) (e : Expression) (fine : knows scope e ≡ true) (label : ℕ) (kept : Kept) (low : layout.base ≤ kept.top) where
    abbrev t : ℕ
    t = kept.top

    -- one turn of a loop that tests, for any body b beside the code behind the test
    abbrev Turned : Link Store (Option (Option Signal)) Memory (Option ℕ)
    Turned = Left Never KeepsLocation (H kept) (OrOut (H kept) (ExitJumps (H kept) label) label)

    module _ (b : Act Store (Option Signal)) (rest : Act Memory (Option ℕ)) (h : BelowFrom Never KeepsLocation (H kept) (LeftThere (H kept) label) b rest) (gt : Grows (behind_test t label rest)) where
      half_turn : (v : ℕ) (o : Option ℕ) → BelowFrom Never KeepsLocation (λ s m. InTemporary t (H kept) v s o m) Turned (half b (is_true v)) (next_or (behind_test t label rest) o)
      half_turn v (Some j) s m w r = absurd (cc r.0)
      half_turn zero None s m w r = (Some label, m, (refl, r.1.1), test_jumps t label rest m w r.1.0)
      half_turn (suc v) None s m w r = subst (λ z. Below Never KeepsLocation Turned (half b true s w) z) (sym (test_passes t label v rest m w r.1.0)) (mapped_there Never KeepsLocation (H kept) (ExitJumps (H kept) label) label (b s w) (rest m w) (h s m w r.1.1))

      a_turn : BelowFrom Never KeepsLocation (H kept) Turned (once (test by_name here e) b) (bind (run_code (evaluate layout.object here e t)) (next_or (behind_test t label rest)))
      a_turn s m w q =
          subst (λ z. Below Never KeepsLocation Turned z (bind (run_code (evaluate layout.object here e t)) (next_or (behind_test t label rest)) m w)) (sym (bind_bind (value by_name here e) (λ v. give (is_true v)) (half b) s w))
          (below_bind Never KeepsLocation (H kept) (InTemporary t (H kept)) Turned (value by_name here e) (run_code (evaluate layout.object here e t)) (λ v. half b (is_true v)) (next_or (behind_test t label rest))
          (value_there here e fine kept low) half_turn (grows_next (behind_test t label rest) gt) s m w q)

  while_there : (here : Location) (e : Expression) → knows scope e ≡ true → (body : Statement) (label : ℕ) (kept : Kept) → layout.base ≤ kept.top → BelowFrom Never KeepsLocation (H kept) (LeftThere (H kept) (suc label)) (source body) (code body kept.top (suc label)) → BelowFrom Never KeepsLocation (H kept) (LeftThere (H kept) label) (source (While here e body)) (code (While here e body) kept.top label)
  while_there here e fine body label kept low h =
      let inside : CStatement = translate scope layout body kept.top (suc label) in
      let turn : CStatement = while_turn (evaluate layout.object here e kept.top) kept.top (suc label) inside in
      let g = grows_c n' inner' g' inside in
      let gt = grows_c n' inner' g' (Then (Unless kept.top (suc label)) inside) in
      landed label kept (iterate n (test by_name here e) (source body)) (run_code (Forever turn))
      (tested_there Never KeepsLocation (H kept) (ExitJumps (H kept) (suc label)) (suc label) n n' (omega (arith, le)) (test by_name here e) (source body) (run_code turn) (grows_c n' inner' g' turn)
      (a_turn here e fine (suc label) kept low (source body) (run_code inside) h gt)
      (a_turn here e fine (suc label) kept low cut (run_code inside) (λ s m w q. g m w) gt))

  module _ (body : Statement) (fine : is_fine scope body ≡ true) (claim : Claim body) (label : ℕ) (kept : Kept) (low : layout.base ≤ kept.top) where
    abbrev turn : CStatement
    turn = repeat_turn kept.top (suc label) (translate scope layout body (suc kept.top) (suc label))

    -- the state has this count
    abbrev Count : ℕ → Store → Memory → Type 0
    Count count = H (with_count kept count)

    still : (count : ℕ) (o : Option Signal) (s : Store) (o' : Option ℕ) (m : Memory) → LeftThere (Count count) (suc label) o s o' m → Left Never KeepsLocation (Count count) (ExitJumps (H kept) (suc label)) o s o' m
    still count None s None m r = r
    still count None s (Some j) m r = absurd r
    still count (Some b) s None m r = absurd r
    still count (Some b) s (Some j) m r = (r.0, count_ends scope layout ok kept low count s m r.1)

    goes : (count : ℕ) → BelowFrom Never KeepsLocation (Count (suc count)) (Left Never KeepsLocation (Count count) (ExitJumps (H kept) (suc label))) (source body) (run_code turn)
    goes count s m w q =
        subst (λ z. Below Never KeepsLocation (Left Never KeepsLocation (Count count) (ExitJumps (H kept) (suc label))) (source body s w) z) (sym (turn_counts kept.top (suc label) count n' inner' (translate scope layout body (suc kept.top) (suc label)) m w (count_is scope layout ok kept low (suc count) s m q)))
        (below_weaker Never KeepsLocation (LeftThere (Count count) (suc label)) (Left Never KeepsLocation (Count count) (ExitJumps (H kept) (suc label))) (still count) (source body s w) (code body (suc kept.top) (suc label) (set_cell kept.top count m) w)
        (claim fine (suc label) (with_count kept count) (omega arith) s (set_cell kept.top count m) w (counts_down scope layout ok kept low (suc count) count s m q)))

    goes_out : BelowFrom Never KeepsLocation (Count 0) (λ u s o' m. Exited (Count 0) (ExitJumps (H kept) (suc label)) (suc label) None s o' m) (give (tt {0})) (run_code turn)
    goes_out s m w q = (Some (suc label), m, (refl, q), test_jumps kept.top (suc label) (bind (run_code (Set kept.top (Subtract (Load kept.top) (Constant 1)))) (next_or (code body (suc kept.top) (suc label)))) m w (count_is scope layout ok kept low 0 s m q))

    repeat_loop : (count : ℕ) → BelowFrom Never KeepsLocation (Besides kept.top count (H kept)) (LeftThere (H kept) label) (bind (counted count n (source body)) (landing leaves)) (run_code (Labelled (suc label) (Forever turn)))
    repeat_loop count s m w q =
        below_then Never KeepsLocation (Exited (H kept) (ExitJumps (H kept) (suc label)) (suc label)) (LeftThere (H kept) label) (counted count n (source body) s w) (run_code (Forever turn) m w) (landing leaves) (landing (eqb (suc label)))
        (below_weaker Never KeepsLocation (Exited (Count 0) (ExitJumps (H kept) (suc label)) (suc label)) (Exited (H kept) (ExitJumps (H kept) (suc label)) (suc label)) (exited_weaker (Count 0) (H kept) (count_ends scope layout ok kept low 0) (ExitJumps (H kept) (suc label)) (suc label)) (counted count n (source body) s w) (run_code (Forever turn) m w)
        (counted_there Never KeepsLocation Count (ExitJumps (H kept) (suc label)) (suc label) (source body) (run_code turn) (grows_c n' inner' g' turn) goes goes_out count n n' (omega (arith, le)) s m w (count_begins scope layout ok kept low count s m q)))
        (λ o s2 o' m2 w2 r. landing_there Never KeepsLocation (H kept) (ExitJumps (H kept) (suc label)) (suc label) (ExitJumps (H kept) label) leaves (eqb (suc label)) (eq-eqb (suc label) (suc label) refl) (lands label kept) o o' s2 m2 w2 r)
        (grows_landing (eqb (suc label)))

    begun : (count : ℕ) (o : Option ℕ) → BelowFrom Never KeepsLocation (λ s m. InTemporary kept.top (H kept) count s o m) (LeftThere (H kept) label) (bind (counted count n (source body)) (landing leaves)) (next_or (run_code (Labelled (suc label) (Forever turn))) o)
    begun count None s m w r = repeat_loop count s m w r.1
    begun count (Some j) s m w r = absurd (cc r.0)

    repeat_there : (here : Location) (e : Expression) → knows scope e ≡ true → BelowFrom Never KeepsLocation (H kept) (LeftThere (H kept) label) (source (Repeat here e body)) (code (Repeat here e body) kept.top label)
    repeat_there here e known =
        below_bind Never KeepsLocation (H kept) (InTemporary kept.top (H kept)) (LeftThere (H kept) label) (value by_name here e) (run_code (evaluate layout.object here e kept.top)) (λ count. bind (counted count n (source body)) (landing leaves)) (next_or (run_code (Labelled (suc label) (Forever turn))))
        (value_there here e known kept low) begun (grows_next (run_code (Labelled (suc label) (Forever turn))) (grows_c n' inner' g' (Labelled (suc label) (Forever turn))))

  module _ (calls_there : (before : ℕ → Option ℕ) (frame p : ℕ) → BelowFrom Never KeepsLocation (H (in_procedure layout before frame)) (λ a s a' m. CellsKept (in_procedure layout before frame) m) (inner p) (inner' (Procedure p))) (label : ℕ) (kept : Kept) (low : layout.base ≤ kept.top) where
    falls_through : (o : Option Signal) (s : Store) (o' : Option ℕ) (m : Memory) → o ≡ None → o' ≡ None → H kept s m → LeftThere (H kept) label o s o' m
    falls_through None s None m e e' h = h
    falls_through None s (Some j) m e e' h = absurd (cc e')
    falls_through (Some b) s None m e e' h = absurd (cc e)
    falls_through (Some b) s (Some j) m e e' h = absurd (cc e)

    -- the call alone, from one memory
    called : (p v : ℕ) (s : Store) (m : Memory) (w : Written) → H kept s m → Below Never KeepsLocation (LeftThere (H kept) label) (invoke scope (inner p) v s w) (invoke_c kept.top layout.base (layout.object scope.argument) (inner' (Procedure p)) v m w)
    called p v s m w q =
        let arg : ℕ = layout.object scope.argument in
        let inside : Kept = in_call layout kept (call_cells kept.top layout.base arg v m) in
        below_then Never KeepsLocation (λ o i o' i'. (o ≡ None) × (o' ≡ None) × CellsKept inside i') (LeftThere (H kept) label) (bind (inner p) (λ u. give None) (opened scope v) w) (bind (inner' (Procedure p)) (λ u. give None) (enter_frame kept.top layout.base arg v m) w) (λ value i later. Going value (leave s i) later) (λ value i later. Going value (leave_frame m i) later)
        (below_bind Never KeepsLocation (H inside) (λ a i a' i'. CellsKept inside i') (λ o i o' i'. (o ≡ None) × (o' ≡ None) × CellsKept inside i') (inner p) (inner' (Procedure p)) (λ u. give None) (λ u. give None)
        (calls_there inside.before inside.frame p) (λ u u' i i' x k. (None, i', (refl, refl, k), refl)) (λ u. grows_give {A = Option ℕ} None) (opened scope v) (enter_frame kept.top layout.base arg v m) w (call_begins scope layout ok kept.top v m kept refl q.1))
        (λ o i o' i' x k. (o', leave_frame m i', falls_through o s o' (leave_frame m i') k.0 k.1 (call_returns scope layout ok kept.top v m kept s i' refl low q k.2), refl))
        (λ a' i x. begun_same x)

    after_argument : (p v : ℕ) (o : Option ℕ) → BelowFrom Never KeepsLocation (λ s m. InTemporary kept.top (H kept) v s o m) (LeftThere (H kept) label) (invoke scope (inner p) v) (next_or (run_code (Invoke p kept.top kept.top layout.base (layout.object scope.argument))) o)
    after_argument p v (Some j) s m w r = absurd (cc r.0)
    after_argument p v None s m w r = subst (λ z. Below Never KeepsLocation (LeftThere (H kept) label) (invoke scope (inner p) v s w) z) (sym (after_load kept.top v m w (invoke_c kept.top layout.base (layout.object scope.argument) (inner' (Procedure p))) r.1.0)) (called p v s m w r.1.1)

    call_there : (here : Location) (p : ℕ) (e : Expression) → knows scope e ≡ true → BelowFrom Never KeepsLocation (H kept) (LeftThere (H kept) label) (source (Call here p e)) (code (Call here p e) kept.top label)
    call_there here p e fine =
        below_bind Never KeepsLocation (H kept) (InTemporary kept.top (H kept)) (LeftThere (H kept) label) (value by_name here e) (run_code (evaluate layout.object here e kept.top)) (invoke scope (inner p)) (next_or (run_code (Invoke p kept.top kept.top layout.base (layout.object scope.argument))))
        (value_there here e fine kept low) (after_argument p)
        (grows_next (run_code (Invoke p kept.top kept.top layout.base (layout.object scope.argument))) (grows_c n' inner' g' (Invoke p kept.top kept.top layout.base (layout.object scope.argument))))

  module _ (calls_there : (before : ℕ → Option ℕ) (frame p : ℕ) → BelowFrom Never KeepsLocation (H (in_procedure layout before frame)) (λ a s a' m. CellsKept (in_procedure layout before frame) m) (inner p) (inner' (Procedure p))) where
    pub there : (st : Statement) → Claim st
    there Skip u label kept low = λ s m w q. (None, m, q, refl)
    there (Sequence a b) u label kept low =
        let both = and_parts (is_fine scope a) (is_fine scope b) u in
        below_bind Never KeepsLocation (H kept) (LeftThere (H kept) label) (LeftThere (H kept) label) (source a) (code a kept.top label) (next_or (source b)) (next_or (code b kept.top label)) (there a both.0 label kept low)
        (next_below Never KeepsLocation (H kept) (ExitJumps (H kept) label) (source b) (code b kept.top label) (there b both.1 label kept low))
        (grows_next (code b kept.top label) (grows_c n' inner' g' (translate scope layout b kept.top label)))
    there (Assign here x e) u label kept low = alike_there KeepsLocation Never (H kept) (LeftThere (H kept) label) (source (Assign here x e)) (code (Assign here x e) kept.top label) (assigned scope layout ok kept low n' enough inner' helps label n inner here x e u)
    there (While here e body) u label kept low = let both = and_parts (knows scope e) (is_fine scope body) u in while_there here e both.0 body label kept low (there body both.1 (suc label) kept low)
    there (Repeat here e body) u label kept low = let both = and_parts (knows scope e) (is_fine scope body) u in repeat_there body both.1 (there body) label kept low here e both.0
    there Exit u label kept low = λ s m w q. (Some label, m, (refl, q), refl)
    there (Call here p e) u label kept low = call_there calls_there label kept low here p e u
    there (Print here e) u label kept low = alike_there KeepsLocation Never (H kept) (LeftThere (H kept) label) (source (Print here e)) (code (Print here e) kept.top label) (printed scope layout ok kept low n' enough inner' helps label n inner here e u)

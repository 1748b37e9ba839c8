-- A program and its translation are near.
use Rattle.std.proofs.Common.{◌≡◌, ℕ, ◌+◌, ◌≤◌, [], Option, Some, None, refl, sym, subst, arith}
use Rattle.lf_base.specs.Outcome.{written, KeepsLocation, KeptLocation, Never}
use Rattle.lf_base.specs.Near.{IsNearBy}
use Rattle.lf_base.specs.Acts.{Act, give}
use Rattle.lf_base.specs.Order.{Grows, BelowFrom}
use Rattle.lf_base.specs.Depth.{calls, CallsBelow}
use Rattle.lf_base.proofs.Stretches.{grows_give, below_bind}
use Rattle.lf_base.proofs.Depths.{calls_grow, calls_below, helper_at}
use Rattle.lf_base.proofs.Nearby.{near_of_below}
use Rattle.link_toy.specs.Source.{Program, IsFine}
use Rattle.link_toy.specs.Meaning.{Store, Signal, by_name, opened, largest_factor, exec, callee, success, whole, run}
use Rattle.link_toy.specs.Target.{CStatement, CProgram, Memory, exec_c, callee_c, Callable, Procedure, Multiplier, multiply, no_value, whole_c, run_c}
use Rattle.link_toy.specs.Translation.{Layout, IsLayout, outermost, helper_depth, translated, initial_memory}
use Rattle.link_toy.specs.Relation.{Kept, CellsKept, Stands, in_procedure}
use Rattle.link_toy.proofs.Growth.{callee_grows, callee_c_grows}
use Rattle.link_toy.proofs.Cells.{started}
use Rattle.link_toy.proofs.Larger.{all_longer_c}
use Rattle.link_toy.proofs.Values.{Helps}
use Rattle.link_toy.proofs.Straight.{LeftThere, LeftBack}
use Rattle.link_toy.proofs.There.{there}
use Rattle.link_toy.proofs.Back.{back}

-- calls deep enough have the helper
pub helps : (bodies : ℕ → CStatement) (n d : ℕ) → helper_depth ≤ d → Helps n (calls (callee_c n bodies) d)
helps bodies n d deep r u v text = helper_at (callee_c n bodies) (Multiplier r u v text) (multiply n r u v text) (λ inner. refl) d deep

-- a call and its fellow
abbrev SameProcedure : ℕ → Callable → Type 0
SameProcedure p p' = p' ≡ Procedure p

module _ (layout : Layout) (p : Program) (fine : IsFine p) (ok : IsLayout p.scope layout) where
  -- what is kept at a call: the cells below the frame, and where it begins
  abbrev Caller : Type 0
  Caller = (ℕ → Option ℕ) × ℕ

  abbrev kept_at : Caller → Kept
  kept_at i = in_procedure layout i.0 i.1

  abbrev H : Caller → Store → Memory → Type 0
  H i = Stands p.scope layout (kept_at i)

  abbrev C : CProgram
  C = translated layout p

  abbrev Begins : Caller → ℕ → Callable → Store → Memory → Type 0
  Begins i q q' = H i

  abbrev Returns : Caller → ℕ → Callable → Unit {0} → Store → ℕ → Memory → Type 0
  Returns i q q' a s a' m = CellsKept (kept_at i) m

  abbrev first : Caller
  first = ((λ a. None), 0)

  abbrev source_calls : ℕ → ℕ → ℕ → Act Store (Unit {0})
  source_calls n d = calls (callee by_name p.scope n p.bodies) d

  abbrev code_calls : ℕ → ℕ → Callable → Act Memory ℕ
  code_calls n d = calls (callee_c n C.bodies) d

  source_grows : (n d q : ℕ) → Grows (source_calls n d q)
  source_grows n = calls_grow (callee by_name p.scope n p.bodies) (callee_grows by_name p.scope n p.bodies)

  code_grows : (n d : ℕ) (q : Callable) → Grows (code_calls n d q)
  code_grows n = calls_grow (callee_c n C.bodies) (callee_c_grows n C.bodies)

  returned : (i : Caller) (o : Option Signal) (s : Store) (o' : Option ℕ) (m : Memory) → LeftThere (H i) outermost o s o' m → CellsKept (kept_at i) m
  returned i None s None m r = r.2
  returned i None s (Some j) m r = absurd r
  returned i (Some b) s None m r = absurd r
  returned i (Some b) s (Some j) m r = r.1.2

  module _ (n n' : ℕ) (le : n + largest_factor ≤ n') where
    one_call : (d d' : ℕ) → d + 1 ≤ d' → CallsBelow Never KeepsLocation SameProcedure Begins Returns (source_calls n d) (code_calls n' d') → CallsBelow Never KeepsLocation SameProcedure Begins Returns (callee by_name p.scope n p.bodies (source_calls n d)) (callee_c n' C.bodies (code_calls n' d'))
    one_call d d' ld h i q q' k =
        subst (λ z. BelowFrom Never KeepsLocation (H i) (Returns i q z) (callee by_name p.scope n p.bodies (source_calls n d) q) (callee_c n' C.bodies (code_calls n' d') z)) (sym k)
        (below_bind Never KeepsLocation (H i) (LeftThere (H i) outermost) (Returns i q (Procedure q)) (exec by_name p.scope n (source_calls n d) (p.bodies q)) (exec_c n' (code_calls n' d') (C.bodies q)) (λ o. give tt) (λ o. give no_value)
        (there p.scope layout ok n n' le (source_calls n d) (code_calls n' d') (code_grows n' d') (helps C.bodies n' d' (omega (arith, ld))) (λ before frame r. h (before, frame) r (Procedure r) refl) (p.bodies q) (fine.bodies q) outermost (kept_at i) (omega arith))
        (λ o o' s m w r. (no_value, m, returned i o s o' m r, refl)) (λ o. grows_give {A = ℕ} no_value))

    all_calls : (d d' : ℕ) → d + 1 ≤ d' → CallsBelow Never KeepsLocation SameProcedure Begins Returns (source_calls n d) (code_calls n' d')
    all_calls = calls_below Never KeepsLocation SameProcedure Begins Returns 1 (callee by_name p.scope n p.bodies) (callee_c n' C.bodies) one_call (callee_c_grows n' C.bodies)

    there_whole : (d d' : ℕ) → d + 1 ≤ d' → BelowFrom Never KeepsLocation (H first) (λ a s a' m. a' ≡ a) (whole by_name p n d) (whole_c C n' d')
    there_whole d d' ld = below_bind Never KeepsLocation (H first) (LeftThere (H first) outermost) (λ a s a' m. a' ≡ a) (exec by_name p.scope n (source_calls n d) p.main) (exec_c n' (code_calls n' d') C.main) (λ o. give success) (λ o. give success)
        (there p.scope layout ok n n' le (source_calls n d) (code_calls n' d') (code_grows n' d') (helps C.bodies n' d' (omega (arith, ld))) (λ before frame r. all_calls d d' ld (before, frame) r (Procedure r) refl) p.main fine.main outermost (kept_at first) (omega arith))
        (λ o o' s m w r. (success, m, refl, refl)) (λ o. grows_give {A = ℕ} success)

  abbrev SameProcedureBack : Callable → ℕ → Type 0
  SameProcedureBack q q' = q ≡ Procedure q'

  abbrev HBack : Caller → Memory → Store → Type 0
  HBack i m s = H i s m

  abbrev BeginsBack : Caller → Callable → ℕ → Memory → Store → Type 0
  BeginsBack i q q' = HBack i

  abbrev ReturnsBack : Caller → Callable → ℕ → ℕ → Memory → Unit {0} → Store → Type 0
  ReturnsBack i q q' a m a' s = CellsKept (kept_at i) m

  returned_back : (i : Caller) (o : Option ℕ) (m : Memory) (o' : Option Signal) (s : Store) → LeftBack (H i) outermost o m o' s → CellsKept (kept_at i) m
  returned_back i None m None s r = r.2
  returned_back i None m (Some b) s r = absurd r
  returned_back i (Some j) m None s r = absurd r
  returned_back i (Some j) m (Some b) s r = r.1.2

  module _ (n n' : ℕ) (le : n ≤ n') where
    one_call_back : (d d' : ℕ) → d + 1 ≤ d' → CallsBelow Never KeptLocation SameProcedureBack BeginsBack ReturnsBack (code_calls n d) (source_calls n' d') → CallsBelow Never KeptLocation SameProcedureBack BeginsBack ReturnsBack (callee_c n C.bodies (code_calls n d)) (callee by_name p.scope n' p.bodies (source_calls n' d'))
    one_call_back d d' ld h i q q' k =
        subst (λ z. BelowFrom Never KeptLocation (HBack i) (ReturnsBack i z q') (callee_c n C.bodies (code_calls n d) z) (callee by_name p.scope n' p.bodies (source_calls n' d') q')) (sym k)
        (below_bind Never KeptLocation (HBack i) (LeftBack (H i) outermost) (ReturnsBack i (Procedure q') q') (exec_c n (code_calls n d) (C.bodies q')) (exec by_name p.scope n' (source_calls n' d') (p.bodies q')) (λ o. give no_value) (λ o. give tt)
        (back p.scope layout ok n n' le (code_calls n d) (source_calls n' d') (source_grows n' d') (code_calls (n + largest_factor) (d + 1)) (helps C.bodies (n + largest_factor) (d + 1) (omega arith)) (all_longer_c n (n + largest_factor) (omega arith) C.bodies d (d + 1) (omega arith)) (λ before frame r. h (before, frame) (Procedure r) r refl) (p.bodies q') (fine.bodies q') outermost (kept_at i) (omega arith))
        (λ o o' m s w r. (tt, s, returned_back i o m o' s r, refl)) (λ o. grows_give (tt {0})))

    all_back : (d d' : ℕ) → d + 1 ≤ d' → CallsBelow Never KeptLocation SameProcedureBack BeginsBack ReturnsBack (code_calls n d) (source_calls n' d')
    all_back = calls_below Never KeptLocation SameProcedureBack BeginsBack ReturnsBack 1 (callee_c n C.bodies) (callee by_name p.scope n' p.bodies) one_call_back (callee_grows by_name p.scope n' p.bodies)

    back_whole : (d d' : ℕ) → d + 1 ≤ d' → BelowFrom Never KeptLocation (HBack first) (λ a m a' s. a' ≡ a) (whole_c C n d) (whole by_name p n' d')
    back_whole d d' ld = below_bind Never KeptLocation (HBack first) (LeftBack (H first) outermost) (λ a m a' s. a' ≡ a) (exec_c n (code_calls n d) C.main) (exec by_name p.scope n' (source_calls n' d') p.main) (λ o. give success) (λ o. give success)
        (back p.scope layout ok n n' le (code_calls n d) (source_calls n' d') (source_grows n' d') (code_calls (n + largest_factor) (d + 1)) (helps C.bodies (n + largest_factor) (d + 1) (omega arith)) (all_longer_c n (n + largest_factor) (omega arith) C.bodies d (d + 1) (omega arith)) (λ before frame r. all_back d d' ld (before, frame) (Procedure r) r refl) p.main fine.main outermost (kept_at first) (omega arith))
        (λ o o' m s w r. (success, s, refl, refl)) (λ o. grows_give {A = ℕ} success)

  pub near : IsNearBy Never largest_factor helper_depth (run p) (run_c (initial_memory layout) C)
  near = near_of_below Never (λ a s a' m. a' ≡ a) (λ a m a' s. a' ≡ a) (λ a s a' m h. h) (λ a m a' s h. h) largest_factor helper_depth (λ n d. whole by_name p n d (opened p.scope 0) (written [] [])) (λ n d. whole_c C n d (initial_memory layout) (written [] []))
      (λ n n' d d' ln ld. there_whole n n' ln d d' ld (opened p.scope 0) (initial_memory layout) (written [] []) (started p.scope layout ok))
      (λ n n' d d' ln ld. back_whole n n' (omega (arith, ln)) d d' ld (initial_memory layout) (opened p.scope 0) (written [] []) (started p.scope layout ok))

-- Each meaning goes at larger bounds at least as far.
use Rattle.std.proofs.Common.{ℕ, ◌≤◌, List, []}
use Rattle.lf_base.specs.Outcome.{written}
use Rattle.lf_base.specs.Near.{IsMonotone}
use Rattle.lf_base.specs.Acts.{Act, bind, give, iterate}
use Rattle.lf_base.specs.Order.{Grows}
use Rattle.lf_base.specs.Monotone.{NoShorter}
use Rattle.lf_base.specs.Depth.{calls, CalleeLonger}
use Rattle.lf_base.proofs.Stretches.{grows_bind, grows_give}
use Rattle.lf_base.proofs.Monotone.{same_self, bind_no_shorter, iterate_no_shorter, within_no_shorter, outcomes_monotone, cond_no_shorter, next_no_shorter}
use Rattle.lf_base.proofs.Depths.{calls_grow, calls_no_shorter}
use Rattle.link_toy.specs.Source.{Statement, Skip, Sequence, Assign, While, Repeat, Exit, Call, Print, Scope, Program}
use Rattle.link_toy.specs.Meaning.{Store, Access, opened, exec, callee, whole, run_by}
use Rattle.link_toy.specs.Target.{CStatement, Nothing, Then, Set, Forever, Labelled, Unless, Jump, Invoke, Write, Multiply, CProgram, Memory, load, is_counting, add_once, multiply, multiply_into, Callable, Procedure, Multiplier, no_value, exec_c, callee_c, whole_c, run_c}
use Rattle.link_toy.proofs.Growth.{growing, grows_test, grows_exec, callee_grows, grows_load, grows_is_counting, grows_add_once, grows_multiply_into, grows_c, callee_c_grows}
use Rattle.lf_base.proofs.Counting.{counted_no_shorter}

ruleset larger = (same_self, bind_no_shorter, iterate_no_shorter, within_no_shorter, cond_no_shorter, next_no_shorter, counted_no_shorter)

module _ (n n' : ℕ) (le : n ≤ n') where
  module _ (access : Access) (scope : Scope) where
    module _ (inner inner' : ℕ → Act Store (Unit {0})) (h : (p : ℕ) → NoShorter (inner p) (inner' p)) (g : (p : ℕ) → Grows (inner' p)) where
      exec_no_shorter : (st : Statement) → NoShorter (exec access scope n inner st) (exec access scope n' inner' st)
      exec_no_shorter Skip = search larger
      exec_no_shorter (Sequence a b) = search (larger, growing, exec_no_shorter a, exec_no_shorter b, grows_exec access scope n' inner' g b)
      exec_no_shorter (Assign here x e) = same_self (exec access scope n inner (Assign here x e))
      exec_no_shorter (While here e body) = search (larger, growing, exec_no_shorter body, grows_test access here e, grows_exec access scope n' inner' g body)
      exec_no_shorter (Repeat here e body) = search (larger, growing, exec_no_shorter body, grows_exec access scope n' inner' g body)
      exec_no_shorter Exit = search larger
      exec_no_shorter (Call here p e) = search (larger, growing)
      exec_no_shorter (Print here e) = same_self (exec access scope n inner (Print here e))

    pub callee_longer : (bodies : ℕ → Statement) → CalleeLonger (callee access scope n bodies) (callee access scope n' bodies)
    callee_longer bodies inner inner' h g p = bind_no_shorter (exec access scope n inner (bodies p)) (exec access scope n' inner' (bodies p)) (λ o. give tt) (λ o. give tt) (exec_no_shorter inner inner' h g (bodies p)) (λ o. same_self (give (tt {0}))) (λ o. grows_give (tt {0}))

    pub all_longer : (bodies : ℕ → Statement) (d d' : ℕ) → d ≤ d' → (st : Statement) → NoShorter (exec access scope n (calls (callee access scope n bodies) d) st) (exec access scope n' (calls (callee access scope n' bodies) d') st)
    all_longer bodies d d' ld = exec_no_shorter (calls (callee access scope n bodies) d) (calls (callee access scope n' bodies) d') (calls_no_shorter (callee access scope n bodies) (callee access scope n' bodies) (callee_longer bodies) (callee_grows access scope n' bodies) d d' ld) (calls_grow (callee access scope n' bodies) (callee_grows access scope n' bodies) d')

  adding_no_shorter : (r v : ℕ) → NoShorter (bind (iterate n (is_counting r) (add_once r v)) (λ o. load r)) (bind (iterate n' (is_counting r) (add_once r v)) (λ o. load r))
  adding_no_shorter r v = search (larger, growing, grows_load, grows_is_counting, grows_add_once)

  pub multiply_no_shorter : (r u v : ℕ) (text : List ℕ) → NoShorter (multiply n r u v text) (multiply n' r u v text)
  multiply_no_shorter r u v text = search (larger, growing, adding_no_shorter)

  module _ (inner inner' : Callable → Act Memory ℕ) (h : (p : Callable) → NoShorter (inner p) (inner' p)) (g : (p : Callable) → Grows (inner' p)) where
    into_no_shorter : (o : ℕ) (text : List ℕ) (u v : ℕ) → NoShorter (multiply_into inner o text u v) (multiply_into inner' o text u v)
    into_no_shorter o text u v = search (larger, growing)

    pub no_shorter : (st : CStatement) → NoShorter (exec_c n inner st) (exec_c n' inner' st)
    no_shorter Nothing = search larger
    no_shorter (Then a b) = search (larger, growing, no_shorter a, no_shorter b, grows_c n' inner' g b)
    no_shorter (Set o e) = same_self (exec_c n inner (Set o e))
    no_shorter (Forever body) = search (larger, growing, no_shorter body, grows_c n' inner' g body)
    no_shorter (Labelled label body) = search (larger, growing, no_shorter body)
    no_shorter (Unless o label) = same_self (exec_c n inner (Unless o label))
    no_shorter (Jump label) = search larger
    no_shorter (Invoke p o kept own argument) = search (larger, growing)
    no_shorter (Write o) = same_self (exec_c n inner (Write o))
    no_shorter (Multiply o a b text) = search (larger, growing, into_no_shorter, grows_load, grows_multiply_into inner' g)

  pub callee_c_longer : (bodies : ℕ → CStatement) → CalleeLonger (callee_c n bodies) (callee_c n' bodies)
  callee_c_longer bodies inner inner' h g (Procedure p) = bind_no_shorter (exec_c n inner (bodies p)) (exec_c n' inner' (bodies p)) (λ o. give no_value) (λ o. give no_value) (no_shorter inner inner' h g (bodies p)) (λ o. same_self (give {A = ℕ} no_value)) (λ o. grows_give {A = ℕ} no_value)
  callee_c_longer bodies inner inner' h g (Multiplier r u v text) = multiply_no_shorter r u v text

  pub all_longer_c : (bodies : ℕ → CStatement) (d d' : ℕ) → d ≤ d' → (st : CStatement) → NoShorter (exec_c n (calls (callee_c n bodies) d) st) (exec_c n' (calls (callee_c n' bodies) d') st)
  all_longer_c bodies d d' ld = no_shorter (calls (callee_c n bodies) d) (calls (callee_c n' bodies) d') (calls_no_shorter (callee_c n bodies) (callee_c n' bodies) (callee_c_longer bodies) (callee_c_grows n' bodies) d d' ld) (calls_grow (callee_c n' bodies) (callee_c_grows n' bodies) d')

whole_longer : (access : Access) (p : Program) (n n' d d' : ℕ) → n ≤ n' → d ≤ d' → NoShorter (whole access p n d) (whole access p n' d')
whole_longer access p n n' d d' ln ld = bind_no_shorter (exec access p.scope n (calls (callee access p.scope n p.bodies) d) p.main) (exec access p.scope n' (calls (callee access p.scope n' p.bodies) d') p.main) (λ o. give 0) (λ o. give 0) (all_longer n n' ln access p.scope p.bodies d d' ld p.main) (λ o. same_self (give {A = ℕ} 0)) (λ o. grows_give {A = ℕ} 0)

grows_whole : (access : Access) (p : Program) (n d : ℕ) → Grows (whole access p n d)
grows_whole access p n d = grows_bind (exec access p.scope n (calls (callee access p.scope n p.bodies) d) p.main) (λ o. give 0) (grows_exec access p.scope n (calls (callee access p.scope n p.bodies) d) (calls_grow (callee access p.scope n p.bodies) (callee_grows access p.scope n p.bodies) d) p.main) (λ o. grows_give {A = ℕ} 0)

pub source_larger : (access : Access) (p : Program) → IsMonotone (run_by access p)
source_larger access p = outcomes_monotone (whole access p) (opened p.scope 0) (written [] []) (λ n n' d d' ln ld. whole_longer access p n n' d d' ln ld) (grows_whole access p)

whole_c_longer : (p : CProgram) (n n' d d' : ℕ) → n ≤ n' → d ≤ d' → NoShorter (whole_c p n d) (whole_c p n' d')
whole_c_longer p n n' d d' ln ld = bind_no_shorter (exec_c n (calls (callee_c n p.bodies) d) p.main) (exec_c n' (calls (callee_c n' p.bodies) d') p.main) (λ o. give 0) (λ o. give 0) (all_longer_c n n' ln p.bodies d d' ld p.main) (λ o. same_self (give {A = ℕ} 0)) (λ o. grows_give {A = ℕ} 0)

grows_whole_c : (p : CProgram) (n d : ℕ) → Grows (whole_c p n d)
grows_whole_c p n d = grows_bind (exec_c n (calls (callee_c n p.bodies) d) p.main) (λ o. give 0) (grows_c n (calls (callee_c n p.bodies) d) (calls_grow (callee_c n p.bodies) (callee_c_grows n p.bodies) d) p.main) (λ o. grows_give {A = ℕ} 0)

pub target_larger : (start : Memory) (p : CProgram) → IsMonotone (run_c start p)
target_larger start p = outcomes_monotone (whole_c p) start (written [] []) (λ n n' d d' ln ld. whole_c_longer p n n' d d' ln ld) (grows_whole_c p)

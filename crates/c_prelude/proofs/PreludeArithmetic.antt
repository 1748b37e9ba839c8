-- The prelude's sum of 64 bits, and the test for 32: the exact value, or the trap of an overflow.
use Rattle.std.proofs.Common.{◌≡◌, ℕ, suc, ◌≤◌, Bool, true, false, not, List, [], ◌∷◌, ◌++◌, map, Some, None, codes, refl, ap, ◌∙◌, arith}
use Rattle.std.specs.Prelude.{int_lt, ◌+ℤ◌, ◌-ℤ◌}
use Rattle.std.proofs.Math.IntN.{ℤ, pos}
use Rattle.std.proofs.lemmas.Int.{ints}
use Rattle.lf_base.specs.Outcome.{Location, Written, Outcome, Ended}
use Rattle.lf_base.specs.Acts.{Going, Stopped}
use Rattle.lf_base.specs.Traps.{trap_text}
use Rattle.lf_base.specs.declared.trap.Trap.TheVariants.{IntegerOverflow}
use Rattle.lf_base.proofs.Runs.{order_next, order_left, order_stopped}
use Rattle.c_nodes.specs.declared.tree.CFile.{CFile}
use Rattle.c_nodes.specs.declared.tree.CItem.{CItem}
use Rattle.c_nodes.specs.declared.tree.CExpr.{CExpr}
use Rattle.c_nodes.specs.declared.tree.CStmt.{CStmt}
use Rattle.c_nodes.specs.declared.tree.CResult.TheVariants as result
use Rattle.c_nodes.specs.declared.tree.CParameter.TheVariants as parameter
use Rattle.c_nodes.specs.declared.tree.CType.TheVariants.{Int64}
use Rattle.c_nodes.specs.declared.tree.CBinary.TheVariants.{Add, Subtract, Less, And, Or}
use Rattle.c_nodes.specs.declared.tree.CExpr.TheVariants.{Variable, Constant, Greatest, Least, Paren, Negate, Binary, Literal}
use Rattle.c_nodes.specs.declared.tree.CStmt.TheVariants.{Call, ReturnValue, If}
use Rattle.c_semantics.specs.CValues.{Width, W32, W64, Text, CValue, Number, Pointer, fits, truth, least32, greatest32, least64, greatest64}
use Rattle.c_semantics.specs.CState.{Around, Cells, Stored, State, declare, closed}
use Rattle.c_semantics.specs.CMeaning.{reading, Calls, Procedure, Returned, started, entering, call, on_procedure, function_of, function_in, calls_of, statement, statements}
use Rattle.c_prelude.specs.PreludeLaws.{HasPrelude, Locates, aged, trapped, trap_turns, TrapsOver, Fits, Combines}
use Rattle.c_prelude.specs.Prelude.{prelude_items}
use Rattle.c_semantics.proofs.CExprs.{exprs}
use Rattle.c_semantics.proofs.CRuns.{stop_call, run_return, run_if_not, if_so, stop_block}
use Rattle.c_semantics.proofs.CCalls.{call_going, call_stopped, binds64}
use Rattle.c_semantics.proofs.Numbers.{numbers}
use Rattle.c_prelude.proofs.PreludeCalls.{found, ended, does}
use Rattle.c_prelude.proofs.PreludeTrapLaw.{trap_law}

-- the end by the trap of an overflow
abbrev pub overflown : Location → Written → Outcome
overflown location w = Ended (record { out = w.out; err = w.err ++ trap_text IntegerOverflow location }) 101 None

abbrev trap_call : CStmt
trap_call = Call (codes "lf_trap") (Constant 1 ∷ Literal (codes "IntegerOverflow") ∷ [])

abbrev pub over_call : List CStmt
over_call = Call (codes "lf_over") [] ∷ []

pub over_law : TrapsOver
over_law location files file h s w located =
    let p : Procedure = record { file = file; result = result.Void; parameters = []; body = trap_call ∷ [] } in
    let inside : State = started file s in
    let o : Outcome = overflown location w in
    does files file (trap_turns location) 2 (codes "lf_over") [] s w (trapped IntegerOverflow location s w) (λ n d le.
    ap (λ x. on_procedure x (λ q. call n (calls_of files n (suc d) q.file) q []) s w) (found files file h (codes "lf_over") p (λ rest. refl))
    ∙ call_stopped n (calls_of files n (suc d) file) p [] s inside w refl o
    (order_stopped (statement n (calls_of files n (suc d) file) trap_call) [] inside w o
    (stop_call n (calls_of files n (suc d) file) (codes "lf_trap") (Constant 1 ∷ Literal (codes "IntegerOverflow") ∷ []) (Number W32 (pos 1) ∷ Pointer (Text (codes "IntegerOverflow")) 0 ∷ []) o inside w (simp exprs refl)
    ((trap_law IntegerOverflow location W32 files file h inside w located).enough n (suc d) le (omega arith)))))

-- `lf_over();` in a block
module _ (files : List CFile) (file : ℕ) (h : HasPrelude files file) (n d : ℕ) (location : Location) (long : trap_turns location ≤ n) (s : State) (w : Written) (located : Locates file location s.around) where
  pub over_stops : statements n (calls_of files n (suc (suc d)) file) over_call s w ≡ Stopped (overflown location w)
  over_stops = order_stopped (statement n (calls_of files n (suc (suc d)) file) (Call (codes "lf_over") [])) [] s w (overflown location w) (stop_call n (calls_of files n (suc (suc d)) file) (codes "lf_over") [] [] (overflown location w) s w refl ((over_law location files file h s w located).enough n (suc (suc d)) long (omega arith)))

-- a function that traps by a test, and else returns a value
abbrev tested_body : CExpr → CExpr → List CStmt
tested_body test value = If test over_call ∷ ReturnValue value ∷ []

returns_value : (n : ℕ) (calls : Calls) (test value : CExpr) (s : State) (w : Written) (z : CValue) → (reading test).value s ≡ Some (truth false) → (reading value).value s ≡ Some z → statements n calls (tested_body test value) s w ≡ Going (Some (Returned (Some z))) s w
returns_value n calls test value s w z t v =
    order_next (statement n calls (If test over_call)) (map (statement n calls) (ReturnValue value ∷ [])) s w s w (run_if_not n calls test over_call (truth false) s w t refl)
    ∙ order_left (statement n calls (ReturnValue value)) [] s w (Returned (Some z)) s w (run_return n calls value z s w v)

stops_over : (n : ℕ) (calls : Calls) (test value : CExpr) (s : State) (w : Written) (o : Outcome) → (reading test).value s ≡ Some (truth true) → statements n calls over_call s w ≡ Stopped o → statements n calls (tested_body test value) s w ≡ Stopped o
stops_over n calls test value s w o t h =
    order_stopped (statement n calls (If test over_call)) (map (statement n calls) (ReturnValue value ∷ [])) s w o
    (if_so n calls test over_call (truth true) s w t refl ∙ stop_block n calls over_call o s w h)

-- what a call with one argument begins with, and one with two
abbrev one_state : ℕ → ℤ → ℕ → List Stored → Around → State
one_state file a next memory around = record {
  here = record { file = file; names = record { name = codes "a"; number = next } ∷ [] };
  next = suc next;
  memory = record { number = next; slot = Cells Int64 false (Some a ∷ []) } ∷ memory;
  around = around;
}

abbrev pub two_state : ℕ → ℤ → ℤ → ℕ → List Stored → Around → State
two_state file a b next memory around = record {
  here = record { file = file; names = record { name = codes "b"; number = suc next } ∷ record { name = codes "a"; number = next } ∷ [] };
  next = suc (suc next);
  memory = record { number = suc next; slot = Cells Int64 false (Some b ∷ []) } ∷ record { number = next; slot = Cells Int64 false (Some a ∷ []) } ∷ memory;
  around = around;
}

-- a function of two numbers
abbrev pub two_procedure : ℕ → List CStmt → Procedure
two_procedure file body = record { file = file; result = result.Int64; parameters = parameter.Value Int64 (codes "a") ∷ parameter.Value Int64 (codes "b") ∷ []; body = body }

pub two_binds : (file : ℕ) (body : List CStmt) (v w' : Width) (a b : ℤ) (s : State) → fits W64 a ≡ true → fits W64 b ≡ true → entering (two_procedure file body) (Number v a ∷ Number w' b ∷ []) s ≡ Some (two_state file a b s.next s.memory s.around)
two_binds file body v w' a b s fa fb =
    binds64 (codes "a") (parameter.Value Int64 (codes "b") ∷ []) v a (Number w' b ∷ []) (started file s) fa
    ∙ binds64 (codes "b") [] w' b [] (declare (codes "a") (Cells Int64 false (Some a ∷ [])) (started file s)) fb

-- the objects of such a call end with it
pub two_ended : (file : ℕ) (a b : ℤ) (s : State) (z : CValue) (w : Written) → Going (Some z) (closed s (two_state file a b s.next s.memory s.around)) w ≡ Going (Some z) (aged 2 s) w
two_ended file a b s z w = ap (λ t. Going (Some z) t w) (ended (two_state file a b s.next s.memory s.around).here (suc (suc s.next)) (record { number = suc s.next; slot = Cells Int64 false (Some b ∷ []) } ∷ record { number = s.next; slot = Cells Int64 false (Some a ∷ []) } ∷ []) s)

-- `lf_fit`
abbrev fit_test : CExpr
fit_test = Binary Or (Paren (Binary Less (Variable (codes "a")) (Paren (Negate (Constant 2147483648))))) (Paren (Binary Less (Constant 2147483647) (Variable (codes "a"))))

fit_value : (file : ℕ) (a : ℤ) (next : ℕ) (memory : List Stored) (around : Around) (x y : Bool) → int_lt a least32 ≡ x → int_lt greatest32 a ≡ y → (reading fit_test).value (one_state file a next memory around) ≡ Some (truth (not (fits W32 a)))
fit_value file a next memory around true y e f = let no : fits W32 a ≡ false = grind (arith, ints) in simp (exprs, numbers, e, no) refl
fit_value file a next memory around false true e f = let no : fits W32 a ≡ false = grind (arith, ints) in simp (exprs, numbers, e, f, no) refl
fit_value file a next memory around false false e f = let yes : fits W32 a ≡ true = grind (arith, ints) in simp (exprs, numbers, e, f, yes) refl

module _ (v : Width) (a : ℤ) (fa : fits W64 a ≡ true) (files : List CFile) (file : ℕ) (h : HasPrelude files file) (s : State) (w : Written) where
  abbrev fit_procedure : Procedure
  fit_procedure = record { file = file; result = result.Int64; parameters = parameter.Value Int64 (codes "a") ∷ []; body = tested_body fit_test (Variable (codes "a")) }

  abbrev fitting : State
  fitting = one_state file a s.next s.memory s.around

  fit_tests : (t : Bool) → fits W32 a ≡ t → (reading fit_test).value fitting ≡ Some (truth (not t))
  fit_tests t e = fit_value file a s.next s.memory s.around (int_lt a least32) (int_lt greatest32 a) refl refl ∙ ap (λ b. Some (truth (not b))) e

  fit_called : (n d : ℕ) → calls_of files n (suc d) file (codes "lf_fit") (Number v a ∷ []) s w ≡ call n (calls_of files n d file) fit_procedure (Number v a ∷ []) s w
  fit_called n d = ap (λ o. on_procedure o (λ q. call n (calls_of files n d q.file) q (Number v a ∷ [])) s w) (found files file h (codes "lf_fit") fit_procedure (λ rest. refl))

  fit_binds : entering fit_procedure (Number v a ∷ []) s ≡ Some fitting
  fit_binds = binds64 (codes "a") [] v a [] (started file s) fa

  fit_gives : fits W32 a ≡ true → (n d : ℕ) → calls_of files n (suc d) file (codes "lf_fit") (Number v a ∷ []) s w ≡ Going (Some (Number W64 a)) (aged 1 s) w
  fit_gives e n d =
      fit_called n d
      ∙ call_going n (calls_of files n d file) fit_procedure (Number v a ∷ []) s fitting w fit_binds (Some (Returned (Some (Number W64 a)))) fitting w
      (returns_value n (calls_of files n d file) fit_test (Variable (codes "a")) fitting w (Number W64 a) (fit_tests true e) (simp (exprs, numbers) refl))
      ∙ ap (λ t. Going (Some (Number W64 a)) t w) (ended fitting.here (suc s.next) (record { number = s.next; slot = Cells Int64 false (Some a ∷ []) } ∷ []) s)

  fit_stops : fits W32 a ≡ false → (location : Location) → Locates file location s.around → (n d : ℕ) → trap_turns location ≤ n → calls_of files n (suc (suc (suc d))) file (codes "lf_fit") (Number v a ∷ []) s w ≡ trapped IntegerOverflow location s w
  fit_stops e location located n d le =
      fit_called n (suc (suc d))
      ∙ call_stopped n (calls_of files n (suc (suc d)) file) fit_procedure (Number v a ∷ []) s fitting w fit_binds (overflown location w)
      (stops_over n (calls_of files n (suc (suc d)) file) fit_test (Variable (codes "a")) fitting w (overflown location w) (fit_tests false e) (over_stops files file h n d location le fitting w located))

pub fit_law : Fits
fit_law v a fa = record {
  value = λ e files file h s w. does files file 0 1 (codes "lf_fit") (Number v a ∷ []) s w (Going (Some (Number W64 a)) (aged 1 s) w) (λ n d le. fit_gives v a fa files file h s w e n d);
  trap = λ e location files file h s w located. does files file (trap_turns location) 3 (codes "lf_fit") (Number v a ∷ []) s w (trapped IntegerOverflow location s w) (λ n d le. fit_stops v a fa files file h s w e location located n d le);
}

-- a function of two numbers that traps by a test, and else returns a value: by what its test and its value are
module _ (name : List ℕ) (test value : CExpr) (f : ℤ → ℤ → ℤ)
    (known : (file : ℕ) (rest : List CItem) → function_in name true file (prelude_items ++ rest) ≡ Some (two_procedure file (tested_body test value)))
    (unlisted : (files : List CFile) (n d file : ℕ) (vs : List CValue) → calls_of files n (suc d) file name vs ≡ on_procedure (function_of files file name) (λ q. call n (calls_of files n d q.file) q vs))
    (tests : (file : ℕ) (a b : ℤ) (next : ℕ) (memory : List Stored) (around : Around) → fits W64 a ≡ true → fits W64 b ≡ true → (reading test).value (two_state file a b next memory around) ≡ Some (truth (not (fits W64 (f a b)))))
    (gives : (file : ℕ) (a b : ℤ) (next : ℕ) (memory : List Stored) (around : Around) → fits W64 (f a b) ≡ true → (reading value).value (two_state file a b next memory around) ≡ Some (Number W64 (f a b))) where
  module _ (v w' : Width) (a b : ℤ) (fa : fits W64 a ≡ true) (fb : fits W64 b ≡ true) (files : List CFile) (file : ℕ) (h : HasPrelude files file) (s : State) (w : Written) where
    abbrev procedure : Procedure
    procedure = two_procedure file (tested_body test value)

    abbrev vs : List CValue
    vs = Number v a ∷ Number w' b ∷ []

    abbrev inside : State
    inside = two_state file a b s.next s.memory s.around

    is_called : (n d : ℕ) → calls_of files n (suc d) file name vs s w ≡ call n (calls_of files n d file) procedure vs s w
    is_called n d =
        ap (λ g. g s w) (unlisted files n d file vs)
        ∙ ap (λ o. on_procedure o (λ q. call n (calls_of files n d q.file) q vs) s w) (found files file h name procedure (λ rest. known file rest))

    is_tested : (t : Bool) → fits W64 (f a b) ≡ t → (reading test).value inside ≡ Some (truth (not t))
    is_tested t e = tests file a b s.next s.memory s.around fa fb ∙ ap (λ x. Some (truth (not x))) e

    is_given : fits W64 (f a b) ≡ true → (n d : ℕ) → calls_of files n (suc d) file name vs s w ≡ Going (Some (Number W64 (f a b))) (aged 2 s) w
    is_given e n d =
        is_called n d
        ∙ call_going n (calls_of files n d file) procedure vs s inside w (two_binds file (tested_body test value) v w' a b s fa fb) (Some (Returned (Some (Number W64 (f a b))))) inside w
        (returns_value n (calls_of files n d file) test value inside w (Number W64 (f a b)) (is_tested true e) (gives file a b s.next s.memory s.around e))
        ∙ two_ended file a b s (Number W64 (f a b)) w

    is_stopped : fits W64 (f a b) ≡ false → (location : Location) → Locates file location s.around → (n d : ℕ) → trap_turns location ≤ n → calls_of files n (suc (suc (suc d))) file name vs s w ≡ trapped IntegerOverflow location s w
    is_stopped e location located n d le =
        is_called n (suc (suc d))
        ∙ call_stopped n (calls_of files n (suc (suc d)) file) procedure vs s inside w (two_binds file (tested_body test value) v w' a b s fa fb) (overflown location w)
        (stops_over n (calls_of files n (suc (suc d)) file) test value inside w (overflown location w) (is_tested false e) (over_stops files file h n d location le inside w located))

  pub combines : Combines name 2 f
  combines v w' a b fa fb = record {
    value = λ e files file h s w. does files file 0 1 name (Number v a ∷ Number w' b ∷ []) s w (Going (Some (Number W64 (f a b))) (aged 2 s) w) (λ n d le. is_given v w' a b fa fb files file h s w e n d);
    trap = λ e location files file h s w located. does files file (trap_turns location) 3 name (Number v a ∷ Number w' b ∷ []) s w (trapped IntegerOverflow location s w) (λ n d le. is_stopped v w' a b fa fb files file h s w e location located n d le);
  }

-- `lf_add`
abbrev add_test : CExpr
add_test = Binary Or (Paren (Binary And (Paren (Binary Less (Constant 0) (Variable (codes "b")))) (Paren (Binary Less (Paren (Binary Subtract Greatest (Variable (codes "b")))) (Variable (codes "a")))))) (Paren (Binary And (Paren (Binary Less (Variable (codes "b")) (Constant 0))) (Paren (Binary Less (Variable (codes "a")) (Paren (Binary Subtract Least (Variable (codes "b"))))))))

module _ (file : ℕ) (a b : ℤ) (next : ℕ) (memory : List Stored) (around : Around) (fa : fits W64 a ≡ true) (fb : fits W64 b ≡ true) where
  add_up : (x : Bool) → int_lt (greatest64 -ℤ b) a ≡ x → int_lt (pos 0) b ≡ true → int_lt b (pos 0) ≡ false → (reading add_test).value (two_state file a b next memory around) ≡ Some (truth (not (fits W64 (a +ℤ b))))
  add_up true e p q =
      let room : fits W64 (greatest64 -ℤ b) ≡ true = grind (arith, ints) in
      let no : fits W64 (a +ℤ b) ≡ false = grind (arith, ints) in
      simp (exprs, numbers, p, q, room, e, no) refl
  add_up false e p q =
      let room : fits W64 (greatest64 -ℤ b) ≡ true = grind (arith, ints) in
      let yes : fits W64 (a +ℤ b) ≡ true = grind (arith, ints) in
      simp (exprs, numbers, p, q, room, e, yes) refl

  add_down : (x : Bool) → int_lt a (least64 -ℤ b) ≡ x → int_lt (pos 0) b ≡ false → int_lt b (pos 0) ≡ true → (reading add_test).value (two_state file a b next memory around) ≡ Some (truth (not (fits W64 (a +ℤ b))))
  add_down true e p q =
      let room : fits W64 (least64 -ℤ b) ≡ true = grind (arith, ints) in
      let no : fits W64 (a +ℤ b) ≡ false = grind (arith, ints) in
      simp (exprs, numbers, p, q, room, e, no) refl
  add_down false e p q =
      let room : fits W64 (least64 -ℤ b) ≡ true = grind (arith, ints) in
      let yes : fits W64 (a +ℤ b) ≡ true = grind (arith, ints) in
      simp (exprs, numbers, p, q, room, e, yes) refl

  add_tests : (p q : Bool) → int_lt (pos 0) b ≡ p → int_lt b (pos 0) ≡ q → (reading add_test).value (two_state file a b next memory around) ≡ Some (truth (not (fits W64 (a +ℤ b))))
  add_tests true true e f = absurd (grind (arith, ints))
  add_tests true false e f = add_up (int_lt (greatest64 -ℤ b) a) refl e f
  add_tests false true e f = add_down (int_lt a (least64 -ℤ b)) refl e f
  add_tests false false e f = let yes : fits W64 (a +ℤ b) ≡ true = grind (arith, ints) in simp (exprs, numbers, e, f, yes) refl

pub add_law : Combines (codes "lf_add") 2 (λ a b. a +ℤ b)
add_law = combines (codes "lf_add") add_test (Binary Add (Variable (codes "a")) (Variable (codes "b"))) (λ a b. a +ℤ b) (λ file rest. refl) (λ files n d file vs. refl) (λ file a b next memory around fa fb. add_tests file a b next memory around fa fb (int_lt (pos 0) b) (int_lt b (pos 0)) refl refl) (λ file a b next memory around yes. simp (exprs, numbers, yes) refl)

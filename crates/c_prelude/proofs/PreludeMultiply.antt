-- The prelude's product and difference of 64 bits: exact, or the trap of an overflow.
use Rattle.std.proofs.Common.{◌≡◌, ℕ, suc, ◌≤◌, Bool, true, false, not, List, [], ◌∷◌, map, Some, None, codes, refl, ap, ◌∙◌, arith}
use Rattle.std.specs.Prelude.{int_lt, int_div, ◌-ℤ◌, ◌+ℤ◌, ◌*ℤ◌, if◌then◌else◌}
use Rattle.std.proofs.Math.IntN.{ℤ, pos}
use Rattle.std.proofs.lemmas.Int.{ints}
use Rattle.lf_base.specs.Outcome.{Location, Written}
use Rattle.lf_base.specs.Acts.{Going}
use Rattle.lf_base.specs.declared.trap.Trap.TheVariants.{IntegerOverflow}
use Rattle.lf_base.proofs.Runs.{order_next, order_left, order_stopped}
use Rattle.c_nodes.specs.declared.tree.CFile.{CFile}
use Rattle.c_nodes.specs.declared.tree.CExpr.{CExpr}
use Rattle.c_nodes.specs.declared.tree.CStmt.{CStmt}
use Rattle.c_nodes.specs.declared.tree.CType.TheVariants.{Int64}
use Rattle.c_nodes.specs.declared.tree.CBinary.TheVariants.{Add, Subtract, Multiply, Divide, Less, And, Or}
use Rattle.c_nodes.specs.declared.tree.CExpr.TheVariants.{Variable, Constant, Greatest, Least, Paren, Binary}
use Rattle.c_nodes.specs.declared.tree.CStmt.TheVariants.{Assign, DeclareValue, ReturnValue, If, IfElse}
use Rattle.c_semantics.specs.CValues.{Width, W32, W64, Local, CValue, Number, fits, truth, greatest64, least64}
use Rattle.c_semantics.specs.CState.{Around, Cells, Stored, State, declare}
use Rattle.c_semantics.specs.CMeaning.{reading, Element, block, Calls, Procedure, Returned, stored_in, call, on_procedure, calls_of, clause, statement, statements}
use Rattle.c_prelude.specs.PreludeLaws.{HasPrelude, Locates, aged, trapped, trap_turns, Combines}
use Rattle.c_semantics.proofs.CExprs.{exprs}
use Rattle.c_semantics.proofs.CRuns.{run_declare_value, run_assign, run_return, run_if_not, if_so, if_then, if_else, run_plain_block, stop_block}
use Rattle.c_semantics.proofs.CCalls.{call_going, call_stopped}
use Rattle.c_semantics.proofs.Numbers.{numbers}
use Rattle.c_prelude.proofs.PreludeCalls.{found, ended, does}
use Rattle.c_prelude.proofs.PreludeArithmetic.{overflown, over_call, over_stops, two_state, two_procedure, two_binds, combines}
use Rattle.c_prelude.proofs.PreludeProducts.{bad_exactly, greatest_over, greatest_under, least_over, nonzero_over, nonzero_under}

-- `lf_sub`
abbrev sub_test : CExpr
sub_test = Binary Or (Paren (Binary And (Paren (Binary Less (Variable (codes "b")) (Constant 0))) (Paren (Binary Less (Paren (Binary Add Greatest (Variable (codes "b")))) (Variable (codes "a")))))) (Paren (Binary And (Paren (Binary Less (Constant 0) (Variable (codes "b")))) (Paren (Binary Less (Variable (codes "a")) (Paren (Binary Add Least (Variable (codes "b"))))))))

module _ (file : ℕ) (a b : ℤ) (next : ℕ) (memory : List Stored) (around : Around) (fa : fits W64 a ≡ true) (fb : fits W64 b ≡ true) where
  sub_up : (x : Bool) → int_lt (greatest64 +ℤ b) a ≡ x → int_lt (pos 0) b ≡ false → int_lt b (pos 0) ≡ true → (reading sub_test).value (two_state file a b next memory around) ≡ Some (truth (not (fits W64 (a -ℤ b))))
  sub_up true e p q =
      let room : fits W64 (greatest64 +ℤ b) ≡ true = grind (arith, ints) in
      let no : fits W64 (a -ℤ b) ≡ false = grind (arith, ints) in
      simp (exprs, numbers, p, q, room, e, no) refl
  sub_up false e p q =
      let room : fits W64 (greatest64 +ℤ b) ≡ true = grind (arith, ints) in
      let yes : fits W64 (a -ℤ b) ≡ true = grind (arith, ints) in
      simp (exprs, numbers, p, q, room, e, yes) refl

  sub_down : (x : Bool) → int_lt a (least64 +ℤ b) ≡ x → int_lt (pos 0) b ≡ true → int_lt b (pos 0) ≡ false → (reading sub_test).value (two_state file a b next memory around) ≡ Some (truth (not (fits W64 (a -ℤ b))))
  sub_down true e p q =
      let room : fits W64 (least64 +ℤ b) ≡ true = grind (arith, ints) in
      let no : fits W64 (a -ℤ b) ≡ false = grind (arith, ints) in
      simp (exprs, numbers, p, q, room, e, no) refl
  sub_down false e p q =
      let room : fits W64 (least64 +ℤ b) ≡ true = grind (arith, ints) in
      let yes : fits W64 (a -ℤ b) ≡ true = grind (arith, ints) in
      simp (exprs, numbers, p, q, room, e, yes) refl

  sub_tests : (p q : Bool) → int_lt (pos 0) b ≡ p → int_lt b (pos 0) ≡ q → (reading sub_test).value (two_state file a b next memory around) ≡ Some (truth (not (fits W64 (a -ℤ b))))
  sub_tests true true e f = absurd (grind (arith, ints))
  sub_tests true false e f = sub_down (int_lt a (least64 +ℤ b)) refl e f
  sub_tests false true e f = sub_up (int_lt (greatest64 +ℤ b) a) refl e f
  sub_tests false false e f = let yes : fits W64 (a -ℤ b) ≡ true = grind (arith, ints) in simp (exprs, numbers, e, f, yes) refl

pub sub_law : Combines (codes "lf_sub") 2 (λ a b. a -ℤ b)
sub_law = combines (codes "lf_sub") sub_test (Binary Subtract (Variable (codes "a")) (Variable (codes "b"))) (λ a b. a -ℤ b) (λ file rest. refl) (λ files n d file vs. refl) (λ file a b next memory around fa fb. sub_tests file a b next memory around fa fb (int_lt (pos 0) b) (int_lt b (pos 0)) refl refl) (λ file a b next memory around yes. simp (exprs, numbers, yes) refl)

-- `lf_mul`: with the variable `bad`
abbrev mul_state : ℕ → ℤ → ℤ → ℤ → ℕ → List Stored → Around → State
mul_state file a b c next memory around = declare (codes "bad") (Cells Int64 false (Some c ∷ [])) (two_state file a b next memory around)

abbrev bit : Bool → ℤ
bit true = pos 1
bit false = pos 0

abbrev A : CExpr
A = Variable (codes "a")

abbrev B : CExpr
B = Variable (codes "b")

abbrev set_bad : CExpr → CStmt
set_bad e = Assign (Variable (codes "bad")) e

abbrev zero_under : CExpr → CExpr
zero_under e = Binary Less (Constant 0) e

abbrev both_over : CExpr
both_over = Binary Less (Paren (Binary Divide Greatest B)) A

abbrev left_over : CExpr
left_over = Binary Less B (Paren (Binary Divide Least A))

abbrev right_over : CExpr
right_over = Binary Less A (Paren (Binary Divide Least B))

abbrev both_under : CExpr
both_under = Binary Less A (Paren (Binary Divide Greatest B))

abbrev when_over : CStmt
when_over = IfElse (zero_under B) (set_bad both_over ∷ []) (set_bad left_over ∷ [])

abbrev when_under : CStmt
when_under = IfElse (zero_under B) (set_bad right_over ∷ []) (If (Binary Less B (Constant 0)) (set_bad both_under ∷ []) ∷ [])

abbrev decides : CStmt
decides = IfElse (zero_under A) (when_over ∷ []) (when_under ∷ [])

module _ (n : ℕ) (calls : Calls) (file : ℕ) (a b : ℤ) (next : ℕ) (memory : List Stored) (around : Around) (w : Written) where
  abbrev start : State
  start = mul_state file a b (pos 0) next memory around

  abbrev mul_with : Bool → State
  mul_with t = mul_state file a b (bit t) next memory around

  store_bit : (t : Bool) → stored_in (Element (Local (suc (suc next))) 0) (truth t) start ≡ Some (mul_with t)
  store_bit true = simp numbers refl
  store_bit false = simp numbers refl

  -- one statement in a block
  lone : (s : CStmt) (t : Bool) → statement n calls s start w ≡ Going None (mul_with t) w → block (map (clause n calls) (s ∷ [])) start w ≡ Going None (mul_with t) w
  lone s t h = run_plain_block n calls (s ∷ []) None start (mul_with t) w w (order_next (statement n calls s) [] start w (mul_with t) w h) refl refl

  sets : (e : CExpr) (t : Bool) → (reading e).value start ≡ Some (truth t) → block (map (clause n calls) (set_bad e ∷ [])) start w ≡ Going None (mul_with t) w
  sets e t h = lone (set_bad e) t (run_assign n calls (Variable (codes "bad")) e (truth t) (Element (Local (suc (suc next))) 0) start (mul_with t) w h (simp (exprs, numbers) refl) (store_bit t))

  over : (q : Bool) → int_lt (pos 0) a ≡ true → int_lt (pos 0) b ≡ q → statement n calls when_over start w ≡ Going None (mul_with (if q then int_lt (int_div greatest64 b) a else int_lt b (int_div least64 a))) w
  over true p q =
      if_then n calls (zero_under B) (set_bad both_over ∷ []) (set_bad left_over ∷ []) (truth true) start w (simp (exprs, numbers, q) refl) refl
      ∙ sets both_over (int_lt (int_div greatest64 b) a) (simp (exprs, numbers, nonzero_over b q, greatest_over b q) refl)
  over false p q =
      if_else n calls (zero_under B) (set_bad both_over ∷ []) (set_bad left_over ∷ []) (truth false) start w (simp (exprs, numbers, q) refl) refl
      ∙ sets left_over (int_lt b (int_div least64 a)) (simp (exprs, numbers, nonzero_over a p, least_over a p) refl)

  inner : (r : Bool) → int_lt b (pos 0) ≡ r → statement n calls (If (Binary Less B (Constant 0)) (set_bad both_under ∷ [])) start w ≡ Going None (mul_with (if r then int_lt a (int_div greatest64 b) else false)) w
  inner true r =
      if_so n calls (Binary Less B (Constant 0)) (set_bad both_under ∷ []) (truth true) start w (simp (exprs, numbers, r) refl) refl
      ∙ sets both_under (int_lt a (int_div greatest64 b)) (simp (exprs, numbers, nonzero_under b r, greatest_under b r) refl)
  inner false r = run_if_not n calls (Binary Less B (Constant 0)) (set_bad both_under ∷ []) (truth false) start w (simp (exprs, numbers, r) refl) refl

  under : (q : Bool) → int_lt (pos 0) b ≡ q → statement n calls when_under start w ≡ Going None (mul_with (if q then int_lt a (int_div least64 b) else (if int_lt b (pos 0) then int_lt a (int_div greatest64 b) else false))) w
  under true q =
      if_then n calls (zero_under B) (set_bad right_over ∷ []) (If (Binary Less B (Constant 0)) (set_bad both_under ∷ []) ∷ []) (truth true) start w (simp (exprs, numbers, q) refl) refl
      ∙ sets right_over (int_lt a (int_div least64 b)) (simp (exprs, numbers, nonzero_over b q, least_over b q) refl)
  under false q =
      if_else n calls (zero_under B) (set_bad right_over ∷ []) (If (Binary Less B (Constant 0)) (set_bad both_under ∷ []) ∷ []) (truth false) start w (simp (exprs, numbers, q) refl) refl
      ∙ lone (If (Binary Less B (Constant 0)) (set_bad both_under ∷ [])) (if int_lt b (pos 0) then int_lt a (int_div greatest64 b) else false) (inner (int_lt b (pos 0)) refl)

  decided : (p : Bool) → int_lt (pos 0) a ≡ p → statement n calls decides start w ≡ Going None (mul_with (if p then (if int_lt (pos 0) b then int_lt (int_div greatest64 b) a else int_lt b (int_div least64 a)) else (if int_lt (pos 0) b then int_lt a (int_div least64 b) else (if int_lt b (pos 0) then int_lt a (int_div greatest64 b) else false)))) w
  decided true p =
      if_then n calls (zero_under A) (when_over ∷ []) (when_under ∷ []) (truth true) start w (simp (exprs, numbers, p) refl) refl
      ∙ lone when_over (if int_lt (pos 0) b then int_lt (int_div greatest64 b) a else int_lt b (int_div least64 a)) (over (int_lt (pos 0) b) p refl)
  decided false p =
      if_else n calls (zero_under A) (when_over ∷ []) (when_under ∷ []) (truth false) start w (simp (exprs, numbers, p) refl) refl
      ∙ lone when_under (if int_lt (pos 0) b then int_lt a (int_div least64 b) else (if int_lt b (pos 0) then int_lt a (int_div greatest64 b) else false)) (under (int_lt (pos 0) b) refl)

  -- `bad` is set exactly where the product passes 64 bits
  pub decides_bad : (t : Bool) → fits W64 (a *ℤ b) ≡ t → statement n calls decides start w ≡ Going None (mul_with (not t)) w
  decides_bad t e = decided (int_lt (pos 0) a) refl ∙ ap (λ x. Going None (mul_with x) w) (bad_exactly a b ∙ ap not e)

abbrev mul_body : List CStmt
mul_body = DeclareValue Int64 (codes "bad") (Constant 0) ∷ decides ∷ If (Variable (codes "bad")) over_call ∷ ReturnValue (Binary Multiply A B) ∷ []

module _ (v w' : Width) (a b : ℤ) (fa : fits W64 a ≡ true) (fb : fits W64 b ≡ true) (files : List CFile) (file : ℕ) (h : HasPrelude files file) (s : State) (w : Written) where
  abbrev vs : List CValue
  vs = Number v a ∷ Number w' b ∷ []

  abbrev inside : State
  inside = two_state file a b s.next s.memory s.around

  abbrev at : Bool → State
  at t = mul_state file a b (bit t) s.next s.memory s.around

  abbrev procedure : Procedure
  procedure = two_procedure file mul_body

  begins : (n : ℕ) (calls : Calls) → statement n calls (DeclareValue Int64 (codes "bad") (Constant 0)) inside w ≡ Going None (at false) w
  begins n calls = run_declare_value n calls Int64 (codes "bad") (Constant 0) (Number W32 (pos 0)) (Element (Local (suc (suc s.next))) 0) inside (at false) w (simp (exprs, numbers) refl) (simp numbers refl) (simp numbers refl)

  body_runs : (n : ℕ) (calls : Calls) (t : Bool) → fits W64 (a *ℤ b) ≡ t → statements n calls mul_body inside w ≡ statements n calls (If (Variable (codes "bad")) over_call ∷ ReturnValue (Binary Multiply A B) ∷ []) (at (not t)) w
  body_runs n calls t e =
      order_next (statement n calls (DeclareValue Int64 (codes "bad") (Constant 0))) (map (statement n calls) (decides ∷ If (Variable (codes "bad")) over_call ∷ ReturnValue (Binary Multiply A B) ∷ [])) inside w (at false) w (begins n calls)
      ∙ order_next (statement n calls decides) (map (statement n calls) (If (Variable (codes "bad")) over_call ∷ ReturnValue (Binary Multiply A B) ∷ [])) (at false) w (at (not t)) w (decides_bad n calls file a b s.next s.memory s.around w t e)

  is_called : (n d : ℕ) → calls_of files n (suc d) file (codes "lf_mul") vs s w ≡ call n (calls_of files n d file) procedure vs s w
  is_called n d = ap (λ o. on_procedure o (λ q. call n (calls_of files n d q.file) q vs) s w) (found files file h (codes "lf_mul") procedure (λ rest. refl))

  multiplied : fits W64 (a *ℤ b) ≡ true → (n d : ℕ) → calls_of files n (suc d) file (codes "lf_mul") vs s w ≡ Going (Some (Number W64 (a *ℤ b))) (aged 3 s) w
  multiplied e n d =
      let calls : Calls = calls_of files n d file in
      is_called n d
      ∙ call_going n calls procedure vs s inside w (two_binds file mul_body v w' a b s fa fb) (Some (Returned (Some (Number W64 (a *ℤ b))))) (at false) w
      (body_runs n calls true e
      ∙ order_next (statement n calls (If (Variable (codes "bad")) over_call)) (map (statement n calls) (ReturnValue (Binary Multiply A B) ∷ [])) (at false) w (at false) w (run_if_not n calls (Variable (codes "bad")) over_call (Number W64 (pos 0)) (at false) w (simp (exprs, numbers) refl) refl)
      ∙ order_left (statement n calls (ReturnValue (Binary Multiply A B))) [] (at false) w (Returned (Some (Number W64 (a *ℤ b)))) (at false) w (run_return n calls (Binary Multiply A B) (Number W64 (a *ℤ b)) (at false) w (simp (exprs, numbers, e) refl)))
      ∙ ap (λ t. Going (Some (Number W64 (a *ℤ b))) t w) (ended (at false).here (suc (suc (suc s.next))) (record { number = suc (suc s.next); slot = Cells Int64 false (Some (pos 0) ∷ []) } ∷ record { number = suc s.next; slot = Cells Int64 false (Some b ∷ []) } ∷ record { number = s.next; slot = Cells Int64 false (Some a ∷ []) } ∷ []) s)

  overflows : fits W64 (a *ℤ b) ≡ false → (location : Location) → Locates file location s.around → (n d : ℕ) → trap_turns location ≤ n → calls_of files n (suc (suc (suc d))) file (codes "lf_mul") vs s w ≡ trapped IntegerOverflow location s w
  overflows e location located n d le =
      let calls : Calls = calls_of files n (suc (suc d)) file in
      is_called n (suc (suc d))
      ∙ call_stopped n calls procedure vs s inside w (two_binds file mul_body v w' a b s fa fb) (overflown location w)
      (body_runs n calls false e
      ∙ order_stopped (statement n calls (If (Variable (codes "bad")) over_call)) (map (statement n calls) (ReturnValue (Binary Multiply A B) ∷ [])) (at true) w (overflown location w)
      (if_so n calls (Variable (codes "bad")) over_call (Number W64 (pos 1)) (at true) w (simp (exprs, numbers) refl) refl ∙ stop_block n calls over_call (overflown location w) (at true) w (over_stops files file h n d location le (at true) w located)))

pub mul_law : Combines (codes "lf_mul") 3 (λ a b. a *ℤ b)
mul_law v w' a b fa fb = record {
  value = λ e files file h s w. does files file 0 1 (codes "lf_mul") (Number v a ∷ Number w' b ∷ []) s w (Going (Some (Number W64 (a *ℤ b))) (aged 3 s) w) (λ n d le. multiplied v w' a b fa fb files file h s w e n d);
  trap = λ e location files file h s w located. does files file (trap_turns location) 3 (codes "lf_mul") (Number v a ∷ Number w' b ∷ []) s w (trapped IntegerOverflow location s w) (λ n d le. overflows v w' a b fa fb files file h s w e location located n d le);
}

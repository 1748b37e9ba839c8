-- The loops of the prelude's `lf_trap` that write the digits of the line.
use Rattle.std.proofs.Common.{◌≡◌, ℕ, zero, suc, ◌+◌, ◌-◌, ◌*◌, ◌/◌, ◌%◌, ◌<◌, ◌≤◌, ◌^◌, Bool, true, false, List, [], ◌∷◌, ◌++◌, length, map, Some, None, codes, cond, refl, sym, ap, ◌∙◌, arith, append_assoc}
use Rattle.std.specs.Prelude.{int_lt, int_le, int_div}
use Rattle.std.specs.Fmt.{decimal}
use Rattle.std.proofs.Math.IntN.{ℤ, pos}
use Rattle.std.proofs.Math.Nat.{div-div-eq-div-mul, div-lt_iff_lt-mul, le-div_iff_mul-le, div-le_self}
use Rattle.std.proofs.lemmas.Fmt.{decimal_by_steps}
use Rattle.std.proofs.lemmas.Int.{ints}
use Rattle.lf_base.specs.Outcome.{Written}
use Rattle.lf_base.specs.Acts.{Going, Act, iterate}
use Rattle.lf_base.proofs.Runs.{order_next, iterate_done, iterate_turn}
use Rattle.c_nodes.specs.declared.tree.CFile.{CFile}
use Rattle.c_nodes.specs.declared.tree.CExpr.{CExpr}
use Rattle.c_nodes.specs.declared.tree.CStmt.{CStmt}
use Rattle.c_nodes.specs.declared.tree.CBinary.TheVariants.{Add, Multiply, Divide, Remainder, Less, AtMost}
use Rattle.c_nodes.specs.declared.tree.CExpr.TheVariants.{Variable, Constant, Paren, Binary, ToInt}
use Rattle.c_nodes.specs.declared.tree.CStmt.TheVariants.{Assign, Call, While}
use Rattle.c_semantics.specs.CValues.{Local, Number, Errors, W32, W64, truth, fits, checked, quotient, binary, to_int}
use Rattle.c_semantics.specs.CState.{Around, Stored, State}
use Rattle.c_semantics.specs.CMeaning.{reading, all_given, Element, tested, block, Calls, Doing, clause, statement, calls_of, written_byte}
use Rattle.c_semantics.proofs.CExprs.{exprs}
use Rattle.c_semantics.proofs.CNumbers.{fits32_nat, fits64_nat, not_zero}
use Rattle.c_semantics.proofs.CRuns.{run_tested, run_assign, run_call, run_plain_block, while_is}
use Rattle.c_semantics.proofs.CCalls.{calls_fputc, complains}
use Rattle.c_semantics.proofs.Numbers.{numbers}
use Rattle.lf_base.specs.Outcome.{Location}
use Rattle.c_prelude.specs.PreludeLaws.{Locates}
use Rattle.c_prelude.proofs.PreludeTrap.{trap_state, more}
use Rattle.c_prelude.proofs.PreludeDigits.{length-snoc}

abbrev D : CExpr
D = Variable (codes "d")

abbrev L : CExpr
L = Variable (codes "lf_line")

abbrev scale_test : CExpr
scale_test = Binary AtMost D (Paren (Binary Divide L (Constant 10)))

abbrev scale_up : CStmt
scale_up = Assign D (Binary Multiply D (Constant 10))

abbrev pub scaling : CStmt
scaling = While scale_test (scale_up ∷ [])

abbrev digit_test : CExpr
digit_test = Binary Less (Constant 0) D

abbrev digit : CExpr
digit = ToInt (Paren (Binary Add (Constant 48) (Paren (Binary Remainder (Paren (Binary Divide L D)) (Constant 10)))))

abbrev put_digit : CStmt
put_digit = Call (codes "fputc") (digit ∷ Variable (codes "stderr") ∷ [])

abbrev scale_down : CStmt
scale_down = Assign D (Binary Divide D (Constant 10))

abbrev pub digits_out : CStmt
digits_out = While digit_test (put_digit ∷ scale_down ∷ [])

-- the quotient of numbers that are not negative
quotient_is : (a b : ℕ) → 0 < b → fits W64 (pos (a / b)) ≡ true → quotient W64 (pos a) (pos b) ≡ Some (Number W64 (pos (a / b)))
quotient_is a b h f = ap (λ t. cond t None (checked W64 (int_div (pos a) (pos b)))) (not_zero b h) ∙ ap (λ t. cond t (Some (Number W64 (pos (a / b)))) None) f

-- the last digit of a number
digit_by : (m : ℕ) → m < 2 ^ 32 → to_int (binary Add (Some (Number W32 (pos 48))) (binary Remainder (Some (Number W64 (pos m))) (Some (Number W32 (pos 10))))) ≡ Some (Number W32 (pos (48 + m % 10)))
digit_by m small =
    let r : fits W64 (pos (m / 10)) ≡ true = fits64_nat (m / 10) (omega arith) in
    let s : fits W64 (pos (48 + m % 10)) ≡ true = fits64_nat (48 + m % 10) (omega arith) in
    let t : fits W32 (pos (48 + m % 10)) ≡ true = fits32_nat (48 + m % 10) (omega arith) in
    simp (r, s, t) refl

module _ (files : List CFile) (n d file : ℕ) (k : ℤ) (text : List ℕ) (next : ℕ) (memory : List Stored) (around : Around) (i : ℤ) (location : Location) (located : Locates file location around) where
  abbrev line : ℕ
  line = location.line

  abbrev at : ℕ → State
  at p = trap_state file k text next memory around i (pos p)

  abbrev calls : Calls
  calls = calls_of files n d file

  abbrev doing : CStmt → Doing
  doing = statement n calls

  abbrev up_test : Act State Bool
  up_test = tested scale_test

  abbrev up_body : Doing
  up_body = block (map (clause n calls) (scale_up ∷ []))

  abbrev down_test : Act State Bool
  down_test = tested digit_test

  abbrev down_body : Doing
  down_body = block (map (clause n calls) (put_digit ∷ scale_down ∷ []))

  line_fits : fits W64 (pos line) ≡ true
  line_fits = fits64_nat line (omega (arith, located.small))

  tenth_fits : fits W64 (pos (line / 10)) ≡ true
  tenth_fits = fits64_nat (line / 10) (omega (arith, located.small))

  scale_is : (p : ℕ) (t : Bool) → int_le (pos p) (pos (line / 10)) ≡ t → (reading scale_test).value (at p) ≡ Some (truth t)
  scale_is p t e = simp (exprs, numbers, located.line, tenth_fits, e) refl

  scales : (p : ℕ) → p * 10 < 2 ^ 40 → (w : Written) → up_body (at p) w ≡ Going None (at (p * 10)) w
  scales p small w =
      run_plain_block n calls (scale_up ∷ []) None (at p) (at (p * 10)) w w
      (order_next (doing scale_up) [] (at p) w (at (p * 10)) w
      (run_assign n calls D (Binary Multiply D (Constant 10)) (Number W64 (pos (p * 10))) (Element (Local (suc (suc (suc next)))) 0) (at p) (at (p * 10)) w
      (simp (exprs, numbers, fits64_nat (p * 10) (omega arith)) refl) (simp (exprs, numbers) refl) (simp (numbers, fits64_nat (p * 10) (omega arith)) refl)))
      refl refl

  digit_is : (p : ℕ) → 0 < p → (reading digit).value (at p) ≡ Some (Number W32 (pos (48 + (line / p) % 10)))
  digit_is p h =
      let q : fits W64 (pos (line / p)) ≡ true = fits64_nat (line / p) (omega (arith, located.small, div-le_self line p)) in
      simp (exprs, numbers, located.line) (ap (λ x. to_int (binary Add (Some (Number W32 (pos 48))) (binary Remainder x (Some (Number W32 (pos 10)))))) (quotient_is line p h q) ∙ digit_by (line / p) (omega (arith, located.small, div-le_self line p)))

  digits : (p m : ℕ) → 0 < p → p < 2 ^ 40 → line / p ≡ m → (w : Written) → down_body (at p) w ≡ Going None (at (p / 10)) (more w ((48 + m % 10) ∷ []))
  digits p m h small e w =
      let b : ℕ = 48 + (line / p) % 10 in
      let v : Written = more w (b ∷ []) in
      let f : fits W64 (pos (p / 10)) ≡ true = fits64_nat (p / 10) (omega arith) in
      run_plain_block n calls (put_digit ∷ scale_down ∷ []) None (at p) (at (p / 10)) w v
      (order_next (doing put_digit) (map doing (scale_down ∷ [])) (at p) w (at p) v
      (run_call n calls (codes "fputc") (digit ∷ Variable (codes "stderr") ∷ []) (Number W32 (pos b) ∷ Errors ∷ []) (written_byte (pos b)) (at p) (at p) w v
      (ap (λ o. all_given (o ∷ (reading (Variable (codes "stderr"))).value (at p) ∷ [])) (digit_is p h) ∙ simp exprs refl)
      (ap (λ g. g (at p) w) (calls_fputc files n file d (Number W32 (pos b) ∷ Errors ∷ [])) ∙ complains b (omega arith) (at p) w))
      ∙ order_next (doing scale_down) [] (at p) v (at (p / 10)) v
      (run_assign n calls D (Binary Divide D (Constant 10)) (Number W64 (pos (p / 10))) (Element (Local (suc (suc (suc next)))) 0) (at p) (at (p / 10)) v
      (simp (exprs, numbers, f) refl) (simp (exprs, numbers) refl) (simp (numbers, f) refl)))
      refl refl
      ∙ ap (λ x. Going None (at (p / 10)) (more w ((48 + x % 10) ∷ []))) e

  digits_follow : (p : ℕ) → 0 < p → (w : Written) → down_test (at p) w ≡ Going true (at p) w
  digits_follow p h w =
      let less : int_lt (pos 0) (pos p) ≡ true = grind (arith, ints) in
      run_tested digit_test (at p) w (truth true) true (simp (exprs, numbers, less) refl) refl

  digits_end : (w : Written) → down_test (at 0) w ≡ Going false (at 0) w
  digits_end w = run_tested digit_test (at 0) w (truth false) false (simp (exprs, numbers) refl) refl

  -- from the power p of ten, up to the one of the first digit, q, and down again, with the digits written
  pub record Goes (p : ℕ) (ds : List ℕ) : Type 0 where
    pub q : ℕ
    pub ups : (u : ℕ) → length ds ≤ u → (w : Written) → iterate u up_test up_body (at p) w ≡ Going None (at q) w
    pub downs : (t u : ℕ) → u ≡ length ds + t → (w : Written) → iterate u down_test down_body (at q) w ≡ iterate t down_test down_body (at (p / 10)) (more w ds)

  abbrev Digits : ℕ → List ℕ → Type 0
  Digits m ds = (p : ℕ) → 0 < p → p < 2 ^ 40 → line / p ≡ m → Goes p ds

  one_digit : (m : ℕ) → m < 10 → Digits m ((48 + m) ∷ [])
  one_digit m few p h small e =
      let under : line / p < 10 = omega arith in
      let far : line < 10 * p = (div-lt_iff_lt-mul h).0 under in
      let stops : int_le (pos p) (pos (line / 10)) ≡ false = grind (arith, ints) in
      record {
        q = p;
        ups = λ u le w. iterate_done up_test up_body (at p) w u (at p) w (run_tested scale_test (at p) w (truth false) false (scale_is p false stops) refl);
        downs = down;
      }
    where
      down : (t u : ℕ) → u ≡ 1 + t → (w : Written) → iterate u down_test down_body (at p) w ≡ iterate t down_test down_body (at (p / 10)) (more w ((48 + m) ∷ []))
      down t zero g w = absurd (omega arith)
      down t (suc u) g w =
          let same : u ≡ t = omega arith in
          let last : m % 10 ≡ m = omega arith in
          iterate_turn down_test down_body (at p) w u (at p) (at (p / 10)) w (more w ((48 + m % 10) ∷ [])) (digits_follow p h w) (digits p m h small e w)
          ∙ ap (λ x. iterate x down_test down_body (at (p / 10)) (more w ((48 + m % 10) ∷ []))) same
          ∙ ap (λ x. iterate t down_test down_body (at (p / 10)) (more w ((48 + x) ∷ []))) last

  more_digits : (m : ℕ) (ds : List ℕ) → 10 ≤ m → Digits (m / 10) ds → Digits m (ds ++ (48 + m % 10) ∷ [])
  more_digits m ds many rest p h small e =
      let enough : 10 ≤ line / p = omega arith in
      let over : p * 10 ≤ line = omega (arith, (le-div_iff_mul-le h).0 enough) in
      let goes : int_le (pos p) (pos (line / 10)) ≡ true = grind (arith, ints) in
      let next_small : p * 10 < 2 ^ 40 = omega (arith, located.small) in
      let after : Goes (p * 10) ds = rest (p * 10) (omega arith) next_small (sym (div-div-eq-div-mul line p 10) ∙ ap (λ x. x / 10) e) in
      record {
        q = after.q;
        ups = up after goes next_small;
        downs = down after;
      }
    where
      c : ℕ
      c = 48 + m % 10

      up : (after : Goes (p * 10) ds) → int_le (pos p) (pos (line / 10)) ≡ true → p * 10 < 2 ^ 40 → (u : ℕ) → length (ds ++ c ∷ []) ≤ u → (w : Written) → iterate u up_test up_body (at p) w ≡ Going None (at after.q) w
      up after goes next_small zero le w = absurd (omega (arith, length-snoc ds c))
      up after goes next_small (suc u) le w =
          iterate_turn up_test up_body (at p) w u (at p) (at (p * 10)) w w (run_tested scale_test (at p) w (truth true) true (scale_is p true goes) refl) (scales p next_small w)
          ∙ after.ups u (omega (arith, length-snoc ds c)) w

      down : (after : Goes (p * 10) ds) → (t u : ℕ) → u ≡ length (ds ++ c ∷ []) + t → (w : Written) → iterate u down_test down_body (at after.q) w ≡ iterate t down_test down_body (at (p / 10)) (more w (ds ++ c ∷ []))
      down after t u g w =
          let back : (p * 10) / 10 ≡ p = omega arith in
          after.downs (suc t) u (omega (arith, length-snoc ds c)) w
          ∙ ap (λ x. iterate (suc t) down_test down_body (at x) (more w ds)) back
          ∙ iterate_turn down_test down_body (at p) (more w ds) t (at p) (at (p / 10)) (more w ds) (more (more w ds) (c ∷ [])) (digits_follow p h (more w ds)) (digits p m h small e (more w ds))
          ∙ ap (λ x. iterate t down_test down_body (at (p / 10)) (record { out = w.out; err = x })) (append_assoc w.err ds (c ∷ []))

  pub all_digits : Goes 1 (decimal line)
  all_digits = decimal_by_steps Digits one_digit more_digits line (omega (arith, located.small)) 1 (omega arith) (omega arith) (omega arith)

  abbrev pub top : ℕ
  top = all_digits.q

  pub scaling_runs : length (decimal line) ≤ n → (w : Written) → doing scaling (at 1) w ≡ Going None (at top) w
  scaling_runs le w = ap (λ f. f (at 1) w) (while_is n calls scale_test (scale_up ∷ [])) ∙ all_digits.ups n le w

  pub digits_run : length (decimal line) ≤ n → (w : Written) → doing digits_out (at top) w ≡ Going None (at 0) (more w (decimal line))
  digits_run le w =
      ap (λ f. f (at top) w) (while_is n calls digit_test (put_digit ∷ scale_down ∷ []))
      ∙ all_digits.downs (n - length (decimal line)) n (omega arith) w
      ∙ iterate_done down_test down_body (at 0) (more w (decimal line)) (n - length (decimal line)) (at 0) (more w (decimal line)) (digits_end (more w (decimal line)))

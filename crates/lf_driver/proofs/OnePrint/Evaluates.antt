-- What the statements of a lowered value do: they end with its value in the last temporary, or in the trap.
use Rattle.std.proofs.Common.{◌≡◌, ℕ, zero, suc, ◌+◌, ◌^◌, ◌<◌, ◌≤◌, Bool, true, false, List, [], ◌∷◌, ◌++◌, length, map, Option, Some, None, codes, cond, refl, sym, ap, subst, ◌∙◌, arith, length-append, append_assoc}
use Rattle.std.proofs.Math.IntN.{ℤ, pos}
use Rattle.std.proofs.lemmas.Int.{ints}
use Rattle.lf_base.specs.Outcome.{Location, Written, Outcome, Ended}
use Rattle.lf_base.specs.Acts.{Going, Stopped}
use Rattle.lf_base.specs.Traps.{trap_status, trap_text}
use Rattle.lf_base.specs.declared.trap.Trap.TheVariants.{IntegerOverflow}
use Rattle.lf_base.proofs.Runs.{order_next, order_stopped}
use Rattle.c_nodes.specs.declared.tree.CFile.{CFile}
use Rattle.c_nodes.specs.declared.tree.CStmt.{CStmt}
use Rattle.c_nodes.specs.declared.tree.CType.TheVariants.{Int64}
use Rattle.c_nodes.specs.declared.tree.CExpr.{CExpr}
use Rattle.c_nodes.specs.declared.tree.CExpr.TheVariants.{Variable, Constant, Literal as Text'}
use Rattle.c_nodes.specs.declared.tree.CStmt.TheVariants.{Assign}
use Rattle.c_semantics.specs.CValues.{Width, W32, W64, Base, Local, Text, Outside, Number, Pointer, fits, checked}
use Rattle.c_semantics.specs.CValues as values
use Rattle.c_semantics.specs.CState.{Cells, Leads, Around, State, read_from}
use Rattle.c_semantics.specs.CMeaning.{reading, variable_value, value_at, by_content, named, Element, stored_in, newest, begin_object, all_given, Doing, Calls, calls_of, statement, statements}
use Rattle.c_semantics.specs.CMeaning as meaning
use Rattle.c_prelude.specs.PreludeLaws.{HasPrelude, Locates, aged, trap_turns, Combines}
use Rattle.c_semantics.proofs.CExprs.{exprs}
use Rattle.c_semantics.proofs.CRuns.{run_assign, run_declare_value, run_declare_call}
use Rattle.c_prelude.proofs.PreludeArithmetic.{add_law, fit_law}
use Rattle.c_prelude.proofs.PreludeMultiply.{mul_law, sub_law}
use Rattle.lf_driver.specs.declared.one_print.built.Operator.{Operator}
use Rattle.lf_driver.specs.declared.one_print.built.Operator.TheVariants.{Add, Subtract, Multiply}
use Rattle.lf_driver.specs.OnePrint.Source.{Tree, Literal, Binary, IsLocation}
use Rattle.lf_driver.specs.OnePrint.Lowered.{temporary, temporary_value, helper, constant, computed, fitted, noted, operation, count, lowered}
use Rattle.lf_driver.specs.OnePrint.Fortran.{IsSmall, exact, operated, of_kind4, value_of}
use Rattle.lf_driver.proofs.OnePrint.Temporaries.{Few, Temporary, names_of, objects_of, Falls, same_id, find_none, Holds, holds_temp, holds_behind}
use Rattle.lf_driver.proofs.Straight.{append_going, append_stopped, stop_declare_call}

-- the objects that a helper declares
abbrev declares : Operator → ℕ
declares Add = 2
declares Subtract = 2
declares Multiply = 3

law_of : (operator : Operator) → Combines (helper operator) (declares operator) (exact operator)
law_of Add = add_law
law_of Subtract = sub_law
law_of Multiply = mul_law

-- further numbers of objects are given, whose objects have ended
abbrev later : ℕ → State → State
later k s = record { here = s.here; next = s.next + k; memory = s.memory; around = s.around }

pub aged_is : (k : ℕ) (s : State) → aged k s ≡ later k s
aged_is zero s = ap (λ m. record { here = s.here; next = m; memory = s.memory; around = s.around }) (omega arith)
aged_is (suc k) s = aged_is k (record { here = s.here; next = suc s.next; memory = s.memory; around = s.around }) ∙ ap (λ m. record { here = s.here; next = m; memory = s.memory; around = s.around }) (omega arith)

-- what the objects of the prelude note, and the input
abbrev pub around_at : List ℕ → Option (Base × ℕ) → ℤ → Around
around_at input to line = record { layouts = []; globals = record { file = Some 0; name = codes "lf_name"; slot = Leads to } ∷ record { file = Some 0; name = codes "lf_line"; slot = Cells Int64 false (Some line ∷ []) } ∷ []; input = input }

-- while `main` computes: the temporaries, the record's variable, and what is noted
abbrev pub main_state : ℤ → List Temporary → ℕ → Around → State
main_state g vs next around = record { here = record { file = 0; names = names_of vs }; next = next; memory = objects_of g vs; around = around }

abbrev pub overflow : Location → Written → Outcome
overflow location w = Ended (record { out = w.out; err = w.err ++ trap_text IntegerOverflow location }) (trap_status IntegerOverflow) None

-- a number of 32 bits without a sign, as a constant
constant_is : (n : ℕ) → n < 2 ^ 32 → (width : Width) × (values.constant n ≡ Some (Number width (pos n)))
constant_is n small = by (fits W32 (pos n)) refl
  where
    wide : fits W64 (pos n) ≡ true
    wide = grind (arith, ints)

    by : (t : Bool) → fits W32 (pos n) ≡ t → (width : Width) × (values.constant n ≡ Some (Number width (pos n)))
    by true e = (W32, ap (λ b. cond b (Some (Number W32 (pos n))) (checked W64 (pos n))) e)
    by false e = (W64, ap (λ b. cond b (Some (Number W32 (pos n))) (checked W64 (pos n))) e ∙ ap (λ b. cond b (Some (Number W64 (pos n))) None) wide)

module _ (files : List CFile) (h : HasPrelude files 0) (n d : ℕ) (location : Location) (is : IsLocation location) (long : trap_turns location ≤ n) (input : List ℕ) where
  abbrev calls : Calls
  calls = calls_of files n (suc (suc (suc d))) 0

  abbrev at : List Temporary → ℕ → Option (Base × ℕ) → ℤ → State
  at vs next to line = main_state (pos 0) vs next (around_at input to line)

  abbrev run : List CStmt → Doing
  run = statements n calls

  -- with the location noted
  abbrev source : Option (Base × ℕ)
  source = Some (Text location.source, 0)

  abbrev there : List Temporary → ℕ → State
  there vs next = at vs next source (pos location.line)

  located : Locates 0 location (around_at input source (pos location.line))
  located = let short = is.short in record { name = refl; line = refl; short = omega arith; bytes = is.bytes; small = is.small }

  names_it : (vs : List Temporary) (next : ℕ) (to : Option (Base × ℕ)) (line : ℤ) → (reading (Variable (codes "lf_name"))).place (at vs next to line) ≡ Some (meaning.Variable (Outside (Some 0) (codes "lf_name")) to)
  names_it vs next to line = simp exprs (ap (λ o. named (codes "lf_name") o (at vs next to line)) (find_none (codes "lf_name") vs refl (λ k. refl)))

  lines_it : (vs : List Temporary) (next : ℕ) (to : Option (Base × ℕ)) (line : ℤ) → (reading (Variable (codes "lf_line"))).place (at vs next to line) ≡ Some (Element (Outside (Some 0) (codes "lf_line")) 0)
  lines_it vs next to line = simp exprs (ap (λ o. named (codes "lf_line") o (at vs next to line)) (find_none (codes "lf_line") vs refl (λ k. refl)))

  name_noted : (vs : List Temporary) (next : ℕ) (to : Option (Base × ℕ)) (line : ℤ) (w : Written) → statement n calls (Assign (Variable (codes "lf_name")) (Text' location.source)) (at vs next to line) w ≡ Going None (at vs next source line) w
  name_noted vs next to line w = run_assign n calls (Variable (codes "lf_name")) (Text' location.source) (Pointer (Text location.source) 0) (meaning.Variable (Outside (Some 0) (codes "lf_name")) to) (at vs next to line) (at vs next source line) w (simp exprs refl) (names_it vs next to line) refl

  line_noted : (vs : List Temporary) (next : ℕ) (to : Option (Base × ℕ)) (line : ℤ) (w : Written) → statement n calls (Assign (Variable (codes "lf_line")) (Constant location.line)) (at vs next to line) w ≡ Going None (at vs next to (pos location.line)) w
  line_noted vs next to line w =
      let c = constant_is location.line is.small in
      let wide : fits W64 (pos location.line) ≡ true = let small = is.small in grind (arith, ints) in
      run_assign n calls (Variable (codes "lf_line")) (Constant location.line) (Number c.0 (pos location.line)) (Element (Outside (Some 0) (codes "lf_line")) 0) (at vs next to line) (at vs next to (pos location.line)) w (simp exprs c.1) (lines_it vs next to line) (simp wide refl)

  -- the lines that note the location
  notes : (rest : List CStmt) (vs : List Temporary) (next : ℕ) (to : Option (Base × ℕ)) (line : ℤ) (w : Written) → run (noted location ++ rest) (at vs next to line) w ≡ run rest (there vs next) w
  notes rest vs next to line w =
      order_next (statement n calls (Assign (Variable (codes "lf_name")) (Text' location.source))) (map (statement n calls) (Assign (Variable (codes "lf_line")) (Constant location.line) ∷ rest)) (at vs next to line) w (at vs next source line) w (name_noted vs next to line w)
      ∙ order_next (statement n calls (Assign (Variable (codes "lf_line")) (Constant location.line))) (map (statement n calls) rest) (at vs next source line) w (there vs next) w (line_noted vs next source line w)

  -- a new temporary that is not set yet
  abbrev declared : List Temporary → ℕ → Option (Base × ℕ) → ℤ → State
  declared vs next to line = begin_object Int64 (temporary (suc (length vs))) (at vs next to line)

  finds : (k : ℕ) (vs : List Temporary) (next : ℕ) (to : Option (Base × ℕ)) (line : ℤ) → newest (later k (declared vs next to line)) ≡ Some (Element (Local next) 0)
  finds k vs next to line = simp (same_id next) refl

  stores : (k : ℕ) (width : Width) (z : ℤ) (vs : List Temporary) (next : ℕ) (to : Option (Base × ℕ)) (line : ℤ) → fits W64 z ≡ true → stored_in (Element (Local next) 0) (Number width z) (later k (declared vs next to line)) ≡ Some (at ((next, z) ∷ vs) (suc next + k) to line)
  stores k width z vs next to line f = simp (same_id next, f) refl

  -- a literal
  literal_runs : (value behind : ℕ) (vs : List Temporary) (next : ℕ) (to : Option (Base × ℕ)) (line : ℤ) (w : Written) → value ≤ 2147483647 → behind ≡ length vs → run (constant (behind + 1) value ∷ []) (at vs next to line) w ≡ Going None (at ((next, pos value) ∷ vs) (suc next) to line) w
  literal_runs value behind vs next to line w small e =
      let f : fits W32 (pos value) ≡ true = grind (arith, ints) in
      let g : fits W64 (pos value) ≡ true = grind (arith, ints) in
      let m : behind + 1 ≡ suc (length vs) = omega arith in
      ap (λ k. run (constant k value ∷ []) (at vs next to line) w) m
      ∙ order_next (statement n calls (constant (suc (length vs)) value)) [] (at vs next to line) w (at ((next, pos value) ∷ vs) (suc next) to line) w
      (run_declare_value n calls Int64 (temporary (suc (length vs))) (Constant value) (Number W32 (pos value)) (Element (Local next) 0) (at vs next to line) (at ((next, pos value) ∷ vs) (suc next) to line) w (simp exprs (ap (λ b. cond b (Some (Number W32 (pos value))) (checked W64 (pos value))) f)) (simp (same_id next) refl) (simp (same_id next, g) refl))

  -- the value of a temporary that is there
  pub value_is : (k : ℕ) (z : ℤ) (s : State) (c next : ℕ) → Holds k z s.here.names s.memory c next → (reading (temporary_value k)).value s ≡ Some (Number W64 z)
  value_is k z s c next h = simp exprs (ap (λ o. variable_value (temporary k) o s) h.name ∙ ap (λ o. value_at (by_content (Local h.number) o) s) h.slot ∙ ap (λ o. read_from 0 o) h.slot)

  -- what a value of 64 bits is found as, behind a temporary that is not set
  abbrev Found : ℕ → ℤ → List Temporary → ℕ → Type 0
  Found k z vs next = Holds k z (names_of vs) (objects_of (pos 0) vs) (length vs) next

  given_of : (k : ℕ) (z : ℤ) (vs : List Temporary) (next : ℕ) (to : Option (Base × ℕ)) (line : ℤ) → Few (suc (suc (suc (length vs)))) → Found k z vs next → (reading (temporary_value k)).value (declared vs next to line) ≡ Some (Number W64 z)
  given_of k z vs next to line few found =
      value_is k z (declared vs next to line) (suc (length vs)) (suc next) (holds_behind k (suc (length vs)) z next (None ∷ []) (names_of vs) (objects_of (pos 0) vs) (length vs) next (omega arith) (omega arith) (omega arith) found)

  -- a helper over two temporaries
  module _ (operator : Operator) (a b : ℤ) (vs : List Temporary) (next i j : ℕ) (few : Few (suc (suc (suc (length vs))))) (hi : Found i a vs next) (hj : Found j b vs next) (fa : fits W64 a ≡ true) (fb : fits W64 b ≡ true) (w : Written) where
    abbrev z : ℤ
    z = exact operator a b

    abbrev before : State
    before = declared vs next source (pos location.line)

    abbrev arguments : List CExpr
    arguments = temporary_value i ∷ temporary_value j ∷ []

    given_both : all_given (map (λ e. (reading e).value before) arguments) ≡ Some (Number W64 a ∷ Number W64 b ∷ [])
    given_both =
        ap (λ o. all_given (o ∷ (reading (temporary_value j)).value before ∷ [])) (given_of i a vs next source (pos location.line) few hi)
        ∙ ap (λ o. all_given (Some (Number W64 a) ∷ o ∷ [])) (given_of j b vs next source (pos location.line) few hj)

    computes : fits W64 z ≡ true → statement n calls (computed operator i j (suc (length vs))) (there vs next) w ≡ Going None (there ((next, z) ∷ vs) (suc next + declares operator)) w
    computes e =
        run_declare_call n calls Int64 (temporary (suc (length vs))) (helper operator) arguments (Number W64 a ∷ Number W64 b ∷ []) (Number W64 z) (Element (Local next) 0) (there vs next) (later (declares operator) before) (there ((next, z) ∷ vs) (suc next + declares operator)) w w given_both
        (((law_of operator W64 W64 a b fa fb).value e files 0 h before w).enough n (suc (suc (suc d))) (omega arith) (omega arith) ∙ ap (λ s. Going (Some (Number W64 z)) s w) (aged_is (declares operator) before))
        (finds (declares operator) vs next source (pos location.line)) (stores (declares operator) W64 z vs next source (pos location.line) e)

    stops : fits W64 z ≡ false → statement n calls (computed operator i j (suc (length vs))) (there vs next) w ≡ Stopped (overflow location w)
    stops e = stop_declare_call n calls Int64 (temporary (suc (length vs))) (helper operator) arguments (Number W64 a ∷ Number W64 b ∷ []) (overflow location w) (there vs next) w given_both (((law_of operator W64 W64 a b fa fb).trap e location files 0 h before w located).enough n (suc (suc (suc d))) long (omega arith))

  -- and the test for kind 4
  module _ (z : ℤ) (number : ℕ) (vs : List Temporary) (next : ℕ) (few : Few (suc (suc (suc (suc (length vs)))))) (falls : Falls next ((number, z) ∷ vs)) (f : fits W64 z ≡ true) (w : Written) where
    abbrev us : List Temporary
    us = (number, z) ∷ vs

    abbrev ready : State
    ready = declared us next source (pos location.line)

    given_one : all_given (map (λ e. (reading e).value ready) (temporary_value (suc (length vs)) ∷ [])) ≡ Some (Number W64 z ∷ [])
    given_one = ap (λ o. all_given (o ∷ [])) (given_of (suc (length vs)) z us next source (pos location.line) few (holds_temp (pos 0) [] (number, z) vs (suc (length vs)) next (omega arith) refl falls))

    fits_kind4 : fits W32 z ≡ true → statement n calls (fitted (suc (length vs)) (suc (suc (length vs)))) (there us next) w ≡ Going None (there ((next, z) ∷ us) (suc next + 1)) w
    fits_kind4 e =
        run_declare_call n calls Int64 (temporary (suc (suc (length vs)))) (codes "lf_fit") (temporary_value (suc (length vs)) ∷ []) (Number W64 z ∷ []) (Number W64 z) (Element (Local next) 0) (there us next) (later 1 ready) (there ((next, z) ∷ us) (suc next + 1)) w w given_one
        (((fit_law W64 z f).value e files 0 h ready w).enough n (suc (suc (suc d))) (omega arith) (omega arith) ∙ ap (λ s. Going (Some (Number W64 z)) s w) (aged_is 1 ready))
        (finds 1 us next source (pos location.line)) (stores 1 W64 z us next source (pos location.line) f)

    passes_kind4 : fits W32 z ≡ false → statement n calls (fitted (suc (length vs)) (suc (suc (length vs)))) (there us next) w ≡ Stopped (overflow location w)
    passes_kind4 e = stop_declare_call n calls Int64 (temporary (suc (suc (length vs)))) (codes "lf_fit") (temporary_value (suc (length vs)) ∷ []) (Number W64 z ∷ []) (overflow location w) (there us next) w given_one (((fit_law W64 z f).trap e location files 0 h ready w located).enough n (suc (suc (suc d))) long (omega arith))

  -- What statements that give a value do: they add so many temporaries, of which the last one has it.
  pub record Gives (v : ℤ) (many : ℕ) (body : List CStmt) (vs : List Temporary) (next : ℕ) (to : Option (Base × ℕ)) (line : ℤ) (w : Written) : Type 0 where
    pub more : List Temporary
    pub number : ℕ
    pub next' : ℕ
    pub to' : Option (Base × ℕ)
    pub line' : ℤ
    pub many_are : suc (length more) ≡ many
    pub fits32 : fits W32 v ≡ true
    pub falls : Falls next' ((number, v) ∷ (more ++ vs))
    pub runs : run body (at vs next to line) w ≡ Going None (at ((number, v) ∷ (more ++ vs)) next' to' line') w

  -- they give the value, or trap
  abbrev pub Ends : Option ℤ → ℕ → List CStmt → List Temporary → ℕ → Option (Base × ℕ) → ℤ → Written → Type 0
  Ends (Some v) many body vs next to line w = Gives v many body vs next to line w
  Ends None many body vs next to line w = run body (at vs next to line) w ≡ Stopped (overflow location w)

  kind4_fits : (z : ℤ) → fits W32 z ≡ true → fits W64 z ≡ true
  kind4_fits z f = grind (arith, ints)

  passes : (z : ℤ) → fits W64 z ≡ false → fits W32 z ≡ false
  passes z f = grind (arith, ints)

  -- one operation
  module _ (operator : Operator) (a b : ℤ) (vs : List Temporary) (next i j k : ℕ) (to : Option (Base × ℕ)) (line : ℤ) (few : Few (suc (suc (suc (suc (length vs)))))) (falls : Falls next vs) (hi : Found i a vs next) (hj : Found j b vs next) (fa : fits W32 a ≡ true) (fb : fits W32 b ≡ true) (e : k ≡ length vs) (w : Written) where
    abbrev value : ℤ
    value = exact operator a b

    abbrev compute : CStmt
    compute = computed operator i j (suc (length vs))

    abbrev fit : CStmt
    fit = fitted (suc (length vs)) (suc (suc (length vs)))

    abbrev next1 : ℕ
    next1 = suc next + declares operator

    body_is : operation location operator i j k ≡ noted location ++ compute ∷ noted location ++ fit ∷ []
    body_is =
        let p : k + 1 ≡ suc (length vs) = omega arith in
        let q : k + 2 ≡ suc (suc (length vs)) = omega arith in
        ap (λ x. noted location ++ computed operator i j x ∷ noted location ++ fitted x (k + 2) ∷ []) p
        ∙ ap (λ x. noted location ++ compute ∷ noted location ++ fitted (suc (length vs)) x ∷ []) q

    begins : run (operation location operator i j k) (at vs next to line) w ≡ run (compute ∷ noted location ++ fit ∷ []) (there vs next) w
    begins = ap (λ l. run l (at vs next to line) w) body_is ∙ notes (compute ∷ noted location ++ fit ∷ []) vs next to line w

    goes_on : fits W64 value ≡ true → run (operation location operator i j k) (at vs next to line) w ≡ run (fit ∷ []) (there ((next, value) ∷ vs) next1) w
    goes_on ep =
        begins
        ∙ order_next (statement n calls compute) (map (statement n calls) (noted location ++ fit ∷ [])) (there vs next) w (there ((next, value) ∷ vs) next1) w (computes operator a b vs next i j (omega (arith, few)) hi hj (kind4_fits a fa) (kind4_fits b fb) w ep)
        ∙ notes (fit ∷ []) ((next, value) ∷ vs) next1 source (pos location.line) w

    falls1 : Falls next1 ((next, value) ∷ vs)
    falls1 = (omega arith, falls)

    by_fits : (p q : Bool) → fits W64 value ≡ p → fits W32 value ≡ q → Ends (cond q (Some value) None) 2 (operation location operator i j k) vs next to line w
    by_fits true true ep eq = record {
      more = (next, value) ∷ [];
      number = next1;
      next' = suc next1 + 1;
      to' = source;
      line' = pos location.line;
      many_are = refl;
      fits32 = eq;
      falls = (omega arith, falls1);
      runs = goes_on ep ∙ order_next (statement n calls fit) [] (there ((next, value) ∷ vs) next1) w (there ((next1, value) ∷ (next, value) ∷ vs) (suc next1 + 1)) w (fits_kind4 value next vs next1 few falls1 ep w eq);
    }
    by_fits true false ep eq = goes_on ep ∙ order_stopped (statement n calls fit) [] (there ((next, value) ∷ vs) next1) w (overflow location w) (passes_kind4 value next vs next1 few falls1 ep w eq)
    by_fits false true ep eq = absurd (let x = passes value ep in cc)
    by_fits false false ep eq = begins ∙ order_stopped (statement n calls compute) (map (statement n calls) (noted location ++ fit ∷ [])) (there vs next) w (overflow location w) (stops operator a b vs next i j (omega (arith, few)) hi hj (kind4_fits a fa) (kind4_fits b fb) w ep)

    operation_ends : Ends (of_kind4 value) 2 (operation location operator i j k) vs next to line w
    operation_ends = by_fits (fits W64 value) (fits W32 value) refl refl

  -- an operation behind its operands
  module _ (operator : Operator) (l r : List CStmt) (cl cr behind : ℕ) (vs : List Temporary) (next : ℕ) (to : Option (Base × ℕ)) (line : ℤ) (w : Written) (e : behind ≡ length vs) (few : Few (length vs + cl + cr + 5)) where
    abbrev last : List CStmt
    last = operation location operator (behind + cl) (behind + cl + cr) (behind + cl + cr)

    module _ (a b : ℤ) (g : Gives a cl l vs next to line w) (k : Gives b cr r ((g.number, a) ∷ (g.more ++ vs)) g.next' g.to' g.line' w) where
      abbrev xs : List Temporary
      xs = (g.number, a) ∷ g.more

      abbrev ys : List Temporary
      ys = (k.number, b) ∷ k.more

      abbrev all : List Temporary
      all = ys ++ (xs ++ vs)

      operands_run : run (l ++ (r ++ last)) (at vs next to line) w ≡ run last (at all k.next' k.to' k.line') w
      operands_run =
          append_going n calls l (r ++ last) (at vs next to line) (at (xs ++ vs) g.next' g.to' g.line') w w g.runs
          ∙ append_going n calls r last (at (xs ++ vs) g.next' g.to' g.line') (at all k.next' k.to' k.line') w w k.runs

      below : length (xs ++ vs) ≡ length vs + cl
      below = let m = g.many_are in omega (arith, m, length-append xs vs)

      many : length all ≡ length vs + cl + cr
      many = let m = k.many_are in omega (arith, m, below, length-append ys (xs ++ vs))

      joined_ends : (o : Option ℤ) → Ends o 2 last all k.next' k.to' k.line' w → Ends o (cl + cr + 2) (l ++ (r ++ last)) vs next to line w
      joined_ends (Some v) x =
          let us = ys ++ xs in
          let same : (x.number, v) ∷ (x.more ++ all) ≡ (x.number, v) ∷ ((x.more ++ us) ++ vs) = ap (λ t. (x.number, v) ∷ (x.more ++ t)) (sym (append_assoc ys xs vs)) ∙ ap (λ t. (x.number, v) ∷ t) (sym (append_assoc x.more us vs)) in
          let mx = x.many_are in
          let mk = k.many_are in
          let mg = g.many_are in
          record {
            more = x.more ++ us;
            number = x.number;
            next' = x.next';
            to' = x.to';
            line' = x.line';
            many_are = omega (arith, mx, mk, mg, length-append x.more us, length-append ys xs);
            fits32 = x.fits32;
            falls = subst (Falls x.next') same x.falls;
            runs = operands_run ∙ x.runs ∙ ap (λ t. Going None (at t x.next' x.to' x.line') w) same;
          }
      joined_ends None x = operands_run ∙ x

      both_give : Ends (of_kind4 (exact operator a b)) (cl + cr + 2) (l ++ (r ++ last)) vs next to line w
      both_give =
          joined_ends (of_kind4 (exact operator a b))
          (operation_ends operator a b all k.next' (behind + cl) (behind + cl + cr) (behind + cl + cr) k.to' k.line' (omega (arith, many, few)) k.falls
          (holds_temp (pos 0) ys (g.number, a) (g.more ++ vs) (behind + cl) k.next' (omega (arith, many, few)) (omega (arith, below, e)) k.falls)
          (holds_temp (pos 0) [] (k.number, b) (k.more ++ (xs ++ vs)) (behind + cl + cr) k.next' (omega (arith, many, few)) (omega (arith, many, e)) k.falls)
          g.fits32 k.fits32 (omega (arith, many, e)) w)

    right_ends : (a : ℤ) (g : Gives a cl l vs next to line w) (y : Option ℤ) → Ends y cr r ((g.number, a) ∷ (g.more ++ vs)) g.next' g.to' g.line' w → Ends (operated operator (Some a) y) (cl + cr + 2) (l ++ (r ++ last)) vs next to line w
    right_ends a g None k =
        append_going n calls l (r ++ last) (at vs next to line) (at ((g.number, a) ∷ (g.more ++ vs)) g.next' g.to' g.line') w w g.runs
        ∙ append_stopped n calls r last (at ((g.number, a) ∷ (g.more ++ vs)) g.next' g.to' g.line') w (overflow location w) k
    right_ends a g (Some b) k = both_give a b g k

    both_end : (x y : Option ℤ) → Ends x cl l vs next to line w → ((us : List Temporary) (later : ℕ) (to' : Option (Base × ℕ)) (line' : ℤ) → length us ≡ length vs + cl → Falls later us → Ends y cr r us later to' line' w) → Ends (operated operator x y) (cl + cr + 2) (l ++ (r ++ last)) vs next to line w
    both_end None None g k = append_stopped n calls l (r ++ last) (at vs next to line) w (overflow location w) g
    both_end None (Some b) g k = append_stopped n calls l (r ++ last) (at vs next to line) w (overflow location w) g
    both_end (Some a) y g k =
        let m = g.many_are in
        right_ends a g y (k ((g.number, a) ∷ (g.more ++ vs)) g.next' g.to' g.line' (omega (arith, m, length-append g.more vs)) g.falls)

  literal_ends : (value behind : ℕ) (vs : List Temporary) (next : ℕ) (to : Option (Base × ℕ)) (line : ℤ) → value ≤ 2147483647 → behind ≡ length vs → Falls next vs → (w : Written) (o : Option ℤ) → o ≡ Some (pos value) → Ends o 1 (constant (behind + 1) value ∷ []) vs next to line w
  literal_ends value behind vs next to line small e falls w o p =
      let f : fits W32 (pos value) ≡ true = grind (arith, ints) in
      subst (λ x. Ends x 1 (constant (behind + 1) value ∷ []) vs next to line w) (sym p)
      (record { more = []; number = next; next' = suc next; to' = to; line' = line; many_are = refl; fits32 = f; falls = (omega arith, falls); runs = literal_runs value behind vs next to line w small e })

  -- the statements of any value
  pub lowered_ends : (t : Tree) → IsSmall t → (behind : ℕ) (vs : List Temporary) (next : ℕ) (to : Option (Base × ℕ)) (line : ℤ) → behind ≡ length vs → Few (length vs + count t + 5) → Falls next vs → (w : Written) → Ends (value_of t) (count t) (lowered location t behind) vs next to line w
  lowered_ends (Literal value) small behind vs next to line e few falls w =
      let f : fits W32 (pos value) ≡ true = grind (arith, ints) in
      literal_ends value behind vs next to line small e falls w (of_kind4 (pos value)) (ap (λ b. cond b (Some (pos value)) None) f)
  lowered_ends (Binary operator left right) small behind vs next to line e few falls w =
      both_end operator (lowered location left behind) (lowered location right (behind + count left)) (count left) (count right) behind vs next to line w e (omega (arith, few)) (value_of left) (value_of right)
      (lowered_ends left small.0 behind vs next to line e (omega (arith, few)) falls w)
      (λ us later to' line' m f. lowered_ends right small.1 (behind + count left) us later to' line' (omega (arith, m, e)) (omega (arith, m, few)) f w)

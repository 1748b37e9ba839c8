-- The prelude's `lf_gap`: the blank before a further item.
use Rattle.std.proofs.Common.{◌≡◌, ℕ, suc, ◌<◌, ◌-◌, Bool, true, false, not, List, [], ◌∷◌, ◌++◌, length, drop, map, Option, Some, None, codes, refl, sym, ap, ◌∙◌, arith, append-nil}
use Rattle.std.specs.Prelude.{if◌then◌else◌, ◌&&◌, ◌==◌, nat_lt}
use Rattle.std.proofs.lemmas.Bool.Decides.{nat_tests}
use Rattle.std.specs.Ordering.{int_eq}
use Rattle.std.proofs.Math.IntN.{ℤ, pos}
use Rattle.lf_base.specs.Outcome.{Written}
use Rattle.lf_base.specs.Acts.{Going}
use Rattle.lf_base.proofs.Runs.{order_next}
use Rattle.c_nodes.specs.declared.tree.CFile.{CFile}
use Rattle.c_nodes.specs.declared.tree.CExpr.{CExpr}
use Rattle.c_nodes.specs.declared.tree.CStmt.{CStmt}
use Rattle.c_nodes.specs.declared.tree.CResult.TheVariants as result
use Rattle.c_nodes.specs.declared.tree.CParameter.TheVariants as parameter
use Rattle.c_nodes.specs.declared.tree.CType.TheVariants.{Int64}
use Rattle.c_nodes.specs.declared.tree.CBinary.TheVariants.{Differ, And, Or}
use Rattle.c_nodes.specs.declared.tree.CExpr.TheVariants.{Variable, Index, Constant, Paren, Binary}
use Rattle.c_nodes.specs.declared.tree.CStmt.TheVariants.{Assign, Call, If}
use Rattle.c_semantics.specs.CValues.{W32, W64, CValue, Local, Number, Pointer, fits, truth}
use Rattle.c_semantics.specs.CState.{Around, Slot, Cells, Leads, Stored, State, slot_of, with_slot, put_object, declare, closed}
use Rattle.c_semantics.specs.CMeaning.{reading, Element, Calls, Procedure, written_byte, started, call, on_procedure, calls_of, statement, statements}
use Rattle.c_prelude.specs.PreludeLaws.{aged, gap, WritesGap}
use Rattle.c_semantics.proofs.CExprs.{exprs}
use Rattle.c_semantics.proofs.CRuns.{run_assign, run_call, run_if_not, if_so, run_plain_block}
use Rattle.c_semantics.proofs.CCalls.{call_going, binds64, calls_putchar, prints}
use Rattle.c_semantics.proofs.Numbers.{numbers}
use Rattle.c_prelude.proofs.PreludeCalls.{found, ended, does}

abbrev first : CExpr
first = Index (Variable (codes "s")) (Constant 0)

abbrev gap_test : CExpr
gap_test = Binary And (Paren (Binary Differ first (Constant 0))) (Paren (Binary Or (Paren (Binary Differ first (Constant 2))) (Paren (Binary Differ (Variable (codes "k")) (Constant 2)))))

abbrev blank : CStmt
blank = Call (codes "putchar") (Constant 32 ∷ [])

abbrev note : CStmt
note = Assign first (Variable (codes "k"))

abbrev gap_body : List CStmt
gap_body = If gap_test (blank ∷ []) ∷ note ∷ []

-- the two parameters, in front of what the caller has
abbrev gap_objects : ℕ → ℕ → ℤ → List Stored
gap_objects next number k = record { number = suc next; slot = Cells Int64 false (Some k ∷ []) } ∷ record { number = next; slot = Leads (Some (Local number, 0)) } ∷ []

abbrev gap_state : ℕ → ℕ → ℤ → ℕ → List Stored → Around → State
gap_state file number k next memory around = record {
  here = record { file = file; names = record { name = codes "k"; number = suc next } ∷ record { name = codes "s"; number = next } ∷ [] };
  next = suc (suc next);
  memory = gap_objects next number k ++ memory;
  around = around;
}

length-with_slot : (number : ℕ) (slot : Slot) (memory : List Stored) → length (with_slot number slot memory) ≡ length memory
length-with_slot number slot [] = refl
length-with_slot number slot (o ∷ os) = by_test (o.number == number) refl (length-with_slot number slot os)
  where
    by_test : (t : Bool) → (o.number == number) ≡ t → length (with_slot number slot os) ≡ length os → length (with_slot number slot (o ∷ os)) ≡ length (o ∷ os)
    by_test true e h = rw e refl
    by_test false e h = rw e (ap suc h)

abbrev blanked : Bool → List ℕ
blanked true = 32 ∷ []
blanked false = []

abbrev blank_by : Bool → Bool → Bool → List ℕ
blank_by p q r = if p then [] else (if q && r then [] else 32 ∷ [])

abbrev test_by : Bool → Bool → Bool → Bool
test_by p q r = if p then false else not (q && r)

written : (p q r : Bool) → test_by p q r ≡ true → blank_by p q r ≡ 32 ∷ []
written true q r h = cc
written false true true h = cc
written false true false h = refl
written false false r h = refl

unwritten : (p q r : Bool) → test_by p q r ≡ false → blank_by p q r ≡ []
unwritten true q r h = refl
unwritten false true true h = refl
unwritten false true false h = cc
unwritten false false r h = cc

module _ (files : List CFile) (n d file number : ℕ) (is_array : Bool) (g : ℤ) (cells : List (Option ℤ)) (k : ℤ) (fk : fits W64 k ≡ true) (next : ℕ) (memory : List Stored) (around : Around) (w : Written) (before : number < next) (is : slot_of number memory ≡ Some (Cells Int64 is_array (Some g ∷ cells))) where
  abbrev steps : Calls
  steps = calls_of files n d file

  abbrev inside : State
  inside = gap_state file number k next memory around

  abbrev slot : Slot
  slot = Cells Int64 is_array (Some k ∷ cells)

  abbrev after : State
  after = gap_state file number k next (with_slot number slot memory) around

  apart : (next == number) ≡ false
  apart = grind (arith, nat_tests)

  further : (suc next == number) ≡ false
  further = grind (arith, nat_tests)

  first_is : (reading first).value inside ≡ Some (Number W64 g)
  first_is = simp (exprs, numbers, apart, further, is) refl

  test_is : (p q r : Bool) → int_eq g (pos 0) ≡ p → int_eq g (pos 2) ≡ q → int_eq k (pos 2) ≡ r → (reading gap_test).value inside ≡ Some (truth (if p then false else not (q && r)))
  test_is true q r e f h = simp (exprs, numbers, apart, further, is, e) refl
  test_is false true true e f h = simp (exprs, numbers, apart, further, is, e, f, h) refl
  test_is false true false e f h = simp (exprs, numbers, apart, further, is, e, f, h) refl
  test_is false false r e f h = simp (exprs, numbers, apart, further, is, e, f) refl

  abbrev blanks : Bool → Written
  blanks t = record { out = w.out ++ blanked t; err = w.err }

  maybe : (t : Bool) → (reading gap_test).value inside ≡ Some (truth t) → statement n steps (If gap_test (blank ∷ [])) inside w ≡ Going None inside (blanks t)
  maybe false h = run_if_not n steps gap_test (blank ∷ []) (truth false) inside w h refl ∙ ap (λ o. Going None inside (record { out = o; err = w.err })) (sym (append-nil w.out))
  maybe true h =
      if_so n steps gap_test (blank ∷ []) (truth true) inside w h refl
      ∙ run_plain_block n steps (blank ∷ []) None inside inside w (blanks true)
      (order_next (statement n steps blank) [] inside w inside (blanks true)
      (run_call n steps (codes "putchar") (Constant 32 ∷ []) (Number W32 (pos 32) ∷ []) (written_byte (pos 32)) inside inside w (blanks true) (simp exprs refl) (ap (λ f. f inside w) (calls_putchar files n file d (Number W32 (pos 32) ∷ [])) ∙ prints 32 (omega arith) inside w)))
      refl refl

  room : nat_lt 0 (length (Some g ∷ cells)) ≡ true
  room = grind (arith, nat_tests)

  notes : (v : Written) → statement n steps note inside v ≡ Going None after v
  notes v = run_assign n steps first (Variable (codes "k")) (Number W64 k) (Element (Local number) 0) inside after v (simp (exprs, numbers) refl) (simp (exprs, numbers, apart, further, is) refl) (simp (numbers, apart, further, is, fk, room) refl)

  as_gap : (t : Bool) → test_by (int_eq g (pos 0)) (int_eq g (pos 2)) (int_eq k (pos 2)) ≡ t → blanked t ≡ gap g k
  as_gap true h = sym (written (int_eq g (pos 0)) (int_eq g (pos 2)) (int_eq k (pos 2)) h)
  as_gap false h = sym (unwritten (int_eq g (pos 0)) (int_eq g (pos 2)) (int_eq k (pos 2)) h)

  gap_runs : statements n steps gap_body inside w ≡ Going None after (record { out = w.out ++ gap g k; err = w.err })
  gap_runs =
      let t : Bool = if int_eq g (pos 0) then false else not (int_eq g (pos 2) && int_eq k (pos 2)) in
      order_next (statement n steps (If gap_test (blank ∷ []))) (map (statement n steps) (note ∷ [])) inside w inside (blanks t) (maybe t (test_is (int_eq g (pos 0)) (int_eq g (pos 2)) (int_eq k (pos 2)) refl refl refl))
      ∙ order_next (statement n steps note) [] inside (blanks t) after (blanks t) (notes (blanks t))
      ∙ ap (λ l. Going None after (record { out = w.out ++ l; err = w.err })) (as_gap t refl)

-- the parameters end, and the object keeps what was noted
gap_ended : (file number : ℕ) (k : ℤ) (slot : Slot) (s : State) → closed s (gap_state file number k s.next (with_slot number slot s.memory) s.around) ≡ aged 2 (put_object (Local number) slot s)
gap_ended file number k slot s =
    let noted : State = put_object (Local number) slot s in
    let after : State = gap_state file number k s.next noted.memory s.around in
    ap (λ j. record { here = s.here; next = after.next; memory = drop (length after.memory - j) after.memory; around = s.around }) (sym (length-with_slot number slot s.memory))
    ∙ ended after.here after.next (gap_objects s.next number k) noted

pub gap_law : WritesGap
gap_law number is_array g cells v k fk files file h s w before is =
    let p : Procedure = record { file = file; result = result.Void; parameters = parameter.Pointer Int64 (codes "s") ∷ parameter.Value Int64 (codes "k") ∷ []; body = gap_body } in
    let vs : List CValue = Pointer (Local number) 0 ∷ Number v k ∷ [] in
    let slot : Slot = Cells Int64 is_array (Some k ∷ cells) in
    let shown : Written = record { out = w.out ++ gap g k; err = w.err } in
    does files file 0 1 (codes "lf_gap") vs s w (Going None (aged 2 (put_object (Local number) slot s)) shown) (λ n d le.
    ap (λ q. on_procedure q (λ q. call n (calls_of files n d q.file) q vs) s w) (found files file h (codes "lf_gap") p (λ rest. refl))
    ∙ call_going n (calls_of files n d file) p vs s (gap_state file number k s.next s.memory s.around) w (binds64 (codes "k") [] v k [] (declare (codes "s") (Leads (Some (Local number, 0))) (started file s)) fk) None (gap_state file number k s.next (with_slot number slot s.memory) s.around) shown (gap_runs files n d file number is_array g cells k fk s.next s.memory s.around w before is)
    ∙ ap (λ t. Going None t shown) (gap_ended file number k slot s))

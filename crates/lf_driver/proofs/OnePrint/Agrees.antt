-- The printed C does what the program says.
use Rattle.std.proofs.Common.{◌≡◌, ℕ, suc, ◌+◌, ◌^◌, ◌<◌, ◌≤◌, true, false, List, [], ◌∷◌, ◌++◌, length, map, Option, Some, None, codes, cond, refl, sym, ap, subst, ◌∙◌, arith, append_assoc, append-nil}
use Rattle.std.specs.Fmt.{signed_decimal}
use Rattle.std.proofs.Math.IntN.{ℤ, pos}
use Rattle.std.proofs.lemmas.Int.{ints}
use Rattle.lf_base.specs.Outcome.{Location, Written, Fault, Undefined, Outcome, Ended, Wrong, IsBegun, Extends, KeepsLocation, Never, written}
use Rattle.lf_base.specs.Acts.{Going, Stopped, bind, give, given, print, outcome_of}
use Rattle.lf_base.specs.Near.{IsNearBy, slack, Near, Agree, IsMonotone}
use Rattle.lf_base.specs.Traps.{trap_status, trap_text}
use Rattle.lf_base.specs.declared.trap.Trap.TheVariants.{IntegerOverflow}
use Rattle.lf_base.proofs.Links.{one_link}
use Rattle.lf_base.proofs.Outcomes.{begun_same}
use Rattle.lf_base.proofs.Runs.{bind_going, bind_stopped, order_next, order_left, order_stopped}
use Rattle.c_nodes.specs.declared.tree.CFile.{CFile}
use Rattle.c_nodes.specs.declared.tree.CStmt.{CStmt}
use Rattle.c_nodes.specs.declared.tree.CType.TheVariants.{Int64}
use Rattle.c_nodes.specs.declared.tree.CExpr.TheVariants.{Variable, Constant, Address}
use Rattle.c_nodes.specs.declared.tree.CStmt.TheVariants.{DeclareValue, Call, Return, ReturnValue, Block}
use Rattle.c_semantics.specs.CValues.{W32, W64, Base, Local, Number, Pointer, fits}
use Rattle.c_semantics.specs.CState.{State, find_name, slot_of, with_slot, put_object, closed}
use Rattle.c_semantics.specs.CMeaning.{Element, address_of, named, by_content, within_object, all_given, written_byte, Returned, Doing, Calls, calls_of, call, on_procedure, first_of, external_in, started, block, clause, statement, statements, status_of, begin, CMeaning}
use Rattle.c_prelude.specs.PreludeLaws.{HasPrelude, trap_turns, aged}
use Rattle.c_semantics.proofs.CStmts.{does-Return, does-Block}
use Rattle.c_semantics.proofs.CExprs.{exprs}
use Rattle.c_semantics.proofs.CRuns.{run_declare_value, run_call, run_return, run_block, stop_block}
use Rattle.c_semantics.proofs.CCalls.{calls_putchar, prints, call_going}
use Rattle.c_semantics.proofs.CMonotone.{meaning_monotone}
use Rattle.c_prelude.proofs.PreludeGap.{gap_law}
use Rattle.c_prelude.proofs.PreludeInts.{int_law}
use Rattle.lf_driver.specs.OnePrint.Source.{Source, IsLocation}
use Rattle.lf_driver.specs.OnePrint.Lowered.{temporary_value, count, lowered, printing_begins, printing_ends, printed, init_name, lowered_items, lowered_file, main_body}
use Rattle.lf_driver.specs.OnePrint.Fortran.{IsSmall, value_of, value_or_trap, FortranMeaning}
use Rattle.lf_driver.proofs.OnePrint.Temporaries.{Temporary, object, number_in, names_of, objects_of, Falls, other_id, holds_temp}
use Rattle.lf_driver.proofs.OnePrint.Evaluates.{around_at, main_state, overflow, Ends, lowered_ends, aged_is, value_is}
use Rattle.lf_driver.proofs.OnePrint.ProgramNames.{init_procedure, init_found}
use Rattle.lf_driver.proofs.Straight.{append_going, append_stopped}

-- the record's variable is found behind the temporaries
find_record : (vs : List Temporary) → find_name (codes "r1") (names_of vs) ≡ Some (record { name = codes "r1"; number = 0 })
find_record [] = refl
find_record (v ∷ vs) = find_record vs

positive : (vs : List Temporary) (next : ℕ) → Falls next vs → 0 < next
positive [] next h = h
positive (v ∷ vs) next h = let below = positive vs v.0 h.1 in omega (arith, h.0, below)

differs : (v : Temporary) (vs : List Temporary) → Falls v.0 vs → v.0 ≡ 0 → ⊥
differs v vs h e = omega (arith, positive vs v.0 h, e)

slot_record : (g : ℤ) (vs : List Temporary) (next : ℕ) → Falls next vs → slot_of 0 (objects_of g vs) ≡ Some (number_in (Some g ∷ []))
slot_record g [] next h = refl
slot_record g (v ∷ vs) next h = ap (λ b. cond b (Some (number_in (Some v.1 ∷ []))) (slot_of 0 (objects_of g vs))) (other_id v.0 0 (differs v vs h.1)) ∙ slot_record g vs v.0 h.1

record_noted : (g k : ℤ) (vs : List Temporary) (next : ℕ) → Falls next vs → with_slot 0 (number_in (Some k ∷ [])) (objects_of g vs) ≡ objects_of k vs
record_noted g k [] next h = refl
record_noted g k (v ∷ vs) next h =
    ap (λ b. cond b (record { number = v.0; slot = number_in (Some k ∷ []) } ∷ objects_of g vs) (object v.0 (Some v.1 ∷ []) ∷ with_slot 0 (number_in (Some k ∷ [])) (objects_of g vs))) (other_id v.0 0 (differs v vs h.1))
    ∙ ap (λ l. object v.0 (Some v.1 ∷ []) ∷ l) (record_noted g k vs v.0 h.1)

wider_fits : (z : ℤ) → fits W32 z ≡ true → fits W64 z ≡ true
wider_fits z h = grind (arith, ints)

-- turns enough for a trap at a location that a program may have
abbrev enough : ℕ
enough = 300

module _ (location : Location) (is : IsLocation location) (source : Source) (small : IsSmall source.value) (few : count source.value < 2 ^ 70) (short : length source.name < 2 ^ 64) (n d : ℕ) (long : enough ≤ n) (input : List ℕ) where
  abbrev files : List CFile
  files = lowered_file location source ∷ []

  has : HasPrelude files 0
  has = record { rest = lowered_items location source; is = refl }

  turns : trap_turns location ≤ n
  turns = let s = is.short in omega (arith, s, long)

  abbrev calls : Calls
  calls = calls_of files n (suc (suc (suc d))) 0

  abbrev doing : CStmt → Doing
  doing = statement n calls

  abbrev run : List CStmt → Doing
  run = statements n calls

  abbrev start : State
  start = begin files input 0

  abbrev w0 : Written
  w0 = written [] []

  -- the call of the init function changes nothing
  init_runs : doing (Call (init_name source.name) []) start w0 ≡ Going None start w0
  init_runs =
      run_call n calls (init_name source.name) [] [] None start start w0 w0 refl
      (ap (λ o. on_procedure o (λ q. call n (calls_of files n (suc (suc d)) q.file) q []) start w0) (ap (λ o. first_of o (external_in (init_name source.name) 0 files)) (init_found location source short))
      ∙ call_going n (calls_of files n (suc (suc d)) 0) init_procedure [] start (started 0 start) w0 refl (Some (Returned None)) (started 0 start) w0
      (order_left (statement n (calls_of files n (suc (suc d)) 0) Return) [] (started 0 start) w0 (Returned None) (started 0 start) w0 (ap (λ f. f (started 0 start) w0) (does-Return n (calls_of files n (suc (suc d)) 0)))))

  abbrev at : ℤ → List Temporary → ℕ → Option (Base × ℕ) → ℤ → State
  at g vs next to line = main_state g vs next (around_at input to line)

  abbrev w1 : Written
  w1 = written (codes " ") []

  abbrev first : State
  first = at (pos 0) [] 1 None (pos 0)

  begins : run printing_begins start w0 ≡ Going None first w1
  begins =
      order_next (doing (DeclareValue Int64 (codes "r1") (Constant 0))) (map doing (Call (codes "putchar") (Constant 32 ∷ []) ∷ [])) start w0 first w0
      (run_declare_value n calls Int64 (codes "r1") (Constant 0) (Number W32 (pos 0)) (Element (Local 0) 0) start first w0 (simp exprs refl) refl refl)
      ∙ order_next (doing (Call (codes "putchar") (Constant 32 ∷ []))) [] first w0 first w1
      (run_call n calls (codes "putchar") (Constant 32 ∷ []) (Number W32 (pos 32) ∷ []) (written_byte (pos 32)) first first w0 w1 (simp exprs refl) (ap (λ f. f first w0) (calls_putchar files n 0 (suc (suc (suc d))) (Number W32 (pos 32) ∷ [])) ∙ prints 32 (omega arith) first w0))

  -- the end of the record
  module _ (v : ℤ) (number : ℕ) (vs : List Temporary) (next : ℕ) (to : Option (Base × ℕ)) (line : ℤ) (fv : fits W64 v ≡ true) (falls : Falls next ((number, v) ∷ vs)) (some : suc (length vs) < 10 ^ 64) where
    abbrev k : ℕ
    k = suc (length vs)

    abbrev us : List Temporary
    us = (number, v) ∷ vs

    abbrev s1 : State
    s1 = at (pos 0) us next to line

    abbrev s2 : State
    s2 = at (pos 1) us (next + 2) to line

    abbrev s3 : State
    s3 = at (pos 1) us (next + 2 + 4) to line

    abbrev w2 : Written
    w2 = written (codes " " ++ signed_decimal v) []

    abbrev w3 : Written
    w3 = written ((codes " " ++ signed_decimal v) ++ 10 ∷ []) []

    noted_is : aged 2 (put_object (Local 0) (number_in (Some (pos 1) ∷ [])) s1) ≡ s2
    noted_is = aged_is 2 (put_object (Local 0) (number_in (Some (pos 1) ∷ [])) s1) ∙ ap (λ m. record { here = s1.here; next = next + 2; memory = m; around = s1.around }) (record_noted (pos 0) (pos 1) us next falls)

    gap_runs : doing (Call (codes "lf_gap") (Address (Variable (codes "r1")) ∷ Constant 1 ∷ [])) s1 w1 ≡ Going None s2 w1
    gap_runs =
        run_call n calls (codes "lf_gap") (Address (Variable (codes "r1")) ∷ Constant 1 ∷ []) (Pointer (Local 0) 0 ∷ Number W32 (pos 1) ∷ []) None s1 s2 w1 w1
        (simp exprs (ap (λ o. all_given (address_of (named (codes "r1") o s1) s1 ∷ Some (Number W32 (pos 1)) ∷ [])) (find_record us) ∙ ap (λ o. all_given (address_of (by_content (Local 0) o) s1 ∷ Some (Number W32 (pos 1)) ∷ [])) (slot_record (pos 0) us next falls) ∙ ap (λ o. all_given (within_object (Local 0) 0 o ∷ Some (Number W32 (pos 1)) ∷ [])) (slot_record (pos 0) us next falls)))
        ((gap_law 0 false (pos 0) [] W32 (pos 1) refl files 0 has s1 w1 (positive us next falls) (slot_record (pos 0) us next falls)).enough n (suc (suc (suc d))) (omega arith) (omega arith) ∙ ap (λ s. Going None s w1) noted_is)

    int_runs : doing (Call (codes "lf_int") (temporary_value k ∷ [])) s2 w1 ≡ Going None s3 w2
    int_runs =
        run_call n calls (codes "lf_int") (temporary_value k ∷ []) (Number W64 v ∷ []) None s2 s3 w1 w2
        (ap (λ o. all_given (o ∷ [])) (value_is files has n d location is turns input k v s2 k next (holds_temp (pos 1) [] (number, v) vs k next some refl falls)))
        ((int_law W64 v fv files 0 has s2 w1).enough n (suc (suc (suc d))) (omega (arith, long)) (omega arith) ∙ ap (λ s. Going None s w2) (aged_is 4 s2))

    line_runs : doing (Call (codes "putchar") (Constant 10 ∷ [])) s3 w2 ≡ Going None s3 w3
    line_runs = run_call n calls (codes "putchar") (Constant 10 ∷ []) (Number W32 (pos 10) ∷ []) (written_byte (pos 10)) s3 s3 w2 w3 (simp exprs refl) (ap (λ f. f s3 w2) (calls_putchar files n 0 (suc (suc (suc d))) (Number W32 (pos 10) ∷ [])) ∙ prints 10 (omega arith) s3 w2)

    ends : (m : ℕ) → m ≡ k → run (printing_ends m) s1 w1 ≡ Going None s3 w3
    ends m e =
        ap (λ j. run (printing_ends j) s1 w1) e
        ∙ order_next (doing (Call (codes "lf_gap") (Address (Variable (codes "r1")) ∷ Constant 1 ∷ []))) (map doing (Call (codes "lf_int") (temporary_value k ∷ []) ∷ Call (codes "putchar") (Constant 10 ∷ []) ∷ [])) s1 w1 s2 w1 gap_runs
        ∙ order_next (doing (Call (codes "lf_int") (temporary_value k ∷ []))) (map doing (Call (codes "putchar") (Constant 10 ∷ []) ∷ [])) s2 w1 s3 w2 int_runs
        ∙ order_next (doing (Call (codes "putchar") (Constant 10 ∷ []))) [] s3 w2 s3 w3 line_runs

  -- the statements of the record, and its block
  abbrev record_body : List CStmt
  record_body = printed location source.value

  abbrev value_runs : Option ℤ → Type 0
  value_runs o = Ends files has n d location is turns input o (count source.value) (lowered location source.value 0) [] 1 None (pos 0) w1

  computed_is : value_runs (value_of source.value)
  computed_is = lowered_ends files has n d location is turns input source.value small 0 [] 1 None (pos 0) refl (omega (arith, few)) (omega arith) w1

  abbrev rest_of : List CStmt
  rest_of = Block record_body ∷ ReturnValue (Constant 0) ∷ []

  zero_runs : (s : State) (w : Written) → doing (ReturnValue (Constant 0)) s w ≡ Going (Some (Returned (Some (Number W32 (pos 0))))) s w
  zero_runs s w = run_return n calls (Constant 0) (Number W32 (pos 0)) s w (simp exprs refl)

  block_is : (s : State) (w : Written) → doing (Block record_body) s w ≡ block (map (clause n calls) record_body) s w
  block_is s w = ap (λ f. f s w) (does-Block n calls record_body)

  abbrev end_of : Option ℤ → Outcome
  end_of (Some v) = Ended (written ((codes " " ++ signed_decimal v) ++ 10 ∷ []) []) 0 None
  end_of None = overflow location w1

  main_ends : (o : Option ℤ) → value_runs o → outcome_of (bind (run (main_body location source)) (λ flow. given Undefined (status_of flow)) start w0) ≡ end_of o
  main_ends (Some v) h =
      let fv : fits W64 v ≡ true = wider_fits v h.fits32 in
      let vs = h.more ++ [] in
      let long' : suc (length vs) ≡ count source.value = let m = h.many_are in omega (arith, m, ap length (append-nil h.more)) in
      let s3' = s3 v h.number vs h.next' h.to' h.line' fv h.falls (omega (arith, long', few)) in
      let w3' = w3 v h.number vs h.next' h.to' h.line' fv h.falls (omega (arith, long', few)) in
      let body : run record_body start w0 ≡ Going None s3' w3' =
      append_going n calls (printing_begins ++ lowered location source.value 0) (printing_ends (count source.value)) start (at (pos 0) ((h.number, v) ∷ vs) h.next' h.to' h.line') w0 w1 (append_going n calls printing_begins (lowered location source.value 0) start first w0 w1 begins ∙ h.runs)
      ∙ ends v h.number vs h.next' h.to' h.line' fv h.falls (omega (arith, long', few)) (count source.value) (sym long') in
      let s4 = closed start s3' in
      ap outcome_of (bind_going (run (main_body location source)) (λ flow. given Undefined (status_of flow)) start w0 (Some (Returned (Some (Number W32 (pos 0))))) s4 w3'
      (order_next (doing (Call (init_name source.name) [])) (map doing rest_of) start w0 start w0 init_runs
      ∙ order_next (doing (Block record_body)) (map doing (ReturnValue (Constant 0) ∷ [])) start w0 s4 w3' (block_is start w0 ∙ run_block n calls record_body None start s3' w0 w3' body)
      ∙ order_left (doing (ReturnValue (Constant 0))) [] s4 w3' (Returned (Some (Number W32 (pos 0)))) s4 w3' (zero_runs s4 w3')))
  main_ends None h =
      let body : run record_body start w0 ≡ Stopped (overflow location w1) =
      append_stopped n calls (printing_begins ++ lowered location source.value 0) (printing_ends (count source.value)) start w0 (overflow location w1) (append_going n calls printing_begins (lowered location source.value 0) start first w0 w1 begins ∙ h) in
      ap outcome_of (bind_stopped (run (main_body location source)) (λ flow. given Undefined (status_of flow)) start w0 (overflow location w1)
      (order_next (doing (Call (init_name source.name) [])) (map doing rest_of) start w0 start w0 init_runs
      ∙ order_stopped (doing (Block record_body)) (map doing (ReturnValue (Constant 0) ∷ [])) start w0 (overflow location w1) (block_is start w0 ∙ stop_block n calls record_body (overflow location w1) start w0 body)))

  -- the meaning of the C file at bounds that are not small
  pub c_ends : CMeaning files input n (suc (suc (suc d))) ≡ end_of (value_of source.value)
  c_ends = main_ends (value_of source.value) computed_is

-- the meaning of the program, at any bounds
abbrev fortran_end : Location → Option ℤ → Outcome
fortran_end location (Some v) = Ended (written (codes " " ++ (signed_decimal v ++ 10 ∷ [])) []) 0 None
fortran_end location None = Ended (written (codes " ") (trap_text IntegerOverflow location)) (trap_status IntegerOverflow) (Some location)

fortran_is : (location : Location) (source : Source) (input : List ℕ) (n d : ℕ) (o : Option ℤ) → value_of source.value ≡ o → FortranMeaning location source input n d ≡ fortran_end location o
fortran_is location source input n d (Some v) e = ap (λ o. outcome_of (bind (print (codes " ")) (λ u. bind (value_or_trap location o) (λ z. bind (print (signed_decimal z ++ codes "\n")) (λ v. give 0))) input (written [] []))) e
fortran_is location source input n d None e = ap (λ o. outcome_of (bind (print (codes " ")) (λ u. bind (value_or_trap location o) (λ z. bind (print (signed_decimal z ++ codes "\n")) (λ v. give 0))) input (written [] []))) e

-- Two meanings of which the first always ends alike, and the second at bounds that are not small.
module _ (f c : ℕ → ℕ → Outcome) (mono : IsMonotone c) (k : ℕ) (big : 300 ≤ k) (w : Written) (status : ℕ) (p p' : Option Location) (kept : KeepsLocation p p') (always : (n d : ℕ) → f n d ≡ Ended w status p) (then : (n d : ℕ) → 300 ≤ n → c n (suc (suc (suc d))) ≡ Ended w status p') where
  at_larger : (n d : ℕ) → c (n + k) (d + 8) ≡ Ended w status p'
  at_larger n d = ap (λ x. c (n + k) x) (omega arith) ∙ then (n + k) (d + 5) (omega arith)

  same_end : (n d : ℕ) (v : Written) (s : ℕ) (q : Option Location) → c n d ≡ Ended v s q → Ended v s q ≡ Ended w status p'
  same_end n d v s q is = sym (mono.ended n (n + k) d (d + 8) (omega arith) (omega arith) v s q is) ∙ at_larger n d

  front_of : (v : Written) (o : Outcome) → o ≡ Ended w status p' → Extends v o → IsBegun v w
  front_of v o e h = subst (λ x. Extends v x) e h

  never_wrong : (n d : ℕ) (fault : Fault) → c n d ≡ Wrong fault → ⊥
  never_wrong n d fault is = let a = mono.wrong n (n + k) d (d + 8) (omega arith) (omega arith) fault is in let b = at_larger n d in absurd (cc)

  pub ends_near : IsNearBy Never k 8 f c
  ends_near = record {
    ended = λ n d v s q is. let e : Ended v s q ≡ Ended w status p = sym is ∙ always n d in (p', subst (λ x. KeepsLocation x p') (let a : p ≡ q = cc in a) kept, at_larger n d ∙ (let a : Ended w status p' ≡ Ended v s p' = cc in a));
    ended_only = λ n d v s q is. let e = same_end n d v s q is in (p, subst (λ x. KeepsLocation p x) (let a : p' ≡ q = cc in a) kept, always (n + k) (d + 8) ∙ (let a : Ended w status p ≡ Ended v s p = cc in a));
    cut = λ n d v is. absurd (let b = always n d in cc);
    cut_only = λ n d v is. subst (λ o. Extends v o) (sym (always (n + k) (d + 8))) (front_of v (c (n + k) (d + 8)) (at_larger n d) (mono.cut n (n + k) d (d + 8) (omega arith) (omega arith) v is));
    wrong = λ n d fault is. absurd (let b = always n d in cc);
    wrong_only = λ n d fault is. absurd (never_wrong n d fault is);
  }

constant_monotone : (f : ℕ → ℕ → Outcome) (o : Outcome) → ((n d : ℕ) → f n d ≡ o) → IsMonotone f
constant_monotone f o h = record {
  ended = λ n n' d d' ln ld v s q is. h n' d' ∙ sym (h n d) ∙ is;
  cut = λ n n' d d' ln ld v is. subst (λ x. Extends v x) (sym (h n' d' ∙ sym (h n d) ∙ is)) (begun_same v);
  wrong = λ n n' d d' ln ld fault is. h n' d' ∙ sym (h n d) ∙ is;
}

near_by_value : (location : Location) → IsLocation location → (source : Source) → IsSmall source.value → count source.value < 2 ^ 70 → length source.name < 2 ^ 64 → (o : Option ℤ) → value_of source.value ≡ o → Near (FortranMeaning location source) (CMeaning (lowered_file location source ∷ []))
near_by_value location is source small few short (Some v) e = record {
  on = λ input. ends_near (FortranMeaning location source input) (CMeaning (lowered_file location source ∷ []) input) (meaning_monotone (lowered_file location source ∷ []) input) (slack (length input)) (omega arith) (written (codes " " ++ (signed_decimal v ++ 10 ∷ [])) []) 0 None None tt
      (λ n d. fortran_is location source input n d (Some v) e)
      (λ n d big. c_ends location is source small few short n d big input ∙ ap (end_of location is source small few short n d big input) e ∙ ap (λ out. Ended (written out []) 0 None) (append_assoc (codes " ") (signed_decimal v) (10 ∷ [])));
}
near_by_value location is source small few short None e = record {
  on = λ input. ends_near (FortranMeaning location source input) (CMeaning (lowered_file location source ∷ []) input) (meaning_monotone (lowered_file location source ∷ []) input) (slack (length input)) (omega arith) (written (codes " ") (trap_text IntegerOverflow location)) (trap_status IntegerOverflow) (Some location) None tt
      (λ n d. fortran_is location source input n d None e)
      (λ n d big. c_ends location is source small few short n d big input ∙ ap (end_of location is source small few short n d big input) e);
}

-- The printed C and the program agree.
pub agrees : (location : Location) → IsLocation location → (source : Source) → IsSmall source.value → count source.value < 2 ^ 70 → length source.name < 2 ^ 64 → Agree (FortranMeaning location source) (CMeaning (lowered_file location source ∷ []))
agrees location is source small few short =
    one_link (FortranMeaning location source) (CMeaning (lowered_file location source ∷ []))
    (λ input. constant_monotone (FortranMeaning location source input) (fortran_end location (value_of source.value)) (λ n d. fortran_is location source input n d (value_of source.value) refl))
    (λ input. meaning_monotone (lowered_file location source ∷ []) input)
    (near_by_value location is source small few short (value_of source.value) refl)

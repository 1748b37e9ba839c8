-- The prelude's `lf_trap`: it writes the text of a trap with its location, and ends the program.
use Rattle.std.proofs.Common.{◌≡◌, ℕ, suc, ◌+◌, ◌<◌, ◌≤◌, ◌^◌, true, false, List, [], ◌∷◌, length, map, Some, None, codes, refl, sym, ap, ◌∙◌, arith, append_assoc, append-nil}
use Rattle.std.specs.Fmt.{decimal}
use Rattle.std.proofs.Math.IntN.{ℤ, pos}
use Rattle.std.proofs.lemmas.Fmt.{length-decimal-le}
use Rattle.lf_base.specs.Contents.{joined}
use Rattle.lf_base.specs.Outcome.{Location, Written, Ended}
use Rattle.lf_base.specs.Acts.{Going, Stopped}
use Rattle.lf_base.specs.Traps.{before_zero, trap_number, trap_name}
use Rattle.lf_base.specs.declared.trap.Trap.{Trap}
use Rattle.lf_base.specs.declared.trap.Trap.TheVariants.{IntegerOverflow, DivisionByZero, SubscriptOutOfRange, SubstringOutOfRange, ShapeMismatch, ZeroStep, EndOfFile, LengthLimit, BadCharacterCode}
use Rattle.lf_base.proofs.Runs.{order_next, order_stopped}
use Rattle.c_nodes.specs.declared.tree.CFile.{CFile}
use Rattle.c_nodes.specs.declared.tree.CStmt.{CStmt}
use Rattle.c_nodes.specs.declared.tree.CResult.TheVariants as result
use Rattle.c_nodes.specs.declared.tree.CParameter.TheVariants as parameter
use Rattle.c_nodes.specs.declared.tree.CType.TheVariants.{Int64, Byte}
use Rattle.c_nodes.specs.declared.tree.CBinary.TheVariants.{Add}
use Rattle.c_nodes.specs.declared.tree.CExpr.TheVariants.{Variable, Constant, Paren, Binary, ToInt, Literal}
use Rattle.c_nodes.specs.declared.tree.CStmt.TheVariants.{DeclareValue, DeclarePointer, Assign, Call, While}
use Rattle.c_semantics.specs.CValues.{Local, Text, CValue, Number, Pointer, Errors, W32}
use Rattle.c_semantics.specs.CState.{Around, Cells, Leads, Stored, State, declare}
use Rattle.c_semantics.specs.CMeaning.{Element, Calls, Procedure, Doing, call, on_procedure, statement, statements, started, calls_of, written_byte}
use Rattle.c_semantics.specs.CMeaning as meaning
use Rattle.c_semantics.proofs.CExprs.{exprs}
use Rattle.c_semantics.proofs.CNumbers.{fits32_nat, fits64_nat}
use Rattle.c_semantics.proofs.CRuns.{run_declare_value, run_declare_pointer, run_assign, run_call, stop_call}
use Rattle.c_semantics.proofs.CCalls.{calls_fputc, calls_exit, complains, exits, call_stopped, binds64}
use Rattle.c_semantics.proofs.Numbers.{numbers}
use Rattle.c_prelude.specs.PreludeLaws.{Locates, trapped, Traps}
use Rattle.c_prelude.proofs.PreludeCalls.{found, does}
use Rattle.c_prelude.proofs.PreludeTrap.{is_plain, Shows, shows_all, shows_front, length-before_zero, prefix, trap_state, test_of, turn_of, more, loop_writes}
use Rattle.c_prelude.proofs.PreludeLine.{scaling, digits_out, top, scaling_runs, digits_run}

abbrev begins_i : CStmt
begins_i = DeclareValue Int64 (codes "i") (Constant 0)

abbrev begins_d : CStmt
begins_d = DeclareValue Int64 (codes "d") (Constant 1)

abbrev begins_p : CStmt
begins_p = DeclarePointer Byte (codes "p") (Literal prefix)

abbrev clear : CStmt
clear = Assign (Variable (codes "i")) (Constant 0)

abbrev putting : ℕ → CStmt
putting b = Call (codes "fputc") (Constant b ∷ Variable (codes "stderr") ∷ [])

abbrev leaves : CStmt
leaves = Call (codes "exit") (ToInt (Paren (Binary Add (Constant 100) (Variable (codes "k")))) ∷ [])

abbrev rest16 : List CStmt
rest16 = leaves ∷ []

abbrev rest15 : List CStmt
rest15 = putting 10 ∷ rest16

abbrev rest14 : List CStmt
rest14 = digits_out ∷ rest15

abbrev rest13 : List CStmt
rest13 = scaling ∷ rest14

abbrev rest12 : List CStmt
rest12 = putting 58 ∷ rest13

abbrev rest11 : List CStmt
rest11 = While (test_of (codes "lf_name")) (turn_of (codes "lf_name")) ∷ rest12

abbrev rest10 : List CStmt
rest10 = clear ∷ rest11

abbrev rest9 : List CStmt
rest9 = putting 32 ∷ rest10

abbrev rest8 : List CStmt
rest8 = putting 116 ∷ rest9

abbrev rest7 : List CStmt
rest7 = putting 97 ∷ rest8

abbrev rest6 : List CStmt
rest6 = putting 32 ∷ rest7

abbrev rest5 : List CStmt
rest5 = While (test_of (codes "s")) (turn_of (codes "s")) ∷ rest6

abbrev rest4 : List CStmt
rest4 = clear ∷ rest5

abbrev rest3 : List CStmt
rest3 = While (test_of (codes "p")) (turn_of (codes "p")) ∷ rest4

abbrev rest2 : List CStmt
rest2 = begins_p ∷ rest3

abbrev rest1 : List CStmt
rest1 = begins_d ∷ rest2

abbrev trap_body : List CStmt
trap_body = begins_i ∷ rest1

-- more of the error output, one text behind another
abbrev writes : Written → List (List ℕ) → Written
writes w [] = w
writes w (x ∷ xs) = writes (more w x) xs

writes_joined : (w : Written) (xs : List (List ℕ)) → writes w xs ≡ more w (joined xs)
unfolding joined
writes_joined w [] = ap (λ e. record { out = w.out; err = e }) (sym (append-nil w.err))
writes_joined w (x ∷ xs) = writes_joined (more w x) xs ∙ ap (λ e. record { out = w.out; err = e }) (append_assoc w.err x (joined xs))

-- the bytes are written one by one, and the text names them at once
as_text : (w : Written) (name source : List ℕ) (line : ℕ) → writes w (prefix ∷ name ∷ (32 ∷ []) ∷ (97 ∷ []) ∷ (116 ∷ []) ∷ (32 ∷ []) ∷ source ∷ (58 ∷ []) ∷ decimal line ∷ (10 ∷ []) ∷ []) ≡ more w (joined (codes "lf: trap " ∷ name ∷ codes " at " ∷ source ∷ codes ":" ∷ decimal line ∷ codes "\n" ∷ []))
unfolding joined
as_text w name source line = writes_joined w (prefix ∷ name ∷ (32 ∷ []) ∷ (97 ∷ []) ∷ (116 ∷ []) ∷ (32 ∷ []) ∷ source ∷ (58 ∷ []) ∷ decimal line ∷ (10 ∷ []) ∷ [])

-- the two arguments
abbrev begun_state : ℕ → ℤ → List ℕ → ℕ → List Stored → Around → State
begun_state file k name next memory around = record {
  here = record { file = file; names = record { name = codes "s"; number = suc next } ∷ record { name = codes "k"; number = next } ∷ [] };
  next = suc (suc next);
  memory = record { number = suc next; slot = Leads (Some (Text name, 0)) } ∷ record { number = next; slot = Cells Int64 false (Some k ∷ []) } ∷ memory;
  around = around;
}

module _ (files : List CFile) (n d file number : ℕ) (name : List ℕ) (next : ℕ) (memory : List Stored) (around : Around) (w : Written) (location : Location) (located : Locates file location around) (few : number < 100) (plain : is_plain name ≡ true) (short : length name < 2 ^ 62) (turns : 20 + length location.source ≤ n) (long : length name ≤ n) where
  abbrev k : ℤ
  k = pos number

  abbrev source : List ℕ
  source = before_zero location.source

  abbrev calls : Calls
  calls = calls_of files n d file

  abbrev doing : CStmt → Doing
  doing = statement n calls

  abbrev begun : State
  begun = begun_state file k name next memory around

  abbrev with_i : State
  with_i = declare (codes "i") (Cells Int64 false (Some (pos 0) ∷ [])) begun

  abbrev with_d : State
  with_d = declare (codes "d") (Cells Int64 false (Some (pos 1) ∷ [])) with_i

  abbrev at : ℤ → ℤ → State
  at = trap_state file k name next memory around

  abbrev highest : ℕ
  highest = top files n d file k name next memory around (pos (length source)) location located

  shown : Shows name name
  shown = shows_all name plain

  digits_few : length (decimal location.line) ≤ 10
  digits_few = let small = located.small in length-decimal-le 10 location.line (omega arith) (omega arith) (omega arith)

  abbrev w1 : Written
  w1 = more w prefix

  abbrev w2 : Written
  w2 = more w1 name

  abbrev w3 : Written
  w3 = more w2 (32 ∷ [])

  abbrev w4 : Written
  w4 = more w3 (97 ∷ [])

  abbrev w5 : Written
  w5 = more w4 (116 ∷ [])

  abbrev w6 : Written
  w6 = more w5 (32 ∷ [])

  abbrev w7 : Written
  w7 = more w6 source

  abbrev w8 : Written
  w8 = more w7 (58 ∷ [])

  abbrev w9 : Written
  w9 = more w8 (decimal location.line)

  abbrev w10 : Written
  w10 = more w9 (10 ∷ [])

  -- one byte
  puts : (b : ℕ) → b < 256 → (i e : ℤ) (v : Written) → doing (putting b) (at i e) v ≡ Going None (at i e) (more v (b ∷ []))
  puts b small i e v =
      run_call n calls (codes "fputc") (Constant b ∷ Variable (codes "stderr") ∷ []) (Number W32 (pos b) ∷ Errors ∷ []) (written_byte (pos b)) (at i e) (at i e) v (more v (b ∷ []))
      (simp (exprs, fits32_nat b (omega arith)) refl)
      (ap (λ f. f (at i e) v) (calls_fputc files n file d (Number W32 (pos b) ∷ Errors ∷ [])) ∙ complains b small (at i e) v)

  clears : (i e : ℤ) (v : Written) → doing clear (at i e) v ≡ Going None (at (pos 0) e) v
  clears i e v = run_assign n calls (Variable (codes "i")) (Constant 0) (Number W32 (pos 0)) (Element (Local (suc (suc next))) 0) (at i e) (at (pos 0) e) v (simp exprs refl) (simp (exprs, numbers) refl) (simp numbers refl)

  ends : doing leaves (at (pos (length source)) (pos 0)) w10 ≡ Stopped (Ended w10 (100 + number) None)
  ends =
      let here = at (pos (length source)) (pos 0) in
      stop_call n calls (codes "exit") (ToInt (Paren (Binary Add (Constant 100) (Variable (codes "k")))) ∷ []) (Number W32 (pos (100 + number)) ∷ []) (Ended w10 (100 + number) None) here w10
      (simp (exprs, numbers, fits64_nat (100 + number) (omega arith), fits32_nat (100 + number) (omega arith)) refl)
      (ap (λ f. f here w10) (calls_exit files n file d (Number W32 (pos (100 + number)) ∷ [])) ∙ exits (100 + number) (omega arith) here w10)

  step1 : doing (begins_i) (begun) w ≡ Going None (with_i) w
  step1 = run_declare_value n calls Int64 (codes "i") (Constant 0) (Number W32 (pos 0)) (Element (Local (suc (suc next))) 0) begun with_i w (simp exprs refl) (simp numbers refl) (simp numbers refl)

  step2 : doing (begins_d) (with_i) w ≡ Going None (with_d) w
  step2 = run_declare_value n calls Int64 (codes "d") (Constant 1) (Number W32 (pos 1)) (Element (Local (suc (suc (suc next)))) 0) with_i with_d w (simp exprs refl) (simp numbers refl) (simp numbers refl)

  step3 : doing (begins_p) (with_d) w ≡ Going None (at (pos 0) (pos 1)) w
  step3 = run_declare_pointer n calls Byte (codes "p") (Literal prefix) (Pointer (Text prefix) 0) (meaning.Variable (Local (suc (suc (suc (suc next))))) None) with_d (at (pos 0) (pos 1)) w (simp exprs refl) (simp numbers refl) (simp numbers refl)

  step4 : doing (While (test_of (codes "p")) (turn_of (codes "p"))) (at (pos 0) (pos 1)) w ≡ Going None (at (pos 9) (pos 1)) w1
  step4 = loop_writes files n d file k name next memory around (pos 1) (codes "p") prefix prefix (shows_all prefix refl) (omega arith) (λ i. simp (exprs, numbers) refl) (omega arith) w

  step5 : doing (clear) (at (pos 9) (pos 1)) w1 ≡ Going None (at (pos 0) (pos 1)) w1
  step5 = clears (pos 9) (pos 1) w1

  step6 : doing (While (test_of (codes "s")) (turn_of (codes "s"))) (at (pos 0) (pos 1)) w1 ≡ Going None (at (pos (length name)) (pos 1)) w2
  step6 = loop_writes files n d file k name next memory around (pos 1) (codes "s") name name shown short (λ i. simp (exprs, numbers) refl) (omega arith) w1

  step7 : doing (putting 32) (at (pos (length name)) (pos 1)) w2 ≡ Going None (at (pos (length name)) (pos 1)) w3
  step7 = puts 32 (omega arith) (pos (length name)) (pos 1) w2

  step8 : doing (putting 97) (at (pos (length name)) (pos 1)) w3 ≡ Going None (at (pos (length name)) (pos 1)) w4
  step8 = puts 97 (omega arith) (pos (length name)) (pos 1) w3

  step9 : doing (putting 116) (at (pos (length name)) (pos 1)) w4 ≡ Going None (at (pos (length name)) (pos 1)) w5
  step9 = puts 116 (omega arith) (pos (length name)) (pos 1) w4

  step10 : doing (putting 32) (at (pos (length name)) (pos 1)) w5 ≡ Going None (at (pos (length name)) (pos 1)) w6
  step10 = puts 32 (omega arith) (pos (length name)) (pos 1) w5

  step11 : doing (clear) (at (pos (length name)) (pos 1)) w6 ≡ Going None (at (pos 0) (pos 1)) w6
  step11 = clears (pos (length name)) (pos 1) w6

  step12 : doing (While (test_of (codes "lf_name")) (turn_of (codes "lf_name"))) (at (pos 0) (pos 1)) w6 ≡ Going None (at (pos (length source)) (pos 1)) w7
  step12 = loop_writes files n d file k name next memory around (pos 1) (codes "lf_name") location.source source (shows_front location.source located.bytes) (omega (arith, located.short, length-before_zero location.source)) (λ i. simp (exprs, numbers, located.name) refl) (omega (arith, length-before_zero location.source)) w6

  step13 : doing (putting 58) (at (pos (length source)) (pos 1)) w7 ≡ Going None (at (pos (length source)) (pos 1)) w8
  step13 = puts 58 (omega arith) (pos (length source)) (pos 1) w7

  step14 : doing (scaling) (at (pos (length source)) (pos 1)) w8 ≡ Going None (at (pos (length source)) (pos highest)) w8
  step14 = scaling_runs files n d file k name next memory around (pos (length source)) location located (omega (arith, digits_few)) w8

  step15 : doing (digits_out) (at (pos (length source)) (pos highest)) w8 ≡ Going None (at (pos (length source)) (pos 0)) w9
  step15 = digits_run files n d file k name next memory around (pos (length source)) location located (omega (arith, digits_few)) w8

  step16 : doing (putting 10) (at (pos (length source)) (pos 0)) w9 ≡ Going None (at (pos (length source)) (pos 0)) w10
  step16 = puts 10 (omega arith) (pos (length source)) (pos 0) w9

  pub trap_runs : statements n calls trap_body begun w ≡ Stopped (Ended w10 (100 + number) None)
  trap_runs =
      order_next (doing (begins_i)) (map doing rest1) (begun) w (with_i) w step1
      ∙ order_next (doing (begins_d)) (map doing rest2) (with_i) w (with_d) w step2
      ∙ order_next (doing (begins_p)) (map doing rest3) (with_d) w (at (pos 0) (pos 1)) w step3
      ∙ order_next (doing (While (test_of (codes "p")) (turn_of (codes "p")))) (map doing rest4) (at (pos 0) (pos 1)) w (at (pos 9) (pos 1)) w1 step4
      ∙ order_next (doing (clear)) (map doing rest5) (at (pos 9) (pos 1)) w1 (at (pos 0) (pos 1)) w1 step5
      ∙ order_next (doing (While (test_of (codes "s")) (turn_of (codes "s")))) (map doing rest6) (at (pos 0) (pos 1)) w1 (at (pos (length name)) (pos 1)) w2 step6
      ∙ order_next (doing (putting 32)) (map doing rest7) (at (pos (length name)) (pos 1)) w2 (at (pos (length name)) (pos 1)) w3 step7
      ∙ order_next (doing (putting 97)) (map doing rest8) (at (pos (length name)) (pos 1)) w3 (at (pos (length name)) (pos 1)) w4 step8
      ∙ order_next (doing (putting 116)) (map doing rest9) (at (pos (length name)) (pos 1)) w4 (at (pos (length name)) (pos 1)) w5 step9
      ∙ order_next (doing (putting 32)) (map doing rest10) (at (pos (length name)) (pos 1)) w5 (at (pos (length name)) (pos 1)) w6 step10
      ∙ order_next (doing (clear)) (map doing rest11) (at (pos (length name)) (pos 1)) w6 (at (pos 0) (pos 1)) w6 step11
      ∙ order_next (doing (While (test_of (codes "lf_name")) (turn_of (codes "lf_name")))) (map doing rest12) (at (pos 0) (pos 1)) w6 (at (pos (length source)) (pos 1)) w7 step12
      ∙ order_next (doing (putting 58)) (map doing rest13) (at (pos (length source)) (pos 1)) w7 (at (pos (length source)) (pos 1)) w8 step13
      ∙ order_next (doing (scaling)) (map doing rest14) (at (pos (length source)) (pos 1)) w8 (at (pos (length source)) (pos highest)) w8 step14
      ∙ order_next (doing (digits_out)) (map doing rest15) (at (pos (length source)) (pos highest)) w8 (at (pos (length source)) (pos 0)) w9 step15
      ∙ order_next (doing (putting 10)) (map doing rest16) (at (pos (length source)) (pos 0)) w9 (at (pos (length source)) (pos 0)) w10 step16
      ∙ order_stopped (doing leaves) [] (at (pos (length source)) (pos 0)) w10 (Ended w10 (100 + number) None) ends

-- the numbers and the names of the traps
pub record IsKnown (cause : Trap) : Type 0 where
  pub few : trap_number cause < 100
  pub plain : is_plain (trap_name cause) ≡ true
  pub long : length (trap_name cause) ≤ 19

pub known : (cause : Trap) → IsKnown cause
known IntegerOverflow = record { few = omega arith; plain = refl; long = omega arith }
known DivisionByZero = record { few = omega arith; plain = refl; long = omega arith }
known SubscriptOutOfRange = record { few = omega arith; plain = refl; long = omega arith }
known SubstringOutOfRange = record { few = omega arith; plain = refl; long = omega arith }
known ShapeMismatch = record { few = omega arith; plain = refl; long = omega arith }
known ZeroStep = record { few = omega arith; plain = refl; long = omega arith }
known EndOfFile = record { few = omega arith; plain = refl; long = omega arith }
known LengthLimit = record { few = omega arith; plain = refl; long = omega arith }
known BadCharacterCode = record { few = omega arith; plain = refl; long = omega arith }

-- the law of the trap
pub trap_law : Traps
trap_law cause location v files file h s w located =
    let number : ℕ = trap_number cause in
    let name : List ℕ = trap_name cause in
    let vs : List CValue = Number v (pos number) ∷ Pointer (Text name) 0 ∷ [] in
    let p : Procedure = record { file = file; result = result.Void; parameters = parameter.Value Int64 (codes "k") ∷ parameter.Pointer Byte (codes "s") ∷ []; body = trap_body } in
    let facts : IsKnown cause = known cause in
    does files file (20 + length location.source) 1 (codes "lf_trap") vs s w (trapped cause location s w) (λ n d le.
    ap (λ o. on_procedure o (λ q. call n (calls_of files n d q.file) q vs) s w) (found files file h (codes "lf_trap") p (λ rest. refl))
    ∙ call_stopped n (calls_of files n d file) p vs s (begun_state file (pos number) name s.next s.memory s.around) w (binds64 (codes "k") (parameter.Pointer Byte (codes "s") ∷ []) v (pos number) (Pointer (Text name) 0 ∷ []) (started file s) (fits64_nat number (omega (arith, facts.few)))) (Ended (w10 files n d file number name s.next s.memory s.around w location located facts.few facts.plain (omega (arith, facts.long)) le (omega (arith, facts.long))) (100 + number) None)
    (trap_runs files n d file number name s.next s.memory s.around w location located facts.few facts.plain (omega (arith, facts.long)) le (omega (arith, facts.long)))
    ∙ ap (λ x. Stopped (Ended x (100 + number) None)) (as_text w name (before_zero location.source) location.line))

-- The prelude's `lf_trap`: the state in which it runs, and the loops that write its texts.
use Rattle.std.proofs.Common.{◌≡◌, ℕ, zero, suc, ◌+◌, ◌<◌, ◌≤◌, ◌^◌, Bool, true, false, not, List, [], ◌∷◌, ◌++◌, length, map, Option, Some, None, codes, refl, sym, ap, subst, ◌∙◌, arith, length-append, append_assoc, append-nil, zero-add}
use Rattle.std.specs.List.{AllByRecursion}
use Rattle.std.specs.Prelude.{nat_lt, ◌&&◌}
use Rattle.std.proofs.lemmas.Bool.Decides.{nat_tests}
use Rattle.std.specs.Ordering.{int_eq}
use Rattle.std.proofs.Math.IntN.{ℤ, pos}
use Rattle.lf_base.specs.Outcome.{Written}
use Rattle.lf_base.specs.Traps.{before_zero}
use Rattle.lf_base.specs.Acts.{Going, Act, iterate}
use Rattle.lf_base.proofs.Runs.{order_next, iterate_done, iterate_turn}
use Rattle.c_nodes.specs.declared.tree.CFile.{CFile}
use Rattle.c_nodes.specs.declared.tree.CExpr.{CExpr}
use Rattle.c_nodes.specs.declared.tree.CStmt.{CStmt}
use Rattle.c_nodes.specs.declared.tree.CType.TheVariants.{Int64, Byte}
use Rattle.c_nodes.specs.declared.tree.CBinary.TheVariants.{Add, Differ}
use Rattle.c_nodes.specs.declared.tree.CExpr.TheVariants.{Variable, Index, Constant, Binary}
use Rattle.c_nodes.specs.declared.tree.CStmt.TheVariants.{Assign, Call, While}
use Rattle.c_semantics.specs.CValues.{Local, Text, Number, Pointer, Errors, W32, W64, truth}
use Rattle.c_semantics.specs.CState.{Around, Cells, Leads, State, Stored, nth, literal, element}
use Rattle.c_semantics.specs.CMeaning.{Reading, reading, reading_layer, Element, tested, block, Calls, clause, statement, calls_of, written_byte}
use Rattle.c_nodes.proofs.ExprInduction.{fold-Variable, fold-Index, fold-Constant, fold-Binary}
use Rattle.c_semantics.proofs.CExprs.{exprs}
use Rattle.c_semantics.proofs.CNumbers.{holds_truth, fits64_nat, not_zero}
use Rattle.c_semantics.proofs.CRuns.{run_tested, run_assign, run_call, run_plain_block, while_is}
use Rattle.c_semantics.proofs.CCalls.{calls_fputc, complains}
use Rattle.c_semantics.proofs.Numbers.{numbers}

-- bytes none of which is 0
abbrev pub IsText : List ℕ → Type 0
IsText bytes = AllByRecursion (λ b. (0 < b) × (b < 256)) bytes

abbrev pub is_plain : List ℕ → Bool
is_plain [] = true
is_plain (b ∷ bytes) = (nat_lt 0 b && nat_lt b 256) && is_plain bytes

pub plain_text : (bytes : List ℕ) → is_plain bytes ≡ true → IsText bytes
plain_text [] h = tt
plain_text (b ∷ bytes) h =
    let first : (nat_lt 0 b && nat_lt b 256) ≡ true = grind (arith, nat_tests) in
    let rest : is_plain bytes ≡ true = grind (arith, nat_tests) in
    ((grind (arith, nat_tests), grind (arith, nat_tests)), plain_text bytes rest)

pub nth_literal : (front rest : List ℕ) (b : ℕ) → nth (length front) (literal (front ++ b ∷ rest)) ≡ Some (Some (pos b))
nth_literal [] rest b = refl
nth_literal (x ∷ front) rest b = nth_literal front rest b

-- what C reads of a literal: its bytes up to a 0, which may be the one that closes it
pub record Shows (bytes chars : List ℕ) : Type 0 where
  pub rest : List ℕ
  pub is : bytes ≡ chars ++ rest
  pub closes : nth (length chars) (literal bytes) ≡ Some (Some (pos 0))
  pub plain : IsText chars

pub nth_end : (bytes : List ℕ) → nth (length bytes) (literal bytes) ≡ Some (Some (pos 0))
nth_end [] = refl
nth_end (x ∷ bytes) = nth_end bytes

pub shows_all : (bytes : List ℕ) → is_plain bytes ≡ true → Shows bytes bytes
shows_all bytes h = record { rest = []; is = sym (append-nil bytes); closes = nth_end bytes; plain = plain_text bytes h }

pub shows_front : (bytes : List ℕ) → AllByRecursion (λ b. b < 256) bytes → Shows bytes (before_zero bytes)
shows_front [] h = record { rest = []; is = refl; closes = refl; plain = tt }
shows_front (zero ∷ bytes) h = record { rest = 0 ∷ bytes; is = refl; closes = refl; plain = tt }
shows_front (suc b ∷ bytes) h =
    let more = shows_front bytes h.1 in
    record { rest = more.rest; is = ap (λ l. suc b ∷ l) more.is; closes = more.closes; plain = ((omega arith, h.0), more.plain) }

pub length-before_zero : (bytes : List ℕ) → length (before_zero bytes) ≤ length bytes
length-before_zero [] = omega arith
length-before_zero (zero ∷ bytes) = omega arith
length-before_zero (suc b ∷ bytes) = omega (arith, length-before_zero bytes)

-- what every trap writes first
abbrev pub prefix : List ℕ
prefix = codes "lf: trap "

-- while the trap runs: `p` leads to what every trap writes first, `s` to the name of this one, `i` and `d` count
abbrev pub trap_state : ℕ → ℤ → List ℕ → ℕ → List Stored → Around → ℤ → ℤ → State
trap_state file k text next memory around i d = record {
  here = record {
    file = file;
    names =
        record { name = codes "p"; number = suc (suc (suc (suc next))) }
        ∷ record { name = codes "d"; number = suc (suc (suc next)) }
        ∷ record { name = codes "i"; number = suc (suc next) }
        ∷ record { name = codes "s"; number = suc next }
        ∷ record { name = codes "k"; number = next } ∷ [];
  };
  next = suc (suc (suc (suc (suc next))));
  memory =
      record { number = suc (suc (suc (suc next))); slot = Leads (Some (Text prefix, 0)) }
      ∷ record { number = suc (suc (suc next)); slot = Cells Int64 false (Some d ∷ []) }
      ∷ record { number = suc (suc next); slot = Cells Int64 false (Some i ∷ []) }
      ∷ record { number = suc next; slot = Leads (Some (Text text, 0)) }
      ∷ record { number = next; slot = Cells Int64 false (Some k ∷ []) } ∷ memory;
  around = around;
}

abbrev char_of : List ℕ → CExpr
char_of q = Index (Variable q) (Variable (codes "i"))

abbrev pub test_of : List ℕ → CExpr
test_of q = Binary Differ (char_of q) (Constant 0)

abbrev put_of : List ℕ → CStmt
put_of q = Call (codes "fputc") (char_of q ∷ Variable (codes "stderr") ∷ [])

abbrev up : CStmt
up = Assign (Variable (codes "i")) (Binary Add (Variable (codes "i")) (Constant 1))

abbrev pub turn_of : List ℕ → List CStmt
turn_of q = put_of q ∷ up ∷ []

-- more of the error output
abbrev pub more : Written → List ℕ → Written
more w bytes = record { out = w.out; err = w.err ++ bytes }

-- a loop that writes the text to which q leads
module _ (files : List CFile) (n d file : ℕ) (k : ℤ) (text : List ℕ) (next : ℕ) (memory : List Stored) (around : Around) (e : ℤ) (q bytes chars : List ℕ) (shows : Shows bytes chars) (small : length chars < 2 ^ 62) (leads : (i : ℤ) → (reading (Variable q)).value (trap_state file k text next memory around i e) ≡ Some (Pointer (Text bytes) 0)) where
  abbrev at : ℕ → State
  at i = trap_state file k text next memory around (pos i) e

  abbrev calls : Calls
  calls = calls_of files n d file

  -- the character that is next
  char_is : (i : ℕ) (b : Option (Option ℤ)) → nth i (literal bytes) ≡ b → (reading (char_of q)).value (at i) ≡ element Byte b
  char_is i b h = simp (fold-Index Reading reading_layer, fold-Variable Reading reading_layer (codes "i"), leads (pos i), numbers) (ap (element Byte) (ap (λ j. nth j (literal bytes)) (zero-add i) ∙ h))

  test_is : (i b : ℕ) → nth i (literal bytes) ≡ Some (Some (pos b)) → (reading (test_of q)).value (at i) ≡ Some (truth (not (int_eq (pos b) (pos 0))))
  test_is i b h = simp (fold-Binary Reading reading_layer, fold-Constant Reading reading_layer, char_is i (Some (Some (pos b))) h) refl

  abbrev test : Act State Bool
  test = tested (test_of q)

  ends : (w : Written) → test (at (length chars)) w ≡ Going false (at (length chars)) w
  ends w = run_tested (test_of q) (at (length chars)) w (truth false) false (test_is (length chars) 0 shows.closes) refl

  -- one character is written
  puts : (b i : ℕ) → b < 256 → nth i (literal bytes) ≡ Some (Some (pos b)) → (w : Written) → statement n calls (put_of q) (at i) w ≡ Going None (at i) (more w (b ∷ []))
  puts b i lt h w =
      run_call n calls (codes "fputc") (char_of q ∷ Variable (codes "stderr") ∷ []) (Number W32 (pos b) ∷ Errors ∷ []) (written_byte (pos b)) (at i) (at i) w (more w (b ∷ []))
      (simp (char_is i (Some (Some (pos b))) h, fold-Variable Reading reading_layer (codes "stderr")) refl)
      (ap (λ f. f (at i) w) (calls_fputc files n file d (Number W32 (pos b) ∷ Errors ∷ [])) ∙ complains b lt (at i) w)

  -- and the next one follows
  ups : (i : ℕ) → i < 2 ^ 62 → (w : Written) → statement n calls up (at i) w ≡ Going None (at (i + 1)) w
  ups i lt w =
      run_assign n calls (Variable (codes "i")) (Binary Add (Variable (codes "i")) (Constant 1)) (Number W64 (pos (i + 1))) (Element (Local (suc (suc next))) 0) (at i) (at (i + 1)) w
      (simp (exprs, numbers, fits64_nat (i + 1) (omega arith)) refl)
      (simp (exprs, numbers) refl)
      (simp (numbers, fits64_nat (i + 1) (omega arith)) refl)

  turns : (b i : ℕ) → b < 256 → i < 2 ^ 62 → nth i (literal bytes) ≡ Some (Some (pos b)) → (w : Written) → block (map (clause n calls) (turn_of q)) (at i) w ≡ Going None (at (i + 1)) (more w (b ∷ []))
  turns b i lt li h w =
      let v : Written = more w (b ∷ []) in
      run_plain_block n calls (turn_of q) None (at i) (at (i + 1)) w v
      (order_next (statement n calls (put_of q)) (map (statement n calls) (up ∷ [])) (at i) w (at i) v (puts b i lt h w)
      ∙ order_next (statement n calls up) [] (at i) v (at (i + 1)) v (ups i li v)) refl refl

  further : (m : ℕ) (rest front : List ℕ) (i : ℕ) → chars ≡ front ++ rest → i ≡ length front → length rest ≤ m → IsText rest → (w : Written) → iterate m test (block (map (clause n calls) (turn_of q))) (at i) w ≡ Going None (at (length chars)) (more w rest)
  further m [] front i e p le t w =
      let all : i ≡ length chars = p ∙ ap length (sym (append-nil front) ∙ sym e) in
      subst (λ j. iterate m test (block (map (clause n calls) (turn_of q))) (at j) w ≡ Going None (at (length chars)) (more w [])) (sym all)
      (iterate_done test (block (map (clause n calls) (turn_of q))) (at (length chars)) w m (at (length chars)) w (ends w) ∙ ap (λ x. Going None (at (length chars)) (record { out = w.out; err = x })) (sym (append-nil w.err)))
  further zero (b ∷ rest) front i e p le t w = absurd (omega arith)
  further (suc m) (b ∷ rest) front i e p le t w =
      let all : bytes ≡ front ++ b ∷ (rest ++ shows.rest) = shows.is ∙ ap (λ l. l ++ shows.rest) e ∙ append_assoc front (b ∷ rest) shows.rest in
      let here : nth i (literal bytes) ≡ Some (Some (pos b)) = ap (λ j. nth j (literal bytes)) p ∙ ap (λ l. nth (length front) (literal l)) all ∙ nth_literal front (rest ++ shows.rest) b in
      let v : Written = more w (b ∷ []) in
      let long : i < 2 ^ 62 = omega (arith, ap length e, length-append front (b ∷ rest)) in
      let goes : test (at i) w ≡ Going true (at i) w = run_tested (test_of q) (at i) w (truth (not (int_eq (pos b) (pos 0)))) true (test_is i b here) (holds_truth (not (int_eq (pos b) (pos 0))) ∙ ap (λ x. Some (not x)) (not_zero b t.0.0)) in
      iterate_turn test (block (map (clause n calls) (turn_of q))) (at i) w m (at i) (at (i + 1)) w v goes (turns b i t.0.1 long here w)
      ∙ further m rest (front ++ b ∷ []) (i + 1) (e ∙ sym (append_assoc front (b ∷ []) rest)) (omega (arith, p, length-append front (b ∷ []))) (omega arith) t.1 v
      ∙ ap (λ x. Going None (at (length chars)) (record { out = w.out; err = x })) (append_assoc w.err (b ∷ []) rest)

  -- the whole loop
  pub loop_writes : length chars ≤ n → (w : Written) → statement n calls (While (test_of q) (turn_of q)) (at 0) w ≡ Going None (at (length chars)) (more w chars)
  loop_writes le w = ap (λ f. f (at 0) w) (while_is n calls (test_of q) (turn_of q)) ∙ further n chars [] 0 refl refl le shows.plain w

-- The prelude's `lf_int`: a number in its fewest digits.
use Rattle.std.proofs.Common.{◌≡◌, ℕ, zero, suc, ◌+◌, ◌-◌, ◌/◌, ◌%◌, ◌^◌, ◌<◌, ◌≤◌, Bool, true, false, List, [], ◌∷◌, ◌++◌, length, map, Option, Some, None, codes, refl, sym, ap, subst, ◌∙◌, arith, append_assoc, append-nil, zero-add, ◌⊎◌, inl, inr}
use Rattle.std.specs.Prelude.{int_lt, int_div, replicate, nat_lt}
use Rattle.std.specs.List.{AllByRecursion}
use Rattle.std.specs.Ordering.{int_eq}
use Rattle.std.specs.Fmt.{decimal, signed_decimal}
use Rattle.std.proofs.Math.IntN.{ℤ, pos, negsuc}
use Rattle.std.proofs.lemmas.Fmt.{decimal_by_steps, length-decimal-le}
use Rattle.std.proofs.lemmas.Int.{ints}
use Rattle.lf_base.specs.Outcome.{Written}
use Rattle.lf_base.specs.Acts.{Going, Act, iterate}
use Rattle.lf_base.proofs.Runs.{order_next, iterate_done, iterate_turn}
use Rattle.c_nodes.specs.declared.tree.CFile.{CFile}
use Rattle.c_nodes.specs.declared.tree.CExpr.{CExpr}
use Rattle.c_nodes.specs.declared.tree.CStmt.{CStmt}
use Rattle.c_nodes.specs.declared.tree.CResult.TheVariants as result
use Rattle.c_nodes.specs.declared.tree.CParameter.TheVariants as parameter
use Rattle.c_nodes.specs.declared.tree.CType.TheVariants.{Int64, Byte}
use Rattle.c_nodes.specs.declared.tree.CBinary.TheVariants.{Add, Subtract, Divide, Remainder, Less, Equal, Differ, Or}
use Rattle.c_nodes.specs.declared.tree.CExpr.TheVariants.{Variable, Index, Constant, Paren, Binary}
use Rattle.c_nodes.specs.declared.tree.CStmt.TheVariants.{Assign, Call, DeclareValue, DeclareArray, While, If}
use Rattle.c_semantics.specs.CValues.{Width, W32, W64, Local, Number, fits, checked, truth}
use Rattle.c_semantics.specs.CState.{Around, Cells, Stored, State, nth, set_nth, element, declare}
use Rattle.c_semantics.specs.CMeaning.{started, reading, all_given, Element, block, tested, Calls, Doing, Procedure, written_byte, call, on_procedure, calls_of, clause, statement, statements}
use Rattle.c_prelude.specs.PreludeLaws.{Does, Anywhere, aged, WritesInt}
use Rattle.c_semantics.proofs.CExprs.{exprs}
use Rattle.c_semantics.proofs.CNumbers.{fits64_nat, not_zero}
use Rattle.c_semantics.proofs.CRuns.{run_declare_value, run_declare_array, run_assign, run_call, run_tested, run_if_not, if_so, run_plain_block, while_is}
use Rattle.c_semantics.proofs.CCalls.{call_going, binds64, calls_putchar, prints}
use Rattle.c_semantics.proofs.Numbers.{numbers}
use Rattle.c_prelude.proofs.PreludeCalls.{found, ended, does}
use Rattle.c_prelude.proofs.PreludeDigits.{filled, unset, unset_more, nth_filled, set_filled, filled_more, has_room, unset_all, signed, signed_rem, signed_div, byte_held, back, back-more, length-snoc, length-back, fits_smaller, signed_small, flipped, one_less, zero_only, zero_is}

abbrev A : CExpr
A = Variable (codes "a")

abbrev N : CExpr
N = Variable (codes "n")

abbrev D : CExpr
D = Variable (codes "d")

abbrev cell : CExpr
cell = Index (Variable (codes "b")) N

-- a is what is left of the number, n the count of digits, d the last one, and b their cells
abbrev int_objects : ℤ → ℕ → ℤ → List (Option ℤ) → ℕ → List Stored
int_objects z k d cells next =
    record { number = suc (suc (suc next)); slot = Cells Byte true cells }
    ∷ record { number = suc (suc next); slot = Cells Int64 false (Some d ∷ []) }
    ∷ record { number = suc next; slot = Cells Int64 false (Some (pos k) ∷ []) }
    ∷ record { number = next; slot = Cells Int64 false (Some z ∷ []) } ∷ []

abbrev int_state : ℤ → ℕ → ℤ → List (Option ℤ) → ℕ → ℕ → List Stored → Around → State
int_state z k d cells file next memory around = record {
  here = record {
    file = file;
    names =
        record { name = codes "b"; number = suc (suc (suc next)) }
        ∷ record { name = codes "d"; number = suc (suc next) }
        ∷ record { name = codes "n"; number = suc next }
        ∷ record { name = codes "a"; number = next } ∷ [];
  };
  next = suc (suc (suc (suc next)));
  memory = int_objects z k d cells next ++ memory;
  around = around;
}

abbrev more_test : CExpr
more_test = Binary Or (Paren (Binary Equal N (Constant 0))) (Paren (Binary Differ A (Constant 0)))

abbrev take_digit : CStmt
take_digit = Assign D (Binary Remainder A (Constant 10))

abbrev flip_digit : CStmt
flip_digit = If (Binary Less D (Constant 0)) (Assign D (Binary Subtract (Constant 0) D) ∷ [])

abbrev keep_digit : CStmt
keep_digit = Assign cell (Binary Add (Constant 48) D)

abbrev drop_digit : CStmt
drop_digit = Assign A (Binary Divide A (Constant 10))

abbrev count_digit : CStmt
count_digit = Assign N (Binary Add N (Constant 1))

abbrev storing : List CStmt
storing = take_digit ∷ flip_digit ∷ keep_digit ∷ drop_digit ∷ count_digit ∷ []

-- a digit loses its sign
module _ (n : ℕ) (calls : Calls) where
  plain_stays : (s : State) (w : Written) → (reading (Binary Less D (Constant 0))).value s ≡ Some (truth false) → statement n calls flip_digit s w ≡ Going None s w
  plain_stays s w h = run_if_not n calls (Binary Less D (Constant 0)) (Assign D (Binary Subtract (Constant 0) D) ∷ []) (truth false) s w h refl

  by_sign : (neg : Bool) (file next : ℕ) (memory : List Stored) (around : Around) (w : Written) (m k r : ℕ) (cells : List (Option ℤ)) → r < 10 → statement n calls flip_digit (int_state (signed neg m) k (signed neg r) cells file next memory around) w ≡ Going None (int_state (signed neg m) k (pos r) cells file next memory around) w
  by_sign false file next memory around w m k r cells small =
      let no : int_lt (pos r) (pos 0) ≡ false = grind (arith, ints) in
      plain_stays (int_state (signed false m) k (pos r) cells file next memory around) w (simp (exprs, numbers, no) refl)
  by_sign true file next memory around w m k zero cells small = plain_stays (int_state (signed true m) k (pos 0) cells file next memory around) w (simp (exprs, numbers) refl)
  by_sign true file next memory around w m k (suc r) cells small =
      let before = int_state (signed true m) k (negsuc r) cells file next memory around in
      let after = int_state (signed true m) k (pos (suc r)) cells file next memory around in
      let f : fits W64 (pos (suc r)) ≡ true = fits64_nat (suc r) (omega arith) in
      let g : fits W64 (pos (0 + suc r)) ≡ true = fits64_nat (0 + suc r) (omega arith) in
      if_so n calls (Binary Less D (Constant 0)) (Assign D (Binary Subtract (Constant 0) D) ∷ []) (truth true) before w (simp (exprs, numbers) refl) refl
      ∙ run_plain_block n calls (Assign D (Binary Subtract (Constant 0) D) ∷ []) None before after w w
      (order_next (statement n calls (Assign D (Binary Subtract (Constant 0) D))) [] before w after w
      (run_assign n calls D (Binary Subtract (Constant 0) D) (Number W64 (pos (suc r))) (Element (Local (suc (suc next))) 0) before after w (simp (exprs, numbers, flipped r, g) refl) (simp (exprs, numbers) refl) (simp (numbers, f) refl))) refl refl

module _ (n : ℕ) (calls : Calls) (neg : Bool) (file next : ℕ) (memory : List Stored) (around : Around) (w : Written) where
  abbrev doing : CStmt → Doing
  doing = statement n calls

  abbrev at : ℕ → ℕ → ℤ → List (Option ℤ) → State
  at m k d cells = int_state (signed neg m) k d cells file next memory around

  -- the last digit
  takes : (m k : ℕ) (d : ℤ) (cells : List (Option ℤ)) → fits W64 (signed neg m) ≡ true → doing take_digit (at m k d cells) w ≡ Going None (at m k (signed neg (m % 10)) cells) w
  takes m k d cells f =
      let g : fits W64 (int_div (signed neg m) (pos 10)) ≡ true = ap (λ z. fits W64 z) (signed_div neg m) ∙ fits_smaller neg m (m / 10) (omega arith) f in
      let r : fits W64 (signed neg (m % 10)) ≡ true = fits_smaller neg m (m % 10) (omega arith) f in
      run_assign n calls D (Binary Remainder A (Constant 10)) (Number W64 (signed neg (m % 10))) (Element (Local (suc (suc next))) 0) (at m k d cells) (at m k (signed neg (m % 10)) cells) w
      (simp (exprs, numbers, g, signed_rem neg m) refl) (simp (exprs, numbers) refl) (simp (numbers, r) refl)

  -- without its sign
  flips : (m k r : ℕ) (cells : List (Option ℤ)) → r < 10 → doing flip_digit (at m k (signed neg r) cells) w ≡ Going None (at m k (pos r) cells) w
  flips m k r cells small = by_sign n calls neg file next memory around w m k r cells small

  keeps : (m k r : ℕ) (done : List ℕ) (tail : List (Option ℤ)) → k ≡ length done → r < 10 → doing keep_digit (at m k (pos r) (filled done (None ∷ tail))) w ≡ Going None (at m k (pos r) (filled (done ++ (48 + r) ∷ []) tail)) w
  keeps m k r done tail e small =
      let room : nat_lt k (length (filled done (None ∷ tail))) ≡ true = ap (λ j. nat_lt j (length (filled done (None ∷ tail)))) e ∙ has_room done None tail in
      let put : set_nth k (Some (pos (48 + r))) (filled done (None ∷ tail)) ≡ filled (done ++ (48 + r) ∷ []) tail = ap (λ j. set_nth j (Some (pos (48 + r))) (filled done (None ∷ tail))) e ∙ set_filled done (48 + r) None tail in
      run_assign n calls cell (Binary Add (Constant 48) D) (Number W64 (pos (48 + r))) (Element (Local (suc (suc (suc next)))) k) (at m k (pos r) (filled done (None ∷ tail))) (at m k (pos r) (filled (done ++ (48 + r) ∷ []) tail)) w
      (simp (exprs, numbers, fits64_nat (48 + r) (omega arith)) refl) (simp (exprs, numbers) (ap (λ j. Some (Element (Local (suc (suc (suc next)))) j)) (zero-add k))) (simp (numbers, byte_held r small, room, put) refl)

  drops : (m k : ℕ) (d : ℤ) (cells : List (Option ℤ)) → fits W64 (signed neg m) ≡ true → doing drop_digit (at m k d cells) w ≡ Going None (at (m / 10) k d cells) w
  drops m k d cells f =
      let g : fits W64 (signed neg (m / 10)) ≡ true = fits_smaller neg m (m / 10) (omega arith) f in
      run_assign n calls A (Binary Divide A (Constant 10)) (Number W64 (signed neg (m / 10))) (Element (Local next) 0) (at m k d cells) (at (m / 10) k d cells) w
      (simp (exprs, numbers, signed_div neg m, g) refl) (simp (exprs, numbers) refl) (simp (numbers, g) refl)

  counts : (m k : ℕ) (d : ℤ) (cells : List (Option ℤ)) → k < 1000000 → doing count_digit (at m k d cells) w ≡ Going None (at m (k + 1) d cells) w
  counts m k d cells small =
      run_assign n calls N (Binary Add N (Constant 1)) (Number W64 (pos (k + 1))) (Element (Local (suc next)) 0) (at m k d cells) (at m (k + 1) d cells) w
      (simp (exprs, numbers, fits64_nat (k + 1) (omega arith)) refl) (simp (exprs, numbers) refl) (simp (numbers, fits64_nat (k + 1) (omega arith)) refl)

  -- one turn
  stores : (m k : ℕ) (d : ℤ) (done : List ℕ) (tail : List (Option ℤ)) → fits W64 (signed neg m) ≡ true → k ≡ length done → k < 1000000 → block (map (clause n calls) storing) (at m k d (filled done (None ∷ tail))) w ≡ Going None (at (m / 10) (k + 1) (pos (m % 10)) (filled (done ++ (48 + m % 10) ∷ []) tail)) w
  stores m k d done tail f e small =
      let r : ℕ = m % 10 in
      let cells = filled done (None ∷ tail) in
      let cells' = filled (done ++ (48 + r) ∷ []) tail in
      run_plain_block n calls storing None (at m k d cells) (at (m / 10) (k + 1) (pos r) cells') w w
      (order_next (doing take_digit) (map doing (flip_digit ∷ keep_digit ∷ drop_digit ∷ count_digit ∷ [])) (at m k d cells) w (at m k (signed neg r) cells) w (takes m k d cells f)
      ∙ order_next (doing flip_digit) (map doing (keep_digit ∷ drop_digit ∷ count_digit ∷ [])) (at m k (signed neg r) cells) w (at m k (pos r) cells) w (flips m k r cells (omega arith))
      ∙ order_next (doing keep_digit) (map doing (drop_digit ∷ count_digit ∷ [])) (at m k (pos r) cells) w (at m k (pos r) cells') w (keeps m k r done tail e (omega arith))
      ∙ order_next (doing drop_digit) (map doing (count_digit ∷ [])) (at m k (pos r) cells') w (at (m / 10) k (pos r) cells') w (drops m k (pos r) cells' f)
      ∙ order_next (doing count_digit) [] (at (m / 10) k (pos r) cells') w (at (m / 10) (k + 1) (pos r) cells') w (counts (m / 10) k (pos r) cells' small)) refl refl

  -- whether a turn follows
  goes_on : (m k : ℕ) (d : ℤ) (cells : List (Option ℤ)) → (k ≡ 0) ⊎ (0 < m) → tested more_test (at m k d cells) w ≡ Going true (at m k d cells) w
  goes_on m k d cells (inl e) = run_tested more_test (at m k d cells) w (truth true) true (subst (λ j. (reading more_test).value (at m j d cells) ≡ Some (truth true)) (sym e) (simp (exprs, numbers) refl)) refl
  goes_on m k d cells (inr h) = run_tested more_test (at m k d cells) w (truth true) true (either_way (int_eq (pos k) (pos 0)) refl) refl
    where
      either_way : (p : Bool) → int_eq (pos k) (pos 0) ≡ p → (reading more_test).value (at m k d cells) ≡ Some (truth true)
      either_way true e = simp (exprs, numbers, e) refl
      either_way false e = simp (exprs, numbers, e, zero_only neg m h) refl

  is_done : (k : ℕ) (d : ℤ) (cells : List (Option ℤ)) → 0 < k → tested more_test (at 0 k d cells) w ≡ Going false (at 0 k d cells) w
  is_done k d cells h = run_tested more_test (at 0 k d cells) w (truth false) false (simp (exprs, numbers, not_zero k h, zero_is neg) refl) refl

  abbrev test : Act State Bool
  test = tested more_test

  abbrev body : Doing
  body = block (map (clause n calls) storing)

  -- the loop stores the digits from the last one on
  abbrev pub Stores : ℕ → List ℕ → Type 0
  Stores m ds = (k : ℕ) (d : ℤ) (done : List ℕ) (tail : List (Option ℤ)) (turns : ℕ) → k ≡ length done → (k ≡ 0) ⊎ (0 < m) → length ds ≤ turns → k + length ds < 1000000 → fits W64 (signed neg m) ≡ true → (e : ℤ) × (iterate turns test body (at m k d (filled done (unset ds tail))) w ≡ Going None (at 0 (k + length ds) e (filled (done ++ back ds) tail)) w)

  one_digit : (m : ℕ) → m < 10 → Stores m ((48 + m) ∷ [])
  one_digit m h k d done tail zero e o le few f = absurd (omega arith)
  one_digit m h k d done tail (suc t) e o le few f =
      let r : m % 10 ≡ m = omega arith in
      let q : m / 10 ≡ 0 = omega arith in (
        pos (m % 10),
        iterate_turn test body (at m k d (filled done (None ∷ tail))) w t (at m k d (filled done (None ∷ tail))) (at (m / 10) (k + 1) (pos (m % 10)) (filled (done ++ (48 + m % 10) ∷ []) tail)) w w (goes_on m k d (filled done (None ∷ tail)) o) (stores m k d done tail f e (omega arith))
            ∙ ap (λ x. iterate t test body (at x (k + 1) (pos (m % 10)) (filled (done ++ (48 + m % 10) ∷ []) tail)) w) q
            ∙ iterate_done test body (at 0 (k + 1) (pos (m % 10)) (filled (done ++ (48 + m % 10) ∷ []) tail)) w t (at 0 (k + 1) (pos (m % 10)) (filled (done ++ (48 + m % 10) ∷ []) tail)) w (is_done (k + 1) (pos (m % 10)) (filled (done ++ (48 + m % 10) ∷ []) tail) (omega arith))
            ∙ ap (λ x. Going None (at 0 (k + 1) (pos (m % 10)) (filled (done ++ (48 + x) ∷ []) tail)) w) r,
      )

  more_digits : (m : ℕ) (ds : List ℕ) → 10 ≤ m → Stores (m / 10) ds → Stores m (ds ++ (48 + m % 10) ∷ [])
  more_digits m ds h rest k d done tail zero e o le few f = absurd (omega (arith, length-snoc ds (48 + m % 10)))
  more_digits m ds h rest k d done tail (suc t) e o le few f =
      let c : ℕ = 48 + m % 10 in
      let now = done ++ c ∷ [] in
      let long = length-snoc ds c in
      let after = rest (k + 1) (pos (m % 10)) now tail t (ap (λ j. j + 1) e ∙ sym (length-snoc done c)) (inr (omega arith)) (omega (arith, long)) (omega (arith, long)) (fits_smaller neg m (m / 10) (omega arith) f) in (
        after.0,
        ap (λ l. iterate (suc t) test body (at m k d (filled done l)) w) (unset_more ds c tail)
            ∙ iterate_turn test body (at m k d (filled done (None ∷ unset ds tail))) w t (at m k d (filled done (None ∷ unset ds tail))) (at (m / 10) (k + 1) (pos (m % 10)) (filled now (unset ds tail))) w w (goes_on m k d (filled done (None ∷ unset ds tail)) o) (stores m k d done (unset ds tail) f e (omega (arith, long)))
            ∙ after.1
            ∙ ap (λ j. Going None (at 0 j after.0 (filled (now ++ back ds) tail)) w) (omega (arith, long))
            ∙ ap (λ l. Going None (at 0 (k + length (ds ++ c ∷ [])) after.0 (filled l tail)) w) (append_assoc done (c ∷ []) (back ds) ∙ ap (λ l. done ++ l) (sym (back-more ds c))),
      )

  pub stores_all : (m : ℕ) → m < 2 ^ 64 → Stores m (decimal m)
  stores_all m h = decimal_by_steps Stores one_digit more_digits m h

-- the digits are written from the last cell on
abbrev back_one : CStmt
back_one = Assign N (Binary Subtract N (Constant 1))

abbrev put_digit : CStmt
put_digit = Call (codes "putchar") (cell ∷ [])

abbrev writing : List CStmt
writing = back_one ∷ put_digit ∷ []

abbrev some_left : CExpr
some_left = Binary Less (Constant 0) N

abbrev AllBytes : List ℕ → Type 0
AllBytes ds = AllByRecursion (λ b. b < 256) ds

bytes_more : (ds : List ℕ) (b : ℕ) → AllBytes ds → b < 256 → AllBytes (ds ++ b ∷ [])
bytes_more [] b h k = (k, tt)
bytes_more (d ∷ ds) b h k = (h.0, bytes_more ds b h.1 k)

-- digits are bytes
pub decimal_bytes : (m : ℕ) → m < 2 ^ 64 → AllBytes (decimal m)
decimal_bytes m h = decimal_by_steps (λ n ds. AllBytes ds) (λ n small. (omega arith, tt)) (λ n ds large all. bytes_more ds (48 + n % 10) all (omega arith)) m h

module _ (files : List CFile) (n d file : ℕ) (z e : ℤ) (next : ℕ) (memory : List Stored) (around : Around) where
  abbrev steps : Calls
  steps = calls_of files n d file

  abbrev here : ℕ → List (Option ℤ) → State
  here k cells = int_state z k e cells file next memory around

  abbrev left_test : Act State Bool
  left_test = tested some_left

  abbrev writes : Doing
  writes = block (map (clause n steps) writing)

  backs : (k : ℕ) (cells : List (Option ℤ)) (w : Written) → k < 1000000 → statement n steps back_one (here (k + 1) cells) w ≡ Going None (here k cells) w
  backs k cells w small =
      let f : fits W64 (pos k) ≡ true = fits64_nat k (omega arith) in
      run_assign n steps N (Binary Subtract N (Constant 1)) (Number W64 (pos k)) (Element (Local (suc next)) 0) (here (k + 1) cells) (here k cells) w
      (simp (exprs, numbers) (ap (λ v. checked W64 v) (one_less k) ∙ simp f refl)) (simp (exprs, numbers) refl) (simp (numbers, f) refl)

  puts : (k b : ℕ) (cells : List (Option ℤ)) (w : Written) → b < 256 → nth k cells ≡ Some (Some (pos b)) → statement n steps put_digit (here k cells) w ≡ Going None (here k cells) (record { out = w.out ++ b ∷ []; err = w.err })
  puts k b cells w small is =
      run_call n steps (codes "putchar") (cell ∷ []) (Number W32 (pos b) ∷ []) (written_byte (pos b)) (here k cells) (here k cells) w (record { out = w.out ++ b ∷ []; err = w.err })
      (simp (exprs, numbers) (ap (λ o. all_given (element Byte o ∷ [])) (ap (λ j. nth j cells) (zero-add k) ∙ is)))
      (ap (λ f. f (here k cells) w) (calls_putchar files n file d (Number W32 (pos b) ∷ [])) ∙ prints b small (here k cells) w)

  -- all that is left, in order
  written_all : (turns : ℕ) (ls : List ℕ) (tail : List (Option ℤ)) (w : Written) → length ls ≤ turns → length ls < 1000000 → AllBytes ls → (cells : List (Option ℤ)) × (iterate turns left_test writes (here (length ls) (filled (back ls) tail)) w ≡ Going None (here 0 cells) (record { out = w.out ++ ls; err = w.err }))
  written_all turns [] tail w le few all =
      (tail, iterate_done left_test writes (here 0 tail) w turns (here 0 tail) w (run_tested some_left (here 0 tail) w (truth false) false (simp (exprs, numbers) refl) refl) ∙ ap (λ o. Going None (here 0 tail) (record { out = o; err = w.err })) (sym (append-nil w.out)))
  written_all zero (x ∷ ls) tail w le few all = absurd (omega arith)
  written_all (suc t) (x ∷ ls) tail w le few all =
      let k : ℕ = length ls in
      let cells = filled (back ls ++ x ∷ []) tail in
      let v : Written = record { out = w.out ++ x ∷ []; err = w.err } in
      let some : int_lt (pos 0) (pos (suc k)) ≡ true = grind (arith, ints) in
      let is : nth k cells ≡ Some (Some (pos x)) = ap (λ l. nth k l) (filled_more (back ls) x tail) ∙ ap (λ j. nth j (filled (back ls) (Some (pos x) ∷ tail))) (sym (length-back ls)) ∙ nth_filled (back ls) (Some (pos x)) tail in
      let start = here (suc k) cells in
      let more = written_all t ls (Some (pos x) ∷ tail) v (omega arith) (omega arith) all.1 in (
        more.0,
        iterate_turn left_test writes start w t start (here k cells) w v
            (run_tested some_left start w (truth true) true (simp (exprs, numbers, some) refl) refl)
            (run_plain_block n steps writing None start (here k cells) w v
            (order_next (statement n steps back_one) (map (statement n steps) (put_digit ∷ [])) start w (here k cells) w (ap (λ j. statement n steps back_one (here j cells) w) (omega arith) ∙ backs k cells w (omega arith))
            ∙ order_next (statement n steps put_digit) [] (here k cells) w (here k cells) v (puts k x cells w all.0 is)) refl refl)
            ∙ ap (λ l. iterate t left_test writes (here k l) v) (filled_more (back ls) x tail)
            ∙ more.1
            ∙ ap (λ o. Going None (here 0 more.0) (record { out = o; err = w.err })) (append_assoc w.out (x ∷ []) ls),
      )

-- the whole function
abbrev int_body : List CStmt
int_body = DeclareValue Int64 (codes "n") (Constant 0) ∷ DeclareValue Int64 (codes "d") (Constant 0) ∷ DeclareArray Byte (codes "b") (Constant 20) ∷ If (Binary Less A (Constant 0)) (Call (codes "putchar") (Constant 45 ∷ []) ∷ []) ∷ While more_test storing ∷ While some_left writing ∷ []

abbrev sign_of : Bool → List ℕ
sign_of true = 45 ∷ []
sign_of false = []

module _ (files : List CFile) (n d file : ℕ) (enough : 20 ≤ n) (neg : Bool) (m : ℕ) (fm : fits W64 (signed neg m) ≡ true) (next : ℕ) (memory : List Stored) (around : Around) (w : Written) where
  abbrev doing' : CStmt → Doing
  doing' = statement n (calls_of files n d file)

  abbrev ds : List ℕ
  ds = decimal m

  small : m < 2 ^ 64
  small = let h : m ≤ 9223372036854775808 = signed_small neg m fm in omega arith

  few : length ds ≤ 20
  few = let h : m ≤ 9223372036854775808 = signed_small neg m fm in length-decimal-le 20 m (omega arith) (omega arith) small

  abbrev tail : List (Option ℤ)
  tail = replicate (20 - length ds) None

  abbrev s0 : State
  s0 = record { here = record { file = file; names = record { name = codes "a"; number = next } ∷ [] }; next = suc next; memory = record { number = next; slot = Cells Int64 false (Some (signed neg m) ∷ []) } ∷ memory; around = around }

  abbrev s1 : State
  s1 = declare (codes "n") (Cells Int64 false (Some (pos 0) ∷ [])) s0

  abbrev s2 : State
  s2 = declare (codes "d") (Cells Int64 false (Some (pos 0) ∷ [])) s1

  abbrev s3 : State
  s3 = int_state (signed neg m) 0 (pos 0) (replicate 20 None) file next memory around

  abbrev w1 : Written
  w1 = record { out = w.out ++ sign_of (int_lt (signed neg m) (pos 0)); err = w.err }

  step1 : doing' (DeclareValue Int64 (codes "n") (Constant 0)) s0 w ≡ Going None s1 w
  step1 = run_declare_value n (calls_of files n d file) Int64 (codes "n") (Constant 0) (Number W32 (pos 0)) (Element (Local (suc next)) 0) s0 s1 w (simp (exprs, numbers) refl) (simp numbers refl) (simp numbers refl)

  step2 : doing' (DeclareValue Int64 (codes "d") (Constant 0)) s1 w ≡ Going None s2 w
  step2 = run_declare_value n (calls_of files n d file) Int64 (codes "d") (Constant 0) (Number W32 (pos 0)) (Element (Local (suc (suc next))) 0) s1 s2 w (simp (exprs, numbers) refl) (simp numbers refl) (simp numbers refl)

  step3 : doing' (DeclareArray Byte (codes "b") (Constant 20)) s2 w ≡ Going None s3 w
  step3 = run_declare_array n (calls_of files n d file) Byte (codes "b") (Constant 20) (Number W32 (pos 20)) (Cells Byte true (replicate 20 None)) s2 w (simp (exprs, numbers) refl) refl

  abbrev sign : CStmt
  sign = If (Binary Less A (Constant 0)) (Call (codes "putchar") (Constant 45 ∷ []) ∷ [])

  signs : (t : Bool) → int_lt (signed neg m) (pos 0) ≡ t → doing' sign s3 w ≡ Going None s3 (record { out = w.out ++ sign_of t; err = w.err })
  signs false e =
      run_if_not n (calls_of files n d file) (Binary Less A (Constant 0)) (Call (codes "putchar") (Constant 45 ∷ []) ∷ []) (truth false) s3 w (simp (exprs, numbers, e) refl) refl
      ∙ ap (λ o. Going None s3 (record { out = o; err = w.err })) (sym (append-nil w.out))
  signs true e =
      let v : Written = record { out = w.out ++ 45 ∷ []; err = w.err } in
      if_so n (calls_of files n d file) (Binary Less A (Constant 0)) (Call (codes "putchar") (Constant 45 ∷ []) ∷ []) (truth true) s3 w (simp (exprs, numbers, e) refl) refl
      ∙ run_plain_block n (calls_of files n d file) (Call (codes "putchar") (Constant 45 ∷ []) ∷ []) None s3 s3 w v
      (order_next (doing' (Call (codes "putchar") (Constant 45 ∷ []))) [] s3 w s3 v
      (run_call n (calls_of files n d file) (codes "putchar") (Constant 45 ∷ []) (Number W32 (pos 45) ∷ []) (written_byte (pos 45)) s3 s3 w v (simp (exprs, numbers) refl) (ap (λ f. f s3 w) (calls_putchar files n file d (Number W32 (pos 45) ∷ [])) ∙ prints 45 (omega arith) s3 w))) refl refl

  stored : (e : ℤ) × (iterate n (tested more_test) (block (map (clause n (calls_of files n d file)) storing)) (int_state (signed neg m) 0 (pos 0) (filled [] (unset ds tail)) file next memory around) w1 ≡ Going None (int_state (signed neg 0) (0 + length ds) e (filled ([] ++ back ds) tail) file next memory around) w1)
  stored = stores_all n (calls_of files n d file) neg file next memory around w1 m small 0 (pos 0) [] tail n refl (inl refl) (omega (arith, few)) (omega (arith, few)) fm

  written : (cells : List (Option ℤ)) × (iterate n (tested some_left) (block (map (clause n (calls_of files n d file)) writing)) (int_state (signed neg 0) (length ds) stored.0 (filled (back ds) tail) file next memory around) w1 ≡ Going None (int_state (signed neg 0) 0 stored.0 cells file next memory around) (record { out = w1.out ++ ds; err = w1.err }))
  written = written_all files n d file (signed neg 0) stored.0 next memory around n ds tail w1 (omega (arith, few)) (omega (arith, few)) (decimal_bytes m small)

  abbrev s5 : State
  s5 = int_state (signed neg 0) (length ds) stored.0 (filled (back ds) tail) file next memory around

  abbrev s6 : State
  s6 = int_state (signed neg 0) 0 stored.0 written.0 file next memory around

  step5 : doing' (While more_test storing) s3 w1 ≡ Going None s5 w1
  step5 =
      ap (λ f. f s3 w1) (while_is n (calls_of files n d file) more_test storing)
      ∙ ap (λ l. iterate n (tested more_test) (block (map (clause n (calls_of files n d file)) storing)) (int_state (signed neg m) 0 (pos 0) l file next memory around) w1) (unset_all ds 20 few)
      ∙ stored.1
      ∙ ap (λ k. Going None (int_state (signed neg 0) k stored.0 (filled (back ds) tail) file next memory around) w1) (zero-add (length ds))

  step6 : doing' (While some_left writing) s5 w1 ≡ Going None s6 (record { out = w1.out ++ ds; err = w1.err })
  step6 = ap (λ f. f s5 w1) (while_is n (calls_of files n d file) some_left writing) ∙ written.1

  int_runs : statements n (calls_of files n d file) int_body s0 w ≡ Going None s6 (record { out = (w.out ++ sign_of (int_lt (signed neg m) (pos 0))) ++ ds; err = w.err })
  int_runs =
      order_next (doing' (DeclareValue Int64 (codes "n") (Constant 0))) (map doing' (DeclareValue Int64 (codes "d") (Constant 0) ∷ DeclareArray Byte (codes "b") (Constant 20) ∷ sign ∷ While more_test storing ∷ While some_left writing ∷ [])) s0 w s1 w step1
      ∙ order_next (doing' (DeclareValue Int64 (codes "d") (Constant 0))) (map doing' (DeclareArray Byte (codes "b") (Constant 20) ∷ sign ∷ While more_test storing ∷ While some_left writing ∷ [])) s1 w s2 w step2
      ∙ order_next (doing' (DeclareArray Byte (codes "b") (Constant 20))) (map doing' (sign ∷ While more_test storing ∷ While some_left writing ∷ [])) s2 w s3 w step3
      ∙ order_next (doing' sign) (map doing' (While more_test storing ∷ While some_left writing ∷ [])) s3 w s3 w1 (signs (int_lt (signed neg m) (pos 0)) refl)
      ∙ order_next (doing' (While more_test storing)) (map doing' (While some_left writing ∷ [])) s3 w1 s5 w1 step5
      ∙ order_next (doing' (While some_left writing)) [] s5 w1 s6 (record { out = w1.out ++ ds; err = w1.err }) step6

-- a number as it is written, by its sign
shown : (neg : Bool) (m : ℕ) (z : ℤ) → z ≡ signed neg m → (out : List ℕ) → (neg ≡ false) ⊎ (0 < m) → (out ++ sign_of (int_lt (signed neg m) (pos 0))) ++ decimal m ≡ out ++ signed_decimal z
shown false m z e out h = let no : int_lt (pos m) (pos 0) ≡ false = grind (arith, ints) in ap (λ t. (out ++ sign_of t) ++ decimal m) no ∙ ap (λ l. l ++ decimal m) (append-nil out) ∙ ap (λ x. out ++ signed_decimal x) (sym e)
shown true zero z e out (inl h) = absurd (cc)
shown true zero z e out (inr h) = absurd (omega arith)
shown true (suc m) z e out h = append_assoc out (45 ∷ []) (decimal (suc m)) ∙ ap (λ x. out ++ signed_decimal x) (sym e)

int_law_at : (neg : Bool) (m : ℕ) (z : ℤ) → z ≡ signed neg m → (neg ≡ false) ⊎ (0 < m) → (v : Width) → fits W64 z ≡ true → Anywhere (λ files file s w. Does files file 20 1 (codes "lf_int") (Number v z ∷ []) s w (Going None (aged 4 s) (record { out = w.out ++ signed_decimal z; err = w.err })))
int_law_at neg m z e o v f files file h s w =
    let p : Procedure = record { file = file; result = result.Void; parameters = parameter.Value Int64 (codes "a") ∷ []; body = int_body } in
    let fm : fits W64 (signed neg m) ≡ true = ap (λ x. fits W64 x) (sym e) ∙ f in
    does files file 20 1 (codes "lf_int") (Number v z ∷ []) s w (Going None (aged 4 s) (record { out = w.out ++ signed_decimal z; err = w.err })) (λ n d enough.
    let calls : Calls = calls_of files n d file in
    let before : State = s0 files n d file enough neg m fm s.next s.memory s.around w in
    let after : State = s6 files n d file enough neg m fm s.next s.memory s.around w in
    ap (λ x. calls_of files n (suc d) file (codes "lf_int") (Number v x ∷ []) s w) e
    ∙ ap (λ q. on_procedure q (λ q. call n (calls_of files n d q.file) q (Number v (signed neg m) ∷ [])) s w) (found files file h (codes "lf_int") p (λ rest. refl))
    ∙ call_going n calls p (Number v (signed neg m) ∷ []) s before w (binds64 (codes "a") [] v (signed neg m) [] (started file s) fm) None after (record { out = (w.out ++ sign_of (int_lt (signed neg m) (pos 0))) ++ decimal m; err = w.err }) (int_runs files n d file enough neg m fm s.next s.memory s.around w)
    ∙ ap (λ t. Going None t (record { out = (w.out ++ sign_of (int_lt (signed neg m) (pos 0))) ++ decimal m; err = w.err })) (ended after.here after.next (int_objects (signed neg 0) 0 (stored files n d file enough neg m fm s.next s.memory s.around w).0 (written files n d file enough neg m fm s.next s.memory s.around w).0 s.next) s)
    ∙ ap (λ out. Going None (aged 4 s) (record { out = out; err = w.err })) (shown neg m z e w.out o))

pub int_law : WritesInt
int_law v (pos m) f files file h s w = int_law_at false m (pos m) refl (inl refl) v f files file h s w
int_law v (negsuc m) f files file h s w = int_law_at true (suc m) (negsuc m) refl (inr (omega arith)) v f files file h s w

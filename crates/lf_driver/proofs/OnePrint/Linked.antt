-- The printed C is one program: its names are declared once and before use, its calls have the declared arguments.
use Rattle.std.proofs.Common.{◌≡◌, ℕ, zero, suc, ◌+◌, ◌^◌, ◌<◌, ◌≤◌, Bool, true, false, List, [], ◌∷◌, ◌++◌, length, map, Option, Some, None, codes, cond, refl, sym, ap, subst, ◌∙◌, arith}
use Rattle.std.specs.Prelude.{◌&&◌, ◌||◌, nat_eq}
use Rattle.std.specs.List.{list_all}
use Rattle.std.specs.Str.{bytes_eq}
use Rattle.std.proofs.lemmas.Bool.Decides.{nat_tests}
use Rattle.std.proofs.lemmas.List.{map-append}
use Rattle.std.proofs.lemmas.List.Folds.{list_all-append, list_all-map}
use Rattle.lf_base.specs.Outcome.{Location}
use Rattle.c_nodes.specs.declared.tree.CType.TheVariants.{Int64, Int32, Byte}
use Rattle.c_nodes.specs.declared.tree.CResult.TheVariants as result
use Rattle.c_nodes.specs.declared.tree.CExpr.{CExpr}
use Rattle.c_nodes.specs.declared.tree.CExpr.TheVariants.{Variable, Constant, Address, Literal as Text}
use Rattle.c_nodes.specs.declared.tree.CItem.TheVariants.{Prototype, Function}
use Rattle.c_nodes.specs.declared.tree.CStmt.{CStmt}
use Rattle.c_nodes.specs.declared.tree.CStmt.TheVariants.{DeclareCall, Assign, Call, Return, ReturnValue, Block}
use Rattle.c_semantics.specs.Linking.{Typed, Object, Number, Leads, is_number, Ill, Entry, Scope, first_or, is_declared, type_of, ANumber, APointer, Signature, library, Known, at_start, signature_of, address_of, given_by, call_gives, is_call, is_value, kept_if, Scoping, declared, initialized, on_scope, in_turn, is_right, may_assign, scoping, signature, is_right_body, are_right, known_behind, is_right_file, has_name}
use Rattle.c_semantics.specs.Program.{functions_of, are_distinct, shown_in, are_agreed, calls_only, item_calls_only, is_defined, IsProgram}
use Rattle.c_semantics.specs.Reserved.{is_reserved}
use Rattle.c_prelude.specs.Prelude.{prelude_items}
use Rattle.c_semantics.proofs.LinkingShapes.{links, callings, type_of-Variable, type_of-Constant, type_of-Address, type_of-Literal, scoping-DeclareValue, scoping-DeclareCall, scoping-Assign, scoping-Call, scoping-Return, scoping-ReturnValue, scoping-Block}
use Rattle.c_prelude.proofs.PreludeLinked.{prelude_right}
use Rattle.lf_driver.specs.declared.one_print.built.Operator.{Operator}
use Rattle.lf_driver.specs.declared.one_print.built.Operator.TheVariants.{Add, Subtract, Multiply}
use Rattle.lf_driver.specs.OnePrint.Lowered.{temporary, temporary_value, helper, constant, computed, fitted, noted, operation, count, lowered, printing_begins, printing_ends, printed, init_name, main_body, lowered_items, lowered_file}
use Rattle.lf_driver.specs.OnePrint.Source.{Tree, Literal, Binary, Source}
use Rattle.lf_driver.proofs.OnePrint.ProgramNames.{no_digit, init_with, decimal_begins, decimal_begins_wide}
use Rattle.lf_driver.proofs.OnePrint.PlainMain.{jumps_of}
use Rattle.lf_driver.proofs.OnePrint.Temporaries.{Few, other_temporary, same_name}

-- the functions that `main` knows
abbrev init_signature : List ℕ → Signature
init_signature init = signature result.Void init []

abbrev before : List Signature
before = (known_behind prelude_items at_start).functions

abbrev known : List ℕ → List Signature
known init = signature result.Int (codes "main") [] ∷ init_signature init ∷ init_signature init ∷ before

no_letter : (l c : ℕ) → c ≤ 57 → 57 < l → nat_eq c l ≡ false
no_letter l c h k = grind (arith, nat_tests)

-- a program's init function is none of the prelude's
unknown : (c : ℕ) (ds name : List ℕ) → c ≤ 57 → signature_of (init_with (c ∷ ds) name) before ≡ None
unknown c ds name h = simp (no_letter 97 c h (omega arith), no_letter 99 c h (omega arith), no_letter 100 c h (omega arith), no_letter 101 c h (omega arith), no_letter 102 c h (omega arith), no_letter 103 c h (omega arith), no_letter 105 c h (omega arith), no_letter 106 c h (omega arith), no_letter 109 c h (omega arith), no_letter 110 c h (omega arith), no_letter 111 c h (omega arith), no_letter 112 c h (omega arith), no_letter 114 c h (omega arith), no_letter 115 c h (omega arith), no_letter 116 c h (omega arith), no_letter 122 c h (omega arith)) refl

abbrev helper_signature : Operator → Signature
helper_signature operator = record { name = helper operator; gives = result.Int64; takes = ANumber Int64 ∷ ANumber Int64 ∷ [] }

abbrev fit_signature : Signature
fit_signature = record { name = codes "lf_fit"; gives = result.Int64; takes = ANumber Int64 ∷ [] }

abbrev gap_signature : Signature
gap_signature = record { name = codes "lf_gap"; gives = result.Void; takes = APointer Int64 ∷ ANumber Int64 ∷ [] }

abbrev putchar_signature : Signature
putchar_signature = record { name = codes "putchar"; gives = result.Int; takes = ANumber Int32 ∷ [] }

abbrev int_signature : Signature
int_signature = record { name = codes "lf_int"; gives = result.Void; takes = ANumber Int64 ∷ [] }

-- the objects of the prelude
abbrev statics : List Entry
statics = (codes "lf_line", Object Int64) ∷ (codes "lf_name", Leads Byte) ∷ []

-- What `main` finds under the names that it calls.
record Finds (init : List ℕ) : Type 0 where
  pub operation : (operator : Operator) → signature_of (helper operator) (known init) ≡ Some (helper_signature operator)
  pub fit : signature_of (codes "lf_fit") (known init) ≡ Some fit_signature
  pub gap : signature_of (codes "lf_gap") (known init) ≡ Some gap_signature
  pub int : signature_of (codes "lf_int") (known init) ≡ Some int_signature
  pub putchar : signature_of (codes "putchar") (known init) ≡ Some putchar_signature
  pub itself : signature_of init (known init) ≡ Some (init_signature init)
  pub apart : is_declared init statics ≡ false

finds_operation : (c : ℕ) (ds name : List ℕ) → c ≤ 57 → (operator : Operator) → signature_of (helper operator) (known (init_with (c ∷ ds) name)) ≡ Some (helper_signature operator)
finds_operation c ds name h Add = simp (no_digit 97 c h (omega arith)) refl
finds_operation c ds name h Subtract = simp (no_digit 115 c h (omega arith)) refl
finds_operation c ds name h Multiply = simp (no_digit 109 c h (omega arith)) refl

finds : (c : ℕ) (ds name : List ℕ) → c ≤ 57 → Finds (init_with (c ∷ ds) name)
finds c ds name h = record {
  operation = finds_operation c ds name h;
  fit = simp (no_digit 102 c h (omega arith)) refl;
  gap = simp (no_digit 103 c h (omega arith)) refl;
  int = simp (no_digit 105 c h (omega arith)) refl;
  putchar = refl;
  itself = let init : List ℕ = init_with (c ∷ ds) name in ap (λ b. cond b (Some (init_signature init)) (signature_of init (init_signature init ∷ before))) (same_name init);
  apart = simp (no_letter 108 c h (omega arith), no_letter 110 c h (omega arith)) refl;
}

-- the scope around `main`
abbrev outer : Scope
outer = record { here = []; around = statics; structures = [] }

-- what is known behind the prelude, and functions
abbrev behind_prelude : Known
behind_prelude = known_behind prelude_items at_start

abbrev known_functions : List Signature → Known
known_functions functions = record { functions = functions; objects = []; statics = statics; structures = [] }

-- the names of `main` behind so many temporaries
abbrev entries : ℕ → List Entry
entries zero = (codes "r1", Object Int64) ∷ []
entries (suc k) = (temporary (suc k), Object Int64) ∷ entries k

abbrev scope : ℕ → Scope
scope k = record { here = entries k; around = statics; structures = [] }

new_temporary : (m k : ℕ) → Few m → k < m → is_declared (temporary m) (entries k) ≡ false
new_temporary m zero few h = refl
new_temporary m (suc k) few h = ap (λ b. b || is_declared (temporary m) (entries k)) (other_temporary m (suc k) few (omega (arith, few)) (λ e. omega arith)) ∙ new_temporary m k few (omega arith)

not_declared : (rest : List ℕ) (k : ℕ) → is_declared (108 ∷ rest) (entries k) ≡ false
not_declared rest zero = refl
not_declared rest (suc k) = not_declared rest k

no_putchar : (k : ℕ) → is_declared (codes "putchar") (entries k) ≡ false
no_putchar zero = refl
no_putchar (suc k) = no_putchar k

record_typed : (k : ℕ) (other : Typed) → first_or other (codes "r1") (entries k) ≡ Object Int64
record_typed zero other = refl
record_typed (suc k) other = record_typed k other

typed_by : (other : Typed) (j m : ℕ) → Few (suc m) → 1 ≤ j → j ≤ suc m → ((j ≤ m) → first_or other (temporary j) (entries m) ≡ Object Int64) → (t : Bool) → nat_eq j (suc m) ≡ t → first_or other (temporary j) (entries (suc m)) ≡ Object Int64
typed_by other j m few l h k true e =
    let is : j ≡ suc m = grind (arith, nat_tests) in
    ap (λ b. cond b (Object Int64) (first_or other (temporary j) (entries m))) (ap (λ i. bytes_eq (temporary i) (temporary (suc m))) is ∙ same_name (temporary (suc m)))
typed_by other j m few l h k false e =
    let differs : j ≡ suc m → ⊥ = λ is. grind (arith, nat_tests) in
    ap (λ b. cond b (Object Int64) (first_or other (temporary j) (entries m))) (other_temporary j (suc m) (omega (arith, few)) few differs) ∙ k (omega (arith, differs))

temporary_typed : (other : Typed) (j m : ℕ) → Few m → 1 ≤ j → j ≤ m → first_or other (temporary j) (entries m) ≡ Object Int64
temporary_typed other j zero few l h = absurd (omega arith)
temporary_typed other j (suc m) few l h = typed_by other j m few l h (λ le. temporary_typed other j m (omega (arith, few)) l le) (nat_eq j (suc m)) refl

value_typed : (j m : ℕ) → Few m → 1 ≤ j → j ≤ m → type_of (scope m) (temporary_value j) ≡ Object Int64
value_typed j m few l h = type_of-Variable (scope m) (temporary j) ∙ temporary_typed _ j m few l h

-- a digit is no letter of a reserved name behind its first
temporary_free : (m : ℕ) → Few m → is_reserved (temporary m) ≡ false
temporary_free m few =
    let d = decimal_begins_wide m few in
    ap (λ ds. is_reserved (codes "t" ++ ds)) d.is
    ∙ simp (no_letter 121 d.first d.small (omega arith), no_letter 109 d.first d.small (omega arith)) refl

declares_next : (m k : ℕ) → Few m → m ≡ suc k → declared (temporary m) (Object Int64) (scope k) ≡ Some (scope m)
declares_next m k few e =
    let new = new_temporary m k few (omega arith) in
    ap (λ b. cond b None (cond (is_declared (temporary m) (entries k)) None (Some (record { here = (temporary m, Object Int64) ∷ entries k; around = statics; structures = [] })))) (temporary_free m few)
    ∙ ap (λ b. cond b None (Some (record { here = (temporary m, Object Int64) ∷ entries k; around = statics; structures = [] }))) new
    ∙ ap (λ i. Some (record { here = (temporary i, Object Int64) ∷ entries k; around = statics; structures = [] })) e
    ∙ ap (λ i. Some (scope i)) (sym e)

append_by : (xs ys : List Scoping) → ((s : Scope) → in_turn (xs ++ ys) s ≡ on_scope (in_turn xs s) (in_turn ys)) → (o : Option Scope) → on_scope o (in_turn (xs ++ ys)) ≡ on_scope (on_scope o (in_turn xs)) (in_turn ys)
append_by xs ys h None = refl
append_by xs ys h (Some t) = h t

in_turn_append : (xs ys : List Scoping) (s : Scope) → in_turn (xs ++ ys) s ≡ on_scope (in_turn xs s) (in_turn ys)
in_turn_append [] ys s = refl
in_turn_append (x ∷ xs) ys s = append_by xs ys (in_turn_append xs ys) (x.behind s)

or_true : (b : Bool) → b || true ≡ true
or_true true = refl
or_true false = refl

module _ (location : Location) (init : List ℕ) (found : Finds init) where
  abbrev main_step : CStmt → Scoping
  main_step = scoping (known init) result.Int

  abbrev run : List CStmt → Scope → Option Scope
  run body = in_turn (map main_step body)

  call_given : (m : ℕ) (callee : List ℕ) (arguments : List CExpr) (s : Signature) (ts : List Typed) → is_declared callee (entries m) ≡ false → is_declared callee statics ≡ false → signature_of callee (known init) ≡ Some s → map (type_of (scope m)) arguments ≡ ts → call_gives (known init) (scope m) callee arguments ≡ given_by (Some s) ts
  call_given m callee arguments s ts h f k j =
      ap (λ b. cond (b || is_declared callee statics) None (given_by (signature_of callee (known init)) (map (type_of (scope m)) arguments))) h
      ∙ ap (λ b. cond b None (given_by (signature_of callee (known init)) (map (type_of (scope m)) arguments))) f
      ∙ ap (λ o. given_by o (map (type_of (scope m)) arguments)) k
      ∙ ap (λ l. given_by (Some s) l) j

  run_constant : (v k m : ℕ) (rest : List CStmt) → Few m → m ≡ suc k → run (constant m v ∷ rest) (scope k) ≡ run rest (scope m)
  run_constant v k m rest few e =
      ap (λ f. on_scope (f.behind (scope k)) (run rest)) (scoping-DeclareValue (known init) result.Int Int64 (temporary m) (Constant v))
      ∙ ap (λ o. on_scope (initialized o (λ i. is_number (type_of i (Constant v)))) (run rest)) (declares_next m k few e)
      ∙ ap (λ t. on_scope (kept_if (is_number t) (scope m)) (run rest)) (type_of-Constant (scope m) v)

  run_declare_call : (callee : List ℕ) (arguments : List CExpr) (k m : ℕ) (rest : List CStmt) → Few m → m ≡ suc k → is_value (call_gives (known init) (scope m) callee arguments) ≡ true → run (DeclareCall Int64 (temporary m) callee arguments ∷ rest) (scope k) ≡ run rest (scope m)
  run_declare_call callee arguments k m rest few e h =
      ap (λ f. on_scope (f.behind (scope k)) (run rest)) (scoping-DeclareCall (known init) result.Int Int64 (temporary m) callee arguments)
      ∙ ap (λ o. on_scope (initialized o (λ i. is_value (call_gives (known init) i callee arguments))) (run rest)) (declares_next m k few e)
      ∙ ap (λ b. on_scope (kept_if b (scope m)) (run rest)) h

  run_call : (callee : List ℕ) (arguments : List CExpr) (k : ℕ) (rest : List CStmt) → is_call (call_gives (known init) (scope k) callee arguments) ≡ true → run (Call callee arguments ∷ rest) (scope k) ≡ run rest (scope k)
  run_call callee arguments k rest h =
      ap (λ f. on_scope (f.behind (scope k)) (run rest)) (scoping-Call (known init) result.Int callee arguments)
      ∙ ap (λ b. on_scope (kept_if b (scope k)) (run rest)) h

  helper_apart : (operator : Operator) → is_declared (helper operator) statics ≡ false
  helper_apart Add = refl
  helper_apart Subtract = refl
  helper_apart Multiply = refl

  helper_new : (operator : Operator) (k : ℕ) → is_declared (helper operator) (entries k) ≡ false
  helper_new Add k = not_declared (codes "f_add") k
  helper_new Subtract k = not_declared (codes "f_sub") k
  helper_new Multiply k = not_declared (codes "f_mul") k

  two_typed : (l r m : ℕ) → Few m → 1 ≤ l → l ≤ m → 1 ≤ r → r ≤ m → map (type_of (scope m)) (temporary_value l ∷ temporary_value r ∷ []) ≡ Object Int64 ∷ Object Int64 ∷ []
  two_typed l r m few a b c d = ap (λ t. t ∷ type_of (scope m) (temporary_value r) ∷ []) (value_typed l m few a b) ∙ ap (λ t. Object Int64 ∷ t ∷ []) (value_typed r m few c d)

  one_typed : (l m : ℕ) → Few m → 1 ≤ l → l ≤ m → map (type_of (scope m)) (temporary_value l ∷ []) ≡ Object Int64 ∷ []
  one_typed l m few a b = ap (λ t. t ∷ []) (value_typed l m few a b)

  run_computed : (operator : Operator) (l r k m : ℕ) (rest : List CStmt) → Few m → m ≡ suc k → 1 ≤ l → l ≤ k → 1 ≤ r → r ≤ k → run (computed operator l r m ∷ rest) (scope k) ≡ run rest (scope m)
  run_computed operator l r k m rest few e a b c d =
      run_declare_call (helper operator) (temporary_value l ∷ temporary_value r ∷ []) k m rest few e (ap is_value (call_given m (helper operator) (temporary_value l ∷ temporary_value r ∷ []) (helper_signature operator) (Object Int64 ∷ Object Int64 ∷ []) (helper_new operator m) (helper_apart operator) (found.operation operator) (two_typed l r m few a (omega arith) c (omega arith))))

  run_fitted : (l k m : ℕ) (rest : List CStmt) → Few m → m ≡ suc k → 1 ≤ l → l ≤ k → run (fitted l m ∷ rest) (scope k) ≡ run rest (scope m)
  run_fitted l k m rest few e a b =
      run_declare_call (codes "lf_fit") (temporary_value l ∷ []) k m rest few e (ap is_value (call_given m (codes "lf_fit") (temporary_value l ∷ []) fit_signature (Object Int64 ∷ []) (not_declared (codes "f_fit") m) refl found.fit (one_typed l m few a (omega arith))))

  run_assign : (target value : CExpr) (k : ℕ) (rest : List CStmt) → may_assign (type_of (scope k) target) (type_of (scope k) value) ≡ true → run (Assign target value ∷ rest) (scope k) ≡ run rest (scope k)
  run_assign target value k rest h =
      ap (λ f. on_scope (f.behind (scope k)) (run rest)) (scoping-Assign (known init) result.Int target value)
      ∙ ap (λ b. on_scope (kept_if b (scope k)) (run rest)) h

  -- the objects of the prelude behind the temporaries
  static_typed : (rest : List ℕ) (k : ℕ) → first_or (first_or Ill (108 ∷ rest) statics) (108 ∷ rest) (entries k) ≡ first_or Ill (108 ∷ rest) statics
  static_typed rest zero = refl
  static_typed rest (suc k) = static_typed rest k

  run_noted : (k : ℕ) (rest : List CStmt) → run (noted location ++ rest) (scope k) ≡ run rest (scope k)
  run_noted k rest =
      run_assign (Variable (codes "lf_name")) (Text location.source) k (Assign (Variable (codes "lf_line")) (Constant location.line) ∷ rest)
      (ap (λ t. may_assign t (type_of (scope k) (Text location.source))) (type_of-Variable (scope k) (codes "lf_name") ∙ static_typed (codes "f_name") k) ∙ ap (λ t. may_assign (Leads Byte) t) (type_of-Literal (scope k) location.source))
      ∙ run_assign (Variable (codes "lf_line")) (Constant location.line) k rest
      (ap (λ t. may_assign t (type_of (scope k) (Constant location.line))) (type_of-Variable (scope k) (codes "lf_line") ∙ static_typed (codes "f_line") k) ∙ ap (λ t. may_assign (Object Int64) t) (type_of-Constant (scope k) location.line))

  run_operation : (operator : Operator) (l r k : ℕ) → Few (k + 2) → 1 ≤ l → l ≤ k → 1 ≤ r → r ≤ k → run (operation location operator l r k) (scope k) ≡ Some (scope (k + 2))
  run_operation operator l r k few a b c d =
      run_noted k (computed operator l r (k + 1) ∷ noted location ++ fitted (k + 1) (k + 2) ∷ [])
      ∙ run_computed operator l r k (k + 1) (noted location ++ fitted (k + 1) (k + 2) ∷ []) (omega (arith, few)) (omega arith) a b c d
      ∙ run_noted (k + 1) (fitted (k + 1) (k + 2) ∷ [])
      ∙ run_fitted (k + 1) (k + 1) (k + 2) [] few (omega arith) (omega arith) (omega arith)

  run_append : (xs ys : List CStmt) (s t : Scope) → run xs s ≡ Some t → run (xs ++ ys) s ≡ run ys t
  run_append xs ys s t h = ap (λ l. in_turn l s) (map-append main_step xs ys) ∙ in_turn_append (map main_step xs) (map main_step ys) s ∙ ap (λ o. on_scope o (run ys)) h

  some : (t : Tree) → 1 ≤ count t
  some (Literal v) = omega arith
  some (Binary operator l r) = omega arith

  run_lowered : (t : Tree) (behind : ℕ) → behind + count t < 2 ^ 71 → run (lowered location t behind) (scope behind) ≡ Some (scope (behind + count t))
  run_lowered (Literal v) behind few = run_constant v behind (behind + 1) [] (omega (arith, few)) (omega arith)
  run_lowered (Binary operator l r) behind few =
      let m : ℕ = behind + count l in
      let k : ℕ = m + count r in
      let a = some l in
      let b = some r in
      let all : k + 2 ≡ behind + count (Binary operator l r) = omega arith in
      run_append (lowered location l behind) (lowered location r m ++ operation location operator m k k) (scope behind) (scope m) (run_lowered l behind (omega (arith, few)))
      ∙ run_append (lowered location r m) (operation location operator m k k) (scope m) (scope k) (run_lowered r m (omega (arith, few)))
      ∙ run_operation operator m k k (omega (arith, few)) (omega arith) (omega arith) (omega arith) (omega arith)
      ∙ ap (λ i. Some (scope i)) all

  run_ends : (k : ℕ) → Few k → 1 ≤ k → run (printing_ends k) (scope k) ≡ Some (scope k)
  run_ends k few l =
      let place = type_of-Address (scope k) (Variable (codes "r1")) ∙ ap address_of (type_of-Variable (scope k) (codes "r1") ∙ record_typed k _) in
      let gap = call_given k (codes "lf_gap") (Address (Variable (codes "r1")) ∷ Constant 1 ∷ []) gap_signature (Leads Int64 ∷ Number ∷ []) (not_declared (codes "f_gap") k) refl found.gap (ap (λ t. t ∷ type_of (scope k) (Constant 1) ∷ []) place ∙ ap (λ t. Leads Int64 ∷ t ∷ []) (type_of-Constant (scope k) 1)) in
      let int = call_given k (codes "lf_int") (temporary_value k ∷ []) int_signature (Object Int64 ∷ []) (not_declared (codes "f_int") k) refl found.int (one_typed k k few l (omega arith)) in
      run_call (codes "lf_gap") (Address (Variable (codes "r1")) ∷ Constant 1 ∷ []) k (Call (codes "lf_int") (temporary_value k ∷ []) ∷ Call (codes "putchar") (Constant 10 ∷ []) ∷ []) (ap is_call gap)
      ∙ run_call (codes "lf_int") (temporary_value k ∷ []) k (Call (codes "putchar") (Constant 10 ∷ []) ∷ []) (ap is_call int)
      ∙ run_call (codes "putchar") (Constant 10 ∷ []) k [] (ap is_call (call_given k (codes "putchar") (Constant 10 ∷ []) putchar_signature (Number ∷ []) (no_putchar k) refl found.putchar (ap (λ t. t ∷ []) (type_of-Constant (scope k) 10))))

  run_begins : run printing_begins outer ≡ Some (scope 0)
  run_begins = let putchar = found.putchar in simp (links, putchar) refl

  few_wide : (n : ℕ) → n < 2 ^ 70 → Few n
  few_wide n h = omega (arith, h)

  run_printed : (t : Tree) → count t < 2 ^ 70 → run (printed location t) outer ≡ Some (scope (count t))
  run_printed t few =
      let from : 0 + count t ≡ count t = omega arith in
      run_append (printing_begins ++ lowered location t 0) (printing_ends (count t)) outer (scope (count t)) (run_append printing_begins (lowered location t 0) outer (scope 0) run_begins ∙ run_lowered t 0 (omega (arith, few)) ∙ ap (λ i. Some (scope i)) from)
      ∙ run_ends (count t) (few_wide (count t) few) (some t)

  calls_init : call_gives (known init) outer init [] ≡ Some result.Void
  calls_init = ap (λ b. cond b None (given_by (signature_of init (known init)) [])) found.apart ∙ ap (λ o. given_by o []) found.itself

  body_right : (body : List CStmt) (s : Scope) → run body outer ≡ Some s → run (Call init [] ∷ Block body ∷ ReturnValue (Constant 0) ∷ []) outer ≡ Some outer
  body_right body s h =
      let last : List CStmt = ReturnValue (Constant 0) ∷ [] in
      ap (λ f. on_scope (f.behind outer) (run (Block body ∷ last))) (scoping-Call (known init) result.Int init [])
      ∙ ap (λ r. on_scope (kept_if (is_call r) outer) (run (Block body ∷ last))) calls_init
      ∙ ap (λ f. on_scope (f.behind outer) (run last)) (scoping-Block (known init) result.Int body)
      ∙ ap (λ o. on_scope (kept_if (is_right o) outer) (run last)) h
      ∙ ap (λ f. on_scope (f.behind outer) (run [])) (scoping-ReturnValue (known init) result.Int (Constant 0))
      ∙ ap (λ t. on_scope (kept_if (is_number t) outer) (run [])) (type_of-Constant outer 0)

return_right : (functions : List Signature) → is_right_body (known_functions functions) result.Void [] (Return ∷ []) ≡ true
return_right functions = ap (λ f. is_right (on_scope (f.behind outer) (in_turn []))) (scoping-Return functions result.Void)

three_right : (init : List ℕ) (body : List CStmt) → signature_of init before ≡ None → is_right_body (known_functions (known init)) result.Int [] body ≡ true → bytes_eq (codes "main") init ≡ false → is_declared init statics ≡ false → is_reserved init ≡ false → are_right (Prototype result.Void init [] ∷ Function false result.Void init [] (Return ∷ []) ∷ Function false result.Int (codes "main") [] body ∷ []) behind_prelude ≡ true
three_right init body new right other apart free = simp (apart, free, new, same_name init, return_right (init_signature init ∷ init_signature init ∷ before), other, right) refl

pub items_linked : (location : Location) (source : Source) → count source.value < 2 ^ 70 → length source.name < 2 ^ 64 → are_right (lowered_items location source) behind_prelude ≡ true
items_linked location source few short =
    let d = decimal_begins (length source.name) short in
    let is : init_name source.name ≡ init_with (d.first ∷ d.rest) source.name = ap (λ ds. init_with ds source.name) d.is in
    let new = ap (λ i. signature_of i before) is ∙ unknown d.first d.rest source.name d.small in
    let found = subst Finds (sym is) (finds d.first d.rest source.name d.small) in
    let right = ap is_right (body_right location (init_name source.name) found (printed location source.value) (scope (count source.value)) (run_printed location (init_name source.name) found source.value few)) in
    three_right (init_name source.name) (main_body location source) new right refl found.apart refl

pub file_linked : (location : Location) (source : Source) → count source.value < 2 ^ 70 → length source.name < 2 ^ 64 → is_right_file (lowered_file location source) ≡ true
file_linked location source few short = prelude_right (lowered_items location source) ∙ items_linked location source few short

once_in : (c : ℕ) (ds name : List ℕ) (body : List CStmt) → c ≤ 57 → are_distinct (library ++ functions_of (record { items = prelude_items ++ (Prototype result.Void (init_with (c ∷ ds) name) [] ∷ Function false result.Void (init_with (c ∷ ds) name) [] (Return ∷ []) ∷ Function false result.Int (codes "main") [] body ∷ []) })) ≡ true
once_in c ds name body h = simp (no_digit 97 c h (omega arith), no_digit 99 c h (omega arith), no_digit 100 c h (omega arith), no_digit 101 c h (omega arith), no_digit 102 c h (omega arith), no_digit 103 c h (omega arith), no_digit 105 c h (omega arith), no_digit 106 c h (omega arith), no_digit 109 c h (omega arith), no_digit 110 c h (omega arith), no_digit 111 c h (omega arith), no_digit 112 c h (omega arith), no_digit 114 c h (omega arith), no_digit 115 c h (omega arith), no_digit 116 c h (omega arith), no_digit 122 c h (omega arith)) refl

once_of : (location : Location) (source : Source) → length source.name < 2 ^ 64 → are_distinct (library ++ functions_of (lowered_file location source)) ≡ true
once_of location source short =
    let d = decimal_begins (length source.name) short in
    let is : init_name source.name ≡ init_with (d.first ∷ d.rest) source.name = ap (λ ds. init_with ds source.name) d.is in
    ap (λ i. are_distinct (library ++ functions_of (record { items = prelude_items ++ (Prototype result.Void i [] ∷ Function false result.Void i [] (Return ∷ []) ∷ Function false result.Int (codes "main") [] (main_body location source) ∷ []) }))) is
    ∙ once_in d.first d.rest source.name (main_body location source) d.small

-- what the file's functions call is defined
abbrev there : Location → Source → List ℕ → Bool
there location source = is_defined (lowered_file location source ∷ []) (lowered_file location source)

prelude_calls : (location : Location) (source : Source) → list_all (item_calls_only (there location source)) prelude_items ≡ true
prelude_calls location source = simp callings refl

init_there : (location : Location) (source : Source) → there location source (init_name source.name) ≡ true
init_there location source =
    let init = init_name source.name in
    ap (λ b. (has_name init library || has_name init (functions_of (lowered_file location source))) || (b || has_name init (signature result.Int (codes "main") [] ∷ []))) (same_name init)
    ∙ or_true (has_name init library || has_name init (functions_of (lowered_file location source)))

helper_there : (location : Location) (source : Source) (operator : Operator) → there location source (helper operator) ≡ true
helper_there location source Add = refl
helper_there location source Subtract = refl
helper_there location source Multiply = refl

operation_there : (location : Location) (source : Source) (operator : Operator) (l r k : ℕ) → list_all (calls_only (there location source)) (operation location operator l r k) ≡ true
operation_there location source operator l r k = simp callings (ap (λ b. b && (there location source (codes "lf_fit") && true)) (helper_there location source operator))

there_append : (location : Location) (source : Source) (xs ys : List CStmt) → list_all (calls_only (there location source)) xs ≡ true → list_all (calls_only (there location source)) ys ≡ true → list_all (calls_only (there location source)) (xs ++ ys) ≡ true
there_append location source xs ys h k = list_all-append (calls_only (there location source)) xs ys ∙ ap (λ b. b && list_all (calls_only (there location source)) ys) h ∙ k

lowered_there : (location : Location) (source : Source) (t : Tree) (behind : ℕ) → list_all (calls_only (there location source)) (lowered location t behind) ≡ true
lowered_there location source (Literal v) behind = simp callings refl
lowered_there location source (Binary operator l r) behind =
    let m : ℕ = behind + count l in
    let k : ℕ = m + count r in
    there_append location source (lowered location l behind) (lowered location r m ++ operation location operator m k k) (lowered_there location source l behind) (there_append location source (lowered location r m) (operation location operator m k k) (lowered_there location source r m) (operation_there location source operator m k k))

printed_there : (location : Location) (source : Source) (t : Tree) → list_all (calls_only (there location source)) (printed location t) ≡ true
printed_there location source t = there_append location source (printing_begins ++ lowered location t 0) (printing_ends (count t)) (there_append location source printing_begins (lowered location t 0) (simp callings refl) (lowered_there location source t 0)) (simp callings refl)

body_there : (location : Location) (source : Source) (init : List ℕ) (body : List CStmt) → there location source init ≡ true → list_all (λ b. b) (map (calls_only (there location source)) body) ≡ true → list_all (calls_only (there location source)) (Call init [] ∷ Block body ∷ ReturnValue (Constant 0) ∷ []) ≡ true
body_there location source init body h k = simp (callings, h, k) refl

items_there : (location : Location) (source : Source) (init : List ℕ) (body : List CStmt) → list_all (calls_only (there location source)) body ≡ true → list_all (item_calls_only (there location source)) (Prototype result.Void init [] ∷ Function false result.Void init [] (Return ∷ []) ∷ Function false result.Int (codes "main") [] body ∷ []) ≡ true
items_there location source init body h = simp (callings, h) refl

defined_of : (location : Location) (source : Source) → list_all (item_calls_only (there location source)) (lowered_file location source).items ≡ true
defined_of location source =
    let right = list_all-map (λ b. b) (calls_only (there location source)) (printed location source.value) ∙ printed_there location source source.value in
    let body = body_there location source (init_name source.name) (printed location source.value) (init_there location source) right in
    list_all-append (item_calls_only (there location source)) prelude_items (lowered_items location source)
    ∙ ap (λ b. b && list_all (item_calls_only (there location source)) (lowered_items location source)) (prelude_calls location source)
    ∙ items_there location source (init_name source.name) (main_body location source) body

agreed_of : (location : Location) (source : Source) → are_agreed (shown_in (lowered_file location source ∷ [])) ≡ true
agreed_of location source = simp (same_name (init_name source.name)) refl

pub linked : (location : Location) (source : Source) → count source.value < 2 ^ 70 → length source.name < 2 ^ 64 → IsProgram (lowered_file location source ∷ [])
linked location source few short = record {
  right = ap (λ b. b && true) (file_linked location source few short);
  objects = refl;
  apart = refl;
  same = refl;
  structures = refl;
  used = ap (λ b. b && true) (file_linked location source few short);
  jumps = ap (λ b. b && true) (jumps_of location source);
  once = ap (λ b. b && true) (once_of location source short);
  external = refl;
  agreed = agreed_of location source;
  defined = ap (λ b. b && true) (defined_of location source);
  main = refl;
}

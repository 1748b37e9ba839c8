-- Larger bounds keep the end of a program, and never shorten what it writes.
use Rattle.std.proofs.Common.{◌≡◌, ℕ, ℤ, suc, ◌+◌, ◌≤◌, ◌+ℤ◌, pos, Bool, true, false, ◌==◌, if◌then◌else◌, List, [], ◌∷◌, map, Option, Some, None, Ok, codes, refl, sym, subst, le_refl, ap}
use Rattle.lf_base.specs.Outcome.{Location, Stuck, written}
use Rattle.lf_base.specs.Acts.{bind, give, look, change, print, wrong, next_or}
use Rattle.lf_base.specs.Near.{IsMonotone}
use Rattle.lf_base.proofs.Monotone.{outcomes_monotone}
use Rattle.ast_nodes.specs.declared.code.TheConstants.{FORMAT_LIST, FORMAT_INTEGER}
use Rattle.ast_nodes.specs.declared.expression.Expr.{Expr}
use Rattle.ast_nodes.specs.declared.file.File.{File}
use Rattle.ast_nodes.specs.declared.file.Unit.{Unit as ProgramUnit}
use Rattle.ast_nodes.specs.declared.file.Unit.TheVariants as unit
use Rattle.ast_nodes.specs.declared.statement.Arm.{Arm, Arm-F, map-Arm, roll-Arm, fold-Arm, fold-roll-Arm}
use Rattle.ast_nodes.specs.declared.statement.Case.{Case, fold-Case}
use Rattle.ast_nodes.specs.declared.statement.Statement.{Statement, Statement-F, map-Statement, roll-Statement, fold-roll-Statement, ind-Statement}
use Rattle.type_rules.specs.Arrays.{single}
use Rattle.type_rules.specs.Bindings.{Binding}
use Rattle.type_rules.specs.Counts.{turns}
use Rattle.type_rules.specs.Store.{Value, Single}
use Rattle.type_rules.specs.Values.{Scalar, Integer, Evaluation, Gives, Traps, NoRule, fitted}
use Rattle.asr_nodes.specs.declared.code.TheConstants.{FALSE}
use Rattle.asr_semantics.specs.Machine.{M, Last, Nothing, result, stuck, variable, fetch, assign, create, declare_static, whole}
use Rattle.asr_semantics.specs.Meaning.{Signal, Exits, Cycles, Doing, choose, then_next, do_turns, tested, integer4_of, integer_of, truth_of, status_of, at, print_items, print_list, print_digits, put_each, then_step, turn_of, exits, cycles, stepped}
use Rattle.asr_semantics.specs.Records.{put_item, digits, begin_record, end_record, advance_record}
use Rattle.asr_semantics.proofs.Longer.{Longer, bind_longer, give_longer, look_longer, change_longer, print_longer, stop_longer, wrong_longer, stuck_longer, result_longer, next_longer, iterate_longer, counted_longer, landing_longer, fetch_longer, assign_longer, item_longer}
use Rattle.fortran_semantics.specs.Declared.{Declared, Declaration, Variable, Parameter, Other, all_declared, declared_as}
use Rattle.fortran_semantics.specs.Meaning.{Meant, Known, Branch, Deed, Loops, count_all, count_branches, within_loop, loop_of, signals, converted, bound_value, step_value, condition_value, assigns, stops, plain_status, statements, branches, known_behind, entry_of, path_to, expression, designated, maybe, print_item, beginning, begin_with, begin_one, begin_all, do_loop, while_loop, stmt_layer, arm_layer, case_layer, statement, block, ended, run_unit, initial, fortran_meaning}
use Rattle.fortran_semantics.proofs.Fine.{Fine, expr_fine, designator_fine, name_fine, converted_fine}

pub record LongerDeed (a b : Deed) : Type 0 where
  pub count : b.count ≡ a.count
  pub does : (loops : Loops) (first : ℕ) (source : List ℕ) → Longer (Option Signal) (a.does loops first source) (b.does loops first source)

pub record LongerBranch (a b : Branch) : Type 0 where
  pub line : b.line ≡ a.line
  pub condition : b.condition ≡ a.condition
  pub fine : (m : Meant) → a.condition ≡ Some m → Fine m
  pub count : count_all b.body ≡ count_all a.body
  pub body : (loops : Loops) (first : ℕ) (source : List ℕ) → Longer (Option Signal) (statements loops first source a.body) (statements loops first source b.body)

plain_longer : (act : List ℕ → Doing) → ((source : List ℕ) → Longer (Option Signal) (act source) (act source)) → LongerDeed (record { count = 0; does = λ loops first source. act source }) (record { count = 0; does = λ loops first source. act source })
plain_longer act h = record { count = refl; does = λ loops first source. h source }

signals_fine : (o : Option ℕ) (signal : ℕ → Signal) → Longer (Option Signal) (signals o signal) (signals o signal)
signals_fine o signal = bind_longer ℕ (Option Signal) (stuck o) (stuck o) _ _ (stuck_longer ℕ o) (λ id. give_longer (Option Signal) (Some (signal id)))

next_fine : (act : M (Unit {0})) → Longer (Unit {0}) act act → Longer (Option Signal) (then_next act) (then_next act)
next_fine act h = bind_longer (Unit {0}) (Option Signal) act act _ _ h (λ u. give_longer (Option Signal) None)

tested_fine : (m : Meant) → Fine m → (here : Location) → Longer Bool (tested m.value here) (tested m.value here)
tested_fine m h here = bind_longer Value Bool (m.value here) (m.value here) _ _ (h.value here) (λ v. stuck_longer Bool (truth_of v))

condition_fine : (o : Option Meant) → ((m : Meant) → o ≡ Some m → Fine m) → (here : Location) → Longer Bool (condition_value o here) (condition_value o here)
condition_fine None h here = give_longer Bool true
condition_fine (Some m) h here = tested_fine m (h m refl) here

bound_fine : (m : Meant) → Fine m → (here : Location) → Longer ℤ (bound_value m here) (bound_value m here)
bound_fine m h here = bind_longer Value ℤ (converted 4 m here) (converted 4 m here) _ _ (converted_fine 4 m h here) (λ v. stuck_longer ℤ (integer4_of v))

step_fine : (o : Option Meant) → ((m : Meant) → o ≡ Some m → Fine m) → (here : Location) → Longer ℤ (step_value o here) (step_value o here)
step_fine None h here = give_longer ℤ (pos 1)
step_fine (Some m) h here = bound_fine m (h m refl) here

stepped_fine : (here : Location) (b : Binding) (step : ℤ) → Longer (Unit {0}) (stepped here b step) (stepped here b step)
stepped_fine here b step =
    bind_longer Value (Unit {0}) (fetch b) (fetch b) _ _ (fetch_longer b)
    (λ v. bind_longer ℤ (Unit {0}) (stuck (integer4_of v)) (stuck (integer4_of v)) _ _ (stuck_longer ℤ (integer4_of v))
    (λ z. bind_longer Value (Unit {0}) (result here (single (fitted 4 (Ok (z +ℤ step))))) (result here (single (fitted 4 (Ok (z +ℤ step))))) (assign b) (assign b) (result_longer Value here (single (fitted 4 (Ok (z +ℤ step))))) (assign_longer b)))

then_fine : (here : Location) (b : Binding) (step : ℤ) (o : Option Signal) → Longer (Option Signal) (then_step here b step o) (then_step here b step o)
then_fine here b step None = next_fine (stepped here b step) (stepped_fine here b step)
then_fine here b step (Some signal) = give_longer (Option Signal) (Some signal)

turn_longer : (construct : ℕ) (body body' : Doing) → Longer (Option Signal) body body' → Longer (Option Signal) (turn_of construct body) (turn_of construct body')
turn_longer construct body body' k = bind_longer (Option Signal) (Option Signal) body body' _ _ k (landing_longer Signal (cycles construct))

choose_longer : (a b a' b' : Doing) → Longer (Option Signal) a a' → Longer (Option Signal) b b' → (t : Bool) → Longer (Option Signal) (choose a b t) (choose a' b' t)
choose_longer a b a' b' k l true = k
choose_longer a b a' b' k l false = l

assigns_fine : (here : Location) (target value : Meant) → Fine target → Fine value → Longer (Unit {0}) (assigns here target value) (assigns here target value)
assigns_fine here target value h k =
    bind_longer Value (Unit {0}) (value.value here) (value.value here) _ _ (k.value here) (λ v.
    bind_longer Value (Unit {0}) (result here (target.becomes v)) (result here (target.becomes v)) _ _ (result_longer Value here (target.becomes v)) (λ w.
    bind_longer Binding (Unit {0}) target.place target.place _ _ h.place (λ b. assign_longer b w)))

stops_fine : (here : Location) (is_error : ℕ) (o : Option Meant) → ((m : Meant) → o ≡ Some m → Fine m) → Longer (Option Signal) (stops here is_error o) (stops here is_error o)
stops_fine here is_error None h = stop_longer (Option Signal) (plain_status is_error)
stops_fine here is_error (Some m) h =
    bind_longer Value (Option Signal) (m.value here) (m.value here) _ _ ((h m refl).value here) (λ v.
    bind_longer ℤ (Option Signal) (stuck (integer_of v)) (stuck (integer_of v)) _ _ (stuck_longer ℤ (integer_of v)) (λ z. stop_longer (Option Signal) (status_of z)))

end_fine : Longer (Unit {0}) end_record end_record
end_fine = print_longer (codes "\n")

advance_fine : (advance : ℕ) → Longer (Unit {0}) (advance_record advance) (advance_record advance)
advance_fine advance = by (advance == FALSE)
  where
    by : (t : Bool) → Longer (Unit {0}) (if t then end_record else give tt) (if t then end_record else give tt)
    by true = end_fine
    by false = give_longer (Unit {0}) tt

ended_longer : (o : Option Signal) → Longer ℕ (ended o) (ended o)
ended_longer None = give_longer ℕ 0
ended_longer (Some signal) = wrong_longer ℕ

module _ (unit_name : List ℕ) (declared : List Declared) (known : Known) where
  maybe_fine : (o : Option Expr) (m : Meant) → maybe unit_name declared known o ≡ Some m → Fine m
  maybe_fine None m q = absurd (cc)
  maybe_fine (Some e) m q = subst Fine (some_same q) (expr_fine unit_name declared known e)
    where
      some_same : Some (expression unit_name declared known e) ≡ Some m → expression unit_name declared known e ≡ m
      some_same q = cc

  puts_fine : (here : Location) (last : Last) (es : List Expr) → Longer (Unit {0}) (put_each here last (map (print_item unit_name declared known) es)) (put_each here last (map (print_item unit_name declared known) es))
  puts_fine here last [] = give_longer (Unit {0}) tt
  puts_fine here last (e ∷ es) =
      bind_longer Value (Unit {0}) _ _ _ _ ((expr_fine unit_name declared known e).value here) (λ x.
      bind_longer Last (Unit {0}) (put_item last x) (put_item last x) _ _ (item_longer last x) (λ next. puts_fine here next es))

  digits_fine : (here : Location) (advance : ℕ) (es : List Expr) → Longer (Unit {0}) (print_digits here advance (map (print_item unit_name declared known) es)) (print_digits here advance (map (print_item unit_name declared known) es))
  digits_fine here advance [] = wrong_longer (Unit {0})
  digits_fine here advance (e ∷ []) =
      bind_longer Value (Unit {0}) _ _ _ _ ((expr_fine unit_name declared known e).value here) (λ x.
      bind_longer (List ℕ) (Unit {0}) (stuck (digits x)) (stuck (digits x)) _ _ (stuck_longer (List ℕ) (digits x)) (λ text.
      bind_longer (Unit {0}) (Unit {0}) (print text) (print text) _ _ (print_longer text) (λ u. advance_fine advance)))
  digits_fine here advance (e ∷ f ∷ es) = wrong_longer (Unit {0})

  list_fine : (here : Location) (es : List Expr) → Longer (Unit {0}) (print_list here (map (print_item unit_name declared known) es)) (print_list here (map (print_item unit_name declared known) es))
  list_fine here es =
      bind_longer (Unit {0}) (Unit {0}) begin_record begin_record _ _ (print_longer (codes " ")) (λ u.
      bind_longer (Unit {0}) (Unit {0}) _ _ _ _ (puts_fine here Nothing es) (λ w. end_fine))

  items_fine : (here : Location) (form advance : ℕ) (es : List Expr) → Longer (Unit {0}) (print_items here form advance (map (print_item unit_name declared known) es)) (print_items here form advance (map (print_item unit_name declared known) es))
  items_fine here form advance es = by (form == FORMAT_LIST) (form == FORMAT_INTEGER)
    where
      by : (s t : Bool) → Longer (Unit {0}) (if s then print_list here (map (print_item unit_name declared known) es) else if t then print_digits here advance (map (print_item unit_name declared known) es) else wrong Stuck) (if s then print_list here (map (print_item unit_name declared known) es) else if t then print_digits here advance (map (print_item unit_name declared known) es) else wrong Stuck)
      by true t = list_fine here es
      by false true = digits_fine here advance es
      by false false = wrong_longer (Unit {0})

  with_fine : (name : List ℕ) (x : Evaluation Scalar) → Longer (Unit {0}) (begin_with unit_name declared known name x) (begin_with unit_name declared known name x)
  with_fine name (Gives scalar) =
      bind_longer ℕ (Unit {0}) (look (λ s. s.next)) (look (λ s. s.next)) _ _ (look_longer ℕ (λ s. s.next)) (λ instance.
      bind_longer (Unit {0}) (Unit {0}) (change (create (Single scalar))) (change (create (Single scalar))) _ _ (change_longer (create (Single scalar))) (λ u.
      change_longer (declare_static (path_to unit_name declared known name) (whole instance))))
  with_fine name (Traps cause) = wrong_longer (Unit {0})
  with_fine name NoRule = wrong_longer (Unit {0})

  one_fine : (before : Known) (d : Declared) (x : Declaration) → Longer (Unit {0}) (begin_one unit_name declared known before d x) (begin_one unit_name declared known before d x)
  one_fine before d (Variable ty init) = with_fine d.name (beginning unit_name declared known before ty init)
  one_fine before d (Parameter ty value) = give_longer (Unit {0}) tt
  one_fine before d Other = give_longer (Unit {0}) tt

  pub begin_fine : (ds : List Declared) (before : Known) → Longer (Unit {0}) (begin_all unit_name declared known ds before) (begin_all unit_name declared known ds before)
  begin_fine [] before = give_longer (Unit {0}) tt
  begin_fine (d ∷ ds) before = bind_longer (Unit {0}) (Unit {0}) _ _ _ _ (one_fine before d d.is) (λ u. begin_fine ds ((d.name, entry_of before d.is) ∷ before))

  module _ (n n' : ℕ) (le : n ≤ n') where
    abbrev s : Statement → Deed
    s = statement unit_name declared known n

    abbrev s' : Statement → Deed
    s' = statement unit_name declared known n'

    abbrev arm : Arm → Branch
    arm = fold-Arm Deed Branch (Unit {0}) (stmt_layer unit_name declared known n) (arm_layer unit_name declared known n) (case_layer unit_name declared known n)

    abbrev arm' : Arm → Branch
    arm' = fold-Arm Deed Branch (Unit {0}) (stmt_layer unit_name declared known n') (arm_layer unit_name declared known n') (case_layer unit_name declared known n')

    abbrev case : Case → Unit {0}
    case = fold-Case Deed Branch (Unit {0}) (stmt_layer unit_name declared known n) (arm_layer unit_name declared known n) (case_layer unit_name declared known n)

    abbrev case' : Case → Unit {0}
    case' = fold-Case Deed Branch (Unit {0}) (stmt_layer unit_name declared known n') (arm_layer unit_name declared known n') (case_layer unit_name declared known n')

    abbrev SS : Type 0
    SS = (x : Statement) × LongerDeed (s x) (s' x)

    abbrev SB : Type 0
    SB = (x : Arm) × LongerBranch (arm x) (arm' x)

    abbrev SC : Type 0
    SC = (x : Case) × Unit {0}

    counts_same : (xs : List SS) → count_all (map s' (map (λ x. x.0) xs)) ≡ count_all (map s (map (λ x. x.0) xs))
    counts_same [] = refl
    counts_same (x ∷ xs) = λ k. x.1.count k + counts_same xs k

    branch_counts : (xs : List SB) → count_branches (map arm' (map (λ x. x.0) xs)) ≡ count_branches (map arm (map (λ x. x.0) xs))
    branch_counts [] = refl
    branch_counts (x ∷ xs) = λ k. x.1.count k + branch_counts xs k

    each_longer : (loops : Loops) (first : ℕ) (source : List ℕ) (xs : List SS) → Longer (Option Signal) (statements loops first source (map s (map (λ x. x.0) xs))) (statements loops first source (map s' (map (λ x. x.0) xs)))
    each_longer loops first source [] = give_longer (Option Signal) None
    each_longer loops first source (x ∷ xs) =
        subst (λ c. Longer (Option Signal) (bind ((s x.0).does loops first source) (next_or (statements loops (first + (s x.0).count) source (map s (map (λ x. x.0) xs))))) (bind ((s' x.0).does loops first source) (next_or (statements loops (first + c) source (map s' (map (λ x. x.0) xs)))))) (sym x.1.count)
        (bind_longer (Option Signal) (Option Signal) ((s x.0).does loops first source) ((s' x.0).does loops first source) _ _ (x.1.does loops first source)
        (next_longer Signal (statements loops (first + (s x.0).count) source (map s (map (λ x. x.0) xs))) (statements loops (first + (s x.0).count) source (map s' (map (λ x. x.0) xs))) (each_longer loops (first + (s x.0).count) source xs)))

    branch_longer : (loops : Loops) (first : ℕ) (source : List ℕ) (a b : Branch) → LongerBranch a b → (rest rest' : Doing) → Longer (Option Signal) rest rest' → Longer (Option Signal) (bind (condition_value a.condition (at source a.line)) (choose (statements loops first source a.body) rest)) (bind (condition_value b.condition (at source b.line)) (choose (statements loops first source b.body) rest'))
    branch_longer loops first source a b h rest rest' k =
        subst (λ l. Longer (Option Signal) (bind (condition_value a.condition (at source a.line)) (choose (statements loops first source a.body) rest)) (bind (condition_value b.condition (at source l)) (choose (statements loops first source b.body) rest'))) (sym h.line)
        (subst (λ o. Longer (Option Signal) (bind (condition_value a.condition (at source a.line)) (choose (statements loops first source a.body) rest)) (bind (condition_value o (at source a.line)) (choose (statements loops first source b.body) rest'))) (sym h.condition)
        (bind_longer Bool (Option Signal) _ _ _ _ (condition_fine a.condition h.fine (at source a.line)) (choose_longer (statements loops first source a.body) rest (statements loops first source b.body) rest' (h.body loops first source) k)))

    branches_longer : (loops : Loops) (first : ℕ) (source : List ℕ) (xs : List SB) → Longer (Option Signal) (branches loops first source (map arm (map (λ x. x.0) xs))) (branches loops first source (map arm' (map (λ x. x.0) xs)))
    branches_longer loops first source [] = give_longer (Option Signal) None
    branches_longer loops first source (x ∷ xs) =
        branch_longer loops first source (arm x.0) (arm' x.0) x.1 _ _
        (subst (λ c. Longer (Option Signal) (branches loops (first + count_all (arm x.0).body) source (map arm (map (λ x. x.0) xs))) (branches loops (first + c) source (map arm' (map (λ x. x.0) xs)))) (sym x.1.count)
        (branches_longer loops (first + count_all (arm x.0).body) source xs))

    turns_longer : (here : Location) (id : ℕ) (body body' : Doing) → Longer (Option Signal) body body' → (b : Binding) (first step : ℤ) (count : ℕ) → Longer (Option Signal) (do_turns n here id body b first step count) (do_turns n' here id body' b first step count)
    turns_longer here id body body' k b first step count =
        bind_longer (Unit {0}) (Option Signal) (assign b (Single (Integer 4 first))) (assign b (Single (Integer 4 first))) _ _ (assign_longer b (Single (Integer 4 first)))
        (λ u. bind_longer (Option Signal) (Option Signal) _ _ _ _
        (counted_longer Signal count n n' le _ _ (bind_longer (Option Signal) (Option Signal) _ _ _ _ (turn_longer id body body' k) (then_fine here b step)))
        (landing_longer Signal (exits id)))

    do_longer : (here : Location) (id : ℕ) (place : M Binding) → Longer Binding place place → (lower upper : Expr) (step : Option Expr) (body body' : Doing) → Longer (Option Signal) body body' → Longer (Option Signal) (do_loop unit_name declared known n here id place (expression unit_name declared known lower) (expression unit_name declared known upper) (maybe unit_name declared known step) body) (do_loop unit_name declared known n' here id place (expression unit_name declared known lower) (expression unit_name declared known upper) (maybe unit_name declared known step) body')
    do_longer here id place f lower upper step body body' k =
        bind_longer ℤ (Option Signal) _ _ _ _ (bound_fine (expression unit_name declared known lower) (expr_fine unit_name declared known lower) here) (λ first.
        bind_longer ℤ (Option Signal) _ _ _ _ (bound_fine (expression unit_name declared known upper) (expr_fine unit_name declared known upper) here) (λ last.
        bind_longer ℤ (Option Signal) _ _ _ _ (step_fine (maybe unit_name declared known step) (maybe_fine step) here) (λ by.
        bind_longer ℕ (Option Signal) (result here (turns first last by)) (result here (turns first last by)) _ _ (result_longer ℕ here (turns first last by)) (λ count.
        bind_longer Binding (Option Signal) place place _ _ f (λ b. turns_longer here id body body' k b first by count)))))

    while_longer : (here : Location) (id : ℕ) (condition : Option Expr) (body body' : Doing) → Longer (Option Signal) body body' → Longer (Option Signal) (while_loop unit_name declared known n here id (maybe unit_name declared known condition) body) (while_loop unit_name declared known n' here id (maybe unit_name declared known condition) body')
    while_longer here id condition body body' k =
        bind_longer (Option Signal) (Option Signal) _ _ _ _ (iterate_longer Signal n n' le _ _ _ _ (condition_fine (maybe unit_name declared known condition) (maybe_fine condition) here) (turn_longer id body body' k)) (landing_longer Signal (exits id))

    at_stmt : (y : Statement-F SS SB SC) → LongerDeed (stmt_layer unit_name declared known n (map-Statement Statement Arm Case Deed Branch (Unit {0}) s arm case (map-Statement SS SB SC Statement Arm Case (λ x. x.0) (λ x. x.0) (λ x. x.0) y))) (stmt_layer unit_name declared known n' (map-Statement Statement Arm Case Deed Branch (Unit {0}) s' arm' case' (map-Statement SS SB SC Statement Arm Case (λ x. x.0) (λ x. x.0) (λ x. x.0) y)))
    at_stmt (Statement-F.Assign line target value) = plain_longer _ (λ source. next_fine _ (assigns_fine (at source line) (designated unit_name declared known target) (expression unit_name declared known value) (designator_fine unit_name declared known target) (expr_fine unit_name declared known value)))
    at_stmt (Statement-F.If line construct arms) = record { count = branch_counts arms; does = λ loops first source. branches_longer loops first source arms }
    at_stmt (Statement-F.Do line construct variable lower upper step body) = record {
      count = ap suc (counts_same body);
      does = λ loops first source. do_longer (at source line) first _ (name_fine unit_name declared known variable (declared_as declared variable)).place lower upper step _ _ (each_longer (within_loop construct loops first) (suc first) source body);
    }
    at_stmt (Statement-F.While line construct condition body) = record {
      count = ap suc (counts_same body);
      does = λ loops first source. while_longer (at source line) first condition _ _ (each_longer (within_loop construct loops first) (suc first) source body);
    }
    at_stmt (Statement-F.Print line form advance items) = plain_longer _ (λ source. next_fine _ (items_fine (at source line) form advance items))
    at_stmt (Statement-F.Stop line is_error code) = plain_longer _ (λ source. stops_fine (at source line) is_error (maybe unit_name declared known code) (maybe_fine code))
    at_stmt (Statement-F.Exit line construct) = record { count = refl; does = λ loops first source. signals_fine (loop_of loops construct) Exits }
    at_stmt (Statement-F.Cycle line construct) = record { count = refl; does = λ loops first source. signals_fine (loop_of loops construct) Cycles }
    at_stmt (Statement-F.Continue line) = plain_longer _ (λ source. give_longer (Option Signal) None)
    at_stmt (Statement-F.Select line construct value cases) = plain_longer _ (λ source. wrong_longer (Option Signal))
    at_stmt (Statement-F.Call line name arguments) = plain_longer _ (λ source. wrong_longer (Option Signal))
    at_stmt (Statement-F.Read line target iostat) = plain_longer _ (λ source. wrong_longer (Option Signal))
    at_stmt (Statement-F.Return line) = plain_longer _ (λ source. wrong_longer (Option Signal))

    at_arm : (y : Arm-F SS SB SC) → LongerBranch (arm_layer unit_name declared known n (map-Arm Statement Arm Case Deed Branch (Unit {0}) s arm case (map-Arm SS SB SC Statement Arm Case (λ x. x.0) (λ x. x.0) (λ x. x.0) y))) (arm_layer unit_name declared known n' (map-Arm Statement Arm Case Deed Branch (Unit {0}) s' arm' case' (map-Arm SS SB SC Statement Arm Case (λ x. x.0) (λ x. x.0) (λ x. x.0) y)))
    at_arm y = record { line = refl; condition = refl; fine = maybe_fine y.condition; count = counts_same y.body; body = λ loops first source. each_longer loops first source y.body }

    layer_stmt : (y : Statement-F SS SB SC) → LongerDeed (s (roll-Statement (map-Statement SS SB SC Statement Arm Case (λ x. x.0) (λ x. x.0) (λ x. x.0) y))) (s' (roll-Statement (map-Statement SS SB SC Statement Arm Case (λ x. x.0) (λ x. x.0) (λ x. x.0) y)))
    layer_stmt y =
        subst (λ a. LongerDeed a (s' (roll-Statement (map-Statement SS SB SC Statement Arm Case (λ x. x.0) (λ x. x.0) (λ x. x.0) y))))
        (sym (fold-roll-Statement Deed Branch (Unit {0}) (stmt_layer unit_name declared known n) (arm_layer unit_name declared known n) (case_layer unit_name declared known n) (map-Statement SS SB SC Statement Arm Case (λ x. x.0) (λ x. x.0) (λ x. x.0) y)))
        (subst (LongerDeed _)
        (sym (fold-roll-Statement Deed Branch (Unit {0}) (stmt_layer unit_name declared known n') (arm_layer unit_name declared known n') (case_layer unit_name declared known n') (map-Statement SS SB SC Statement Arm Case (λ x. x.0) (λ x. x.0) (λ x. x.0) y)))
        (at_stmt y))

    layer_arm : (y : Arm-F SS SB SC) → LongerBranch (arm (roll-Arm (map-Arm SS SB SC Statement Arm Case (λ x. x.0) (λ x. x.0) (λ x. x.0) y))) (arm' (roll-Arm (map-Arm SS SB SC Statement Arm Case (λ x. x.0) (λ x. x.0) (λ x. x.0) y)))
    layer_arm y =
        subst (λ a. LongerBranch a (arm' (roll-Arm (map-Arm SS SB SC Statement Arm Case (λ x. x.0) (λ x. x.0) (λ x. x.0) y))))
        (sym (fold-roll-Arm Deed Branch (Unit {0}) (stmt_layer unit_name declared known n) (arm_layer unit_name declared known n) (case_layer unit_name declared known n) (map-Arm SS SB SC Statement Arm Case (λ x. x.0) (λ x. x.0) (λ x. x.0) y)))
        (subst (LongerBranch _)
        (sym (fold-roll-Arm Deed Branch (Unit {0}) (stmt_layer unit_name declared known n') (arm_layer unit_name declared known n') (case_layer unit_name declared known n') (map-Arm SS SB SC Statement Arm Case (λ x. x.0) (λ x. x.0) (λ x. x.0) y)))
        (at_arm y))

    pub statement_longer : (x : Statement) → LongerDeed (s x) (s' x)
    statement_longer = ind-Statement (λ x. LongerDeed (s x) (s' x)) (λ x. LongerBranch (arm x) (arm' x)) (λ x. Unit {0}) (λ x y q. subst (λ z. LongerDeed (s (roll-Statement z)) (s' (roll-Statement z))) q (layer_stmt y)) (λ x y q. subst (λ z. LongerBranch (arm (roll-Arm z)) (arm' (roll-Arm z))) q (layer_arm y)) (λ x y q. tt)

    from_longer : (first : ℕ) (source : List ℕ) (body : List Statement) → Longer (Option Signal) (statements [] first source (map s body)) (statements [] first source (map s' body))
    from_longer first source [] = give_longer (Option Signal) None
    from_longer first source (x ∷ body) =
        subst (λ c. Longer (Option Signal) (bind ((s x).does [] first source) (next_or (statements [] (first + (s x).count) source (map s body)))) (bind ((s' x).does [] first source) (next_or (statements [] (first + c) source (map s' body))))) (sym (statement_longer x).count)
        (bind_longer (Option Signal) (Option Signal) ((s x).does [] first source) ((s' x).does [] first source) _ _ ((statement_longer x).does [] first source)
        (next_longer Signal (statements [] (first + (s x).count) source (map s body)) (statements [] (first + (s x).count) source (map s' body)) (from_longer (first + (s x).count) source body)))

    block_longer : (source : List ℕ) (body : List Statement) → Longer (Option Signal) (block unit_name declared known n source body) (block unit_name declared known n' source body)
    block_longer source body = from_longer 1 source body

    pub program_longer : (source : List ℕ) (body : List Statement) (ds : List Declared) → Longer ℕ (bind (begin_all unit_name declared known ds []) (λ u. bind (block unit_name declared known n source body) ended)) (bind (begin_all unit_name declared known ds []) (λ u. bind (block unit_name declared known n' source body) ended))
    program_longer source body ds =
        bind_longer (Unit {0}) ℕ _ _ _ _ (begin_fine ds []) (λ u.
        bind_longer (Option Signal) ℕ _ _ _ _ (block_longer source body) ended_longer)

unit_longer : (source : List ℕ) (n n' : ℕ) → n ≤ n' → (us : List ProgramUnit) → Longer ℕ (run_unit source n us) (run_unit source n' us)
unit_longer source n n' le [] = wrong_longer ℕ
unit_longer source n n' le (unit.Program line name decls body procs ∷ []) = program_longer name (all_declared decls) (known_behind (all_declared decls) []) n n' le source body (all_declared decls)
unit_longer source n n' le (unit.Program line name decls body procs ∷ u ∷ us) = wrong_longer ℕ
unit_longer source n n' le (unit.Module line name decls procs ∷ us) = wrong_longer ℕ

pub meaning_monotone : (source : List ℕ) (file : File) (input : List ℕ) → IsMonotone (fortran_meaning source file input)
meaning_monotone source file input =
    outcomes_monotone (λ n d. run_unit source n file.units) (initial input) (written [] [])
    (λ n n' d d' le ld. (unit_longer source n n' le file.units).no_shorter)
    (λ n d. (unit_longer source n n (le_refl n) file.units).grows)

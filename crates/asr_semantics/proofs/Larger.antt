-- Larger bounds: with them every expression and every statement goes at least as far.
use Rattle.std.proofs.Common.{ℕ, ℤ, ◌≤◌, ◌+ℤ◌, Bool, true, false, ◌==◌, if◌then◌else◌, List, [], ◌∷◌, map, Option, Some, None, Ok, codes}
use Rattle.lf_base.specs.Outcome.{Location, Stuck}
use Rattle.lf_base.specs.Acts.{give, print, wrong, next_or}
use Rattle.lf_base.specs.Operators.{operator_of}
use Rattle.type_rules.specs.Values.{fitted}
use Rattle.type_rules.specs.Store.{Value}
use Rattle.type_rules.specs.Bindings.{Binding}
use Rattle.type_rules.specs.Arrays.{single, scalars_of}
use Rattle.type_rules.specs.Counts.{turns}
use Rattle.type_rules.specs.declared.constant.Op.{Op}
use Rattle.type_rules.specs.declared.constant.Op.TheVariants.{Unary, Binary, Intrinsic, Convert}
use Rattle.asr_nodes.specs.Reading.{Path}
use Rattle.asr_nodes.specs.declared.code.TheConstants.{FALSE, FORMAT_LIST, FORMAT_INTEGER}
use Rattle.asr_nodes.specs.declared.tree.ExprTree.{ExprTree-F, map-ExprTree}
use Rattle.asr_nodes.specs.declared.tree.PrintItemTree.{PrintItemTree-F, map-PrintItemTree}
use Rattle.asr_nodes.specs.declared.tree.StmtTree.{StmtTree, StmtTree-F, map-StmtTree}
use Rattle.asr_semantics.specs.Machine.{Last, Nothing, Holding, Recording, M, result, stuck, variable, fetch, by_reference, make_copy, assign, temporary_last, set}
use Rattle.asr_semantics.specs.Records.{put_item, digits, begin_record, end_record, advance_record}
use Rattle.asr_semantics.specs.Entities.{Entities, target}
use Rattle.asr_semantics.specs.Meaning.{Signal, Exits, Cycles, Doing, Meant, Calls, then_next, each_value, each_argument, only_value, on_scalars, operate, truth_of, integer4_of, integer_of, tested, integer4, decides, same, or_left, needed, binary_value, unary_value, statements, no_signal, seq_value, no_rule, variable_meant, called, expr_layer, item_layer, exits, cycles, turn_of, choose, stepped, then_step, do_turns, do_loop, while_loop, put_each, print_digits, print_list, print_items, status_of, stops, no_value, at, assigns, puts, stmt_layer, statement, block, nothing, PrintItem}
use Rattle.asr_semantics.proofs.Longer.{Longer, bind_longer, give_longer, change_longer, print_longer, stop_longer, wrong_longer, stuck_longer, result_longer, next_longer, iterate_longer, counted_longer, landing_longer, variable_longer, fetch_longer, copy_longer, assign_longer, temporary_longer, last_longer, item_longer}
use Rattle.asr_semantics.proofs.Related.{Pair, related_stmt}

-- at every location
abbrev pub Everywhere : {A : Type 0} → (Location → M A) → (Location → M A) → Type 0
Everywhere {A} f g = (here : Location) → Longer A (f here) (g here)

pub record LongerMeant (a b : Meant) : Type 0 where
  pub value : Everywhere a.value b.value
  pub argument : Everywhere a.argument b.argument
  pub place : Everywhere a.place b.place

abbrev pub LongerItem : Option (Location → M Value) → Option (Location → M Value) → Type 0
LongerItem None None = Unit {0}
LongerItem (Some v) (Some w) = Everywhere v w
LongerItem None (Some w) = ⊥
LongerItem (Some v) None = ⊥

abbrev pub LongerDoing : (List ℕ → Doing) → (List ℕ → Doing) → Type 0
LongerDoing a b = (source : List ℕ) → Longer (Option Signal) (a source) (b source)

-- what has only a value
pub value_longer : (v w : Location → M Value) → Everywhere v w → LongerMeant (only_value v) (only_value w)
value_longer v w h = record {
  value = h;
  argument = λ here. bind_longer Value Binding (v here) (w here) make_copy make_copy (h here) copy_longer;
  place = λ here. wrong_longer Binding;
}

pub no_rule_longer : LongerMeant no_rule no_rule
no_rule_longer = record { value = λ here. wrong_longer Value; argument = λ here. wrong_longer Binding; place = λ here. wrong_longer Binding }

next_step : (act act' : M (Unit {0})) → Longer (Unit {0}) act act' → Longer (Option Signal) (then_next act) (then_next act')
next_step act act' h = bind_longer (Unit {0}) (Option Signal) act act' (λ u. give None) (λ u. give None) h (λ u. give_longer (Option Signal) None)

abbrev Meants : Type 0
Meants = Pair Meant Meant LongerMeant

firsts : List Meants → List Meant
firsts = map (λ x. x.0)

seconds : List Meants → List Meant
seconds = map (λ x. x.1)

pub values_longer : (here : Location) (xs : List Meants) → Longer (List Value) (each_value here (map (λ x. x.0) xs)) (each_value here (map (λ x. x.1) xs))
values_longer here [] = give_longer (List Value) []
values_longer here (x ∷ xs) =
    bind_longer Value (List Value) (x.0.value here) (x.1.value here) _ _ (x.2.value here)
    (λ v. bind_longer (List Value) (List Value) (each_value here (map (λ x. x.0) xs)) (each_value here (map (λ x. x.1) xs)) (λ vs. give (v ∷ vs)) (λ vs. give (v ∷ vs)) (values_longer here xs) (λ vs. give_longer (List Value) (v ∷ vs)))

pub arguments_longer : (here : Location) (xs : List Meants) → Longer (List Binding) (each_argument here (map (λ x. x.0) xs)) (each_argument here (map (λ x. x.1) xs))
arguments_longer here [] = give_longer (List Binding) []
arguments_longer here (x ∷ xs) =
    bind_longer Binding (List Binding) (x.0.argument here) (x.1.argument here) _ _ (x.2.argument here)
    (λ b. bind_longer (List Binding) (List Binding) (each_argument here (map (λ x. x.0) xs)) (each_argument here (map (λ x. x.1) xs)) (λ bs. give (b ∷ bs)) (λ bs. give (b ∷ bs)) (arguments_longer here xs) (λ bs. give_longer (List Binding) (b ∷ bs)))

abbrev Doings : Type 0
Doings = Pair (List ℕ → Doing) (List ℕ → Doing) LongerDoing

pub statements_longer : (source : List ℕ) (xs : List Doings) → Longer (Option Signal) (statements source (map (λ x. x.0) xs)) (statements source (map (λ x. x.1) xs))
statements_longer source [] = give_longer (Option Signal) None
statements_longer source (x ∷ xs) =
    bind_longer (Option Signal) (Option Signal) (x.0 source) (x.1 source) (next_or (statements source (map (λ x. x.0) xs))) (next_or (statements source (map (λ x. x.1) xs))) (x.2 source)
    (next_longer Signal (statements source (map (λ x. x.0) xs)) (statements source (map (λ x. x.1) xs)) (statements_longer source xs))

operate_longer : (here : Location) (op : Op) (vs : List Value) → Longer Value (operate here op vs) (operate here op vs)
operate_longer here op vs = result_longer Value here (on_scalars op (scalars_of vs))

unary_longer : (op : Op) (x : Meants) → Everywhere (unary_value op x.0) (unary_value op x.1)
unary_longer op x here = bind_longer Value Value (x.0.value here) (x.1.value here) (λ v. operate here op (v ∷ [])) (λ v. operate here op (v ∷ [])) (x.2.value here) (λ v. operate_longer here op (v ∷ []))

left_longer : (left : Value) (more more' : M Value) → Longer Value more more' → (t : Bool) → Longer Value (or_left left more t) (or_left left more' t)
left_longer left more more' h true = h
left_longer left more more' h false = give_longer Value left

needed_longer : (o : Option Bool) (left : Value) (more more' : M Value) → Longer Value more more' → Longer Value (needed o left more) (needed o left more')
needed_longer None left more more' h = h
needed_longer (Some needs) left more more' h =
    bind_longer Bool Value (stuck (truth_of left)) (stuck (truth_of left)) (λ t. or_left left more (same needs t)) (λ t. or_left left more' (same needs t))
    (stuck_longer Bool (truth_of left))
    (λ t. left_longer left more more' h (same needs t))

binary_longer : (code : ℕ) (x y : Meants) → Everywhere (binary_value code x.0 y.0) (binary_value code x.1 y.1)
binary_longer code x y here =
    bind_longer Value Value (x.0.value here) (x.1.value here) _ _ (x.2.value here)
    (λ l. needed_longer (decides (operator_of code)) l _ _
    (bind_longer Value Value (y.0.value here) (y.1.value here) (λ r. operate here (Binary code) (l ∷ r ∷ [])) (λ r. operate here (Binary code) (l ∷ r ∷ [])) (y.2.value here) (λ r. operate_longer here (Binary code) (l ∷ r ∷ []))))

tested_longer : (x : Meants) → (here : Location) → Longer Bool (tested x.0.value here) (tested x.1.value here)
tested_longer x here = bind_longer Value Bool (x.0.value here) (x.1.value here) (λ v. stuck (truth_of v)) (λ v. stuck (truth_of v)) (x.2.value here) (λ v. stuck_longer Bool (truth_of v))

integer4_longer : (x : Meants) → (here : Location) → Longer ℤ (integer4 x.0.value here) (integer4 x.1.value here)
integer4_longer x here = bind_longer Value ℤ (x.0.value here) (x.1.value here) (λ v. stuck (integer4_of v)) (λ v. stuck (integer4_of v)) (x.2.value here) (λ v. stuck_longer ℤ (integer4_of v))

signal_longer : (o : Option Signal) → Longer (Unit {0}) (no_signal o) (no_signal o)
signal_longer None = give_longer (Unit {0}) tt
signal_longer (Some signal) = wrong_longer (Unit {0})

seq_longer : (xs : List Doings) (y : Meants) → Everywhere (seq_value (map (λ x. x.0) xs) y.0) (seq_value (map (λ x. x.1) xs) y.1)
seq_longer xs y here =
    bind_longer (Option Signal) Value (statements here.source (map (λ x. x.0) xs)) (statements here.source (map (λ x. x.1) xs)) _ _ (statements_longer here.source xs)
    (λ signal. bind_longer (Unit {0}) Value (no_signal signal) (no_signal signal) (λ u. y.0.value here) (λ u. y.1.value here) (signal_longer signal) (λ u. y.2.value here))

end_longer : Longer (Unit {0}) end_record end_record
end_longer = print_longer (codes "\n")

advance_longer : (advance : ℕ) → Longer (Unit {0}) (advance_record advance) (advance_record advance)
advance_longer advance = by (advance == FALSE)
  where
    by : (t : Bool) → Longer (Unit {0}) (if t then end_record else give tt) (if t then end_record else give tt)
    by true = end_longer
    by false = give_longer (Unit {0}) tt

abbrev Items : Type 0
Items = Pair (Option (Location → M Value)) (Option (Location → M Value)) LongerItem

module _ (entities : Entities) (n n' : ℕ) (le : n ≤ n') (inner inner' : Calls) (h : (call : Path × List Binding) → Longer (Option Value) (inner call) (inner' call)) where
  variable_meant_longer : (path : Path) → LongerMeant (variable_meant entities n inner path) (variable_meant entities n' inner' path)
  variable_meant_longer path = record {
    value = λ here. bind_longer Binding Value (variable (target entities path)) (variable (target entities path)) fetch fetch (variable_longer (target entities path)) fetch_longer;
    argument = λ here. bind_longer Binding Binding (variable (target entities path)) (variable (target entities path)) (λ b. give (by_reference b)) (λ b. give (by_reference b)) (variable_longer (target entities path)) (λ b. give_longer Binding (by_reference b));
    place = λ here. variable_longer (target entities path);
  }

  called_longer : (callee : Path) (xs : List Meants) (here : Location) → Longer (Option Value) (called entities n inner callee (map (λ x. x.0) xs) here) (called entities n' inner' callee (map (λ x. x.1) xs) here)
  called_longer callee xs here =
      bind_longer (List Binding) (Option Value) (each_argument here (map (λ x. x.0) xs)) (each_argument here (map (λ x. x.1) xs)) (λ bs. inner (target entities callee, bs)) (λ bs. inner' (target entities callee, bs))
      (arguments_longer here xs)
      (λ bs. h (target entities callee, bs))

  abbrev One : Type 0
  One = Pair (Unit {0}) (Unit {0}) (λ a b. Unit {0})

  expr_longer : (y : ExprTree-F One Meants Items One Doings One) → LongerMeant (expr_layer entities n inner (map-ExprTree One Meants Items One Doings One (Unit {0}) Meant PrintItem (Unit {0}) (List ℕ → Doing) (Unit {0}) (λ x. x.0) (λ x. x.0) (λ x. x.0) (λ x. x.0) (λ x. x.0) (λ x. x.0) y)) (expr_layer entities n' inner' (map-ExprTree One Meants Items One Doings One (Unit {0}) Meant PrintItem (Unit {0}) (List ℕ → Doing) (Unit {0}) (λ x. x.1) (λ x. x.1) (λ x. x.1) (λ x. x.1) (λ x. x.1) (λ x. x.1) y))
  expr_longer (ExprTree-F.IntConst kind value) = value_longer _ _ (λ here. give_longer Value _)
  expr_longer (ExprTree-F.LogConst value) = value_longer _ _ (λ here. give_longer Value _)
  expr_longer (ExprTree-F.Var symbol) = variable_meant_longer symbol
  expr_longer (ExprTree-F.Unary operator operand) = value_longer _ _ (unary_longer (Unary operator) operand)
  expr_longer (ExprTree-F.Binary operator left right) = value_longer _ _ (binary_longer operator left right)
  expr_longer (ExprTree-F.Convert kind operand) = value_longer _ _ (unary_longer (Convert kind) operand)
  expr_longer (ExprTree-F.Paren inside) = value_longer _ _ inside.2.value
  expr_longer (ExprTree-F.Invoke callee arguments) = value_longer _ _ (λ here. bind_longer (Option Value) Value _ _ stuck stuck (called_longer callee arguments here) (stuck_longer Value))
  expr_longer (ExprTree-F.Intrinsic code arguments) = value_longer _ _ (λ here. bind_longer (List Value) Value _ _ (operate here (Intrinsic code)) (operate here (Intrinsic code)) (values_longer here arguments) (operate_longer here (Intrinsic code)))
  expr_longer (ExprTree-F.Temp number) = value_longer _ _ (λ here. temporary_longer number)
  expr_longer (ExprTree-F.Seq stmts value) = value_longer _ _ (seq_longer stmts value)
  expr_longer (ExprTree-F.«ExprTree::At» source line value) = value_longer _ _ (λ here. value.2.value (record { source = source; line = line }))
  expr_longer (ExprTree-F.CharConst bytes) = no_rule_longer
  expr_longer (ExprTree-F.Item base subscripts) = no_rule_longer
  expr_longer (ExprTree-F.Section base parts) = no_rule_longer
  expr_longer (ExprTree-F.Field base component) = no_rule_longer
  expr_longer (ExprTree-F.Substring base lower upper) = no_rule_longer
  expr_longer (ExprTree-F.Construct definition arguments) = no_rule_longer
  expr_longer (ExprTree-F.Array items) = no_rule_longer
  expr_longer (ExprTree-F.Extent symbol dimension) = no_rule_longer
  expr_longer (ExprTree-F.TempAt number place) = no_rule_longer
  expr_longer (ExprTree-F.SecLen lower upper step low high) = no_rule_longer
  expr_longer (ExprTree-F.Arr number element extents) = no_rule_longer

  item_longer_layer : (y : PrintItemTree-F One Meants Items One Doings One) → LongerItem (item_layer (map-PrintItemTree One Meants Items One Doings One (Unit {0}) Meant PrintItem (Unit {0}) (List ℕ → Doing) (Unit {0}) (λ x. x.0) (λ x. x.0) (λ x. x.0) (λ x. x.0) (λ x. x.0) (λ x. x.0) y)) (item_layer (map-PrintItemTree One Meants Items One Doings One (Unit {0}) Meant PrintItem (Unit {0}) (List ℕ → Doing) (Unit {0}) (λ x. x.1) (λ x. x.1) (λ x. x.1) (λ x. x.1) (λ x. x.1) (λ x. x.1) y))
  item_longer_layer (PrintItemTree-F.«PrintItemTree::Value» value) = value.2.value
  item_longer_layer (PrintItemTree-F.«PrintItemTree::Loop» variable lower upper step items) = tt

  turn_longer : (id : ℕ) (body body' : Doing) → Longer (Option Signal) body body' → Longer (Option Signal) (turn_of id body) (turn_of id body')
  turn_longer id body body' k = bind_longer (Option Signal) (Option Signal) body body' _ _ k (landing_longer Signal (cycles id))

  choose_longer : (a b a' b' : Doing) → Longer (Option Signal) a a' → Longer (Option Signal) b b' → (t : Bool) → Longer (Option Signal) (choose a b t) (choose a' b' t)
  choose_longer a b a' b' k l true = k
  choose_longer a b a' b' k l false = l

  stepped_longer : (here : Location) (b : Binding) (step : ℤ) → Longer (Unit {0}) (stepped here b step) (stepped here b step)
  stepped_longer here b step =
      bind_longer Value (Unit {0}) (fetch b) (fetch b) _ _ (fetch_longer b)
      (λ v. bind_longer ℤ (Unit {0}) (stuck (integer4_of v)) (stuck (integer4_of v)) _ _ (stuck_longer ℤ (integer4_of v))
      (λ z. bind_longer Value (Unit {0}) (result here (single (fitted 4 (Ok (z +ℤ step))))) (result here (single (fitted 4 (Ok (z +ℤ step))))) (assign b) (assign b) (result_longer Value here (single (fitted 4 (Ok (z +ℤ step))))) (assign_longer b)))

  step_longer : (here : Location) (b : Binding) (step : ℤ) (o : Option Signal) → Longer (Option Signal) (then_step here b step o) (then_step here b step o)
  step_longer here b step None = next_step _ _ (stepped_longer here b step)
  step_longer here b step (Some signal) = give_longer (Option Signal) (Some signal)

  turns_longer : (here : Location) (id : ℕ) (body body' : Doing) → Longer (Option Signal) body body' → (b : Binding) (first step : ℤ) (count : ℕ) → Longer (Option Signal) (do_turns n here id body b first step count) (do_turns n' here id body' b first step count)
  turns_longer here id body body' k b first step count =
      bind_longer (Unit {0}) (Option Signal) (assign b _) (assign b _) _ _ (assign_longer b _)
      (λ u. bind_longer (Option Signal) (Option Signal) _ _ _ _
      (counted_longer Signal count n n' le _ _ (bind_longer (Option Signal) (Option Signal) _ _ _ _ (turn_longer id body body' k) (step_longer here b step)))
      (landing_longer Signal (exits id)))

  do_longer : (here : Location) (id : ℕ) (variable lower upper step : Meants) (body body' : Doing) → Longer (Option Signal) body body' → Longer (Option Signal) (do_loop entities n inner here id variable.0 lower.0 upper.0 step.0 body) (do_loop entities n' inner' here id variable.1 lower.1 upper.1 step.1 body')
  do_longer here id variable lower upper step body body' k =
      bind_longer ℤ (Option Signal) _ _ _ _ (integer4_longer lower here) (λ first.
      bind_longer ℤ (Option Signal) _ _ _ _ (integer4_longer upper here) (λ last.
      bind_longer ℤ (Option Signal) _ _ _ _ (integer4_longer step here) (λ by.
      bind_longer ℕ (Option Signal) _ _ _ _ (result_longer ℕ here (turns first last by)) (λ count.
      bind_longer Binding (Option Signal) _ _ _ _ (variable.2.place here) (λ b. turns_longer here id body body' k b first by count)))))

  while_longer : (here : Location) (id : ℕ) (condition : Meants) (body body' : Doing) → Longer (Option Signal) body body' → Longer (Option Signal) (while_loop entities n inner here id condition.0 body) (while_loop entities n' inner' here id condition.1 body')
  while_longer here id condition body body' k =
      bind_longer (Option Signal) (Option Signal) _ _ _ _ (iterate_longer Signal n n' le _ _ _ _ (tested_longer condition here) (turn_longer id body body' k)) (landing_longer Signal (exits id))

  puts_longer : (here : Location) (last : Last) (xs : List Items) → Longer (Unit {0}) (put_each here last (map (λ x. x.0) xs)) (put_each here last (map (λ x. x.1) xs))
  puts_longer here last [] = give_longer (Unit {0}) tt
  puts_longer here last ((None, None, k) ∷ xs) = wrong_longer (Unit {0})
  puts_longer here last ((None, Some w, k) ∷ xs) = absurd k
  puts_longer here last ((Some v, None, k) ∷ xs) = absurd k
  puts_longer here last ((Some v, Some w, k) ∷ xs) =
      bind_longer Value (Unit {0}) (v here) (w here) _ _ (k here) (λ x.
      bind_longer Last (Unit {0}) (put_item last x) (put_item last x) _ _ (item_longer last x) (λ next. puts_longer here next xs))

  digits_longer : (here : Location) (advance : ℕ) (xs : List Items) → Longer (Unit {0}) (print_digits here advance (map (λ x. x.0) xs)) (print_digits here advance (map (λ x. x.1) xs))
  digits_longer here advance [] = wrong_longer (Unit {0})
  digits_longer here advance ((None, None, k) ∷ []) = wrong_longer (Unit {0})
  digits_longer here advance ((None, Some w, k) ∷ []) = absurd k
  digits_longer here advance ((Some v, None, k) ∷ []) = absurd k
  digits_longer here advance ((Some v, Some w, k) ∷ []) =
      bind_longer Value (Unit {0}) (v here) (w here) _ _ (k here) (λ x.
      bind_longer (List ℕ) (Unit {0}) (stuck (digits x)) (stuck (digits x)) _ _ (stuck_longer (List ℕ) (digits x)) (λ text.
      bind_longer (Unit {0}) (Unit {0}) (print text) (print text) _ _ (print_longer text) (λ u. advance_longer advance)))
  digits_longer here advance ((None, None, k) ∷ y ∷ xs) = wrong_longer (Unit {0})
  digits_longer here advance ((None, Some w, k) ∷ y ∷ xs) = absurd k
  digits_longer here advance ((Some v, None, k) ∷ y ∷ xs) = absurd k
  digits_longer here advance ((Some v, Some w, k) ∷ y ∷ xs) = wrong_longer (Unit {0})

  list_longer : (here : Location) (xs : List Items) → Longer (Unit {0}) (print_list here (map (λ x. x.0) xs)) (print_list here (map (λ x. x.1) xs))
  list_longer here xs =
      bind_longer (Unit {0}) (Unit {0}) begin_record begin_record _ _ (print_longer (codes " ")) (λ u.
      bind_longer (Unit {0}) (Unit {0}) _ _ _ _ (puts_longer here Nothing xs) (λ w. end_longer))

  items_longer : (here : Location) (form advance : ℕ) (xs : List Items) → Longer (Unit {0}) (print_items here form advance (map (λ x. x.0) xs)) (print_items here form advance (map (λ x. x.1) xs))
  items_longer here form advance xs = by (form == FORMAT_LIST) (form == FORMAT_INTEGER)
    where
      by : (s t : Bool) → Longer (Unit {0}) (if s then print_list here (map (λ x. x.0) xs) else if t then print_digits here advance (map (λ x. x.0) xs) else wrong Stuck) (if s then print_list here (map (λ x. x.1) xs) else if t then print_digits here advance (map (λ x. x.1) xs) else wrong Stuck)
      by true t = list_longer here xs
      by false true = digits_longer here advance xs
      by false false = wrong_longer (Unit {0})

  no_value_longer : (o : Option Value) → Longer (Unit {0}) (no_value o) (no_value o)
  no_value_longer None = give_longer (Unit {0}) tt
  no_value_longer (Some value) = wrong_longer (Unit {0})

  stops_longer : (here : Location) (x : Meants) → Longer (Option Signal) (stops here x.0) (stops here x.1)
  stops_longer here x =
      bind_longer Value (Option Signal) (x.0.value here) (x.1.value here) _ _ (x.2.value here) (λ v.
      bind_longer ℤ (Option Signal) (stuck (integer_of v)) (stuck (integer_of v)) _ _ (stuck_longer ℤ (integer_of v)) (λ z. stop_longer (Option Signal) (status_of z)))

  assigns_longer : (here : Location) (x y : Meants) → Longer (Unit {0}) (assigns here x.0 y.0) (assigns here x.1 y.1)
  assigns_longer here x y =
      bind_longer Value (Unit {0}) (y.0.value here) (y.1.value here) _ _ (y.2.value here) (λ v.
      bind_longer Binding (Unit {0}) (x.0.place here) (x.1.place here) (λ b. assign b v) (λ b. assign b v) (x.2.place here) (λ b. assign_longer b v))

  put_longer : (here : Location) (number : ℕ) (x : Meants) → Longer (Unit {0}) (puts here number x.0) (puts here number x.1)
  put_longer here number x =
      bind_longer Value (Unit {0}) (x.0.value here) (x.1.value here) _ _ (x.2.value here) (λ v.
      bind_longer Last (Unit {0}) (temporary_last number) (temporary_last number) _ _ (last_longer number) (λ last.
      bind_longer Last (Unit {0}) (put_item last v) (put_item last v) _ _ (item_longer last v) (λ next. change_longer (set number (Recording next)))))

  stmt_longer : (y : StmtTree-F One Meants Items One Doings One) → LongerDoing (stmt_layer entities n inner (map-StmtTree One Meants Items One Doings One (Unit {0}) Meant PrintItem (Unit {0}) (List ℕ → Doing) (Unit {0}) (λ x. x.0) (λ x. x.0) (λ x. x.0) (λ x. x.0) (λ x. x.0) (λ x. x.0) y)) (stmt_layer entities n' inner' (map-StmtTree One Meants Items One Doings One (Unit {0}) Meant PrintItem (Unit {0}) (List ℕ → Doing) (Unit {0}) (λ x. x.1) (λ x. x.1) (λ x. x.1) (λ x. x.1) (λ x. x.1) (λ x. x.1) y))
  stmt_longer (StmtTree-F.Assign line target value) source = next_step _ _ (assigns_longer (at source line) target value)
  stmt_longer (StmtTree-F.If line condition then_block else_block) source =
      bind_longer Bool (Option Signal) _ _ _ _ (tested_longer condition (at source line))
      (choose_longer (statements source (map (λ x. x.0) then_block)) (statements source (map (λ x. x.0) else_block)) (statements source (map (λ x. x.1) then_block)) (statements source (map (λ x. x.1) else_block)) (statements_longer source then_block) (statements_longer source else_block))
  stmt_longer (StmtTree-F.Do line id variable lower upper step body) source = do_longer (at source line) id variable lower upper step _ _ (statements_longer source body)
  stmt_longer (StmtTree-F.While line id condition body) source = while_longer (at source line) id condition _ _ (statements_longer source body)
  stmt_longer (StmtTree-F.Exit line id) source = give_longer (Option Signal) (Some (Exits id))
  stmt_longer (StmtTree-F.Cycle line id) source = give_longer (Option Signal) (Some (Cycles id))
  stmt_longer (StmtTree-F.Call line callee arguments) source = next_step _ _ (bind_longer (Option Value) (Unit {0}) _ _ _ _ (called_longer callee arguments (at source line)) no_value_longer)
  stmt_longer (StmtTree-F.Print line form advance items) source = next_step _ _ (items_longer (at source line) form advance items)
  stmt_longer (StmtTree-F.Stop line error code) source = stops_longer (at source line) code
  stmt_longer (StmtTree-F.Return line) source = give_longer (Option Signal) _
  stmt_longer (StmtTree-F.Block line stmts) source = statements_longer source stmts
  stmt_longer (StmtTree-F.Let line number value) source = next_step _ _ (bind_longer Value (Unit {0}) _ _ _ _ (value.2.value (at source line)) (λ v. change_longer (set number (Holding v))))
  stmt_longer (StmtTree-F.Begin line number) source = next_step _ _ (bind_longer (Unit {0}) (Unit {0}) _ _ _ _ (change_longer (set number (Recording Nothing))) (λ u. print_longer (codes " ")))
  stmt_longer (StmtTree-F.Put line number value) source = next_step _ _ (put_longer (at source line) number value)
  stmt_longer (StmtTree-F.End line) source = next_step _ _ end_longer
  stmt_longer (StmtTree-F.Select line value cases default) source = wrong_longer (Option Signal)
  stmt_longer (StmtTree-F.Read line target iostat) source = wrong_longer (Option Signal)
  stmt_longer (StmtTree-F.Room line number element length extents) source = wrong_longer (Option Signal)
  stmt_longer (StmtTree-F.Count line number bound body) source = wrong_longer (Option Signal)
  stmt_longer (StmtTree-F.Same line left right) source = wrong_longer (Option Signal)
  stmt_longer (StmtTree-F.Probe line designator) source = wrong_longer (Option Signal)

  pub statement_longer : (s : StmtTree) → LongerDoing (statement entities n inner s) (statement entities n' inner' s)
  statement_longer =
      related_stmt (Unit {0}) Meant PrintItem (Unit {0}) (List ℕ → Doing) (Unit {0}) (Unit {0}) Meant PrintItem (Unit {0}) (List ℕ → Doing) (Unit {0})
      (λ a b. Unit {0}) LongerMeant LongerItem (λ a b. Unit {0}) LongerDoing (λ a b. Unit {0})
      nothing (expr_layer entities n inner) item_layer nothing (stmt_layer entities n inner) nothing
      nothing (expr_layer entities n' inner') item_layer nothing (stmt_layer entities n' inner') nothing
      (record { of_array_item = λ y. tt; of_expr = expr_longer; of_print_item = item_longer_layer; of_section_part = λ y. tt; of_stmt = stmt_longer; of_case = λ y. tt })

  pub block_longer : (source : List ℕ) (body : List StmtTree) → Longer (Option Signal) (block entities n inner source body) (block entities n' inner' source body)
  block_longer source [] = give_longer (Option Signal) None
  block_longer source (s ∷ body) =
      bind_longer (Option Signal) (Option Signal) _ _ _ _ (statement_longer s source)
      (next_longer Signal (block entities n inner source body) (block entities n' inner' source body) (block_longer source body))

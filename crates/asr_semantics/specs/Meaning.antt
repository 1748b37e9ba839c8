-- What a program of typed trees does (ISO/IEC 1539-1:2018, clauses 10, 11 and 15): scalars, control and procedures, and
-- the nodes that passes make of these. `n` bounds the turns of one execution of a loop, `d` the depth of calls. Nodes
-- that have no rule yet are stuck.
use Rattle.std.specs.Prelude.{ℕ, ◌==◌, ℤ, pos, ◌+ℤ◌, unsigned_abs, Bool, true, false, not, if◌then◌else◌, List, [], ◌∷◌, map, length, Option, Some, None, Ok}
use Rattle.std.specs.Int.{int_rem_euclid}
use Rattle.lf_base.specs.Outcome.{Location, Stuck}
use Rattle.lf_base.specs.Acts.{bind, give, change, print, stop, wrong, in_order, iterate}
use Rattle.lf_base.specs.Loops.{counted, landing}
use Rattle.lf_base.specs.Operators.{operator_of}
use Rattle.lf_base.specs.declared.operator.Operator.{Operator}
use Rattle.lf_base.specs.declared.operator.Operator.TheVariants.{And, Or}
use Rattle.type_rules.specs.Values.{Scalar, Integer, Logical, Evaluation, NoRule, fitted}
use Rattle.type_rules.specs.Store.{Value, Single}
use Rattle.type_rules.specs.Bindings.{Binding}
use Rattle.type_rules.specs.Arrays.{single, scalars_of}
use Rattle.type_rules.specs.Counts.{turns}
use Rattle.type_rules.specs.Operations.{operation}
use Rattle.type_rules.specs.declared.constant.Op.{Op}
use Rattle.type_rules.specs.declared.constant.Op.TheVariants.{Unary, Binary, Intrinsic, Convert}
use Rattle.asr_nodes.specs.Reading.{Path}
use Rattle.asr_nodes.specs.declared.code.TheConstants.{TRUE, FORMAT_LIST, FORMAT_INTEGER}
use Rattle.asr_nodes.specs.declared.tree.ExprTree.{ExprTree, ExprTree-F, fold-ExprTree}
use Rattle.asr_nodes.specs.declared.tree.PrintItemTree.{PrintItemTree-F}
use Rattle.asr_nodes.specs.declared.tree.StmtTree.{StmtTree, StmtTree-F, fold-StmtTree}
use Rattle.asr_semantics.specs.Machine.{Last, Nothing, Holding, Recording, M, result, stuck, variable, fetch, by_reference, make_copy, assign, temporary_value, temporary_last, set}
use Rattle.asr_semantics.specs.Records.{put_item, digits, begin_record, end_record, advance_record}
use Rattle.asr_semantics.specs.Entities.{Entities, target}

-- How a statement is left, if not for the next one (11.1.7.4.4, 11.1.12 and 15.6.2.6).
pub data Signal : Type 0 where
  Exits : (id : ℕ) → Signal
  Cycles : (id : ℕ) → Signal
  Returns : Signal

abbrev pub Doing : Type 0
Doing = M (Option Signal)

-- An expression: its value, what it is as an actual argument (15.5.2.3), and the variable that it designates.
pub record Meant : Type 0 where
  pub value : Location → M Value
  pub argument : Location → M Binding
  pub place : Location → M Binding

-- a procedure by its path with its actual arguments, and what it gives, where it is a function
abbrev pub Calls : Type 0
Calls = (Path × List Binding) → M (Option Value)

abbrev pub then_next : M (Unit {0}) → Doing
then_next act = bind act (λ u. give None)

-- the values of all, from the left
abbrev pub each_value : Location → List Meant → M (List Value)
each_value here [] = give []
each_value here (e ∷ es) = bind (e.value here) (λ v. bind (each_value here es) (λ vs. give (v ∷ vs)))

abbrev pub each_argument : Location → List Meant → M (List Binding)
each_argument here [] = give []
each_argument here (e ∷ es) = bind (e.argument here) (λ b. bind (each_argument here es) (λ bs. give (b ∷ bs)))

-- What is no variable is passed as a copy.
abbrev pub only_value : (Location → M Value) → Meant
only_value value = record { value = value; argument = λ here. bind (value here) make_copy; place = λ here. wrong Stuck }

-- An operation of the table on these values (10.1.5), which are scalars.
abbrev pub on_scalars : Op → Option (List Scalar) → Evaluation Value
on_scalars op None = NoRule
on_scalars op (Some args) = single (operation op args)

abbrev pub operate : Location → Op → List Value → M Value
operate here op vs = result here (on_scalars op (scalars_of vs))

abbrev pub constant : Scalar → Meant
constant scalar = only_value (λ here. give (Single scalar))

-- a truth value, and an integer of kind 4
abbrev pub truth_of : Value → Option Bool
truth_of (Single (Logical truth)) = Some truth
truth_of _ = None

abbrev pub integer4_of : Value → Option ℤ
integer4_of (Single (Integer kind value)) = if kind == 4 then Some value else None
integer4_of _ = None

abbrev pub integer_of : Value → Option ℤ
integer_of (Single (Integer kind value)) = Some value
integer_of _ = None

abbrev pub tested : (Location → M Value) → Location → M Bool
tested value here = bind (value here) (λ v. stuck (truth_of v))

abbrev pub integer4 : (Location → M Value) → Location → M ℤ
integer4 value here = bind (value here) (λ v. stuck (integer4_of v))

-- `.and.` and `.or.` of scalars take their right operand where it is needed: this is the value that makes it so.
abbrev pub decides : Option Operator → Option Bool
decides (Some And) = Some true
decides (Some Or) = Some false
decides _ = None

abbrev pub same : Bool → Bool → Bool
same true q = q
same false q = not q

-- the right operand and the operation, or the left operand alone
abbrev pub or_left : Value → M Value → Bool → M Value
or_left left more true = more
or_left left more false = give left

abbrev pub needed : Option Bool → Value → M Value → M Value
needed None left more = more
needed (Some needs) left more = bind (stuck (truth_of left)) (λ t. or_left left more (same needs t))

abbrev pub binary_value : ℕ → Meant → Meant → Location → M Value
binary_value code a b here = bind (a.value here) (λ l. needed (decides (operator_of code)) l (bind (b.value here) (λ r. operate here (Binary code) (l ∷ r ∷ []))))

abbrev pub unary_value : Op → Meant → Location → M Value
unary_value op e here = bind (e.value here) (λ v. operate here op (v ∷ []))

abbrev pub statements : List ℕ → List (List ℕ → Doing) → Doing
statements source body = in_order (map (λ s. s source) body)

-- Statements before a value, none of which leaves them.
abbrev pub no_signal : Option Signal → M (Unit {0})
no_signal None = give tt
no_signal (Some signal) = wrong Stuck

abbrev pub seq_value : List (List ℕ → Doing) → Meant → Location → M Value
seq_value body e here = bind (statements here.source body) (λ signal. bind (no_signal signal) (λ u. e.value here))

abbrev pub no_rule : Meant
no_rule = record { value = λ here. wrong Stuck; argument = λ here. wrong Stuck; place = λ here. wrong Stuck }

-- the value of a logical constant
abbrev pub logical : ℕ → Bool
logical code = code == TRUE

abbrev pub PrintItem : Type 0
PrintItem = Option (Location → M Value)

abbrev pub item_layer : PrintItemTree-F (Unit {0}) Meant PrintItem (Unit {0}) (List ℕ → Doing) (Unit {0}) → PrintItem
item_layer (PrintItemTree-F.«PrintItemTree::Value» value) = Some value.value
item_layer (PrintItemTree-F.«PrintItemTree::Loop» variable lower upper step items) = None

-- which signals a loop takes
abbrev pub exits : ℕ → Signal → Bool
exits id (Exits loop) = loop == id
exits id (Cycles loop) = false
exits id Returns = false

abbrev pub cycles : ℕ → Signal → Bool
cycles id (Cycles loop) = loop == id
cycles id (Exits loop) = false
cycles id Returns = false

-- one turn: what cycles this loop ends it
abbrev pub turn_of : ℕ → Doing → Doing
turn_of id body = bind body (landing (cycles id))

abbrev pub choose : Doing → Doing → Bool → Doing
choose a b true = a
choose a b false = b

-- a `do` with its count (11.1.7.4.1): the variable is stepped behind each turn that was not left
abbrev pub stepped : Location → Binding → ℤ → M (Unit {0})
stepped here variable step =
    bind (fetch variable) (λ v. bind (stuck (integer4_of v)) (λ z. bind (result here (single (fitted 4 (Ok (z +ℤ step))))) (assign variable)))

abbrev pub then_step : Location → Binding → ℤ → Option Signal → Doing
then_step here variable step None = then_next (stepped here variable step)
then_step here variable step (Some signal) = give (Some signal)

-- the turns of a `do` with its count, of which at most n are made
abbrev pub do_turns : ℕ → Location → ℕ → Doing → Binding → ℤ → ℤ → ℕ → Doing
do_turns n here id body variable first step count =
    bind (assign variable (Single (Integer 4 first))) (λ u.
    bind (counted count n (bind (turn_of id body) (then_step here variable step))) (landing (exits id)))

-- the turns of a loop that tests before each, of which at most n are made
abbrev pub while_turns : ℕ → ℕ → M Bool → Doing → Doing
while_turns n id test body = bind (iterate n test (turn_of id body)) (landing (exits id))

-- the items of a record, each written when it has been evaluated
abbrev pub put_each : Location → Last → List PrintItem → M (Unit {0})
put_each here last [] = give tt
put_each here last (None ∷ items) = wrong Stuck
put_each here last (Some value ∷ items) = bind (value here) (λ v. bind (put_item last v) (λ next. put_each here next items))

abbrev pub print_digits : Location → ℕ → List PrintItem → M (Unit {0})
print_digits here advance (Some value ∷ []) = bind (value here) (λ v. bind (stuck (digits v)) (λ text. bind (print text) (λ u. advance_record advance)))
print_digits here advance _ = wrong Stuck

abbrev pub print_list : Location → List PrintItem → M (Unit {0})
print_list here items = bind begin_record (λ u. bind (put_each here Nothing items) (λ w. end_record))

abbrev pub print_items : Location → ℕ → ℕ → List PrintItem → M (Unit {0})
print_items here form advance items =
    if form == FORMAT_LIST then print_list here items
    else if form == FORMAT_INTEGER then print_digits here advance items
    else wrong Stuck

-- the status of a stop code, which counts modulo 256
abbrev pub status_of : ℤ → ℕ
status_of z = unsigned_abs (int_rem_euclid z (pos 256))

abbrev pub stops : Location → Meant → Doing
stops here code = bind (code.value here) (λ v. bind (stuck (integer_of v)) (λ z. stop (status_of z)))

-- A call of a subroutine gives no value (15.5.1).
abbrev pub no_value : Option Value → M (Unit {0})
no_value None = give tt
no_value (Some value) = wrong Stuck

abbrev pub at : List ℕ → ℕ → Location
at source line = record { source = source; line = line }

abbrev pub assigns : Location → Meant → Meant → M (Unit {0})
assigns here target value = bind (value.value here) (λ v. bind (target.place here) (λ b. assign b v))

abbrev pub puts : Location → ℕ → Meant → M (Unit {0})
puts here number value =
    bind (value.value here) (λ v. bind (temporary_last number) (λ last. bind (put_item last v) (λ next. change (set number (Recording next)))))

abbrev pub no_doing : List ℕ → Doing
no_doing source = wrong Stuck

abbrev pub nothing : {X : Type 0} → X → Unit {0}
nothing x = tt

module _ (entities : Entities) (n : ℕ) (inner : Calls) where
  abbrev pub variable_meant : Path → Meant
  variable_meant path = record {
    value = λ here. bind (variable (target entities path)) fetch;
    argument = λ here. bind (variable (target entities path)) (λ b. give (by_reference b));
    place = λ here. variable (target entities path);
  }

  abbrev pub called : Path → List Meant → Location → M (Option Value)
  called callee arguments here = bind (each_argument here arguments) (λ bs. inner (target entities callee, bs))

  abbrev pub expr_layer : ExprTree-F (Unit {0}) Meant PrintItem (Unit {0}) (List ℕ → Doing) (Unit {0}) → Meant
  expr_layer (ExprTree-F.IntConst kind value) = constant (Integer kind value)
  expr_layer (ExprTree-F.LogConst value) = constant (Logical (logical value))
  expr_layer (ExprTree-F.Var symbol) = variable_meant symbol
  expr_layer (ExprTree-F.Unary operator operand) = only_value (unary_value (Unary operator) operand)
  expr_layer (ExprTree-F.Binary operator left right) = only_value (binary_value operator left right)
  expr_layer (ExprTree-F.Convert kind operand) = only_value (unary_value (Convert kind) operand)
  expr_layer (ExprTree-F.Paren inside) = only_value (λ here. inside.value here)
  expr_layer (ExprTree-F.Invoke callee arguments) = only_value (λ here. bind (called callee arguments here) stuck)
  expr_layer (ExprTree-F.Intrinsic code arguments) = only_value (λ here. bind (each_value here arguments) (operate here (Intrinsic code)))
  expr_layer (ExprTree-F.Temp number) = only_value (λ here. temporary_value number)
  expr_layer (ExprTree-F.Seq stmts value) = only_value (seq_value stmts value)
  expr_layer (ExprTree-F.«ExprTree::At» source line value) = only_value (λ here. value.value (record { source = source; line = line }))
  expr_layer (ExprTree-F.CharConst bytes) = no_rule
  expr_layer (ExprTree-F.Item base subscripts) = no_rule
  expr_layer (ExprTree-F.Section base parts) = no_rule
  expr_layer (ExprTree-F.Field base component) = no_rule
  expr_layer (ExprTree-F.Substring base lower upper) = no_rule
  expr_layer (ExprTree-F.Construct definition arguments) = no_rule
  expr_layer (ExprTree-F.Array items) = no_rule
  expr_layer (ExprTree-F.Extent symbol dimension) = no_rule
  expr_layer (ExprTree-F.TempAt number place) = no_rule
  expr_layer (ExprTree-F.SecLen lower upper step low high) = no_rule
  expr_layer (ExprTree-F.Arr number element extents) = no_rule

  abbrev pub do_loop : Location → ℕ → Meant → Meant → Meant → Meant → Doing → Doing
  do_loop here id variable lower upper step body =
      bind (integer4 lower.value here) (λ first. bind (integer4 upper.value here) (λ last. bind (integer4 step.value here) (λ by.
      bind (result here (turns first last by)) (λ count. bind (variable.place here) (λ b. do_turns n here id body b first by count)))))

  abbrev pub while_loop : Location → ℕ → Meant → Doing → Doing
  while_loop here id condition body = while_turns n id (tested condition.value here) body

  abbrev pub stmt_layer : StmtTree-F (Unit {0}) Meant PrintItem (Unit {0}) (List ℕ → Doing) (Unit {0}) → List ℕ → Doing
  stmt_layer (StmtTree-F.Assign line target value) source = then_next (assigns (at source line) target value)
  stmt_layer (StmtTree-F.If line condition then_block else_block) source =
      bind (tested condition.value (at source line)) (choose (statements source then_block) (statements source else_block))
  stmt_layer (StmtTree-F.Do line id variable lower upper step body) source = do_loop (at source line) id variable lower upper step (statements source body)
  stmt_layer (StmtTree-F.While line id condition body) source = while_loop (at source line) id condition (statements source body)
  stmt_layer (StmtTree-F.Exit line id) source = give (Some (Exits id))
  stmt_layer (StmtTree-F.Cycle line id) source = give (Some (Cycles id))
  stmt_layer (StmtTree-F.Call line callee arguments) source = then_next (bind (called callee arguments (at source line)) no_value)
  stmt_layer (StmtTree-F.Print line form advance items) source = then_next (print_items (at source line) form advance items)
  stmt_layer (StmtTree-F.Stop line error code) source = stops (at source line) code
  stmt_layer (StmtTree-F.Return line) source = give (Some Returns)
  stmt_layer (StmtTree-F.Block line stmts) source = statements source stmts
  stmt_layer (StmtTree-F.Let line number value) source = then_next (bind (value.value (at source line)) (λ v. change (set number (Holding v))))
  stmt_layer (StmtTree-F.Begin line number) source = then_next (bind (change (set number (Recording Nothing))) (λ u. begin_record))
  stmt_layer (StmtTree-F.Put line number value) source = then_next (puts (at source line) number value)
  stmt_layer (StmtTree-F.End line) source = then_next end_record
  stmt_layer (StmtTree-F.Select line value cases default) source = no_doing source
  stmt_layer (StmtTree-F.Read line target iostat) source = no_doing source
  stmt_layer (StmtTree-F.Room line number element length extents) source = no_doing source
  stmt_layer (StmtTree-F.Count line number bound body) source = no_doing source
  stmt_layer (StmtTree-F.Same line left right) source = no_doing source
  stmt_layer (StmtTree-F.Probe line designator) source = no_doing source

  abbrev pub expression : ExprTree → Meant
  expression = fold-ExprTree (Unit {0}) Meant PrintItem (Unit {0}) (List ℕ → Doing) (Unit {0}) nothing expr_layer item_layer nothing stmt_layer nothing

  abbrev pub statement : StmtTree → List ℕ → Doing
  statement = fold-StmtTree (Unit {0}) Meant PrintItem (Unit {0}) (List ℕ → Doing) (Unit {0}) nothing expr_layer item_layer nothing stmt_layer nothing

  abbrev pub block : List ℕ → List StmtTree → Doing
  block source body = in_order (map (λ s. statement s source) body)

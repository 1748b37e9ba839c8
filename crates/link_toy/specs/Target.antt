-- A small target language as C has it: objects by number in one memory, `while (1)`, jumps to labels behind blocks,
-- and a helper of the run time that multiplies by a loop of additions (ISO/IEC 9899:1999, 6.8.5 and 6.8.6).
use Rattle.std.specs.Prelude.{ℕ, zero, suc, ◌+◌, ◌-◌, Bool, true, cond, eqb, ltb, leb, List, [], Option, Some, None}
use Rattle.std.specs.Map.{update}
use Rattle.lf_base.specs.Outcome.{Undefined, Outcome, written}
use Rattle.lf_base.specs.Traps.{trap_status}
use Rattle.lf_base.specs.declared.trap.Trap.TheVariants.{IntegerOverflow}
use Rattle.lf_base.specs.Acts.{Act, bind, give, look, change, print, complain, stop, given, next_or, within, iterate, outcome_of}
use Rattle.lf_base.specs.Depth.{Callee, calls}
use Rattle.lf_base.specs.Loops.{landing}
use Rattle.link_toy.specs.Meaning.{less, is_true, largest_factor, line_of, success}

pub data CExpression : Type 0 where
  Constant : (v : ℕ) → CExpression
  Load : (o : ℕ) → CExpression
  Add : (a b : CExpression) → CExpression
  Subtract : (a b : CExpression) → CExpression
  IsLess : (a b : CExpression) → CExpression

pub data CStatement : Type 0 where
  Nothing : CStatement
  Then : (a b : CStatement) → CStatement
  Set : (o : ℕ) (e : CExpression) → CStatement
  -- while (1)
  Forever : (body : CStatement) → CStatement
  -- a block with a label behind it
  Labelled : (label : ℕ) (body : CStatement) → CStatement
  -- if (!object) goto label
  Unless : (o label : ℕ) → CStatement
  Jump : (label : ℕ) → CStatement
  -- A call with the value of object o. The callee's objects begin behind `kept` objects of the caller; `own` of them
  -- are zero, but for the argument.
  Invoke : (p o kept own argument : ℕ) → CStatement
  Write : (o : ℕ) → CStatement
  -- object o becomes the product of a and b, by the helper, which is handed the text of its trap
  Multiply : (o a b : ℕ) (text : List ℕ) → CStatement

-- What is called: a procedure of the program, or the helper that multiplies u by v, whose own objects stand from r on.
pub data Callable : Type 0 where
  Procedure : (p : ℕ) → Callable
  Multiplier : (r u v : ℕ) (text : List ℕ) → Callable

pub record CProgram : Type 0 where
  pub bodies : ℕ → CStatement
  pub main : CStatement

-- All objects stand in one memory, those of the call that runs from its frame on. One that is not set has no value.
pub record Memory : Type 0 where
  pub cells : ℕ → Option ℕ
  pub frame : ℕ

abbrev pub cell : ℕ → Memory → Option ℕ
cell o m = m.cells (m.frame + o)

abbrev pub set_cell : ℕ → ℕ → Memory → Memory
set_cell o v m = record { cells = update eqb m.cells (m.frame + o) (Some v); frame = m.frame }

-- the cells at a call's begin: the caller's are kept, the argument is set, the call's other own objects are zero
abbrev pub call_cells : (kept own argument v : ℕ) → Memory → ℕ → Option ℕ
call_cells kept own argument v m a =
    cond (ltb a (m.frame + kept)) (m.cells a) (cond (eqb a (m.frame + kept + argument)) (Some v) (cond (ltb a (m.frame + kept + own)) (Some 0) None))

abbrev pub enter_frame : (kept own argument v : ℕ) → Memory → Memory
enter_frame kept own argument v m = record { cells = call_cells kept own argument v m; frame = m.frame + kept }

abbrev pub leave_frame : Memory → Memory → Memory
leave_frame m inner = record { cells = inner.cells; frame = m.frame }

-- an object that is not set has no value: to read it is undefined
abbrev pub load : ℕ → Act Memory ℕ
load o = bind (look (cell o)) (given Undefined)

abbrev pub store_in : ℕ → ℕ → Act Memory (Option ℕ)
store_in o v = bind (change (set_cell o v)) (λ u. give None)

abbrev pub c_value : CExpression → Act Memory ℕ
c_value (Constant v) = give v
c_value (Load o) = load o
c_value (Add a b) = bind (c_value a) (λ u. bind (c_value b) (λ v. give (u + v)))
c_value (Subtract a b) = bind (c_value a) (λ u. bind (c_value b) (λ v. give (u - v)))
c_value (IsLess a b) = bind (c_value a) (λ u. bind (c_value b) (λ v. give (less u v)))

abbrev pub one_less : ℕ → ℕ
one_less zero = zero
one_less (suc i) = i

-- one turn of the helper's loop: its sum stands in object r, the count of what is left in the one behind
abbrev pub add_once : ℕ → ℕ → Act Memory (Option (Unit {0}))
add_once r v = bind (load r) (λ sum. bind (change (set_cell r (sum + v))) (λ u. bind (load (suc r)) (λ i. bind (change (set_cell (suc r) (one_less i))) (λ u. give None))))

abbrev pub is_counting : ℕ → Act Memory Bool
is_counting r = bind (load (suc r)) (λ i. give (is_true i))

abbrev pub added_up : (n r u v : ℕ) → Act Memory ℕ
added_up n r u v = bind (change (λ m. set_cell (suc r) u (set_cell r 0 m))) (λ x. bind (iterate n (is_counting r) (add_once r v)) (λ o. load r))

-- the text to the error output, and the end with the trap's status: no location is told
abbrev pub overflow : {A : Type 0} → List ℕ → Act Memory A
overflow text = bind (complain text) (λ u. stop (trap_status IntegerOverflow))

abbrev pub multiply : (n r u v : ℕ) → List ℕ → Act Memory ℕ
multiply n r u v text = cond (leb u largest_factor) (added_up n r u v) (overflow text)

abbrev pub unless : ℕ → ℕ → Act Memory (Option ℕ)
unless label zero = give (Some label)
unless label (suc v) = give None

-- a call of a procedure with this argument
abbrev pub invoke_c : (kept own argument : ℕ) → Act Memory ℕ → ℕ → Act Memory (Option ℕ)
invoke_c kept own argument callee v = within (enter_frame kept own argument v) leave_frame (bind callee (λ u. give None))

-- the helper works in the objects behind o
abbrev pub multiply_into : (Callable → Act Memory ℕ) → ℕ → List ℕ → ℕ → ℕ → Act Memory (Option ℕ)
multiply_into inner o text u v = bind (inner (Multiplier (suc o) u v text)) (store_in o)

-- A statement is left with the label that it jumps to.
abbrev pub exec_c : ℕ → (Callable → Act Memory ℕ) → CStatement → Act Memory (Option ℕ)
exec_c n inner Nothing = give None
exec_c n inner (Then a b) = bind (exec_c n inner a) (next_or (exec_c n inner b))
exec_c n inner (Set o e) = bind (c_value e) (store_in o)
exec_c n inner (Forever body) = iterate n (give true) (exec_c n inner body)
exec_c n inner (Labelled label body) = bind (exec_c n inner body) (landing (eqb label))
exec_c n inner (Unless o label) = bind (load o) (unless label)
exec_c n inner (Jump label) = give (Some label)
exec_c n inner (Invoke p o kept own argument) = bind (load o) (invoke_c kept own argument (inner (Procedure p)))
exec_c n inner (Write o) = bind (load o) (λ v. bind (print (line_of v)) (λ u. give None))
exec_c n inner (Multiply o a b text) = bind (load a) (λ u. bind (load b) (multiply_into inner o text u))

-- what a procedure returns, which nothing reads
abbrev pub no_value : ℕ
no_value = 0

abbrev pub callee_c : ℕ → (ℕ → CStatement) → Callee Memory ℕ Callable
callee_c n bodies inner (Procedure p) = bind (exec_c n inner (bodies p)) (λ o. give no_value)
callee_c n bodies inner (Multiplier r u v text) = multiply n r u v text

abbrev pub whole_c : CProgram → ℕ → ℕ → Act Memory ℕ
whole_c p n d = bind (exec_c n (calls (callee_c n p.bodies) d) p.main) (λ o. give success)

abbrev pub run_c : Memory → CProgram → ℕ → ℕ → Outcome
run_c start p n d = outcome_of (whole_c p n d start (written [] []))

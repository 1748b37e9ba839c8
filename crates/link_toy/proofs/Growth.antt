-- Both meanings only write more.
use Rattle.std.proofs.Common.{ℕ, zero, suc, List}
use Rattle.lf_base.specs.Outcome.{Location, Stuck, Undefined}
use Rattle.lf_base.specs.declared.trap.Trap.TheVariants.{IntegerOverflow}
use Rattle.lf_base.specs.Traps.{trap_status}
use Rattle.lf_base.specs.Acts.{Act, bind, give, look, complain, stop, given, iterate}
use Rattle.lf_base.specs.Order.{Grows}
use Rattle.lf_base.specs.Depth.{CalleeGrows}
use Rattle.lf_base.proofs.Stretches.{grows_bind, grows_give, grows_look, grows_change, grows_print, grows_complain, grows_stop, grows_trap, grows_given, grows_next, grows_within, grows_iterate, grows_cond}
use Rattle.lf_base.proofs.Counting.{grows_counted}
use Rattle.link_toy.specs.Source.{Expression, Number, Variable, Sum, Less, Product, Statement, Skip, Sequence, Assign, While, Repeat, Exit, Call, Print, Scope}
use Rattle.link_toy.specs.Meaning.{Store, Access, product, fetch, assign, value, test, exec, callee}
use Rattle.link_toy.specs.Target.{CExpression, CStatement, Constant, Load, Add, Subtract, IsLess, Nothing, Then, Set, Forever, Labelled, Unless, Jump, Invoke, Write, Multiply, Memory, cell, load, c_value, add_once, is_counting, overflow, multiply, unless, multiply_into, Callable, Procedure, Multiplier, no_value, exec_c, callee_c}
use Rattle.lf_base.proofs.Inside.{grows_landing}

pub ruleset growing = (grows_bind, grows_give, grows_look, grows_change, grows_print, grows_complain, grows_given, grows_next, grows_within, grows_iterate, grows_counted, grows_cond, grows_landing)

pub grows_product : (here : Location) (u v : ℕ) → Grows {S = Store} (product here u v)
grows_product here u v = search (growing, grows_trap)

pub grows_fetch : (access : Access) (x : ℕ) → Grows (fetch access x)
grows_fetch access x = grows_bind (look (access.read x)) (given Stuck) (grows_look (access.read x)) (grows_given Store Stuck (λ w. tt))

pub grows_assign : (access : Access) (x v : ℕ) → Grows (assign access x v)
grows_assign access x v = search (growing, grows_fetch)

pub grows_value : (access : Access) (here : Location) (e : Expression) → Grows (value access here e)
grows_value access here (Number v) = search growing
grows_value access here (Variable x) = grows_fetch access x
grows_value access here (Sum a b) = search (growing, grows_value access here a, grows_value access here b)
grows_value access here (Less a b) = search (growing, grows_value access here a, grows_value access here b)
grows_value access here (Product a b) = search (growing, grows_product, grows_value access here a, grows_value access here b)

pub grows_test : (access : Access) (here : Location) (e : Expression) → Grows (test access here e)
grows_test access here e = search (growing, grows_value)

pub grows_exec : (access : Access) (scope : Scope) (n : ℕ) (inner : ℕ → Act Store (Unit {0})) → ((p : ℕ) → Grows (inner p)) → (st : Statement) → Grows (exec access scope n inner st)
grows_exec access scope n inner g Skip = search growing
grows_exec access scope n inner g (Sequence a b) = search (growing, grows_exec access scope n inner g a, grows_exec access scope n inner g b)
grows_exec access scope n inner g (Assign here x e) = search (growing, grows_value, grows_assign)
grows_exec access scope n inner g (While here e body) = search (growing, grows_test, grows_exec access scope n inner g body)
grows_exec access scope n inner g (Repeat here e body) = search (growing, grows_value, grows_exec access scope n inner g body)
grows_exec access scope n inner g Exit = search growing
grows_exec access scope n inner g (Call here p e) = search (growing, grows_value)
grows_exec access scope n inner g (Print here e) = search (growing, grows_value)

pub callee_grows : (access : Access) (scope : Scope) (n : ℕ) (bodies : ℕ → Statement) → CalleeGrows (callee access scope n bodies)
callee_grows access scope n bodies inner g p = grows_bind (exec access scope n inner (bodies p)) (λ o. give tt) (grows_exec access scope n inner g (bodies p)) (λ o. grows_give (tt {0}))

pub grows_load : (o : ℕ) → Grows (load o)
grows_load o = grows_bind (look (cell o)) (given Undefined) (grows_look (cell o)) (grows_given Memory Undefined (λ w. tt))

pub grows_c_value : (e : CExpression) → Grows (c_value e)
grows_c_value (Constant v) = search growing
grows_c_value (Load o) = grows_load o
grows_c_value (Add a b) = search (growing, grows_c_value a, grows_c_value b)
grows_c_value (Subtract a b) = search (growing, grows_c_value a, grows_c_value b)
grows_c_value (IsLess a b) = search (growing, grows_c_value a, grows_c_value b)

pub grows_add_once : (r v : ℕ) → Grows (add_once r v)
grows_add_once r v = search (growing, grows_load)

pub grows_is_counting : (r : ℕ) → Grows (is_counting r)
grows_is_counting r = search (growing, grows_load)

-- the helper's loop, and the load behind it
pub grows_adding : (n r v : ℕ) → Grows (bind (iterate n (is_counting r) (add_once r v)) (λ o. load r))
grows_adding n r v = search (growing, grows_load, grows_is_counting, grows_add_once)

pub grows_overflow : (text : List ℕ) → Grows (overflow {A = ℕ} text)
grows_overflow text = grows_bind {B = ℕ} (complain text) (λ u. stop (trap_status IntegerOverflow)) (grows_complain text) (λ u. grows_stop Memory ℕ (trap_status IntegerOverflow))

pub grows_multiply : (n r u v : ℕ) (text : List ℕ) → Grows (multiply n r u v text)
grows_multiply n r u v text = search (growing, grows_adding, grows_overflow)

pub grows_multiply_into : (inner : Callable → Act Memory ℕ) → ((p : Callable) → Grows (inner p)) → (o : ℕ) (text : List ℕ) (u v : ℕ) → Grows (multiply_into inner o text u v)
grows_multiply_into inner g o text u v = search growing

pub grows_unless : (label v : ℕ) → Grows (unless label v)
grows_unless label zero = search growing
grows_unless label (suc v) = search growing

pub grows_c : (n : ℕ) (inner : Callable → Act Memory ℕ) → ((p : Callable) → Grows (inner p)) → (st : CStatement) → Grows (exec_c n inner st)
grows_c n inner g Nothing = search growing
grows_c n inner g (Then a b) = search (growing, grows_c n inner g a, grows_c n inner g b)
grows_c n inner g (Set o e) = search (growing, grows_c_value)
grows_c n inner g (Forever body) = search (growing, grows_c n inner g body)
grows_c n inner g (Labelled label body) = search (growing, grows_c n inner g body)
grows_c n inner g (Unless o label) = search (growing, grows_load, grows_unless)
grows_c n inner g (Jump label) = search growing
grows_c n inner g (Invoke p o kept own argument) = search (growing, grows_load)
grows_c n inner g (Write o) = search (growing, grows_load)
grows_c n inner g (Multiply o a b text) = search (growing, grows_load, grows_multiply_into inner g)

pub callee_c_grows : (n : ℕ) (bodies : ℕ → CStatement) → CalleeGrows (callee_c n bodies)
callee_c_grows n bodies inner g (Procedure p) = grows_bind (exec_c n inner (bodies p)) (λ o. give no_value) (grows_c n inner g (bodies p)) (λ o. grows_give {A = ℕ} no_value)
callee_c_grows n bodies inner g (Multiplier r u v text) = grows_multiply n r u v text

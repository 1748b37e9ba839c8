-- What source programs do.
use Rattle.std.specs.Prelude.{ℕ, zero, suc, ◌+◌, ◌*◌, Bool, true, false, cond, eqb, ltb, leb, List, [], ◌∷◌, codes, Option, Some, None}
use Rattle.std.specs.Fmt.{decimal}
use Rattle.lf_base.specs.Contents.{joined}
use Rattle.lf_base.specs.Outcome.{Location, Stuck, Outcome, written}
use Rattle.lf_base.specs.declared.trap.Trap.TheVariants.{IntegerOverflow}
use Rattle.lf_base.specs.Acts.{Act, bind, give, look, change, print, trap_at, given, next_or, within, iterate, outcome_of}
use Rattle.lf_base.specs.Depth.{Callee, calls}
use Rattle.lf_base.specs.Loops.{landing, counted}
use Rattle.link_toy.specs.Source.{Expression, Number, Variable, Sum, Less, Product, Statement, Skip, Sequence, Assign, While, Repeat, Exit, Call, Print, Scope, Program}

-- a variable with its name and value
pub record Slot : Type 0 where
  pub name : ℕ
  pub value : ℕ

abbrev pub slot : ℕ → ℕ → Slot
slot x v = record { name = x; value = v }

-- the variables of the call that runs
abbrev pub Store : Type 0
Store = List Slot

abbrev pub find : ℕ → Store → Option ℕ
find x [] = None
find x (s ∷ store) = cond (eqb x s.name) (Some s.value) (find x store)

abbrev pub put : ℕ → ℕ → Store → Store
put x v [] = []
put x v (s ∷ store) = cond (eqb x s.name) (slot s.name v ∷ store) (s ∷ put x v store)

abbrev pub zeros : List ℕ → Store
zeros [] = []
zeros (x ∷ names) = slot x 0 ∷ zeros names

-- the variables of a call with this argument
abbrev pub opened : Scope → ℕ → Store
opened scope v = slot scope.argument v ∷ zeros scope.others

-- a call begins in variables of its own, and leaves the caller's as they were
abbrev pub enter : Scope → ℕ → Store → Store
enter scope v store = opened scope v

abbrev pub leave : Store → Store → Store
leave store inner = store

-- how a variable is read and written
pub record Access : Type 0 where
  pub read : ℕ → Store → Option ℕ
  pub write : ℕ → ℕ → Store → Store

abbrev pub by_name : Access
by_name = record { read = find; write = put }

-- the truth values as numbers
abbrev pub number_true : ℕ
number_true = 1

abbrev pub number_false : ℕ
number_false = 0

abbrev pub less : ℕ → ℕ → ℕ
less u v = cond (ltb u v) number_true number_false

abbrev pub is_true : ℕ → Bool
is_true zero = false
is_true (suc v) = true

-- the largest left factor of a product
abbrev pub largest_factor : ℕ
largest_factor = 64

-- a line of the output
abbrev pub line_of : ℕ → List ℕ
line_of v = joined (decimal v ∷ codes "\n" ∷ [])

abbrev pub product : {S : Type 0} → Location → ℕ → ℕ → Act S ℕ
product here u v = cond (leb u largest_factor) (give (u * v)) (trap_at IntegerOverflow here)

-- no variable of the name: the program is stuck
abbrev pub fetch : Access → ℕ → Act Store ℕ
fetch access x = bind (look (access.read x)) (given Stuck)

abbrev pub assign : Access → ℕ → ℕ → Act Store (Unit {0})
assign access x v = bind (fetch access x) (λ old. change (access.write x v))

abbrev pub value : Access → Location → Expression → Act Store ℕ
value access here (Number v) = give v
value access here (Variable x) = fetch access x
value access here (Sum a b) = bind (value access here a) (λ u. bind (value access here b) (λ v. give (u + v)))
value access here (Less a b) = bind (value access here a) (λ u. bind (value access here b) (λ v. give (less u v)))
value access here (Product a b) = bind (value access here a) (λ u. bind (value access here b) (product here u))

abbrev pub test : Access → Location → Expression → Act Store Bool
test access here e = bind (value access here e) (λ v. give (is_true v))

-- with what a loop is left
pub data Signal : Type 0 where
  Leave : Signal

abbrev pub leaves : Signal → Bool
leaves Leave = true

-- a call of a procedure with this argument
abbrev pub invoke : Scope → Act Store (Unit {0}) → ℕ → Act Store (Option Signal)
invoke scope callee v = within (enter scope v) leave (bind callee (λ u. give None))

-- `inner` is what calls do
abbrev pub exec : Access → Scope → ℕ → (ℕ → Act Store (Unit {0})) → Statement → Act Store (Option Signal)
exec access scope n inner Skip = give None
exec access scope n inner (Sequence a b) = bind (exec access scope n inner a) (next_or (exec access scope n inner b))
exec access scope n inner (Assign here x e) = bind (value access here e) (λ v. bind (assign access x v) (λ u. give None))
exec access scope n inner (While here e body) = bind (iterate n (test access here e) (exec access scope n inner body)) (landing leaves)
exec access scope n inner (Repeat here e body) = bind (value access here e) (λ count. bind (counted count n (exec access scope n inner body)) (landing leaves))
exec access scope n inner Exit = give (Some Leave)
exec access scope n inner (Call here p e) = bind (value access here e) (invoke scope (inner p))
exec access scope n inner (Print here e) = bind (value access here e) (λ v. bind (print (line_of v)) (λ u. give None))

-- an exit outside of loops ends the procedure
abbrev pub callee : Access → Scope → ℕ → (ℕ → Statement) → Callee Store (Unit {0}) ℕ
callee access scope n bodies inner p = bind (exec access scope n inner (bodies p)) (λ o. give tt)

-- the status of a program that comes to its end
abbrev pub success : ℕ
success = 0

abbrev pub whole : Access → Program → ℕ → ℕ → Act Store ℕ
whole access p n d = bind (exec access p.scope n (calls (callee access p.scope n p.bodies) d) p.main) (λ o. give success)

-- the main program begins with all its variables zero
abbrev pub run_by : Access → Program → ℕ → ℕ → Outcome
run_by access p n d = outcome_of (whole access p n d (opened p.scope 0) (written [] []))

abbrev pub run : Program → ℕ → ℕ → Outcome
run = run_by by_name

-- The few combinators of which every meaning is made: of Fortran, of the tree and of C. An act goes on
-- from a state and from what has been written so far. It ends by itself: `n` bounds the turns of a loop.
use Rattle.std.specs.Prelude.{ℕ, zero, suc, ◌%◌, Bool, true, false, List, [], ◌∷◌, ◌++◌, Option, Some, None}
use Rattle.lf_base.specs.Outcome.{Location, Written, Fault, Away, Outcome, Ended, Cut, Wrong}
use Rattle.lf_base.specs.Traps.{trap_status, trap_text}
use Rattle.lf_base.specs.declared.trap.Trap.{Trap}

-- a stretch goes on with a value in a state, or the program stops
pub data Stretch (S A : Type 0) : Type 0 where
  Going : (value : A) (state : S) (sofar : Written) → Stretch S A
  Stopped : (outcome : Outcome) → Stretch S A

abbrev pub Act : Type 0 → Type 0 → Type 0
Act S A = S → Written → Stretch S A

-- goes on with the value and the state, or passes the end on
abbrev pub then_do : {S A B : Type 0} → Stretch S A → (A → Act S B) → Stretch S B
then_do (Going value state sofar) go = go value state sofar
then_do (Stopped outcome) go = Stopped outcome

abbrev pub bind : {S A B : Type 0} → Act S A → (A → Act S B) → Act S B
bind act go state sofar = then_do (act state sofar) go

-- only a value
abbrev pub give : {S A : Type 0} → A → Act S A
give value state sofar = Going value state sofar

-- the state, and another state
abbrev pub look : {S A : Type 0} → (S → A) → Act S A
look f state sofar = Going (f state) state sofar

abbrev pub change : {S : Type 0} → (S → S) → Act S (Unit {0})
change f state sofar = Going tt (f state) sofar

-- more output, more error output
abbrev pub print : {S : Type 0} → List ℕ → Act S (Unit {0})
print bytes state sofar = Going tt state (record { out = sofar.out ++ bytes; err = sofar.err })

abbrev pub complain : {S : Type 0} → List ℕ → Act S (Unit {0})
complain bytes state sofar = Going tt state (record { out = sofar.out; err = sofar.err ++ bytes })

-- the end with a status, which counts modulo 256
abbrev pub stop : {S A : Type 0} → ℕ → Act S A
stop status state sofar = Stopped (Ended sofar (status % 256) None)

-- the end by a trap with this text, at a location where the meaning gives one
abbrev pub trap : {S A : Type 0} → Trap → List ℕ → Option Location → Act S A
trap cause text location state sofar = Stopped (Ended (record { out = sofar.out; err = sofar.err ++ text }) (trap_status cause) location)

-- the end by a trap whose text tells its location
abbrev pub trap_at : {S A : Type 0} → Trap → Location → Act S A
trap_at cause location = trap cause (trap_text cause location) (Some location)

-- a bound was reached
abbrev pub cut : {S A : Type 0} → Act S A
cut state sofar = Stopped (Cut sofar)

-- there is no rule
abbrev pub wrong : {S A : Type 0} → Fault → Act S A
wrong fault state sofar = Stopped (Wrong fault)

-- the body of what is called is elsewhere
abbrev pub away : {S A : Type 0} → Act S A
away state sofar = Stopped (Wrong (Away sofar))

-- what a value says, or a fault where there is none
abbrev pub given : {S A : Type 0} → Fault → Option A → Act S A
given fault None = wrong fault
given fault (Some value) = give value

-- one after another, while each says that the next follows (None); else what the first that does not says
abbrev pub next_or : {S B : Type 0} → Act S (Option B) → Option B → Act S (Option B)
next_or more None = more
next_or more (Some left) = give (Some left)

-- acts in order, as long as each says that the next follows
abbrev pub in_order : {S B : Type 0} → List (Act S (Option B)) → Act S (Option B)
in_order [] = give None
in_order (act ∷ acts) = bind act (next_or (in_order acts))

-- an act in a state of its own, made from the state before it, which is also left by it: a block with its
-- declarations, a call with its frame
abbrev pub within : {S A : Type 0} → (S → S) → (S → S → S) → Act S A → Act S A
within enter leave act state sofar = then_do (act (enter state) sofar) (λ value inner later. Going value (leave state inner) later)

-- A turn is begun where the test holds and a turn is left; the body says whether the next turn
-- follows (None) or with what the loop is left.
abbrev pub turn : {S B : Type 0} → Act S (Option B) → Act S (Option B) → Bool → Act S (Option B)
turn body more true = bind body (next_or more)
turn body more false = give None

-- A loop of at most n turns. Its test comes before each turn, and a turn more than n is cut.
abbrev pub iterate : {S B : Type 0} → ℕ → Act S Bool → Act S (Option B) → Act S (Option B)
iterate zero test body = bind test (turn cut cut)
iterate (suc n) test body = bind test (turn body (iterate n test body))

-- the outcome of a whole program, whose end is a status
abbrev pub outcome_of : {S : Type 0} → Stretch S ℕ → Outcome
outcome_of (Going status state sofar) = Ended sofar (status % 256) None
outcome_of (Stopped outcome) = outcome

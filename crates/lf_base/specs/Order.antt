-- The order of outcomes that carries every law of meaning: the second has the larger bounds.
use Rattle.std.specs.Prelude.{◌≡◌, Option}
use Rattle.lf_base.specs.Outcome.{Location, Written, Ended, Cut, Wrong, IsBegun, Extends, Owed}
use Rattle.lf_base.specs.Acts.{Stretch, Going, Stopped, Act}

-- What was written begins what the stretch has written.
abbrev pub ExtendsIn : {S A : Type 0} → Written → Stretch S A → Type 0
ExtendsIn sofar (Going value state later) = IsBegun sofar later
ExtendsIn sofar (Stopped outcome) = Extends sofar outcome

-- An act only writes more.
abbrev pub Grows : {S A : Type 0} → Act S A → Type 0
Grows {S} act = (state : S) (sofar : Written) → ExtendsIn sofar (act state sofar)

-- a relation of two values with their states
abbrev pub Link : Type 0 → Type 0 → Type 0 → Type 0 → Type 1
Link S A S' A' = A → S → A' → S' → Type 0

-- The second goes at least as far as the first: what goes on goes on with the same output, related by R;
-- what ended ended alike, its locations related by P; what was cut had written a front of what the second
-- wrote; what was wrong stays wrong. W is owed there besides, told by the fault: nothing for the law of larger
-- bounds, the impossible for a link, so that a link also says that wrong never comes. That the second is not
-- wrong where the first was cut is said by the order the other way round.
abbrev pub Below : {S A S' A' : Type 0} → Owed → (Option Location → Option Location → Type 0) → Link S A S' A' → Stretch S A → Stretch S' A' → Type 0
Below {S} {A} {S'} {A'} W P R (Going value state sofar) y = (value' : A') × (state' : S') × R value state value' state' × (y ≡ Going value' state' sofar)
Below W P R (Stopped (Ended sofar status location)) y = (location' : Option Location) × P location location' × (y ≡ Stopped (Ended sofar status location'))
Below W P R (Stopped (Cut sofar)) y = ExtendsIn sofar y
Below W P R (Stopped (Wrong fault)) y = W fault × (y ≡ Stopped (Wrong fault))

-- from states related by Q to values and states related by R
abbrev pub BelowFrom : {S A S' A' : Type 0} → Owed → (Option Location → Option Location → Type 0) → (S → S' → Type 0) → Link S A S' A' → Act S A → Act S' A' → Type 0
BelowFrom {S} {A} {S'} {A'} W P Q R act act' = (state : S) (state' : S') (sofar : Written) → Q state state' → Below W P R (act state sofar) (act' state' sofar)

-- the same value in the same state
abbrev pub Same : {S A : Type 0} → A → S → A → S → Type 0
Same value state value' state' = (value' ≡ value) × (state' ≡ state)

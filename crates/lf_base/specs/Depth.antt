-- What is called, by the depth of calls. The meanings of Fortran, of the tree and of C are all made so.
use Rattle.std.specs.Prelude.{ℕ, zero, suc, Option}
use Rattle.lf_base.specs.Outcome.{Location, Owed}
use Rattle.lf_base.specs.Acts.{Act, cut}
use Rattle.lf_base.specs.Order.{Grows, Link, BelowFrom}
use Rattle.lf_base.specs.Monotone.{NoShorter}

-- What a call does (X is a procedure with its arguments), given what the calls in it do.
abbrev pub Callee : Type 0 → Type 0 → Type 0 → Type 0
Callee S A X = (X → Act S A) → X → Act S A

-- Calls that are at most so deep: the meaning at a depth is made from the one below it, and there is none at 0.
abbrev pub calls : {S A X : Type 0} → Callee S A X → ℕ → X → Act S A
calls callee zero x = cut
calls callee (suc d) x = callee (calls callee d) x

-- The callee only writes more where what it calls does.
abbrev pub CalleeGrows : {S A X : Type 0} → Callee S A X → Type 0
CalleeGrows {S} {A} {X} callee = (inner : X → Act S A) → ((x : X) → Grows (inner x)) → (x : X) → Grows (callee inner x)

-- The second callee goes at least as far as the first where what it calls does.
abbrev pub CalleeLonger : {S A X : Type 0} → Callee S A X → Callee S A X → Type 0
CalleeLonger {S} {A} {X} callee callee' = (inner inner' : X → Act S A) → ((x : X) → NoShorter (inner x) (inner' x)) → ((x : X) → Grows (inner' x)) → (x : X) → NoShorter (callee inner x) (callee' inner' x)

-- Two languages: K says which calls are fellows, Q from which states, R with what they come back. I is what is kept
-- and differs from call to call: the memory at the call, or its frame.
abbrev pub CallsBelow : {S A X S' A' X' I : Type 0} → Owed → (Option Location → Option Location → Type 0) → (X → X' → Type 0) → (I → X → X' → S → S' → Type 0) → (I → X → X' → Link S A S' A') → (X → Act S A) → (X' → Act S' A') → Type 0
CallsBelow {S} {A} {X} {S'} {A'} {X'} {I} W P K Q R inner inner' = (i : I) (x : X) (x' : X') → K x x' → BelowFrom W P (Q i x x') (R i x x') (inner x) (inner' x')

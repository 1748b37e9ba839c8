-- Stretches of straight-line code, which need no larger bounds on either side.
use Rattle.std.specs.Prelude.{◌≡◌, Option}
use Rattle.lf_base.specs.Outcome.{Location, Written, Ended, Cut, Wrong}
use Rattle.lf_base.specs.Acts.{Stretch, Going, Stopped, Act}
use Rattle.lf_base.specs.Order.{Link}

-- Both go on with the same output, related by R, or both end alike, their locations related by P, or both are
-- cut with the same output. The first is never wrong, and so the second is not.
abbrev pub Alike : {S A S' A' : Type 0} → (Option Location → Option Location → Type 0) → Link S A S' A' → Stretch S A → Stretch S' A' → Type 0
Alike {S} {A} {S'} {A'} P R (Going value state sofar) y = (value' : A') × (state' : S') × R value state value' state' × (y ≡ Going value' state' sofar)
Alike P R (Stopped (Ended sofar status location)) y = (location' : Option Location) × P location location' × (y ≡ Stopped (Ended sofar status location'))
Alike P R (Stopped (Cut sofar)) y = y ≡ Stopped (Cut sofar)
Alike P R (Stopped (Wrong fault)) y = ⊥

-- so from states that Q relates
abbrev pub AlikeFrom : {S A S' A' : Type 0} → (Option Location → Option Location → Type 0) → (S → S' → Type 0) → Link S A S' A' → Act S A → Act S' A' → Type 0
AlikeFrom {S} {A} {S'} {A'} P Q R act act' = (state : S) (state' : S') (sofar : Written) → Q state state' → Alike P R (act state sofar) (act' state' sofar)

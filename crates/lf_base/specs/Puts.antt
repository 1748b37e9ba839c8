-- What a call puts that is handed how the calls before it ended. After a failure it does nothing.
use Rattle.std.specs.Prelude.{◌≡◌, ℕ, Bool, List, Option, Result, Ok, Err}
use Rattle.lf_base.specs.declared.fault.PutFault.{PutFault}
use Rattle.lf_base.specs.Causes.{HasCause}
use Rattle.lf_base.specs.Contents.{Appends, AppendsPart, joined}

abbrev pub Onward : Result (Unit {0}) PutFault → Result (Unit {0}) PutFault → Option (List ℕ) → Option (List ℕ) → List ℕ → Type 0
Onward (Ok _) (Ok _) a b text = Appends a b text
Onward (Ok _) (Err _) a b text = AppendsPart a b text
Onward (Err e) s a b text = (s ≡ Err e) × (b ≡ a)

-- From how the calls before ended to how this one did, the sink gained the text, or a front of it.
pub record Puts (before after : Result (Unit {0}) PutFault) (old new : Option (List ℕ)) (text : List ℕ) : Type 0 where
  pub step : Onward before after old new text

abbrev pub Cause : Bool → Bool → Result (Unit {0}) PutFault → Result (Unit {0}) PutFault → ℕ → ℕ → Type 0
Cause f w (Ok _) s m n = HasCause f w m n s
Cause f w (Err e) s m n = (s ≡ Err e) × (n ≡ m)

-- By whether the sink may fail, and whether it takes memory: a failure in this call is counted, and nothing else changes
-- the count.
pub record Causes (may_fail takes_memory : Bool) (before after : Result (Unit {0}) PutFault) (old new : ℕ) : Type 0 where
  pub cause : Cause may_fail takes_memory before after old new

-- From a first moment all pieces are to be put, and now the rest is left.
pub record AwaitsPuts (before now : Result (Unit {0}) PutFault) (first held : Option (List ℕ)) (all rest : List (List ℕ)) : Type 0 where
  pub whole : (after : Result (Unit {0}) PutFault) (new : Option (List ℕ)) → Puts now after held new (joined rest) → Puts before after first new (joined all)

-- Two meanings that give the same within stated bounds, both ways.
use Rattle.std.specs.Prelude.{◌≡◌, ℕ, ◌+◌, ◌*◌, ◌≤◌, List, length, Option}
use Rattle.lf_base.specs.Outcome.{Location, Written, Fault, Outcome, Ended, Cut, Wrong, KeepsLocation, Extends, Owed, Never, Meaning}

-- A bound more of k turns and e calls is enough, either way: an end is the same end, also in its
-- location where both give one, and what was written where the one was cut begins what the other wrote. Where
-- the one has no rule the other has none either, and W is owed.
pub record IsNearBy (W : Owed) (k e : ℕ) (f c : ℕ → ℕ → Outcome) : Type 0 where
  pub ended : (n d : ℕ) (sofar : Written) (status : ℕ) (location : Option Location) → f n d ≡ Ended sofar status location → (location' : Option Location) × KeepsLocation location location' × (c (n + k) (d + e) ≡ Ended sofar status location')
  pub ended_only : (n d : ℕ) (sofar : Written) (status : ℕ) (location' : Option Location) → c n d ≡ Ended sofar status location' → (location : Option Location) × KeepsLocation location location' × (f (n + k) (d + e) ≡ Ended sofar status location)
  pub cut : (n d : ℕ) (sofar : Written) → f n d ≡ Cut sofar → Extends sofar (c (n + k) (d + e))
  pub cut_only : (n d : ℕ) (sofar : Written) → c n d ≡ Cut sofar → Extends sofar (f (n + k) (d + e))
  pub wrong : (n d : ℕ) (fault : Fault) → f n d ≡ Wrong fault → W fault × (c (n + k) (d + e) ≡ Wrong fault)
  pub wrong_only : (n d : ℕ) (fault : Fault) → c n d ≡ Wrong fault → W fault × (f (n + k) (d + e) ≡ Wrong fault)

-- the turns that one link may add, for an input of this length
abbrev pub slack : ℕ → ℕ
slack len = 2000000 + len

-- One link of the chain from Fortran to C: near on every input, and never without a rule.
pub record Near (f c : Meaning) : Type 0 where
  pub on : (input : List ℕ) → IsNearBy Never (slack (length input)) 8 (f input) (c input)

-- What the whole chain gives: near on this input, within the bounds of eight links.
abbrev pub AgreeOn : Meaning → Meaning → List ℕ → Type 0
AgreeOn f c input = IsNearBy Never (8 * slack (length input)) 64 (f input) (c input)

-- on every input
pub record Agree (f c : Meaning) : Type 0 where
  pub on : (input : List ℕ) → AgreeOn f c input

-- Larger bounds keep an end and never shorten what is written, and what is wrong stays wrong.
pub record IsMonotone (m : ℕ → ℕ → Outcome) : Type 0 where
  pub ended : (n n' d d' : ℕ) → n ≤ n' → d ≤ d' → (sofar : Written) (status : ℕ) (location : Option Location) → m n d ≡ Ended sofar status location → m n' d' ≡ Ended sofar status location
  pub cut : (n n' d d' : ℕ) → n ≤ n' → d ≤ d' → (sofar : Written) → m n d ≡ Cut sofar → Extends sofar (m n' d')
  pub wrong : (n n' d d' : ℕ) → n ≤ n' → d ≤ d' → (fault : Fault) → m n d ≡ Wrong fault → m n' d' ≡ Wrong fault

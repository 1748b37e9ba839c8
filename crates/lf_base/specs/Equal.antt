-- Acts that are equal from every state of a kind, and acts that do the same on states that stand beside each other.
use Rattle.std.specs.Prelude.{◌≡◌}
use Rattle.lf_base.specs.Outcome.{Written, Ended, Cut, Wrong}
use Rattle.lf_base.specs.Acts.{Stretch, Going, Stopped, Act}

-- What states keep: `holds` of each of them, and `later` from each to those that follow it.
pub record World (S : Type 0) : Type 1 where
  pub holds : S → Type 0
  pub later : S → S → Type 0
  pub same : (s : S) → later s s
  pub more : (a b c : S) → later a b → later b c → later a c
  pub keeps : (a b : S) → holds a → later a b → holds b

-- What goes on goes on in a later state with a value as V says, and nothing is wrong.
abbrev pub Sound : {S A : Type 0} → World S → S → (A → S → Type 0) → Stretch S A → Type 0
Sound W s V (Going value t sofar) = W.later s t × V value t
Sound W s V (Stopped (Ended sofar status location)) = Unit {0}
Sound W s V (Stopped (Cut sofar)) = Unit {0}
Sound W s V (Stopped (Wrong fault)) = ⊥

-- The first is sound, and the second is the first.
abbrev pub EqualAt : {S A : Type 0} → World S → S → (A → S → Type 0) → Stretch S A → Stretch S A → Type 0
EqualAt W s V x y = Sound W s V x × (y ≡ x)

-- from each state that holds, where P is known too
abbrev pub Equal : {S A : Type 0} → World S → (S → Type 0) → (A → S → Type 0) → Act S A → Act S A → Type 0
Equal {S} W P V act act' = (s : S) → W.holds s → P s → (sofar : Written) → EqualAt W s V (act s sofar) (act' s sofar)

-- The second goes on with the same value and output in a state that stands beside the first's, or ends as it does.
abbrev pub MatchAt : {S S' A : Type 0} → World S → (S → S' → Type 0) → S → (A → S → Type 0) → Stretch S A → Stretch S' A → Type 0
MatchAt {S} {S'} W Q s V (Going value t sofar) y = W.later s t × V value t × (t' : S') × Q t t' × (y ≡ Going value t' sofar)
MatchAt W Q s V (Stopped (Ended sofar status location)) y = y ≡ Stopped (Ended sofar status location)
MatchAt W Q s V (Stopped (Cut sofar)) y = y ≡ Stopped (Cut sofar)
MatchAt W Q s V (Stopped (Wrong fault)) y = ⊥

abbrev pub Match : {S S' A : Type 0} → World S → (S → S' → Type 0) → (S → Type 0) → (A → S → Type 0) → Act S A → Act S' A → Type 0
Match {S} {S'} W Q P V act act' = (s : S) (s' : S') → W.holds s → P s → Q s s' → (sofar : Written) → MatchAt W Q s V (act s sofar) (act' s' sofar)

-- nothing more is known before, or said after
abbrev pub Always : {S : Type 0} → S → Type 0
Always s = Unit {0}

abbrev pub Anyhow : {S A : Type 0} → A → S → Type 0
Anyhow value s = Unit {0}

-- Acts made of acts that match do: one lemma a combinator, for a pass whose states stand beside the first's.
use Rattle.std.proofs.Common.{◌≡◌, ℕ, zero, suc, Bool, true, false, List, Option, Some, None, refl, sym, ap, subst, cond}
use Rattle.lf_base.specs.Outcome.{Location, Written, Fault, Ended, Cut, Wrong}
use Rattle.lf_base.specs.Acts.{Stretch, Going, Stopped, Act, then_do, bind, give, look, change, print, complain, stop, trap, cut, next_or, within, turn, iterate, outcome_of, given}
use Rattle.lf_base.specs.declared.trap.Trap.{Trap}
use Rattle.lf_base.specs.Equal.{World, MatchAt, Match, Always, Anyhow}
use Rattle.lf_base.specs.Loops.{landing, counted}
use Rattle.lf_base.specs.Depth.{Callee, calls}

module _ {S S' : Type 0} (W : World S) (Q : S → S' → Type 0) where
  match_earlier : {A : Type 0} (s t : S) (V : A → S → Type 0) (x : Stretch S A) (y : Stretch S' A) → W.later s t → MatchAt W Q t V x y → MatchAt W Q s V x y
  match_earlier s t V (Going a u v) y l h = (W.more s t u l h.0, h.1, h.2, h.3, h.4)
  match_earlier s t V (Stopped (Ended v k p)) y l h = h
  match_earlier s t V (Stopped (Cut v)) y l h = h
  match_earlier s t V (Stopped (Wrong f)) y l h = h

  then_match : {A B : Type 0} (s : S) (V : A → S → Type 0) (U : B → S → Type 0) (x : Stretch S A) (y : Stretch S' A) (go : A → Act S B) (go' : A → Act S' B) → MatchAt W Q s V x y → ((a : A) (t : S) (t' : S') (w : Written) → W.later s t → V a t → Q t t' → MatchAt W Q t U (go a t w) (go' a t' w)) → MatchAt W Q s U (then_do x go) (then_do y go')
  then_match s V U (Going a t w) y go go' h k = subst (λ z. MatchAt W Q s U (go a t w) (then_do z go')) (sym h.4) (match_earlier s t U (go a t w) (go' a h.2 w) h.0 (k a t h.2 w h.0 h.1 h.3))
  then_match s V U (Stopped (Ended w k p)) y go go' h _ = ap (λ z. then_do z go') h
  then_match s V U (Stopped (Cut w)) y go go' h k = ap (λ z. then_do z go') h
  then_match s V U (Stopped (Wrong f)) y go go' h k = h

  pub bind_match : {A B : Type 0} (P : S → Type 0) (V : A → S → Type 0) (U : B → S → Type 0) (act : Act S A) (act' : Act S' A) (go : A → Act S B) (go' : A → Act S' B) → Match W Q P V act act' → ((a : A) (s : S) → W.holds s → P s → Match W Q (λ t. W.later s t × V a t) U (go a) (go' a)) → Match W Q P U (bind act go) (bind act' go')
  bind_match P V U act act' go go' h k s s' i p q w =
      then_match s V U (act s w) (act' s' w) go go' (h s s' i p q w) (λ a t t' v l va r. k a s i p t t' (W.keeps s t i l) (l, va) r v)

  pub give_match : {A : Type 0} (P : S → Type 0) (V : A → S → Type 0) (a : A) → ((s : S) → W.holds s → P s → V a s) → Match W Q P V (give a) (give a)
  give_match P V a h s s' i p q w = (W.same s, h s i p, s', q, refl)

  pub look_match : {A : Type 0} (P : S → Type 0) (V : A → S → Type 0) (f : S → A) (f' : S' → A) → ((s : S) → W.holds s → P s → V (f s) s) → ((s : S) (s' : S') → W.holds s → Q s s' → f' s' ≡ f s) → Match W Q P V (look f) (look f')
  look_match P V f f' h e s s' i p q w = (W.same s, h s i p, s', q, ap (λ a. Going a s' w) (e s s' i q))

  pub change_match : (P : S → Type 0) (V : Unit {0} → S → Type 0) (f : S → S) (f' : S' → S') → ((s : S) → W.holds s → P s → W.later s (f s) × V tt (f s)) → ((s : S) (s' : S') → W.holds s → P s → Q s s' → Q (f s) (f' s')) → Match W Q P V (change f) (change f')
  change_match P V f f' h g s s' i p q w = let r = h s i p in (r.0, r.1, f' s', g s s' i p q, refl)

  -- a change that the second alone makes, as to a temporary
  pub only_second : (f' : S' → S') → ((s : S) (s' : S') → W.holds s → Q s s' → Q s (f' s')) → Match W Q Always Anyhow (give tt) (change f')
  only_second f' g s s' i p q w = (W.same s, tt, f' s', g s s' i q, refl)

  pub print_match : (P : S → Type 0) (bytes : List ℕ) → Match W Q P Anyhow (print bytes) (print bytes)
  print_match P bytes s s' i p q w = (W.same s, tt, s', q, refl)

  pub complain_match : (P : S → Type 0) (bytes : List ℕ) → Match W Q P Anyhow (complain bytes) (complain bytes)
  complain_match P bytes s s' i p q w = (W.same s, tt, s', q, refl)

  pub stop_match : {A : Type 0} (P : S → Type 0) (V : A → S → Type 0) (status : ℕ) → Match W Q P V (stop status) (stop status)
  stop_match P V status s s' i p q w = refl

  pub trap_match : {A : Type 0} (P : S → Type 0) (V : A → S → Type 0) (cause : Trap) (text : List ℕ) (location : Option Location) → Match W Q P V (trap cause text location) (trap cause text location)
  trap_match P V cause text location s s' i p q w = refl

  pub cut_match : {A : Type 0} (P : S → Type 0) (V : A → S → Type 0) → Match W Q P V cut cut
  cut_match P V s s' i p q w = refl

  pub match_always : {A : Type 0} (P : S → Type 0) (V : A → S → Type 0) (act : Act S A) (act' : Act S' A) → Match W Q Always V act act' → Match W Q P V act act'
  match_always P V act act' h s s' i p q w = h s s' i tt q w

  pub next_match : {B : Type 0} (P : S → Type 0) (more : Act S (Option B)) (more' : Act S' (Option B)) → Match W Q Always Anyhow more more' → (o : Option B) → Match W Q P Anyhow (next_or more o) (next_or more' o)
  next_match P more more' h None = match_always P Anyhow more more' h
  next_match P more more' h (Some b) = give_match P Anyhow (Some b) (λ s i p. tt)

  turn_match : {B : Type 0} (P : S → Type 0) (body more : Act S (Option B)) (body' more' : Act S' (Option B)) → Match W Q Always Anyhow body body' → Match W Q Always Anyhow more more' → (t : Bool) → Match W Q P Anyhow (turn body more t) (turn body' more' t)
  turn_match P body more body' more' h k true = bind_match P Anyhow Anyhow body body' (next_or more) (next_or more') (match_always P Anyhow body body' h) (λ o s i p. next_match (λ t. W.later s t × Unit {0}) more more' k o)
  turn_match {B} P body more body' more' h k false = give_match {A = Option B} P Anyhow None (λ s i p. tt)

  pub iterate_match : {B : Type 0} (n : ℕ) (test : Act S Bool) (test' : Act S' Bool) (body : Act S (Option B)) (body' : Act S' (Option B)) → Match W Q Always Anyhow test test' → Match W Q Always Anyhow body body' → Match W Q Always Anyhow (iterate n test body) (iterate n test' body')
  iterate_match {B} zero test test' body body' h k = bind_match Always Anyhow Anyhow test test' (turn cut cut) (turn cut cut) h (λ t s i p. turn_match {B = B} (λ t. W.later s t × Unit {0}) cut cut cut cut (cut_match Always Anyhow) (cut_match Always Anyhow) t)
  iterate_match (suc n) test test' body body' h k = bind_match Always Anyhow Anyhow test test' (turn body (iterate n test body)) (turn body' (iterate n test' body')) h (λ t s i p. turn_match (λ t. W.later s t × Unit {0}) body (iterate n test body) body' (iterate n test' body') k (iterate_match n test test' body body' h k) t)

  -- one act behind another, where nothing is said between them
  pub step_match : {A B : Type 0} (act : Act S A) (act' : Act S' A) (go : A → Act S B) (go' : A → Act S' B) → Match W Q Always Anyhow act act' → ((a : A) → Match W Q Always Anyhow (go a) (go' a)) → Match W Q Always Anyhow (bind act go) (bind act' go')
  step_match act act' go go' h k = bind_match Always Anyhow Anyhow act act' go go' h (λ a s i p. match_always (λ t. W.later s t × Unit {0}) Anyhow (go a) (go' a) (k a))

  -- there is a value
  pub given_match : {A : Type 0} (P : S → Type 0) (V : A → S → Type 0) (fault : Fault) (o : Option A) → ((s : S) → W.holds s → P s → (v : A) × (o ≡ Some v) × V v s) → Match W Q P V (given fault o) (given fault o)
  given_match P V fault o h s s' i p q w = let x = h s i p in subst (λ o. MatchAt W Q s V (given fault o s w) (given fault o s' w)) (sym x.1) (W.same s, x.2, s', q, refl)

  pub cond_match : {A : Type 0} (P : S → Type 0) (V : A → S → Type 0) (b : Bool) (x y : Act S A) (x' y' : Act S' A) → Match W Q P V x x' → Match W Q P V y y' → Match W Q P V (cond b x y) (cond b x' y')
  cond_match P V true x y x' y' h k = h
  cond_match P V false x y x' y' h k = k

  pub landing_match : {B : Type 0} (P : S → Type 0) (lands : B → Bool) (o : Option B) → Match W Q P Anyhow (landing lands o) (landing lands o)
  landing_match {B} P lands None = give_match {A = Option B} P Anyhow None (λ s i p. tt)
  landing_match {B} P lands (Some b) = cond_match {A = Option B} P Anyhow (lands b) (give None) (give (Some b)) (give None) (give (Some b)) (give_match {A = Option B} P Anyhow None (λ s i p. tt)) (give_match P Anyhow (Some b) (λ s i p. tt))

  pub counted_match : {B : Type 0} (count n : ℕ) (body : Act S (Option B)) (body' : Act S' (Option B)) → Match W Q Always Anyhow body body' → Match W Q Always Anyhow (counted count n body) (counted count n body')
  counted_match {B} zero n body body' h = give_match {A = Option B} Always Anyhow None (λ s i p. tt)
  counted_match {B} (suc count) zero body body' h = cut_match {A = Option B} Always Anyhow
  counted_match (suc count) (suc n) body body' h = step_match body body' (next_or (counted count n body)) (next_or (counted count n body')) h (next_match Always (counted count n body) (counted count n body') (counted_match count n body body' h))

  -- K says which calls are fellows
  pub calls_match : {A X X' : Type 0} (K : X → X' → Type 0) (P : X → S → Type 0) (V : X → A → S → Type 0) (callee : Callee S A X) (callee' : Callee S' A X') → ((inner : X → Act S A) (inner' : X' → Act S' A) → ((x : X) (x' : X') → K x x' → Match W Q (P x) (V x) (inner x) (inner' x')) → (x : X) (x' : X') → K x x' → Match W Q (P x) (V x) (callee inner x) (callee' inner' x')) → (d : ℕ) (x : X) (x' : X') → K x x' → Match W Q (P x) (V x) (calls callee d x) (calls callee' d x')
  calls_match K P V callee callee' h zero x x' k = cut_match (P x) (V x)
  calls_match K P V callee callee' h (suc d) x x' k = h (calls callee d) (calls callee' d) (calls_match K P V callee callee' h d) x x' k

-- in states of their own, which stand beside each other by another relation
pub within_match : {S S' A : Type 0} (W W₁ : World S) (Q Q₁ : S → S' → Type 0) (P P₁ : S → Type 0) (V V₁ : A → S → Type 0) (enter : S → S) (leave : S → S → S) (enter' : S' → S') (leave' : S' → S' → S') (act : Act S A) (act' : Act S' A) → ((s : S) → W.holds s → P s → W₁.holds (enter s) × P₁ (enter s)) → ((s : S) (s' : S') → W.holds s → P s → Q s s' → Q₁ (enter s) (enter' s')) → ((s : S) → W.holds s → P s → (a : A) (t : S) → W₁.later (enter s) t → V₁ a t → W.later s (leave s t) × V a (leave s t)) → ((s t : S) (s' t' : S') → W.holds s → Q s s' → W₁.later (enter s) t → Q₁ t t' → Q (leave s t) (leave' s' t')) → Match W₁ Q₁ P₁ V₁ act act' → Match W Q P V (within enter leave act) (within enter' leave' act')
within_match {S} {S'} {A} W W₁ Q Q₁ P P₁ V V₁ enter leave enter' leave' act act' into into' out out' h s s' i p q w =
    let r = into s i p in
    by (act (enter s) w) (act' (enter' s') w) (h (enter s) (enter' s') r.0 r.1 (into' s s' i p q) w)
  where
    by : (x : Stretch S A) (y : Stretch S' A) → MatchAt W₁ Q₁ (enter s) V₁ x y → MatchAt W Q s V (then_do x (λ value inner later. Going value (leave s inner) later)) (then_do y (λ value inner later. Going value (leave' s' inner) later))
    by (Going a t v) y k = let o = out s i p a t k.0 k.1 in (o.0, o.1, leave' s' k.2, out' s t s' k.2 i q k.0 k.3, ap (λ z. then_do z (λ value inner later. Going value (leave' s' inner) later)) k.4)
    by (Stopped (Ended v k p')) y e = ap (λ z. then_do z (λ value inner later. Going value (leave' s' inner) later)) e
    by (Stopped (Cut v)) y e = ap (λ z. then_do z (λ value inner later. Going value (leave' s' inner) later)) e
    by (Stopped (Wrong f)) y e = absurd e

-- Whole programs that match have one outcome, and a rule for it.
pub match_outcomes : {S S' : Type 0} (W : World S) (Q : S → S' → Type 0) (s : S) (V : ℕ → S → Type 0) (x : Stretch S ℕ) (y : Stretch S' ℕ) → MatchAt W Q s V x y → (outcome_of y ≡ outcome_of x) × ((fault : Fault) → outcome_of x ≡ Wrong fault → ⊥)
match_outcomes W Q s V (Going a t w) y h = (ap outcome_of h.4, λ fault is. absurd (cc is))
match_outcomes W Q s V (Stopped (Ended w k p)) y h = (ap outcome_of h, λ fault is. absurd (cc is))
match_outcomes W Q s V (Stopped (Cut w)) y h = (ap outcome_of h, λ fault is. absurd (cc is))
match_outcomes W Q s V (Stopped (Wrong f)) y h = absurd h

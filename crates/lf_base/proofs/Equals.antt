-- Acts made of equal acts are equal: one lemma a combinator.
use Rattle.std.proofs.Common.{◌≡◌, ℕ, zero, suc, Bool, true, false, List, Option, Some, None, refl, sym, ap, subst, ◌∙◌, cond}
use Rattle.lf_base.specs.Outcome.{Location, Written, Fault, Ended, Cut, Wrong}
use Rattle.lf_base.specs.Acts.{Stretch, Going, Stopped, Act, then_do, bind, give, look, change, print, complain, stop, trap, cut, next_or, within, turn, iterate, outcome_of, given}
use Rattle.lf_base.specs.declared.trap.Trap.{Trap}
use Rattle.lf_base.specs.Equal.{World, Sound, EqualAt, Equal, Always, Anyhow}
use Rattle.lf_base.specs.Loops.{landing, counted}
use Rattle.lf_base.specs.Depth.{Callee, calls}

pub sound_earlier : {S A : Type 0} (W : World S) (s t : S) (V : A → S → Type 0) (x : Stretch S A) → W.later s t → Sound W t V x → Sound W s V x
sound_earlier W s t V (Going a u v) l h = (W.more s t u l h.0, h.1)
sound_earlier W s t V (Stopped (Ended v k p)) l h = tt
sound_earlier W s t V (Stopped (Cut v)) l h = tt
sound_earlier W s t V (Stopped (Wrong f)) l h = h

pub sound_weaker : {S A : Type 0} (W : World S) (s : S) (V U : A → S → Type 0) (x : Stretch S A) → ((a : A) (t : S) → W.later s t → V a t → U a t) → Sound W s V x → Sound W s U x
sound_weaker W s V U (Going a u v) k h = (h.0, k a u h.0 h.1)
sound_weaker W s V U (Stopped (Ended v k p)) l h = tt
sound_weaker W s V U (Stopped (Cut v)) l h = tt
sound_weaker W s V U (Stopped (Wrong f)) l h = h

-- behind one stretch
then_equal : {S A B : Type 0} (W : World S) (s : S) (V : A → S → Type 0) (U : B → S → Type 0) (x : Stretch S A) (go go' : A → Act S B) → Sound W s V x → ((a : A) (t : S) (w : Written) → W.later s t → V a t → EqualAt W t U (go a t w) (go' a t w)) → EqualAt W s U (then_do x go) (then_do x go')
then_equal W s V U (Going a t w) go go' h k = let r = k a t w h.0 h.1 in (sound_earlier W s t U (go a t w) h.0 r.0, r.1)
then_equal W s V U (Stopped (Ended w k p)) go go' h _ = (tt, refl)
then_equal W s V U (Stopped (Cut w)) go go' h k = (tt, refl)
then_equal W s V U (Stopped (Wrong f)) go go' h k = (h, refl)

-- the same stretches, computed further
pub equal_steps : {S A : Type 0} (W : World S) (s : S) (V : A → S → Type 0) (x x' y y' : Stretch S A) → x ≡ x' → y ≡ y' → EqualAt W s V x' y' → EqualAt W s V x y
equal_steps W s V x x' y y' e f h = (subst (Sound W s V) (sym e) h.0, f ∙ h.1 ∙ sym e)

pub bind_equal : {S A B : Type 0} (W : World S) (P : S → Type 0) (V : A → S → Type 0) (U : B → S → Type 0) (act act' : Act S A) (go go' : A → Act S B) → Equal W P V act act' → ((a : A) (s : S) → W.holds s → P s → Equal W (λ t. W.later s t × V a t) U (go a) (go' a)) → Equal W P U (bind act go) (bind act' go')
bind_equal W P V U act act' go go' h k s i p w =
    let r = h s i p w in
    let t = then_equal W s V U (act s w) go go' r.0 (λ a t v l va. k a s i p t (W.keeps s t i l) (l, va) v) in
    (t.0, ap (λ x. then_do x go') r.1 ∙ t.1)

then_then : {S A B C : Type 0} (x : Stretch S A) (f : A → Act S B) (g : B → Act S C) → then_do (then_do x f) g ≡ then_do x (λ a. bind (f a) g)
then_then (Going a t w) f g = refl
then_then (Stopped o) f g = refl

pub bind_bind : {S A B C : Type 0} (act : Act S A) (f : A → Act S B) (g : B → Act S C) (s : S) (w : Written) → bind (bind act f) g s w ≡ bind act (λ a. bind (f a) g) s w
bind_bind act f g s w = then_then (act s w) f g

-- The second has one more step behind the act, as a conversion: it is regrouped to what follows.
pub bind_through : {S A B C : Type 0} (W : World S) (P : S → Type 0) (V : A → S → Type 0) (U : C → S → Type 0) (act act' : Act S A) (step : A → Act S B) (go : A → Act S C) (go' : B → Act S C) → Equal W P V act act' → ((a : A) (s : S) → W.holds s → P s → Equal W (λ t. W.later s t × V a t) U (go a) (bind (step a) go')) → Equal W P U (bind act go) (bind (bind act' step) go')
bind_through W P V U act act' step go go' h k s i p w =
    let r = bind_equal W P V U act act' go (λ a. bind (step a) go') h k s i p w in
    (r.0, bind_bind act' step go' s w ∙ r.1)

module _ {S : Type 0} (W : World S) (P : S → Type 0) where
  pub give_equal : {A : Type 0} (V : A → S → Type 0) (a : A) → ((s : S) → W.holds s → P s → V a s) → Equal W P V (give a) (give a)
  give_equal V a h s i p w = ((W.same s, h s i p), refl)

  -- looked at, or changed, in two ways that agree where the state holds
  pub look_equal : {A : Type 0} (V : A → S → Type 0) (f f' : S → A) → ((s : S) → W.holds s → P s → V (f s) s) → ((s : S) → W.holds s → P s → f' s ≡ f s) → Equal W P V (look f) (look f')
  look_equal V f f' h e s i p w = ((W.same s, h s i p), ap (λ a. Going a s w) (e s i p))

  pub change_equal : (V : Unit {0} → S → Type 0) (f f' : S → S) → ((s : S) → W.holds s → P s → W.later s (f s) × V tt (f s)) → ((s : S) → W.holds s → P s → f' s ≡ f s) → Equal W P V (change f) (change f')
  change_equal V f f' h e s i p w = (h s i p, ap (λ t. Going (tt {0}) t w) (e s i p))

  pub print_equal : (bytes : List ℕ) → Equal W P Anyhow (print bytes) (print bytes)
  print_equal bytes s i p w = ((W.same s, tt), refl)

  pub complain_equal : (bytes : List ℕ) → Equal W P Anyhow (complain bytes) (complain bytes)
  complain_equal bytes s i p w = ((W.same s, tt), refl)

  pub stop_equal : {A : Type 0} (V : A → S → Type 0) (status : ℕ) → Equal W P V (stop status) (stop status)
  stop_equal V status s i p w = (tt, refl)

  pub trap_equal : {A : Type 0} (V : A → S → Type 0) (cause : Trap) (text : List ℕ) (location : Option Location) → Equal W P V (trap cause text location) (trap cause text location)
  trap_equal V cause text location s i p w = (tt, refl)

  pub cut_equal : {A : Type 0} (V : A → S → Type 0) → Equal W P V cut cut
  cut_equal V s i p w = (tt, refl)

  -- there is a value
  pub given_equal : {A : Type 0} (V : A → S → Type 0) (fault : Fault) (o : Option A) → ((s : S) → W.holds s → P s → (v : A) × (o ≡ Some v) × V v s) → Equal W P V (given fault o) (given fault o)
  given_equal V fault o h s i p w = let x = h s i p in subst (λ o. EqualAt W s V (given fault o s w) (given fault o s w)) (sym x.1) ((W.same s, x.2), refl)

  pub cond_equal : {A : Type 0} (V : A → S → Type 0) (b : Bool) (x x' y y' : Act S A) → Equal W P V x x' → Equal W P V y y' → Equal W P V (cond b x y) (cond b x' y')
  cond_equal V true x x' y y' h k = h
  cond_equal V false x x' y y' h k = k

  -- in front of what holds anyway
  pub equal_always : {A : Type 0} (V : A → S → Type 0) (act act' : Act S A) → Equal W Always V act act' → Equal W P V act act'
  equal_always V act act' h s i p w = h s i tt w

  pub next_equal : {B : Type 0} (more more' : Act S (Option B)) → Equal W Always Anyhow more more' → (o : Option B) → Equal W P Anyhow (next_or more o) (next_or more' o)
  next_equal more more' h None = equal_always Anyhow more more' h
  next_equal more more' h (Some b) = give_equal Anyhow (Some b) (λ s i p. tt)

  pub landing_equal : {B : Type 0} (lands : B → Bool) (o : Option B) → Equal W P Anyhow (landing lands o) (landing lands o)
  landing_equal {B} lands None = give_equal {A = Option B} Anyhow None (λ s i p. tt)
  landing_equal {B} lands (Some b) = cond_equal {A = Option B} Anyhow (lands b) (give None) (give None) (give (Some b)) (give (Some b)) (give_equal {A = Option B} Anyhow None (λ s i p. tt)) (give_equal Anyhow (Some b) (λ s i p. tt))

-- with more known before, and less said after
pub equal_weaker : {S A : Type 0} (W : World S) (P Q : S → Type 0) (V U : A → S → Type 0) (act act' : Act S A) → ((s : S) → W.holds s → Q s → P s) → ((s : S) → W.holds s → Q s → (a : A) (t : S) → W.later s t → V a t → U a t) → Equal W P V act act' → Equal W Q U act act'
equal_weaker W P Q V U act act' into out h s i q w = let r = h s i (into s i q) w in (sound_weaker W s V U (act s w) (out s i q) r.0, r.1)

-- one act behind another, where nothing is said between them
pub step_equal : {S A B : Type 0} (W : World S) (act act' : Act S A) (go go' : A → Act S B) → Equal W Always Anyhow act act' → ((a : A) → Equal W Always Anyhow (go a) (go' a)) → Equal W Always Anyhow (bind act go) (bind act' go')
step_equal W act act' go go' h k = bind_equal W Always Anyhow Anyhow act act' go go' h (λ a s i p. equal_always W (λ t. W.later s t × Unit {0}) Anyhow (go a) (go' a) (k a))

turn_equal : {S B : Type 0} (W : World S) (P : S → Type 0) (body body' more more' : Act S (Option B)) → Equal W Always Anyhow body body' → Equal W Always Anyhow more more' → (t : Bool) → Equal W P Anyhow (turn body more t) (turn body' more' t)
turn_equal W P body body' more more' h k true = bind_equal W P Anyhow Anyhow body body' (next_or more) (next_or more') (equal_always W P Anyhow body body' h) (λ o s i p. next_equal W (λ t. W.later s t × Unit {0}) more more' k o)
turn_equal {S} {B} W P body body' more more' h k false = give_equal W P {A = Option B} Anyhow None (λ s i p. tt)

pub iterate_equal : {S B : Type 0} (W : World S) (n : ℕ) (test test' : Act S Bool) (body body' : Act S (Option B)) → Equal W Always Anyhow test test' → Equal W Always Anyhow body body' → Equal W Always Anyhow (iterate n test body) (iterate n test' body')
iterate_equal {S} {B} W zero test test' body body' h k = bind_equal W Always Anyhow Anyhow test test' (turn cut cut) (turn cut cut) h (λ t s i p. turn_equal {B = B} W (λ t. W.later s t × Unit {0}) cut cut cut cut (cut_equal W Always Anyhow) (cut_equal W Always Anyhow) t)
iterate_equal W (suc n) test test' body body' h k = bind_equal W Always Anyhow Anyhow test test' (turn body (iterate n test body)) (turn body' (iterate n test' body')) h (λ t s i p. turn_equal W (λ t. W.later s t × Unit {0}) body body' (iterate n test body) (iterate n test' body') k (iterate_equal W n test test' body body' h k) t)

pub counted_equal : {S B : Type 0} (W : World S) (count n : ℕ) (body body' : Act S (Option B)) → Equal W Always Anyhow body body' → Equal W Always Anyhow (counted count n body) (counted count n body')
counted_equal {S} {B} W zero n body body' h = give_equal W Always {A = Option B} Anyhow None (λ s i p. tt)
counted_equal {S} {B} W (suc count) zero body body' h = cut_equal W Always {A = Option B} Anyhow
counted_equal W (suc count) (suc n) body body' h = step_equal W body body' (next_or (counted count n body)) (next_or (counted count n body')) h (next_equal W Always (counted count n body) (counted count n body') (counted_equal W count n body body' h))

-- K says which calls are fellows
pub calls_equal : {S A X X' : Type 0} (W : World S) (K : X → X' → Type 0) (P : X → S → Type 0) (V : X → A → S → Type 0) (callee : Callee S A X) (callee' : Callee S A X') → ((inner : X → Act S A) (inner' : X' → Act S A) → ((x : X) (x' : X') → K x x' → Equal W (P x) (V x) (inner x) (inner' x')) → (x : X) (x' : X') → K x x' → Equal W (P x) (V x) (callee inner x) (callee' inner' x')) → (d : ℕ) (x : X) (x' : X') → K x x' → Equal W (P x) (V x) (calls callee d x) (calls callee' d x')
calls_equal W K P V callee callee' h zero x x' k = cut_equal W (P x) (V x)
calls_equal W K P V callee callee' h (suc d) x x' k = h (calls callee d) (calls callee' d) (calls_equal W K P V callee callee' h d) x x' k

-- in a state of its own, which another world keeps: a call with its frame
pub within_equal : {S A : Type 0} (W W' : World S) (P P' : S → Type 0) (V V' : A → S → Type 0) (enter : S → S) (leave : S → S → S) (act act' : Act S A) → ((s : S) → W.holds s → P s → W'.holds (enter s) × P' (enter s)) → ((s : S) → W.holds s → P s → (a : A) (t : S) → W'.later (enter s) t → V' a t → W.later s (leave s t) × V a (leave s t)) → Equal W' P' V' act act' → Equal W P V (within enter leave act) (within enter leave act')
within_equal {S} {A} W W' P P' V V' enter leave act act' into out h s i p w =
    let q = into s i p in
    let r = h (enter s) q.0 q.1 w in
    (by (act (enter s) w) r.0, ap (λ x. then_do x left) r.1)
  where
    left : A → Act S A
    left value inner later = Going value (leave s inner) later

    by : (x : Stretch S A) → Sound W' (enter s) V' x → Sound W s V (then_do x left)
    by (Going a t v) k = out s i p a t k.0 k.1
    by (Stopped (Ended v k p')) _ = tt
    by (Stopped (Cut v)) k = tt
    by (Stopped (Wrong f)) k = k

-- Whole programs: a sound stretch has no fault.
pub sound_outcome : {S : Type 0} (W : World S) (s : S) (V : ℕ → S → Type 0) (x : Stretch S ℕ) → Sound W s V x → (fault : Fault) → outcome_of x ≡ Wrong fault → ⊥
sound_outcome W s V (Going a t w) h fault is = absurd (cc is)
sound_outcome W s V (Stopped (Ended w k p)) h fault is = absurd (cc is)
sound_outcome W s V (Stopped (Cut w)) h fault is = absurd (cc is)
sound_outcome W s V (Stopped (Wrong f)) h fault is = h

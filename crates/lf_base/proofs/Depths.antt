-- Calls by depth: they only write more, deeper ones go at least as far, and each is below its fellow.
use Rattle.std.proofs.Common.{◌≡◌, ℕ, zero, suc, ◌+◌, ◌≤◌, Option, arith}
use Rattle.lf_base.specs.Outcome.{Location, Owed}
use Rattle.lf_base.specs.Acts.{Act}
use Rattle.lf_base.specs.Order.{Grows, Link}
use Rattle.lf_base.specs.Monotone.{NoShorter}
use Rattle.lf_base.specs.Depth.{Callee, calls, CalleeGrows, CalleeLonger, CallsBelow}
use Rattle.lf_base.proofs.Stretches.{grows_cut}

pub calls_grow : {S A X : Type 0} (callee : Callee S A X) → CalleeGrows callee → (d : ℕ) (x : X) → Grows (calls callee d x)
calls_grow {S} {A} callee g zero x = grows_cut S A
calls_grow callee g (suc d) x = g (calls callee d) (calls_grow callee g d) x

pub calls_no_shorter : {S A X : Type 0} (callee callee' : Callee S A X) → CalleeLonger callee callee' → CalleeGrows callee' → (d d' : ℕ) → d ≤ d' → (x : X) → NoShorter (calls callee d x) (calls callee' d' x)
calls_no_shorter callee callee' h g zero d' le x = calls_grow callee' g d' x
calls_no_shorter callee callee' h g (suc d) zero le x = absurd (omega arith)
calls_no_shorter callee callee' h g (suc d) (suc d') le x = h (calls callee d) (calls callee' d') (calls_no_shorter callee callee' h g d d' (omega arith)) (calls_grow callee' g d') x

-- The second's calls may be e deeper, for the helpers that it calls. The premise on one call knows what the second
-- calls at that very depth, so that what is known of helpers there can be cited.
module _ {S A X S' A' X' I : Type 0} (W : Owed) (P : Option Location → Option Location → Type 0) (K : X → X' → Type 0) (Q : I → X → X' → S → S' → Type 0) (R : I → X → X' → Link S A S' A') (e : ℕ) (callee : Callee S A X) (callee' : Callee S' A' X') where
  pub calls_below : ((d d' : ℕ) → d + e ≤ d' → CallsBelow W P K Q R (calls callee d) (calls callee' d') → CallsBelow W P K Q R (callee (calls callee d)) (callee' (calls callee' d'))) → CalleeGrows callee' → (d d' : ℕ) → d + e ≤ d' → CallsBelow W P K Q R (calls callee d) (calls callee' d')
  calls_below h g zero d' le i x x' k = λ s s' w q. calls_grow callee' g d' x' s' w
  calls_below h g (suc d) zero le i x x' k = absurd (omega arith)
  calls_below h g (suc d) (suc d') le i x x' k = h d d' (omega arith) (calls_below h g d d' (omega arith)) i x x' k

-- A helper that calls nothing is there from depth 1 on.
pub helper_at : {S A X : Type 0} (callee : Callee S A X) (x : X) (body : Act S A) → ((inner : X → Act S A) → callee inner x ≡ body) → (d : ℕ) → 1 ≤ d → calls callee d x ≡ body
helper_at callee x body h zero le = absurd (omega arith)
helper_at callee x body h (suc d) le = h (calls callee d)

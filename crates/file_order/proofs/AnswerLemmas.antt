-- The same answers for equal conditions.
use Rattle.std.proofs.Common.{◌≡◌, ◌<◌, ℕ, List, sym, subst}
use Rattle.file_order.specs.Orders.{IsValidOrder, IsLeastOrder}
use Rattle.file_order.specs.Cycles.{IsStuck}

module _ (n n' : ℕ) (Before Before' : ℕ → ℕ → Type 0) (same : n ≡ n') where
  pub stuck_as : ((a b : ℕ) → Before a b → Before' a b) → (p : ℕ) → IsStuck n Before p → IsStuck n' Before' p
  stuck_as more p stuck = (
    stuck.0,
    (λ b h.
        let one = stuck.1 b h in
        (subst (λ (k : ℕ). b < k) same one.0, (one.1.0, one.1.1, more one.1.0 b one.1.2))),
    stuck.2,
  )

  pub valid_as : ((a b : ℕ) → Before' a b → Before a b) → (order : List ℕ) → IsValidOrder n Before order → IsValidOrder n' Before' order
  valid_as less order valid = record {
    places = λ p. (λ h. subst (λ (k : ℕ). p < k) same ((valid.places p).0 h), λ h. (valid.places p).1 (subst (λ (k : ℕ). p < k) (sym same) h));
    once = valid.once;
    kept = λ a b h. valid.kept a b (less a b h);
  }

pub least_as : (n n' : ℕ) (Before Before' : ℕ → ℕ → Type 0) → n ≡ n' → ((a b : ℕ) → Before a b → Before' a b) → ((a b : ℕ) → Before' a b → Before a b) → (order : List ℕ) → IsLeastOrder n Before order → IsLeastOrder n' Before' order
least_as n n' Before Before' same more less order l = record {
  valid = valid_as n n' Before Before' same less order l.valid;
  least = λ other valid. l.least other (valid_as n' n Before' Before (sym same) more other valid);
}

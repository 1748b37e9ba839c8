-- The law of the helper at all bounds, from its law at bounds that are large enough.
use Rattle.std.proofs.Common.{◌≡◌, ℕ, ◌+◌, ◌*◌, ◌≤◌, Bool, true, false, cond, leb, List, None, refl, sym, ap, subst, ◌∙◌, arith, leb-true, le-leb}
use Rattle.lf_base.specs.Outcome.{Location, Written, KeepsLocation, KeptLocation, Never}
use Rattle.lf_base.specs.Traps.{trap_text}
use Rattle.lf_base.specs.declared.trap.Trap.TheVariants.{IntegerOverflow}
use Rattle.lf_base.specs.Acts.{Going, give, trap_at}
use Rattle.lf_base.specs.Order.{BelowFrom}
use Rattle.lf_base.specs.Monotone.{NoShorter}
use Rattle.lf_base.specs.Alike.{Alike, AlikeFrom}
use Rattle.lf_base.specs.Depth.{calls}
use Rattle.lf_base.proofs.Alike.{alike_back}
use Rattle.lf_base.proofs.Enough.{from_enough}
use Rattle.lf_base.proofs.Depths.{calls_no_shorter}
use Rattle.link_toy.specs.Meaning.{Store, largest_factor, product}
use Rattle.link_toy.specs.Target.{CStatement, Memory, Multiplier, set_cell, added_up, overflow, callee_c}
use Rattle.link_toy.specs.Translation.{helper_depth}
use Rattle.link_toy.specs.Relation.{Unchanged}
use Rattle.link_toy.proofs.Cells.{unchanged_same, unchanged_more, unchanged_set}
use Rattle.link_toy.proofs.Helper.{multiplies}
use Rattle.link_toy.proofs.Growth.{callee_c_grows}
use Rattle.link_toy.proofs.Larger.{callee_c_longer}
use Rattle.link_toy.proofs.Nearness.{helps}

-- the loop of the helper, from a memory that is like the one before it below the helper's objects
summed : (n r u v : ℕ) (m : Memory) (w : Written) → u ≤ n → (m' : Memory) × Unchanged r m m' × (added_up n r u v m w ≡ Going (u * v) m' w)
summed n r u v m w le = multiplies (Unchanged r m) r v (λ i o x lo h. unchanged_more r r (omega arith) m i (set_cell o x i) h (unchanged_set r o x i lo)) w n u m le (unchanged_same r m)

module _ (bodies : ℕ → CStatement) where
  pub gives_product : (n d : ℕ) → largest_factor ≤ n → helper_depth ≤ d → (r u v : ℕ) (text : List ℕ) → u ≤ largest_factor → (m : Memory) (w : Written) → (m' : Memory) × Unchanged r m m' × (calls (callee_c n bodies) d (Multiplier r u v text) m w ≡ Going (u * v) m' w)
  gives_product n d enough deep r u v text fits m w =
      let x = summed n r u v m w (omega (arith, fits, enough)) in
      (x.0, x.1, ap (λ act. act m w) (helps bodies n d deep r u v text) ∙ ap (λ b. cond b (added_up n r u v) (overflow text) m w) (le-leb u largest_factor fits) ∙ x.2)

  module _ (r u v : ℕ) (here : Location) (before : Memory) where
    abbrev text : List ℕ
    text = trap_text IntegerOverflow here

    by_factor : (n : ℕ) → largest_factor ≤ n → (s : Store) (m : Memory) (w : Written) → Unchanged r before m → (b : Bool) → leb u largest_factor ≡ b → Alike KeepsLocation (λ a s a' m. (a ≡ a') × Unchanged r before m) (cond b (give {S = Store} (u * v)) (trap_at IntegerOverflow here) s w) (cond b (added_up n r u v) (overflow text) m w)
    by_factor n enough s m w q true e = let fits = leb-true u largest_factor e in let x = summed n r u v m w (omega (arith, fits, enough)) in (u * v, x.0, (refl, unchanged_more r r (omega arith) before m x.0 q x.1), x.2)
    by_factor n enough s m w q false e = (None, tt, refl)

    alike : (n d : ℕ) → largest_factor ≤ n → helper_depth ≤ d → AlikeFrom KeepsLocation (λ s m. Unchanged r before m) (λ a s a' m. (a ≡ a') × Unchanged r before m) (product {S = Store} here u v) (calls (callee_c n bodies) d (Multiplier r u v text))
    alike n d enough deep s m w q = subst (λ act. Alike KeepsLocation (λ a s a' m. (a ≡ a') × Unchanged r before m) (product {S = Store} here u v s w) (act m w)) (sym (helps bodies n d deep r u v text)) (by_factor n enough s m w q (leb u largest_factor) refl)

    to_enough : (n d : ℕ) → NoShorter (calls (callee_c n bodies) d (Multiplier r u v text)) (calls (callee_c (n + largest_factor) bodies) (d + helper_depth) (Multiplier r u v text))
    to_enough n d = calls_no_shorter (callee_c n bodies) (callee_c (n + largest_factor) bodies) (callee_c_longer n (n + largest_factor) (omega arith) bodies) (callee_c_grows (n + largest_factor) bodies) d (d + helper_depth) (omega arith) (Multiplier r u v text)

    pub at_all_bounds : (n d : ℕ) → BelowFrom Never KeptLocation (λ m s. Unchanged r before m) (λ a m a' s. (a' ≡ a) × Unchanged r before m) (calls (callee_c n bodies) d (Multiplier r u v text)) (product {S = Store} here u v)
    at_all_bounds n d =
        from_enough Never KeptLocation (λ a m a' s. (a' ≡ a) × Unchanged r before m) (λ m s. Unchanged r before m) (calls (callee_c n bodies) d (Multiplier r u v text)) (calls (callee_c (n + largest_factor) bodies) (d + helper_depth) (Multiplier r u v text)) (product {S = Store} here u v) (to_enough n d)
        (alike_back KeepsLocation Never (λ s m. Unchanged r before m) (λ a s a' m. (a ≡ a') × Unchanged r before m) (product {S = Store} here u v) (calls (callee_c (n + largest_factor) bodies) (d + helper_depth) (Multiplier r u v text)) (alike (n + largest_factor) (d + helper_depth) (omega arith) (omega arith)))

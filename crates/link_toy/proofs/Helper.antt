-- The helper multiplies: at turns enough it gives the product, and keeps whatever its own objects do not touch.
use Rattle.std.proofs.Common.{◌≡◌, ℕ, zero, suc, ◌+◌, ◌*◌, ◌≤◌, Some, None, ap, ◌∙◌, arith}
use Rattle.std.proofs.lemmas.Map.{update_here, update_apart}
use Rattle.lf_base.specs.Outcome.{Written, Undefined}
use Rattle.lf_base.specs.Acts.{Going, Act, then_do, bind, give, change, given, iterate}
use Rattle.lf_base.proofs.Runs.{iterate_done, iterate_turn}
use Rattle.link_toy.specs.Meaning.{is_true}
use Rattle.link_toy.specs.Target.{Memory, cell, set_cell, load, add_once, is_counting, added_up, one_less}

pub load_gives : (o v : ℕ) (m : Memory) (w : Written) → cell o m ≡ Some v → load o m w ≡ Going v m w
load_gives o v m w e = ap (λ z. given Undefined z m w) e

-- an object is read, and more follows
pub after_load : {A : Type 0} (o v : ℕ) (m : Memory) (w : Written) (go : ℕ → Act Memory A) → cell o m ≡ Some v → bind (load o) go m w ≡ go v m w
after_load o v m w go e = ap (λ z. then_do z go) (load_gives o v m w e)

pub cell_set : (o v : ℕ) (m : Memory) → cell o (set_cell o v m) ≡ Some v
cell_set o v m = update_here m.cells (m.frame + o) (Some v)

pub cell_apart : (o v other : ℕ) (m : Memory) → (other ≡ o → ⊥) → cell other (set_cell o v m) ≡ cell other m
cell_apart o v other m h = update_apart m.cells (m.frame + o) (Some v) (m.frame + other) (λ e. h (omega (arith, e)))

-- G is kept by what is put into the objects from r on
module _ (G : Memory → Type 0) (r v : ℕ) (kept : (m : Memory) (o x : ℕ) → r ≤ o → G m → G (set_cell o x m)) (w : Written) where
  abbrev turned : ℕ → ℕ → Memory → Memory
  turned sum i m = set_cell (suc r) i (set_cell r (sum + v) m)

  one_turn : (sum i : ℕ) (m : Memory) → cell r m ≡ Some sum → cell (suc r) m ≡ Some (suc i) → add_once r v m w ≡ Going None (turned sum i m) w
  one_turn sum i m e f =
      after_load r sum m w (λ sum. bind (change (set_cell r (sum + v))) (λ u. bind (load (suc r)) (λ i. bind (change (set_cell (suc r) (one_less i))) (λ u. give None)))) e
      ∙ after_load (suc r) (suc i) (set_cell r (sum + v) m) w (λ i. bind (change (set_cell (suc r) (one_less i))) (λ u. give None)) (cell_apart r (sum + v) (suc r) m (λ h. omega (arith, h)) ∙ f)

  regrouped : (sum i : ℕ) → (sum + v) + i * v ≡ sum + suc i * v
  regrouped sum i = grind arith

  turns : (i n sum : ℕ) (m : Memory) → i ≤ n → cell r m ≡ Some sum → cell (suc r) m ≡ Some i → G m → (m' : Memory) × G m' × (cell r m' ≡ Some (sum + i * v)) × (iterate n (is_counting r) (add_once r v) m w ≡ Going None m' w)
  turns zero n sum m le e f g = (m, g, e ∙ ap Some (omega arith), iterate_done (is_counting r) (add_once r v) m w n m w (after_load (suc r) 0 m w (λ i. give (is_true i)) f))
  turns (suc i) zero sum m le e f g = absurd (omega arith)
  turns (suc i) (suc n) sum m le e f g =
      let x = turns i n (sum + v) (turned sum i m) (omega arith) (cell_apart (suc r) i r (set_cell r (sum + v) m) (λ h. omega (arith, h)) ∙ cell_set r (sum + v) m) (cell_set (suc r) i (set_cell r (sum + v) m)) (kept (set_cell r (sum + v) m) (suc r) i (omega arith) (kept m r (sum + v) (omega arith) g)) in (
        x.0,
        x.1,
        x.2 ∙ ap Some (regrouped sum i),
        iterate_turn (is_counting r) (add_once r v) m w n m (turned sum i m) w w (after_load (suc r) (suc i) m w (λ i. give (is_true i)) f) (one_turn sum i m e f) ∙ x.3,
      )

  pub multiplies : (n u : ℕ) (m : Memory) → u ≤ n → G m → (m' : Memory) × G m' × (added_up n r u v m w ≡ Going (u * v) m' w)
  multiplies n u m le g =
      let begun : Memory = set_cell (suc r) u (set_cell r 0 m) in
      let x = turns u n 0 begun le (cell_apart (suc r) u r (set_cell r 0 m) (λ h. omega (arith, h)) ∙ cell_set r 0 m) (cell_set (suc r) u (set_cell r 0 m)) (kept (set_cell r 0 m) (suc r) u (omega arith) (kept m r 0 (omega arith) g)) in
      (x.0, x.1, ap (λ z. then_do z (λ o. load r)) x.3 ∙ load_gives r (u * v) x.0 w (x.2 ∙ ap Some (omega arith)))

use Rattle.std.specs.Prelude.{◌≡◌, ◌<◌, ℕ, false}
use Rattle.file_order.specs.Search.{is_open}
use Rattle.file_order.proofs.answer.first_open.Given as goal

abbrev pub invariant-loop-place : goal.invariant-loop-place
invariant-loop-place l = (p : ℕ) → p < l.place → is_open l.marks p ≡ false

use Rattle.std.specs.Prelude.{◌<◌, ◌↔◌, ℕ}
use Rattle.std.specs.List.{Contains}
use Rattle.file_order.proofs.search.all_places.Given as goal

abbrev pub invariant-loop-place : goal.invariant-loop-place
invariant-loop-place l = (p : ℕ) → Contains l.places p ↔ (p < l.place)

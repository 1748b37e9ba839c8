use Rattle.std.specs.Prelude.{◌≡◌, [], map, replicate}
use Rattle.file_order.proofs.rows.Rows.new.Given as goal

abbrev pub invariant-loop-place : goal.invariant-loop-place
invariant-loop-place l = map (λ v. v.items) l.rows.items ≡ replicate l._place []

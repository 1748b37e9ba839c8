use Rattle.std.specs.Prelude.{◌≡◌, ◌++◌, drop, map, string_bytes}
use Rattle.lf_driver.specs.Order.{names_at}
use Rattle.lf_driver.specs.Refusal.{listed}
use Rattle.lf_driver.proofs.sort.add_names.Given as goal

abbrev pub invariant-loop-place : goal.invariant-loop-place
invariant-loop-place l = l.text.items ++ listed l.before l.behind (names_at (map string_bytes l.names) (drop l.place-index l.places)) ≡ l.fn.text.items ++ listed l.before l.behind (names_at (map string_bytes l.names) l.places)

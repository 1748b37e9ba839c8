use Rattle.std.proofs.Common.{◌≡◌, drop}
use Rattle.ff_expressions.specs.Binding.{loosest, loosest_from}
use Rattle.ff_expressions.proofs.level.loosest.Given as goal

abbrev pub invariant-loop-at : goal.invariant-loop-at
invariant-loop-at l = loosest_from l.found (drop l.at l.items) ≡ loosest l.items

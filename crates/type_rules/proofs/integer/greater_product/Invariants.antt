use Rattle.std.proofs.Common.{◌≡◌}
use Rattle.type_rules.specs.Integers.{product_of}
use Rattle.type_rules.proofs.integer.greater_product.Given as goal

abbrev pub invariant-loop-i : goal.invariant-loop-i
invariant-loop-i l = product_of l.factor l.i ≡ l.so_far

use Rattle.std.proofs.Common.{arith}
use Rattle.std.proofs.lemmas.Int.{ints}
use Rattle.type_rules.proofs.Powers.{of_minus_one_even, of_minus_one_odd, of_unit}
use Rattle.type_rules.proofs.integer.unit_product.Goals as goal

pub returns-then-count-eq0-2 : goal.returns-then-count-eq0-2
returns-then-count-eq0-2 c = of_minus_one_even c.args.factor c.args.count (omega (arith, ints)) (omega arith)

pub returns-else-count-eq0-2 : goal.returns-else-count-eq0-2
returns-else-count-eq0-2 c = of_minus_one_odd c.args.factor c.args.count (omega (arith, ints)) (λ h. omega arith)

pub returns-then-factor-eq1 : goal.returns-then-factor-eq1
returns-then-factor-eq1 c = of_unit c.args.factor c.args.count (omega (arith, ints))

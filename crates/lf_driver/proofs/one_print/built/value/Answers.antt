use Rattle.std.proofs.Common.{refl, drop}
use Rattle.lf_driver.proofs.OnePrint.Values.{too_great}
use Rattle.lf_driver.proofs.one_print.built.value.Goals as goal

pub returns-then-value-gt-GREATEST_LITERAL : goal.returns-then-value-gt-GREATEST_LITERAL
returns-then-value-gt-GREATEST_LITERAL c = rw (← c.loop-digit.invariant.rest, too_great c.loop-digit.value (drop c.loop-digit.digit-index c.args.digits.now) c.if-value-gt-GREATEST_LITERAL.true) refl

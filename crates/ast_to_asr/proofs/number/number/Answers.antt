use Rattle.ast_to_asr.proofs.Numbers.{stopped}
use Rattle.ast_to_asr.proofs.number.number.Goals as goal

pub returns-in-None : goal.returns-in-None
returns-in-None c = stopped c.args.digits.now c.loop-digit.digit-index c.loop-digit.number c.with_digit.result c.loop-digit-test.true c.loop-digit.invariant.whole c.with_digit.ensures c.in-None.is

use Rattle.std.proofs.Common.{arith, drop, length-drop}
use Rattle.type_rules.proofs.Dims.{identical_end}
use Rattle.type_rules.proofs.equality.identical_dims.Goals as goal

pub returns-in-empty : goal.returns-in-empty
returns-in-empty c =
    identical_end (drop c.loop-dim.dim-index c.args.a.now) c.loop-dim.others.now _ (omega (arith, length-drop c.loop-dim.dim-index c.args.a.now, c.loop-dim-test.true)) (omega arith) c.loop-dim.invariant

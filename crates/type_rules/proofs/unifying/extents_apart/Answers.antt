use Rattle.std.proofs.Common.{arith, drop}
use Rattle.type_rules.proofs.Dims.{apart_end}
use Rattle.type_rules.proofs.unifying.extents_apart.Goals as goal

pub returns-in-empty : goal.returns-in-empty
returns-in-empty c = apart_end (drop c.loop-dim.dim-index c.args.a.now) c.loop-dim.others.now _ (omega arith) c.loop-dim.invariant

use Rattle.std.proofs.Common.{ap, arith, drop, Ok}
use Rattle.type_rules.proofs.Dims.{joined_end}
use Rattle.type_rules.proofs.unifying.joined_dims.Goals as goal

pub returns-in-empty : goal.returns-in-empty
returns-in-empty c = ap Ok (joined_end c.loop-dim.all (drop c.loop-dim.dim-index c.args.a.now) c.loop-dim.others.now _ (omega arith) c.loop-dim.invariant)

use Rattle.std.proofs.Common.{◌≡◌, drop}
use Rattle.type_rules.specs.Equality.{identical_dims}
use Rattle.type_rules.proofs.equality.identical_dims.Given as goal

abbrev pub invariant-loop-dim : goal.invariant-loop-dim
invariant-loop-dim l = identical_dims (drop l.dim-index l.a) l.others ≡ identical_dims l.a l.fn.b

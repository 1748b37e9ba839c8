use Rattle.std.proofs.Common.{◌≡◌, ◌++◌, drop}
use Rattle.type_rules.specs.Types.{joined_dims}
use Rattle.type_rules.proofs.unifying.joined_dims.Given as goal

abbrev pub invariant-loop-dim : goal.invariant-loop-dim
invariant-loop-dim l = l.all ++ joined_dims (drop l.dim-index l.a) l.others ≡ joined_dims l.a l.fn.b

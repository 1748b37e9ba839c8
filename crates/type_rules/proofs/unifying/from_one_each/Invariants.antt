use Rattle.std.proofs.Common.{◌≡◌, ◌++◌, drop, map}
use Rattle.type_rules.specs.Types.{from_one}
use Rattle.type_rules.proofs.unifying.from_one_each.Given as goal

abbrev pub invariant-loop-dim : goal.invariant-loop-dim
invariant-loop-dim l = l.all ++ map from_one (drop l.dim-index l.dims) ≡ map from_one l.dims

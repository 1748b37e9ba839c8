use Rattle.std.proofs.Common.{◌≡◌, drop}
use Rattle.type_rules.specs.Types.{extents_apart}
use Rattle.type_rules.proofs.unifying.extents_apart.Given as goal

abbrev pub invariant-loop-dim : goal.invariant-loop-dim
invariant-loop-dim l = extents_apart (drop l.dim-index l.a) l.others ≡ extents_apart l.a l.fn.b

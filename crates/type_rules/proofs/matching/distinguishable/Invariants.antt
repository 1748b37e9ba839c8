use Rattle.std.proofs.Common.{◌≡◌, drop}
use Rattle.type_rules.specs.Matching.{are_distinguishable}
use Rattle.type_rules.proofs.matching.distinguishable.Given as goal

abbrev pub invariant-loop-ty : goal.invariant-loop-ty
invariant-loop-ty l = are_distinguishable (drop l.ty-index l.a) l.others ≡ are_distinguishable l.a l.fn.b

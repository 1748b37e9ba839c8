use Rattle.std.proofs.Common.{◌≡◌, drop}
use Rattle.type_rules.specs.Matching.{matches}
use Rattle.type_rules.proofs.matching.matches.Given as goal

abbrev pub invariant-loop-ty : goal.invariant-loop-ty
invariant-loop-ty l = matches (drop l.ty-index l.dummies) l.others ≡ matches l.dummies l.fn.args

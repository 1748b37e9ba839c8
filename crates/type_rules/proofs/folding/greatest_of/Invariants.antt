use Rattle.std.proofs.Common.{◌≡◌, drop, map}
use Rattle.std.specs.Int.{int_max}
use Rattle.type_rules.specs.Values.{scalar_of}
use Rattle.type_rules.specs.Operations.{extreme}
use Rattle.type_rules.proofs.folding.greatest_of.Given as goal

abbrev pub invariant-loop-constant : goal.invariant-loop-constant
invariant-loop-constant l =
    extreme int_max l.kind l.greatest (map scalar_of (drop l.constant-index l.rest)) ≡ extreme int_max l.fn.kind l.fn.value (map scalar_of l.rest)

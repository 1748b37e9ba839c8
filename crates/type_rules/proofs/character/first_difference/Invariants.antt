use Rattle.std.proofs.Common.{◌≡◌, drop}
use Rattle.type_rules.specs.Characters.{padded, first_difference}
use Rattle.type_rules.proofs.character.first_difference.Given as goal

abbrev pub invariant-loop-i : goal.invariant-loop-i
invariant-loop-i l =
    first_difference (drop l.i (padded l.width l.a)) (drop l.i (padded l.width l.b)) ≡ first_difference (padded l.width l.a) (padded l.width l.b)

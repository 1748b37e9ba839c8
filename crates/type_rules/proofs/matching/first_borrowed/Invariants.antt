use Rattle.std.proofs.Common.{◌≡◌, drop, map}
use Rattle.type_rules.specs.Matching.{match_from}
use Rattle.type_rules.proofs.matching.first_borrowed.Given as goal

abbrev pub invariant-loop-i : goal.invariant-loop-i
invariant-loop-i l = match_from l.i (map (λ s. s.now) (drop l.i l.specifics)) l.args ≡ match_from 0 (map (λ s. s.now) l.specifics) l.args

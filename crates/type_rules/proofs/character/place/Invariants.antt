use Rattle.std.proofs.Common.{◌≡◌, ◌+◌, ◌<◌, drop, length}
use Rattle.type_rules.specs.Characters.{place_from}
use Rattle.type_rules.proofs.character.place.Given as goal

abbrev pub invariant-loop-i : goal.invariant-loop-i
invariant-loop-i l = record {
  same : place_from (l.i + 1) l.part (drop l.i l.text) ≡ place_from 1 l.part l.text;
  some : 0 < length l.part;
}

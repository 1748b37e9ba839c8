use Rattle.std.proofs.Common.{◌≡◌, take, length}
use Rattle.type_rules.specs.Characters.{trimmed}
use Rattle.type_rules.proofs.character.trimmed_length.Given as goal

abbrev pub invariant-loop-i : goal.invariant-loop-i
invariant-loop-i l = l.kept ≡ length (trimmed (take l.i l.text))

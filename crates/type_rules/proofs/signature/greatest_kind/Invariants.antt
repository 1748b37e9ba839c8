use Rattle.std.proofs.Common.{◌≡◌, max, drop}
use Rattle.type_rules.specs.Typing.{greatest_kind, elements_of}
use Rattle.type_rules.proofs.signature.greatest_kind.Given as goal

abbrev pub invariant-loop-ty : goal.invariant-loop-ty
invariant-loop-ty l = max l.kind (greatest_kind (elements_of (drop l.ty-index l.args))) ≡ greatest_kind (elements_of l.args)

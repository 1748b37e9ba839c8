use Rattle.std.proofs.Common.{◌≡◌, drop}
use Rattle.type_rules.specs.Typing.{are_in_class, elements_of}
use Rattle.type_rules.proofs.signature.are_in_class.Given as goal

abbrev pub invariant-loop-ty : goal.invariant-loop-ty
invariant-loop-ty l = are_in_class l.class (elements_of (drop l.ty-index l.args)) ≡ are_in_class l.class (elements_of l.args)

use Rattle.std.proofs.Common.{◌≡◌, drop}
use Rattle.type_rules.specs.Typing.{joined_with, dims_of}
use Rattle.std.specs.Prelude.{[]}
use Rattle.type_rules.proofs.typing.joined_all.Given as goal

abbrev pub invariant-loop-ty : goal.invariant-loop-ty
invariant-loop-ty l = joined_with l.all (dims_of (drop l.ty-index l.args)) ≡ joined_with [] (dims_of l.args)

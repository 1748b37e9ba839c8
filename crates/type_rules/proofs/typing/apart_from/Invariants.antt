use Rattle.std.proofs.Common.{◌≡◌, drop}
use Rattle.type_rules.specs.Typing.{apart_from, dims_of}
use Rattle.type_rules.proofs.typing.apart_from.Given as goal

abbrev pub invariant-loop-ty : goal.invariant-loop-ty
invariant-loop-ty l = apart_from l.dims (dims_of (drop l.ty-index l.others)) ≡ apart_from l.dims (dims_of l.others)

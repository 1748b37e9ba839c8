use Rattle.std.proofs.Common.{◌≡◌, drop, map, length}
use Rattle.type_rules.specs.Typing.{some_array, dims_of}
use Rattle.type_rules.proofs.typing.some_array.Given as goal

abbrev pub invariant-loop-ty : goal.invariant-loop-ty
invariant-loop-ty l = some_array (map length (dims_of (drop l.ty-index l.args))) ≡ some_array (map length (dims_of l.args))

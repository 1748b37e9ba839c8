use Rattle.std.proofs.Common.{◌≡◌, drop, map, length}
use Rattle.type_rules.specs.Typing.{some_ranks_apart, dims_of}
use Rattle.type_rules.proofs.typing.some_ranks_apart.Given as goal

abbrev pub invariant-loop-ty : goal.invariant-loop-ty
invariant-loop-ty l = some_ranks_apart l.rank (map length (dims_of (drop l.ty-index l.args))) ≡ some_ranks_apart 0 (map length (dims_of l.args))

use Rattle.std.proofs.Common.{◌≡◌, drop}
use Rattle.type_rules.specs.Typing.{some_apart, dims_of}
use Rattle.type_rules.proofs.typing.some_apart.Given as goal

abbrev pub invariant-loop-i : goal.invariant-loop-i
invariant-loop-i l = some_apart (dims_of (drop l.i l.args)) ≡ some_apart (dims_of l.args)

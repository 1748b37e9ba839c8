use Rattle.std.proofs.Common.{◌≡◌, drop}
use Rattle.ast_to_asr.specs.Building.{greatest_of}
use Rattle.ast_to_asr.specs.Expressions.{greater}
use Rattle.ast_to_asr.proofs.build.function.greatest_kind.Given as goal

abbrev pub invariant-loop-argument : goal.invariant-loop-argument
invariant-loop-argument l = (greater l.kind 4 ≡ l.kind) × (greater l.kind (greatest_of (drop l.argument-index l.arguments)) ≡ greatest_of l.arguments)

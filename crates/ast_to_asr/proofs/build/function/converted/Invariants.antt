use Rattle.std.proofs.Common.{drop}
use Rattle.ast_to_asr.specs.Building.{Converted}
use Rattle.ast_to_asr.proofs.build.function.converted.Given as goal

abbrev pub invariant-loop-argument : goal.invariant-loop-argument
invariant-loop-argument l = Converted l.fn.asr l.asr l.kind l.arguments l.ids (drop l.argument-index l.arguments)

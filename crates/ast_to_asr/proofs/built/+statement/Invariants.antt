use Rattle.std.proofs.Common.{◌≡◌, drop, map}
use Rattle.ast_to_asr.specs.Built.{first_in, unbuilt_arm, unbuilt_in}
use Rattle.ast_to_asr.proofs.built.+statement.Given as goal

abbrev pub invariant-unbuilt_arms-loop-arm : goal.invariant-unbuilt_arms-loop-arm
invariant-unbuilt_arms-loop-arm l = first_in (map unbuilt_arm (drop l.arm-index l.arms)) ≡ first_in (map unbuilt_arm l.arms)

abbrev pub invariant-unbuilt_block-loop-statement : goal.invariant-unbuilt_block-loop-statement
invariant-unbuilt_block-loop-statement l = first_in (map unbuilt_in (drop l.statement-index l.statements)) ≡ first_in (map unbuilt_in l.statements)

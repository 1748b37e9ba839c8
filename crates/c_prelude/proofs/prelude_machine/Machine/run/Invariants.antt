use Rattle.std.proofs.Common.{◌≡◌, drop}
use Rattle.c_prelude.specs.PreludeMachine.{run, state_of}
use Rattle.c_prelude.proofs.prelude_machine.Machine.run.Given as goal

-- what is left gives from here what all gives from the start
abbrev pub invariant-loop-instruction : goal.invariant-loop-instruction
invariant-loop-instruction l = run (drop l.instruction-index l.instructions) (state_of l.self) ≡ run l.instructions (state_of l.fn.self)

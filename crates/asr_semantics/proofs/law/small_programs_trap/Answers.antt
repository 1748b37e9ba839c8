use Rattle.asr_semantics.proofs.Runs.{in_parts_is, steps_by_zero_is, steps_too_far_is, uses_procedure_is}
use Rattle.asr_semantics.proofs.law.small_programs_trap.Goals as goal

pub returns-clause-by_zero : goal.returns-clause-by_zero
returns-clause-by_zero c = steps_by_zero_is

pub returns-clause-too_far : goal.returns-clause-too_far
returns-clause-too_far c = steps_too_far_is

pub returns-clause-procedure : goal.returns-clause-procedure
returns-clause-procedure c = uses_procedure_is

pub returns-clause-in_parts : goal.returns-clause-in_parts
returns-clause-in_parts c = in_parts_is

use Rattle.asr_semantics.proofs.Runs.{elsewhere_is, never_ends_is, too_deep_is}
use Rattle.asr_semantics.proofs.law.small_programs_are_cut.Goals as goal

pub returns-clause-turns : goal.returns-clause-turns
returns-clause-turns c = never_ends_is

pub returns-clause-depth : goal.returns-clause-depth
returns-clause-depth c = too_deep_is

pub returns-clause-elsewhere : goal.returns-clause-elsewhere
returns-clause-elsewhere c = elsewhere_is

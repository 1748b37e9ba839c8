use Rattle.fortran_semantics.proofs.Runs.{does_not_fit_is, else_if_traps_is, never_ends_is}
use Rattle.fortran_semantics.proofs.law.small_sources_trap.Goals as goal

pub returns-clause-fit : goal.returns-clause-fit
returns-clause-fit c = does_not_fit_is

pub returns-clause-condition : goal.returns-clause-condition
returns-clause-condition c = else_if_traps_is

pub returns-clause-turns : goal.returns-clause-turns
returns-clause-turns c = never_ends_is

use Rattle.fortran_semantics.proofs.Runs.{cycles_once_is, ends_in_error_is, leaves_two_is, mixes_kinds_is, stops_early_is}
use Rattle.fortran_semantics.proofs.law.small_sources_end.Goals as goal

pub returns-clause-leaves_two : goal.returns-clause-leaves_two
returns-clause-leaves_two c = leaves_two_is

pub returns-clause-cycles_once : goal.returns-clause-cycles_once
returns-clause-cycles_once c = cycles_once_is

pub returns-clause-mixes_kinds : goal.returns-clause-mixes_kinds
returns-clause-mixes_kinds c = mixes_kinds_is

pub returns-clause-stops_early : goal.returns-clause-stops_early
returns-clause-stops_early c = stops_early_is

pub returns-clause-ends_in_error : goal.returns-clause-ends_in_error
returns-clause-ends_in_error c = ends_in_error_is

use Rattle.c_printer.proofs.Small.{are_scalar, prints_one_is, counts_is, chooses_is, stops_early_is, mixes_kinds_is, begins_is, leaves_outer_is, ends_is, refers_is, keeps_is}
use Rattle.c_printer.proofs.law.small_programs_have_their_c.Goals as goal

pub returns-clause-scalar : goal.returns-clause-scalar
returns-clause-scalar c = are_scalar

pub returns-clause-one_print : goal.returns-clause-one_print
returns-clause-one_print c = prints_one_is

pub returns-clause-counted : goal.returns-clause-counted
returns-clause-counted c = counts_is

pub returns-clause-else_if : goal.returns-clause-else_if
returns-clause-else_if c = chooses_is

pub returns-clause-early : goal.returns-clause-early
returns-clause-early c = stops_early_is

pub returns-clause-kinds : goal.returns-clause-kinds
returns-clause-kinds c = mixes_kinds_is

pub returns-clause-first_values : goal.returns-clause-first_values
returns-clause-first_values c = begins_is

pub returns-clause-outer : goal.returns-clause-outer
returns-clause-outer c = leaves_outer_is

pub returns-clause-ends : goal.returns-clause-ends
returns-clause-ends c = ends_is

pub returns-clause-intrinsics : goal.returns-clause-intrinsics
returns-clause-intrinsics c = refers_is

pub returns-clause-temporaries : goal.returns-clause-temporaries
returns-clause-temporaries c = keeps_is

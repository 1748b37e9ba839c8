-- What the small sources do, computed.
use Rattle.std.proofs.Common.{[], codes, refl}
use Rattle.std.specs.Fmt.{digits}
use Rattle.lf_base.specs.Contents.{joined}
use Rattle.lf_base.specs.declared.trap.Trap.TheVariants.{IntegerOverflow, DivisionByZero}
use Rattle.fortran_semantics.specs.SmallSources.{Ends, TrapsAt, IsCut, leaves_two, cycles_once, mixes_kinds, stops_early, ends_in_error, does_not_fit, else_if_traps, never_ends}
use Rattle.fortran_semantics.proofs.Nodes.{statements_run, expressions, constants}

pub leaves_two_is : Ends leaves_two (codes " 1 1\n 1 2\n") 0
unfolding joined digits
leaves_two_is input = simp (statements_run, expressions, constants) refl

pub cycles_once_is : Ends cycles_once (codes " 1\n 3\n 4\n") 0
unfolding joined digits
cycles_once_is input = simp (statements_run, expressions, constants) refl

pub mixes_kinds_is : Ends mixes_kinds (codes " 2147483650 2147483647 2147483645\n") 0
unfolding joined digits
mixes_kinds_is input = simp (statements_run, expressions, constants) refl

pub stops_early_is : Ends stops_early (codes " T\n") 0
unfolding joined digits
stops_early_is input = simp (statements_run, expressions, constants) refl

pub ends_in_error_is : Ends ends_in_error (codes "-3") 1
unfolding joined digits
ends_in_error_is input = simp (statements_run, expressions, constants) refl

pub does_not_fit_is : TrapsAt does_not_fit (codes " \n") IntegerOverflow 4
unfolding joined digits
does_not_fit_is input = simp (statements_run, expressions, constants) refl

pub else_if_traps_is : TrapsAt else_if_traps [] DivisionByZero 4
unfolding joined digits
else_if_traps_is input = simp (statements_run, expressions, constants) refl

pub never_ends_is : IsCut never_ends 2 (codes " 1\n 1\n")
unfolding joined digits
never_ends_is input = simp (statements_run, expressions, constants) refl

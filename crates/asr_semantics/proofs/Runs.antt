-- What the small programs do, computed.
use Rattle.std.proofs.Common.{◌≡◌, [], ◌∷◌, codes, refl}
use Rattle.std.specs.Fmt.{digits}
use Rattle.lf_base.specs.Contents.{joined}
use Rattle.lf_base.specs.declared.trap.Trap.TheVariants.{IntegerOverflow, ZeroStep}
use Rattle.asr_semantics.specs.Entities.{reached}
use Rattle.asr_semantics.specs.SmallPrograms.{Writes, Stops, TrapsAt, IsCut, GoesAway, leaves_two, cycles_once, calls_itself, counts_turns_once, two_names, one_copy, stops_early, keeps_value, uses_variable, stops, steps_by_zero, steps_too_far, uses_procedure, in_parts, never_ends, in_order_of_uses}
use Rattle.asr_semantics.proofs.Nodes.{nodes, symbols}

pub leaves_two_is : Writes leaves_two (codes " 1 1\n 1 2\n")
unfolding joined digits
leaves_two_is input = simp (nodes, symbols) refl

pub cycles_once_is : Writes cycles_once (codes " 1\n 3\n 4\n")
unfolding joined digits
cycles_once_is input = simp (nodes, symbols) refl

pub calls_itself_is : Writes calls_itself (codes " 6\n")
unfolding joined digits
calls_itself_is input = simp (nodes, symbols) refl

pub counts_turns_once_is : Writes counts_turns_once (codes " 34\n")
unfolding joined digits
counts_turns_once_is input = simp (nodes, symbols) refl

pub two_names_is : Writes two_names (codes " 2\n")
unfolding joined digits
two_names_is input = simp (nodes, symbols) refl

pub one_copy_is : Writes one_copy (codes " 1\n")
unfolding joined digits
one_copy_is input = simp (nodes, symbols) refl

pub stops_early_is : Writes stops_early (codes " 3\n 4\n")
unfolding joined digits
stops_early_is input = simp (nodes, symbols) refl

pub keeps_value_is : Writes keeps_value (codes " 7\n 8\n")
unfolding joined digits
keeps_value_is input = simp (nodes, symbols) refl

pub uses_variable_is : Writes uses_variable (codes " 4\n")
unfolding joined digits
uses_variable_is input = simp (nodes, symbols) refl

pub stops_is : Stops stops (codes "7") 2
unfolding joined digits
stops_is input = simp (nodes, symbols) refl

pub steps_by_zero_is : TrapsAt steps_by_zero (codes " \n") ZeroStep (record { source = codes "p.f90"; line = 3 })
unfolding joined digits
steps_by_zero_is input = simp (nodes, symbols) refl

pub steps_too_far_is : TrapsAt steps_too_far (codes " 2147483646\n 2147483647\n") IntegerOverflow (record { source = codes "p.f90"; line = 3 })
unfolding joined digits
steps_too_far_is input = simp (nodes, symbols) refl

pub uses_procedure_is : TrapsAt uses_procedure [] IntegerOverflow (record { source = codes "m.f90"; line = 5 })
unfolding joined digits
uses_procedure_is input = simp (nodes, symbols) refl

pub in_parts_is : TrapsAt in_parts (codes " 4 5\n ") IntegerOverflow (record { source = codes "m.f90"; line = 7 })
unfolding joined digits
in_parts_is input = simp (nodes, symbols) refl

pub never_ends_is : IsCut never_ends 2 3 (codes " 1\n 1\n")
unfolding joined digits
never_ends_is input = simp (nodes, symbols) refl

pub too_deep_is : IsCut calls_itself 5 2 (codes " ")
unfolding joined digits
too_deep_is input = simp (nodes, symbols) refl

pub elsewhere_is : GoesAway uses_procedure (codes "m" ∷ []) []
unfolding joined digits
elsewhere_is input = simp (nodes, symbols) refl

pub modules_reached : reached in_order_of_uses (codes "p") ≡ codes "b" ∷ codes "a" ∷ codes "p" ∷ []
modules_reached = refl

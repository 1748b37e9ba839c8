use Rattle.c_semantics.proofs.SmallFiles.{turns_is, jumps_is, structures_is, wraps_is, stops_early_is, zeros_is, shared_is, leaves_is, cut_is, pointer_is, static_pointer_is, static_object_is, number_is, nothing_is}
use Rattle.c_semantics.proofs.law.small_files_end.Goals as goal

pub returns-clause-turns : goal.returns-clause-turns
returns-clause-turns c = turns_is

pub returns-clause-jumps : goal.returns-clause-jumps
returns-clause-jumps c = jumps_is

pub returns-clause-structures : goal.returns-clause-structures
returns-clause-structures c = structures_is

pub returns-clause-wraps : goal.returns-clause-wraps
returns-clause-wraps c = wraps_is

pub returns-clause-stops_early : goal.returns-clause-stops_early
returns-clause-stops_early c = stops_early_is

pub returns-clause-zeros : goal.returns-clause-zeros
returns-clause-zeros c = zeros_is

pub returns-clause-shared : goal.returns-clause-shared
returns-clause-shared c = shared_is

pub returns-clause-leaves : goal.returns-clause-leaves
returns-clause-leaves c = leaves_is

pub returns-clause-cut : goal.returns-clause-cut
returns-clause-cut c = cut_is

pub returns-clause-pointer : goal.returns-clause-pointer
returns-clause-pointer c = pointer_is

pub returns-clause-static_pointer : goal.returns-clause-static_pointer
returns-clause-static_pointer c = static_pointer_is

pub returns-clause-static_object : goal.returns-clause-static_object
returns-clause-static_object c = static_object_is

pub returns-clause-number : goal.returns-clause-number
returns-clause-number c = number_is

pub returns-clause-nothing : goal.returns-clause-nothing
returns-clause-nothing c = nothing_is

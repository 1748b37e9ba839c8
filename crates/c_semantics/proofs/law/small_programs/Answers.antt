use Rattle.c_semantics.proofs.SmallPrograms.{turns_linked, jumps_linked, structures_linked, stops_early_linked, zeros_linked, unused_object_linked, shares_linked, sets_pointer_linked, own_object_linked}
use Rattle.c_semantics.proofs.law.small_programs.Goals as goal

pub returns-clause-turns : goal.returns-clause-turns
returns-clause-turns c = turns_linked

pub returns-clause-jumps : goal.returns-clause-jumps
returns-clause-jumps c = jumps_linked

pub returns-clause-structures : goal.returns-clause-structures
returns-clause-structures c = structures_linked

pub returns-clause-stops_early : goal.returns-clause-stops_early
returns-clause-stops_early c = stops_early_linked

pub returns-clause-zeros : goal.returns-clause-zeros
returns-clause-zeros c = zeros_linked

pub returns-clause-unused_object : goal.returns-clause-unused_object
returns-clause-unused_object c = unused_object_linked

pub returns-clause-shared : goal.returns-clause-shared
returns-clause-shared c = shares_linked

pub returns-clause-pointer : goal.returns-clause-pointer
returns-clause-pointer c = sets_pointer_linked

pub returns-clause-static_object : goal.returns-clause-static_object
returns-clause-static_object c = own_object_linked

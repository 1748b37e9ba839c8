use Rattle.c_semantics.proofs.SmallPrograms.{leads_nowhere_unlinked, jumps_past_array_unlinked, label_twice_unlinked, no_member_unlinked, no_structure_unlinked, number_as_structure_unlinked, undefined_object_unlinked, other_type_unlinked, defines_again_unlinked, empty_array_unlinked, call_into_element_unlinked, reserved_word_unlinked, reserved_macro_unlinked, reserved_function_unlinked, low_name_unlinked, static_twice_unlinked}
use Rattle.c_semantics.proofs.law.no_programs.Goals as goal

pub returns-clause-leads_nowhere : goal.returns-clause-leads_nowhere
returns-clause-leads_nowhere c = leads_nowhere_unlinked

pub returns-clause-jumps_past_array : goal.returns-clause-jumps_past_array
returns-clause-jumps_past_array c = jumps_past_array_unlinked

pub returns-clause-label_twice : goal.returns-clause-label_twice
returns-clause-label_twice c = label_twice_unlinked

pub returns-clause-no_member : goal.returns-clause-no_member
returns-clause-no_member c = no_member_unlinked

pub returns-clause-no_structure : goal.returns-clause-no_structure
returns-clause-no_structure c = no_structure_unlinked

pub returns-clause-number_as_structure : goal.returns-clause-number_as_structure
returns-clause-number_as_structure c = number_as_structure_unlinked

pub returns-clause-undefined_object : goal.returns-clause-undefined_object
returns-clause-undefined_object c = undefined_object_unlinked

pub returns-clause-other_type : goal.returns-clause-other_type
returns-clause-other_type c = other_type_unlinked

pub returns-clause-defines_again : goal.returns-clause-defines_again
returns-clause-defines_again c = defines_again_unlinked

pub returns-clause-empty_array : goal.returns-clause-empty_array
returns-clause-empty_array c = empty_array_unlinked

pub returns-clause-call_into_element : goal.returns-clause-call_into_element
returns-clause-call_into_element c = call_into_element_unlinked

pub returns-clause-reserved_word : goal.returns-clause-reserved_word
returns-clause-reserved_word c = reserved_word_unlinked

pub returns-clause-reserved_macro : goal.returns-clause-reserved_macro
returns-clause-reserved_macro c = reserved_macro_unlinked

pub returns-clause-reserved_function : goal.returns-clause-reserved_function
returns-clause-reserved_function c = reserved_function_unlinked

pub returns-clause-low_name : goal.returns-clause-low_name
returns-clause-low_name c = low_name_unlinked

pub returns-clause-static_twice : goal.returns-clause-static_twice
returns-clause-static_twice c = static_twice_unlinked

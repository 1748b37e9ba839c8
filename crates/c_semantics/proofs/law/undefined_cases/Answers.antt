use Rattle.c_semantics.proofs.SmallFiles.{overflow_is, int_overflow_is, by_zero_is, least_by_minus_one_is, int32_cast_is, int_cast_is, int32_store_is, unset_read_is, unset_copy_is, outside_is, pointer_outside_is, outside_member_is, no_elements_is, literal_write_is, after_block_is, after_call_is, unset_pointer_is, too_much_is}
use Rattle.c_semantics.proofs.law.undefined_cases.Goals as goal

pub returns-clause-overflow : goal.returns-clause-overflow
returns-clause-overflow c = overflow_is

pub returns-clause-int_overflow : goal.returns-clause-int_overflow
returns-clause-int_overflow c = int_overflow_is

pub returns-clause-by_zero : goal.returns-clause-by_zero
returns-clause-by_zero c = by_zero_is

pub returns-clause-least_by_minus_one : goal.returns-clause-least_by_minus_one
returns-clause-least_by_minus_one c = least_by_minus_one_is

pub returns-clause-int32_cast : goal.returns-clause-int32_cast
returns-clause-int32_cast c = int32_cast_is

pub returns-clause-int_cast : goal.returns-clause-int_cast
returns-clause-int_cast c = int_cast_is

pub returns-clause-int32_store : goal.returns-clause-int32_store
returns-clause-int32_store c = int32_store_is

pub returns-clause-unset_read : goal.returns-clause-unset_read
returns-clause-unset_read c = unset_read_is

pub returns-clause-unset_copy : goal.returns-clause-unset_copy
returns-clause-unset_copy c = unset_copy_is

pub returns-clause-outside : goal.returns-clause-outside
returns-clause-outside c = outside_is

pub returns-clause-pointer_outside : goal.returns-clause-pointer_outside
returns-clause-pointer_outside c = pointer_outside_is

pub returns-clause-outside_member : goal.returns-clause-outside_member
returns-clause-outside_member c = outside_member_is

pub returns-clause-no_elements : goal.returns-clause-no_elements
returns-clause-no_elements c = no_elements_is

pub returns-clause-literal_write : goal.returns-clause-literal_write
returns-clause-literal_write c = literal_write_is

pub returns-clause-after_block : goal.returns-clause-after_block
returns-clause-after_block c = after_block_is

pub returns-clause-after_call : goal.returns-clause-after_call
returns-clause-after_call c = after_call_is

pub returns-clause-unset_pointer : goal.returns-clause-unset_pointer
returns-clause-unset_pointer c = unset_pointer_is

pub returns-clause-too_much : goal.returns-clause-too_much
returns-clause-too_much c = too_much_is

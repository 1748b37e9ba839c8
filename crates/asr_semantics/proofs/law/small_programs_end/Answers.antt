use Rattle.asr_semantics.proofs.Runs.{calls_itself_is, counts_turns_once_is, cycles_once_is, keeps_value_is, leaves_two_is, one_copy_is, stops_early_is, stops_is, two_names_is, uses_variable_is}
use Rattle.asr_semantics.proofs.law.small_programs_end.Goals as goal

pub returns-clause-leaves_two : goal.returns-clause-leaves_two
returns-clause-leaves_two c = leaves_two_is

pub returns-clause-cycles_once : goal.returns-clause-cycles_once
returns-clause-cycles_once c = cycles_once_is

pub returns-clause-calls_itself : goal.returns-clause-calls_itself
returns-clause-calls_itself c = calls_itself_is

pub returns-clause-counts_turns_once : goal.returns-clause-counts_turns_once
returns-clause-counts_turns_once c = counts_turns_once_is

pub returns-clause-two_names : goal.returns-clause-two_names
returns-clause-two_names c = two_names_is

pub returns-clause-one_copy : goal.returns-clause-one_copy
returns-clause-one_copy c = one_copy_is

pub returns-clause-stops_early : goal.returns-clause-stops_early
returns-clause-stops_early c = stops_early_is

pub returns-clause-keeps_value : goal.returns-clause-keeps_value
returns-clause-keeps_value c = keeps_value_is

pub returns-clause-uses_variable : goal.returns-clause-uses_variable
returns-clause-uses_variable c = uses_variable_is

pub returns-clause-stops : goal.returns-clause-stops
returns-clause-stops c = stops_is

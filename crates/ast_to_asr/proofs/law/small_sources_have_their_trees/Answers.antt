use Rattle.ast_to_asr.proofs.Trees.{leaves_two_is, mixes_kinds_is, does_not_fit_is, else_if_traps_is}
use Rattle.ast_to_asr.proofs.law.small_sources_have_their_trees.Goals as goal

pub returns-clause-loops : goal.returns-clause-loops
returns-clause-loops c = leaves_two_is

pub returns-clause-kinds : goal.returns-clause-kinds
returns-clause-kinds c = mixes_kinds_is

pub returns-clause-assigned : goal.returns-clause-assigned
returns-clause-assigned c = does_not_fit_is

pub returns-clause-else_if : goal.returns-clause-else_if
returns-clause-else_if c = else_if_traps_is

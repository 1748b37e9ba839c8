use Rattle.std.proofs.Common.{refl}
use Rattle.ast_to_asr.proofs.Constants.{values}
use Rattle.ast_to_asr.proofs.Nodes.{nodes}
use Rattle.ast_to_asr.proofs.law.one_rule_is_told.Goals as goal

pub returns-clause-phases : goal.returns-clause-phases
returns-clause-phases c = simp (nodes, values) refl

pub returns-clause-lines : goal.returns-clause-lines
returns-clause-lines c = simp (nodes, values) refl

pub returns-clause-parts : goal.returns-clause-parts
returns-clause-parts c = simp (nodes, values) refl

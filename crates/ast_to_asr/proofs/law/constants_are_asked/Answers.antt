use Rattle.std.proofs.Common.{refl}
use Rattle.ast_to_asr.proofs.Constants.{values}
use Rattle.ast_to_asr.proofs.Nodes.{nodes}
use Rattle.ast_to_asr.proofs.law.constants_are_asked.Goals as goal

pub returns-clause-constant : goal.returns-clause-constant
returns-clause-constant c = (simp (nodes, values) refl, simp (nodes, values) refl)

pub returns-clause-traps : goal.returns-clause-traps
returns-clause-traps c = simp (nodes, values) refl

pub returns-clause-needed : goal.returns-clause-needed
returns-clause-needed c = simp (nodes, values) refl

pub returns-clause-types : goal.returns-clause-types
returns-clause-types c = simp (nodes, values) refl

pub returns-clause-code : goal.returns-clause-code
returns-clause-code c = (simp (nodes, values) refl, simp (nodes, values) refl)

pub returns-clause-code_type : goal.returns-clause-code_type
returns-clause-code_type c = simp (nodes, values) refl

pub returns-clause-twice : goal.returns-clause-twice
returns-clause-twice c = (refl, refl)

pub returns-clause-saved : goal.returns-clause-saved
returns-clause-saved c = (simp (nodes, values) refl, simp (nodes, values) refl)

pub returns-clause-no_value : goal.returns-clause-no_value
returns-clause-no_value c = refl

use Rattle.std.proofs.Common.{refl}
use Rattle.ast_to_asr.proofs.Constants.{values}
use Rattle.ast_to_asr.proofs.Nodes.{nodes}
use Rattle.ast_to_asr.proofs.law.names_are_declared.Goals as goal

pub returns-clause-twice : goal.returns-clause-twice
returns-clause-twice c = (refl, refl)

pub returns-clause-never : goal.returns-clause-never
returns-clause-never c = (simp (nodes, values) refl, simp (nodes, values) refl)

pub returns-clause-unit : goal.returns-clause-unit
returns-clause-unit c = simp (nodes, values) refl

pub returns-clause-earlier : goal.returns-clause-earlier
returns-clause-earlier c = (simp (nodes, values) refl, simp (nodes, values) refl)

pub returns-clause-class : goal.returns-clause-class
returns-clause-class c = simp (nodes, values) refl

use Rattle.std.proofs.Common.{refl}
use Rattle.ast_to_asr.proofs.Constants.{values}
use Rattle.ast_to_asr.proofs.Nodes.{nodes}
use Rattle.ast_to_asr.proofs.law.types_are_asked.Goals as goal

pub returns-clause-operands : goal.returns-clause-operands
returns-clause-operands c = (simp (nodes, values) refl, simp (nodes, values) refl)

pub returns-clause-condition : goal.returns-clause-condition
returns-clause-condition c = simp (nodes, values) refl

pub returns-clause-literal : goal.returns-clause-literal
returns-clause-literal c = (simp (nodes, values) refl, simp (nodes, values) refl)

pub returns-clause-subscript : goal.returns-clause-subscript
returns-clause-subscript c = (simp (nodes, values) refl, simp (nodes, values) refl)

pub returns-clause-count : goal.returns-clause-count
returns-clause-count c = (simp (nodes, values) refl, simp (nodes, values) refl)

pub returns-clause-argument : goal.returns-clause-argument
returns-clause-argument c = simp (nodes, values) refl

pub returns-clause-kind : goal.returns-clause-kind
returns-clause-kind c = (simp (nodes, values) refl, simp (nodes, values) refl)

pub returns-clause-assigned : goal.returns-clause-assigned
returns-clause-assigned c = (simp (nodes, values) refl, simp (nodes, values) refl)

pub returns-clause-counter : goal.returns-clause-counter
returns-clause-counter c = (simp (nodes, values) refl, simp (nodes, values) refl)

pub returns-clause-bound : goal.returns-clause-bound
returns-clause-bound c = (simp (nodes, values) refl, simp (nodes, values) refl)

use Rattle.std.proofs.Common.{refl}
use Rattle.ast_to_asr.proofs.Constants.{values}
use Rattle.ast_to_asr.proofs.Nodes.{nodes}
use Rattle.ast_to_asr.proofs.law.changes_are_asked.Goals as goal

pub returns-clause-constant : goal.returns-clause-constant
returns-clause-constant c = simp (nodes, values) refl

pub returns-clause-constant_of_another_type : goal.returns-clause-constant_of_another_type
returns-clause-constant_of_another_type c = simp (nodes, values) refl

pub returns-clause-stepped : goal.returns-clause-stepped
returns-clause-stepped c = simp (nodes, values) refl

pub returns-clause-stepped_twice : goal.returns-clause-stepped_twice
returns-clause-stepped_twice c = simp (nodes, values) refl

pub returns-clause-left : goal.returns-clause-left
returns-clause-left c = (simp (nodes, values) refl, simp (nodes, values) refl)

pub returns-clause-named_loop : goal.returns-clause-named_loop
returns-clause-named_loop c = (simp (nodes, values) refl, simp (nodes, values) refl)

use Rattle.ff_expressions.proofs.Primaries.{designator_is, only_designator}
use Rattle.ff_expressions.proofs.law.designator_is_by_grammar.Goals as goal

pub returns-clause-found : goal.returns-clause-found
returns-clause-found c = designator_is

pub returns-clause-only : goal.returns-clause-only
returns-clause-only c = only_designator

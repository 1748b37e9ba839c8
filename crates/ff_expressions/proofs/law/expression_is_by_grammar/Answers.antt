use Rattle.ff_expressions.proofs.Grammar.{expression_is, only_expression}
use Rattle.ff_expressions.proofs.law.expression_is_by_grammar.Goals as goal

pub returns-clause-found : goal.returns-clause-found
returns-clause-found c = expression_is

pub returns-clause-only : goal.returns-clause-only
returns-clause-only c = only_expression

use Rattle.ff_expressions.proofs.Grammar.{one_expression}
use Rattle.ff_expressions.proofs.law.one_expression.Goals as goal

pub returns : goal.returns
returns c = one_expression

use Rattle.ff_expressions.proofs.Keeping.{expression_is_counted, output_is_counted, designator_is_counted}
use Rattle.ff_expressions.proofs.law.depth_is_counted.Goals as goal

pub returns-clause-expression : goal.returns-clause-expression
returns-clause-expression c = expression_is_counted

pub returns-clause-output : goal.returns-clause-output
returns-clause-output c = output_is_counted

pub returns-clause-designator : goal.returns-clause-designator
returns-clause-designator c = designator_is_counted

use Rattle.ff_lexer.proofs.LineStatements.{statements_there, only_statements}
use Rattle.ff_lexer.proofs.law.statements_are_split.Goals as goal

pub returns-clause-found : goal.returns-clause-found
returns-clause-found c = statements_there

pub returns-clause-only : goal.returns-clause-only
returns-clause-only c = only_statements

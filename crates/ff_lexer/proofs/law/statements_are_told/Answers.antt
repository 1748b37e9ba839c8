use Rattle.ff_lexer.proofs.Telling.{source_there, only_source}
use Rattle.ff_lexer.proofs.law.statements_are_told.Goals as goal

pub returns-clause-found : goal.returns-clause-found
returns-clause-found c = source_there

pub returns-clause-only : goal.returns-clause-only
returns-clause-only c = only_source

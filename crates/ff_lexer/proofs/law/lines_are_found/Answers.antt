use Rattle.ff_lexer.proofs.LineText.{lines_there, only_lines}
use Rattle.ff_lexer.proofs.law.lines_are_found.Goals as goal

pub returns-clause-found : goal.returns-clause-found
returns-clause-found c = lines_there

pub returns-clause-only : goal.returns-clause-only
returns-clause-only c = only_lines

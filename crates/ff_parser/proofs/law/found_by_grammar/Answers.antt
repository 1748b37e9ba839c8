use Rattle.ff_parser.proofs.Written.{found, only}
use Rattle.ff_parser.proofs.law.found_by_grammar.Goals as goal

pub returns-clause-found : goal.returns-clause-found
returns-clause-found c = found

pub returns-clause-only : goal.returns-clause-only
returns-clause-only c = only

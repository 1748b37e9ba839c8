use Rattle.ff_lexer.proofs.LineCut.{cut_there, only_cut}
use Rattle.ff_lexer.proofs.law.bodies_are_cut.Goals as goal

pub returns-clause-found : goal.returns-clause-found
returns-clause-found c = cut_there

pub returns-clause-only : goal.returns-clause-only
returns-clause-only c = only_cut

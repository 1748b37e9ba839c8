use Rattle.ff_lexer.proofs.Continuing.{drafts_there, only_drafts}
use Rattle.ff_lexer.proofs.law.statements_go_on.Goals as goal

pub returns-clause-found : goal.returns-clause-found
returns-clause-found c = drafts_there

pub returns-clause-only : goal.returns-clause-only
returns-clause-only c = only_drafts

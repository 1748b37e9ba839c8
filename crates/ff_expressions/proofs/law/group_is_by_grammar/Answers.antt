use Rattle.ff_expressions.proofs.Groups.{parts_are, only_parts}
use Rattle.ff_expressions.proofs.law.group_is_by_grammar.Goals as goal

pub returns-clause-found : goal.returns-clause-found
returns-clause-found c = parts_are

pub returns-clause-only : goal.returns-clause-only
returns-clause-only c = only_parts

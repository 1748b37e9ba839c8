use Rattle.ff_expressions.proofs.Parts.{part_is, only_part}
use Rattle.ff_expressions.proofs.law.part_is_by_grammar.Goals as goal

pub returns-clause-found : goal.returns-clause-found
returns-clause-found c = part_is

pub returns-clause-only : goal.returns-clause-only
returns-clause-only c = only_part

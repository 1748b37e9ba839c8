use Rattle.ff_expressions.proofs.Loops.{output_is, only_output}
use Rattle.ff_expressions.proofs.law.output_is_by_grammar.Goals as goal

pub returns-clause-found : goal.returns-clause-found
returns-clause-found c = output_is

pub returns-clause-only : goal.returns-clause-only
returns-clause-only c = only_output

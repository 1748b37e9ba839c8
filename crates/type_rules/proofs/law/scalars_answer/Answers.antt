use Rattle.type_rules.proofs.Answering.{answers}
use Rattle.type_rules.proofs.law.scalars_answer.Goals as goal

pub returns : goal.returns
returns c = answers

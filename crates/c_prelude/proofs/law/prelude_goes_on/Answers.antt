use Rattle.c_prelude.proofs.PreludeTexts.{grammatical_with, file_text-file_with}
use Rattle.c_prelude.proofs.PreludeLinked.{prelude_right, prelude_jumps}
use Rattle.c_prelude.proofs.law.prelude_goes_on.Goals as goal

pub returns-clause-grammatical : goal.returns-clause-grammatical
returns-clause-grammatical c rest = grammatical_with rest

pub returns-clause-text : goal.returns-clause-text
returns-clause-text c rest = file_text-file_with rest

pub returns-clause-right : goal.returns-clause-right
returns-clause-right c rest = prelude_right rest

pub returns-clause-jumps : goal.returns-clause-jumps
returns-clause-jumps c = prelude_jumps

use Rattle.c_semantics.proofs.FreeNames.{free_front, free_numbered}
use Rattle.c_semantics.proofs.law.free_names.Goals as goal

pub returns-clause-front : goal.returns-clause-front
returns-clause-front c = free_front

pub returns-clause-numbered : goal.returns-clause-numbered
returns-clause-numbered c = free_numbered

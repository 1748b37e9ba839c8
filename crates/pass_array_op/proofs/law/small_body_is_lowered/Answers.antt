use Rattle.pass_array_op.proofs.Small.{becomes, draws}
use Rattle.pass_array_op.proofs.law.small_body_is_lowered.Goals as goal

pub returns-clause-becomes : goal.returns-clause-becomes
returns-clause-becomes c = becomes

pub returns-clause-draws : goal.returns-clause-draws
returns-clause-draws c = draws

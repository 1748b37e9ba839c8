use Rattle.asr_semantics.proofs.Runs.{modules_reached}
use Rattle.asr_semantics.proofs.law.modules_in_order.Goals as goal

pub returns : goal.returns
returns c = modules_reached

use Rattle.std.proofs.Common.{rules}
use Rattle.asr_nodes.proofs.Begins.{new_sound}
use Rattle.asr_nodes.proofs.asr.Asr.over.Goals as goal

pub invariant_of-result : goal.invariant_of-result
invariant_of-result c = new_sound _ _ _ _ (search rules) (search rules) (search rules) (search rules)

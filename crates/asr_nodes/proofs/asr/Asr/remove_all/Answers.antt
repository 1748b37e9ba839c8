use Rattle.asr_nodes.proofs.Removals.{removal_sound}
use Rattle.asr_nodes.proofs.asr.Asr.remove_all.Goals as goal

pub invariant_of-self : goal.invariant_of-self
invariant_of-self c = removal_sound _ _ c.self.view_is c.self.invariant c.args.gone.now _ c.remove_all_owned.ensures.removed

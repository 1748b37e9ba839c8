use Rattle.ast_to_asr.proofs.Leaves.{logical_built}
use Rattle.ast_to_asr.proofs.build.leaf.logical.Goals as goal

pub returns : goal.returns
returns c = logical_built c.args.asr.now c.add.new.asr c.args.value c.in_ok-add.field-0 c.in_ok-add.ensures

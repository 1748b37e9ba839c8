use Rattle.ast_to_asr.proofs.Leaves.{constant_built}
use Rattle.ast_to_asr.proofs.build.leaf.constant.Goals as goal

pub returns : goal.returns
returns c = constant_built c.args.asr.now c.add.new.asr c.constant_node.result c.args.ty c.args.value c.in_ok-add.field-0 c.constant_node.ensures c.in_ok-add.ensures

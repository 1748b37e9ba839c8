use Rattle.ast_to_asr.specs.Building.{key_of}
use Rattle.ast_to_asr.proofs.Operations.{second_still, operands_there, joins_or}
use Rattle.ast_to_asr.proofs.build.operation.join.Goals as goal

pub in_kind-requires-2 : goal.in_kind-requires-2
in_kind-requires-2 c =
    second_still c.args.asr.now c.in_kind.new.asr c.args.kind c.args.operands.0.1 c.args.operands.0.0 c.in_ok-left.left (key_of c.args.operands.1.0) c.requires c.in_ok-left.ensures

pub add-requires : goal.add-requires
add-requires c =
    operands_there c.in_kind.new.asr c.in_kind-2.new.asr c.args.kind c.args.operands.1.1 c.in_ok-left.left c.args.operands.1.0 c.in_ok-right.right c.in_ok-left.ensures.exchanges.stand c.in_ok-right.ensures

pub returns : goal.returns
returns c =
    joins_or c.args.asr.now c.in_kind.new.asr c.in_kind-2.new.asr c.add.new.asr c.args.code c.args.kind c.args.operands.0.1 c.args.operands.1.1 c.args.ty c.args.operands.0.0 c.args.operands.1.0
    c.in_ok-left.left c.in_ok-right.right c.add.result c.requires c.in_ok-left.ensures c.in_ok-right.ensures c.add.ensures

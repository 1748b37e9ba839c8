use Rattle.std.proofs.Common.{rules}
use Rattle.ast_to_asr.proofs.Builds.{unary_right}
use Rattle.ast_to_asr.proofs.build.operation.unary.Goals as goal

pub returns : goal.returns
returns c = unary_right c.args.asr.now c.add.new.asr c.args.code c.in-Some.operator c.args.operand c.in_ok-add.field-0 (search rules) (search rules) (search rules)

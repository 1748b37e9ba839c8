use Rattle.std.proofs.Common.{rules}
use Rattle.ast_to_asr.proofs.Builds.{paren_right}
use Rattle.ast_to_asr.proofs.build.operation.paren.Goals as goal

pub returns : goal.returns
returns c = paren_right c.args.asr.now c.add.new.asr c.args.inner c.in_ok-add.field-0 (search rules)

use Rattle.ast_to_asr.proofs.Builds.{added}
use Rattle.ast_to_asr.proofs.build.add.Goals as goal

pub returns-in-Ok : goal.returns-in-Ok
returns-in-Ok c = added c.args.asr.now c.build_expr.new.self c.args.node c.args.ty c.in-Ok.id c.in-Ok.ensures.builds c.in-Ok.ensures.tree c.in-Ok.ensures.extends

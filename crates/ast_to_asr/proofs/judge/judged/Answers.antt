use Rattle.std.proofs.Common.{◌∙◌}
use Rattle.ast_to_asr.proofs.Seen.{expression_seen}
use Rattle.ast_to_asr.proofs.judge.judged.Goals as goal

pub returns : goal.returns
returns c = λ unit. c.told.ensures ∙ expression_seen unit c.args.names.now c.args.expr.now

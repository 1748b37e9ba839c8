use Rattle.std.proofs.Common.{sym, ◌∙◌}
use Rattle.asr_nodes.proofs.Texts.{expr_text-LogConst}
use Rattle.asr_nodes.proofs.print.expr.no_expr.Goals as goal

pub returns : goal.returns
returns c = λ r. c.one.ensures r ∙ sym (expr_text-LogConst 0)

use Rattle.std.proofs.Common.{sym, ◌∙◌}
use Rattle.asr_nodes.proofs.Texts.{case_text-block}
use Rattle.asr_nodes.proofs.print.stmt.case_shape.Goals as goal

pub returns : goal.returns
returns c = λ r. c.two.ensures r ∙ sym (case_text-block _)

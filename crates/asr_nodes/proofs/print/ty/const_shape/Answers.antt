use Rattle.std.proofs.Common.{sym, ap, ◌∙◌}
use Rattle.asr_nodes.specs.Text.{const_text}
use Rattle.asr_nodes.proofs.print.ty.const_shape.Goals as goal

pub returns-in-IntConst : goal.returns-in-IntConst
returns-in-IntConst c = λ r. c.two.ensures r ∙ sym (ap (λ n. const_text n) c.in-IntConst.is)

pub returns-in-LogConst : goal.returns-in-LogConst
returns-in-LogConst c = λ r. c.one.ensures r ∙ sym (ap (λ n. const_text n) c.in-LogConst.is)

pub returns-in-CharConst : goal.returns-in-CharConst
returns-in-CharConst c = λ r. c.one-in-CharConst.ensures r ∙ sym (ap (λ n. const_text n) c.in-CharConst.is)

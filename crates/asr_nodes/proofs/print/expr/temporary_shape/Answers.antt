use Rattle.std.proofs.Common.{sym, ap, ◌∙◌}
use Rattle.asr_nodes.specs.Reading.{expr_node}
use Rattle.asr_nodes.specs.Text.{expr_text}
use Rattle.asr_nodes.proofs.Texts.{expr_text-Temp, expr_text-TempAt, expr_text-Arr}
use Rattle.asr_nodes.proofs.print.expr.temporary_shape.Goals as goal

pub returns-in-Temp : goal.returns-in-Temp
returns-in-Temp c = λ r. c.one.ensures r ∙ sym (ap (λ n. expr_text (expr_node r.reading n)) c.in-Temp.is ∙ expr_text-Temp _)

pub returns-in-TempAt : goal.returns-in-TempAt
returns-in-TempAt c = λ r. c.two.ensures r ∙ sym (ap (λ n. expr_text (expr_node r.reading n)) c.in-TempAt.is ∙ expr_text-TempAt _ _)

pub returns-in-Arr : goal.returns-in-Arr
returns-in-Arr c = λ r. c.three.ensures r ∙ sym (ap (λ n. expr_text (expr_node r.reading n)) c.in-Arr.is ∙ expr_text-Arr _ _ _)

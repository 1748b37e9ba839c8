use Rattle.std.proofs.Common.{sym, ap, ◌∙◌}
use Rattle.asr_nodes.specs.Reading.{expr_node}
use Rattle.asr_nodes.specs.Text.{expr_text}
use Rattle.asr_nodes.proofs.Texts.{expr_text-Seq, expr_text-SecLen, expr_text-At}
use Rattle.asr_nodes.proofs.print.expr.wrapper_shape.Goals as goal

pub returns-in-Seq : goal.returns-in-Seq
returns-in-Seq c = λ r. c.two.ensures r ∙ sym (ap (λ n. expr_text (expr_node r.reading n)) c.in-Seq.is ∙ expr_text-Seq _ _)

pub returns-in-SecLen : goal.returns-in-SecLen
returns-in-SecLen c = λ r. c.five.ensures r ∙ sym (ap (λ n. expr_text (expr_node r.reading n)) c.in-SecLen.is ∙ expr_text-SecLen _ _ _ _ _)

pub returns-in-At : goal.returns-in-At
returns-in-At c = λ r. c.three.ensures r ∙ sym (ap (λ n. expr_text (expr_node r.reading n)) c.in-At.is ∙ expr_text-At _ _ _)

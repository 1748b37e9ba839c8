use Rattle.std.proofs.Common.{sym, ap, ◌∙◌}
use Rattle.asr_nodes.specs.Reading.{expr_node}
use Rattle.asr_nodes.specs.Text.{expr_text}
use Rattle.asr_nodes.proofs.Texts.{expr_text-IntConst, expr_text-LogConst, expr_text-CharConst, expr_text-Var, expr_text-Extent}
use Rattle.asr_nodes.proofs.print.expr.leaf_shape.Goals as goal

pub returns-in-IntConst : goal.returns-in-IntConst
returns-in-IntConst c = λ r. c.two.ensures r ∙ sym (ap (λ n. expr_text (expr_node r.reading n)) c.in-IntConst.is ∙ expr_text-IntConst _ _)

pub returns-in-LogConst : goal.returns-in-LogConst
returns-in-LogConst c = λ r. c.one.ensures r ∙ sym (ap (λ n. expr_text (expr_node r.reading n)) c.in-LogConst.is ∙ expr_text-LogConst _)

pub returns-in-CharConst : goal.returns-in-CharConst
returns-in-CharConst c = λ r. c.one-in-CharConst.ensures r ∙ sym (ap (λ n. expr_text (expr_node r.reading n)) c.in-CharConst.is ∙ expr_text-CharConst _)

pub returns-in-Var : goal.returns-in-Var
returns-in-Var c = λ r. c.one-in-Var.ensures r ∙ sym (ap (λ n. expr_text (expr_node r.reading n)) c.in-Var.is ∙ expr_text-Var _)

pub returns-in-Extent : goal.returns-in-Extent
returns-in-Extent c = λ r. c.two-in-Extent.ensures r ∙ sym (ap (λ n. expr_text (expr_node r.reading n)) c.in-Extent.is ∙ expr_text-Extent _ _)

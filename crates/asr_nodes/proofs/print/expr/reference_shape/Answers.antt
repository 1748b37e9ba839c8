use Rattle.std.proofs.Common.{sym, ap, ◌∙◌}
use Rattle.asr_nodes.specs.Reading.{expr_node}
use Rattle.asr_nodes.specs.Text.{expr_text}
use Rattle.asr_nodes.proofs.Texts.{expr_text-Invoke, expr_text-Intrinsic, expr_text-Construct, expr_text-Array}
use Rattle.asr_nodes.proofs.print.expr.reference_shape.Goals as goal

pub returns-in-Invoke : goal.returns-in-Invoke
returns-in-Invoke c = λ r. c.two.ensures r ∙ sym (ap (λ n. expr_text (expr_node r.reading n)) c.in-Invoke.is ∙ expr_text-Invoke _ _)

pub returns-in-Intrinsic : goal.returns-in-Intrinsic
returns-in-Intrinsic c = λ r. c.two-in-Intrinsic.ensures r ∙ sym (ap (λ n. expr_text (expr_node r.reading n)) c.in-Intrinsic.is ∙ expr_text-Intrinsic _ _)

pub returns-in-Construct : goal.returns-in-Construct
returns-in-Construct c = λ r. c.two-in-Construct.ensures r ∙ sym (ap (λ n. expr_text (expr_node r.reading n)) c.in-Construct.is ∙ expr_text-Construct _ _)

pub returns-in-Array : goal.returns-in-Array
returns-in-Array c = λ r. c.one.ensures r ∙ sym (ap (λ n. expr_text (expr_node r.reading n)) c.in-Array.is ∙ expr_text-Array _)

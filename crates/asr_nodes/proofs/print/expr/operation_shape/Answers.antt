use Rattle.std.proofs.Common.{sym, ap, ◌∙◌}
use Rattle.asr_nodes.specs.Reading.{expr_node}
use Rattle.asr_nodes.specs.Text.{expr_text}
use Rattle.asr_nodes.proofs.Texts.{expr_text-Unary, expr_text-Binary, expr_text-Convert, expr_text-Paren}
use Rattle.asr_nodes.proofs.print.expr.operation_shape.Goals as goal

pub returns-in-Unary : goal.returns-in-Unary
returns-in-Unary c = λ r. c.two.ensures r ∙ sym (ap (λ n. expr_text (expr_node r.reading n)) c.in-Unary.is ∙ expr_text-Unary _ _)

pub returns-in-Binary : goal.returns-in-Binary
returns-in-Binary c = λ r. c.three.ensures r ∙ sym (ap (λ n. expr_text (expr_node r.reading n)) c.in-Binary.is ∙ expr_text-Binary _ _ _)

pub returns-in-Convert : goal.returns-in-Convert
returns-in-Convert c = λ r. c.two-in-Convert.ensures r ∙ sym (ap (λ n. expr_text (expr_node r.reading n)) c.in-Convert.is ∙ expr_text-Convert _ _)

pub returns-in-Paren : goal.returns-in-Paren
returns-in-Paren c = λ r. c.one.ensures r ∙ sym (ap (λ n. expr_text (expr_node r.reading n)) c.in-Paren.is ∙ expr_text-Paren _)

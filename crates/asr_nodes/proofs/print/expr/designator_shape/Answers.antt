use Rattle.std.proofs.Common.{sym, ap, ◌∙◌}
use Rattle.asr_nodes.specs.Reading.{expr_node}
use Rattle.asr_nodes.specs.Text.{expr_text}
use Rattle.asr_nodes.proofs.Texts.{expr_text-Item, expr_text-Section, expr_text-Field, expr_text-Substring}
use Rattle.asr_nodes.proofs.print.expr.designator_shape.Goals as goal

pub returns-in-Item : goal.returns-in-Item
returns-in-Item c = λ r. c.two.ensures r ∙ sym (ap (λ n. expr_text (expr_node r.reading n)) c.in-Item.is ∙ expr_text-Item _ _)

pub returns-in-Section : goal.returns-in-Section
returns-in-Section c = λ r. c.two-in-Section.ensures r ∙ sym (ap (λ n. expr_text (expr_node r.reading n)) c.in-Section.is ∙ expr_text-Section _ _)

pub returns-in-Field : goal.returns-in-Field
returns-in-Field c = λ r. c.two-in-Field.ensures r ∙ sym (ap (λ n. expr_text (expr_node r.reading n)) c.in-Field.is ∙ expr_text-Field _ _)

pub returns-in-Substring : goal.returns-in-Substring
returns-in-Substring c = λ r. c.three.ensures r ∙ sym (ap (λ n. expr_text (expr_node r.reading n)) c.in-Substring.is ∙ expr_text-Substring _ _ _)

use Rattle.std.proofs.Common.{sym, ap, ◌∙◌}
use Rattle.asr_nodes.specs.Reading.{stmt_node}
use Rattle.asr_nodes.specs.Text.{stmt_text}
use Rattle.asr_nodes.proofs.Texts.{stmt_text-If, stmt_text-Select, stmt_text-Block}
use Rattle.asr_nodes.proofs.print.stmt.branch_shape.Goals as goal

pub returns-in-If : goal.returns-in-If
returns-in-If c = λ r. c.four.ensures r ∙ sym (ap (λ n. stmt_text (stmt_node r.reading n)) c.in-If.is ∙ stmt_text-If _ _ _ _)

pub returns-in-Select : goal.returns-in-Select
returns-in-Select c = λ r. c.four-in-Select.ensures r ∙ sym (ap (λ n. stmt_text (stmt_node r.reading n)) c.in-Select.is ∙ stmt_text-Select _ _ _ _)

pub returns-in-Block : goal.returns-in-Block
returns-in-Block c = λ r. c.two.ensures r ∙ sym (ap (λ n. stmt_text (stmt_node r.reading n)) c.in-Block.is ∙ stmt_text-Block _ _)

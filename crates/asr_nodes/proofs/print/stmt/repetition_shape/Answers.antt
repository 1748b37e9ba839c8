use Rattle.std.proofs.Common.{sym, ap, ◌∙◌}
use Rattle.asr_nodes.specs.Reading.{stmt_node}
use Rattle.asr_nodes.specs.Text.{stmt_text}
use Rattle.asr_nodes.proofs.Texts.{stmt_text-Do, stmt_text-While}
use Rattle.asr_nodes.proofs.print.stmt.repetition_shape.Goals as goal

pub returns-in-Do : goal.returns-in-Do
returns-in-Do c = λ r. c.seven.ensures r ∙ sym (ap (λ n. stmt_text (stmt_node r.reading n)) c.in-Do.is ∙ stmt_text-Do _ _ _ _ _ _ _)

pub returns-in-While : goal.returns-in-While
returns-in-While c = λ r. c.four.ensures r ∙ sym (ap (λ n. stmt_text (stmt_node r.reading n)) c.in-While.is ∙ stmt_text-While _ _ _ _)

use Rattle.std.proofs.Common.{sym, ap, ◌∙◌}
use Rattle.asr_nodes.specs.Reading.{stmt_node}
use Rattle.asr_nodes.specs.Text.{stmt_text}
use Rattle.asr_nodes.proofs.Texts.{stmt_text-Print, stmt_text-Read}
use Rattle.asr_nodes.proofs.print.stmt.transfer_shape.Goals as goal

pub returns-in-Print : goal.returns-in-Print
returns-in-Print c = λ r. c.four.ensures r ∙ sym (ap (λ n. stmt_text (stmt_node r.reading n)) c.in-Print.is ∙ stmt_text-Print _ _ _ _)

pub returns-in-Read : goal.returns-in-Read
returns-in-Read c = λ r. c.three.ensures r ∙ sym (ap (λ n. stmt_text (stmt_node r.reading n)) c.in-Read.is ∙ stmt_text-Read _ _ _)

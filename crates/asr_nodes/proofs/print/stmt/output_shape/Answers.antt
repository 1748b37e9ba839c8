use Rattle.std.proofs.Common.{sym, ap, ◌∙◌}
use Rattle.asr_nodes.specs.Reading.{stmt_node}
use Rattle.asr_nodes.specs.Text.{stmt_text}
use Rattle.asr_nodes.proofs.Texts.{stmt_text-Begin, stmt_text-Put, stmt_text-End}
use Rattle.asr_nodes.proofs.print.stmt.output_shape.Goals as goal

pub returns-in-Begin : goal.returns-in-Begin
returns-in-Begin c = λ r. c.two.ensures r ∙ sym (ap (λ n. stmt_text (stmt_node r.reading n)) c.in-Begin.is ∙ stmt_text-Begin _ _)

pub returns-in-Put : goal.returns-in-Put
returns-in-Put c = λ r. c.three.ensures r ∙ sym (ap (λ n. stmt_text (stmt_node r.reading n)) c.in-Put.is ∙ stmt_text-Put _ _ _)

pub returns-in-End : goal.returns-in-End
returns-in-End c = λ r. c.one.ensures r ∙ sym (ap (λ n. stmt_text (stmt_node r.reading n)) c.in-End.is ∙ stmt_text-End _)

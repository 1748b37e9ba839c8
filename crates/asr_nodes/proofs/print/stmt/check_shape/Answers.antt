use Rattle.std.proofs.Common.{sym, ap, ◌∙◌}
use Rattle.asr_nodes.specs.Reading.{stmt_node}
use Rattle.asr_nodes.specs.Text.{stmt_text}
use Rattle.asr_nodes.proofs.Texts.{stmt_text-Count, stmt_text-Same, stmt_text-Probe}
use Rattle.asr_nodes.proofs.print.stmt.check_shape.Goals as goal

pub returns-in-Count : goal.returns-in-Count
returns-in-Count c = λ r. c.four.ensures r ∙ sym (ap (λ n. stmt_text (stmt_node r.reading n)) c.in-Count.is ∙ stmt_text-Count _ _ _ _)

pub returns-in-Same : goal.returns-in-Same
returns-in-Same c = λ r. c.three.ensures r ∙ sym (ap (λ n. stmt_text (stmt_node r.reading n)) c.in-Same.is ∙ stmt_text-Same _ _ _)

pub returns-in-Probe : goal.returns-in-Probe
returns-in-Probe c = λ r. c.two.ensures r ∙ sym (ap (λ n. stmt_text (stmt_node r.reading n)) c.in-Probe.is ∙ stmt_text-Probe _ _)

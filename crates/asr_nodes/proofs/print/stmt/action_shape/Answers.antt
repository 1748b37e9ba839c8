use Rattle.std.proofs.Common.{sym, ap, ◌∙◌}
use Rattle.asr_nodes.specs.Reading.{stmt_node}
use Rattle.asr_nodes.specs.Text.{stmt_text}
use Rattle.asr_nodes.proofs.Texts.{stmt_text-Assign, stmt_text-Exit, stmt_text-Cycle, stmt_text-Call, stmt_text-Stop, stmt_text-Return}
use Rattle.asr_nodes.proofs.print.stmt.action_shape.Goals as goal

pub returns-in-Assign : goal.returns-in-Assign
returns-in-Assign c = λ r. c.three.ensures r ∙ sym (ap (λ n. stmt_text (stmt_node r.reading n)) c.in-Assign.is ∙ stmt_text-Assign _ _ _)

pub returns-in-Exit : goal.returns-in-Exit
returns-in-Exit c = λ r. c.two.ensures r ∙ sym (ap (λ n. stmt_text (stmt_node r.reading n)) c.in-Exit.is ∙ stmt_text-Exit _ _)

pub returns-in-Cycle : goal.returns-in-Cycle
returns-in-Cycle c = λ r. c.two-in-Cycle.ensures r ∙ sym (ap (λ n. stmt_text (stmt_node r.reading n)) c.in-Cycle.is ∙ stmt_text-Cycle _ _)

pub returns-in-Call : goal.returns-in-Call
returns-in-Call c = λ r. c.three-in-Call.ensures r ∙ sym (ap (λ n. stmt_text (stmt_node r.reading n)) c.in-Call.is ∙ stmt_text-Call _ _ _)

pub returns-in-Stop : goal.returns-in-Stop
returns-in-Stop c = λ r. c.three-in-Stop.ensures r ∙ sym (ap (λ n. stmt_text (stmt_node r.reading n)) c.in-Stop.is ∙ stmt_text-Stop _ _ _)

pub returns-in-Return : goal.returns-in-Return
returns-in-Return c = λ r. c.one.ensures r ∙ sym (ap (λ n. stmt_text (stmt_node r.reading n)) c.in-Return.is ∙ stmt_text-Return _)

use Rattle.std.proofs.Common.{sym, ap, ◌∙◌}
use Rattle.asr_nodes.specs.Reading.{stmt_node}
use Rattle.asr_nodes.specs.Text.{stmt_text}
use Rattle.asr_nodes.proofs.Texts.{stmt_text-Let, stmt_text-Room}
use Rattle.asr_nodes.proofs.print.stmt.room_shape.Goals as goal

pub returns-in-Let : goal.returns-in-Let
returns-in-Let c = λ r. c.three.ensures r ∙ sym (ap (λ n. stmt_text (stmt_node r.reading n)) c.in-Let.is ∙ stmt_text-Let _ _ _)

pub returns-in-Room : goal.returns-in-Room
returns-in-Room c = λ r. c.five.ensures r ∙ sym (ap (λ n. stmt_text (stmt_node r.reading n)) c.in-Room.is ∙ stmt_text-Room _ _ _ _ _)

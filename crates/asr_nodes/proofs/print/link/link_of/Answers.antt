use Rattle.std.proofs.Common.{ap, ◌∙◌}
use Rattle.asr_nodes.specs.Ids.{stmt_id}
use Rattle.asr_nodes.specs.Reading.{stmt_node}
use Rattle.asr_nodes.specs.Text.{stmt_text}
use Rattle.asr_nodes.proofs.Chained.{link_text_is}
use Rattle.asr_nodes.proofs.print.link.link_of.Goals as goal

pub returns-in-len1 : goal.returns-in-len1
returns-in-len1 c = λ r.
    ap (λ n. stmt_text (stmt_node r.reading n)) c.in-If.is
    ∙ link_text_is r c.in-If.line c.in-If.condition c.in-If.then_block c.in-If.else_block c.as_slice.result.now (stmt_id 0) c.as_slice.ensures c.in-len1.len_at_least c.in-len1.len_below

use Rattle.std.proofs.Common.{sym, ◌∙◌}
use Rattle.asr_nodes.proofs.Texts.{stmt_text-End}
use Rattle.asr_nodes.proofs.print.stmt.no_stmt.Goals as goal

pub returns : goal.returns
returns c = λ r. c.one.ensures r ∙ sym (stmt_text-End 0)

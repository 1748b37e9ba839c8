use Rattle.std.proofs.Common.{sym, ap, ◌∙◌}
use Rattle.asr_nodes.specs.Text.{range_text}
use Rattle.asr_nodes.proofs.print.stmt.range_shape.Goals as goal

pub returns-in-One : goal.returns-in-One
returns-in-One c = λ r. c.one.ensures r ∙ sym (ap (λ n. range_text n) c.in-One.is)

pub returns-in-From : goal.returns-in-From
returns-in-From c = λ r. c.one-in-From.ensures r ∙ sym (ap (λ n. range_text n) c.in-From.is)

pub returns-in-To : goal.returns-in-To
returns-in-To c = λ r. c.one-in-To.ensures r ∙ sym (ap (λ n. range_text n) c.in-To.is)

pub returns-in-Between : goal.returns-in-Between
returns-in-Between c = λ r. c.two.ensures r ∙ sym (ap (λ n. range_text n) c.in-Between.is)

use Rattle.std.proofs.Common.{sym, ap, ◌∙◌}
use Rattle.asr_nodes.specs.Text.{len_text}
use Rattle.asr_nodes.proofs.print.ty.len_shape.Goals as goal

pub returns-in-Fixed : goal.returns-in-Fixed
returns-in-Fixed c = λ r. c.one.ensures r ∙ sym (ap (λ n. len_text n) c.in-Fixed.is)

pub returns-in-Assumed : goal.returns-in-Assumed
returns-in-Assumed c = λ r. c.bare.ensures r ∙ sym (ap (λ n. len_text n) c.in-Assumed.is)

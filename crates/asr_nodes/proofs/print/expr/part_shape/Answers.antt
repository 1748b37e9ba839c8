use Rattle.std.proofs.Common.{sym, ap, ◌∙◌}
use Rattle.asr_nodes.specs.Reading.{section_part_node}
use Rattle.asr_nodes.specs.Text.{section_part_text}
use Rattle.asr_nodes.proofs.Texts.{section_part_text-At, section_part_text-Triple}
use Rattle.asr_nodes.proofs.print.expr.part_shape.Goals as goal

pub returns-in-At : goal.returns-in-At
returns-in-At c = λ r. c.one.ensures r ∙ sym (ap (λ n. section_part_text (section_part_node r.reading n)) c.in-At.is ∙ section_part_text-At _)

pub returns-in-Triple : goal.returns-in-Triple
returns-in-Triple c = λ r. c.three.ensures r ∙ sym (ap (λ n. section_part_text (section_part_node r.reading n)) c.in-Triple.is ∙ section_part_text-Triple _ _ _)

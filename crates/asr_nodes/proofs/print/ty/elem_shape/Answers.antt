use Rattle.std.proofs.Common.{sym, ap, ◌∙◌}
use Rattle.asr_nodes.specs.Reading.{elem_node}
use Rattle.asr_nodes.specs.Text.{elem_text}
use Rattle.asr_nodes.proofs.print.ty.elem_shape.Goals as goal

pub returns-in-Integer : goal.returns-in-Integer
returns-in-Integer c = λ r. c.one.ensures r ∙ sym (ap (λ n. elem_text (elem_node r.reading.symbol n)) c.in-Integer.is)

pub returns-in-Logical : goal.returns-in-Logical
returns-in-Logical c = λ r. c.bare.ensures r ∙ sym (ap (λ n. elem_text (elem_node r.reading.symbol n)) c.in-Logical.is)

pub returns-in-Character : goal.returns-in-Character
returns-in-Character c = λ r. c.one-in-Character.ensures r ∙ sym (ap (λ n. elem_text (elem_node r.reading.symbol n)) c.in-Character.is)

pub returns-in-Derived : goal.returns-in-Derived
returns-in-Derived c = λ r. c.one-in-Derived.ensures r ∙ sym (ap (λ n. elem_text (elem_node r.reading.symbol n)) c.in-Derived.is)

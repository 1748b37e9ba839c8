use Rattle.std.proofs.Common.{sym, ap, ◌∙◌}
use Rattle.asr_nodes.specs.Reading.{print_item_node}
use Rattle.asr_nodes.specs.Text.{print_item_text}
use Rattle.asr_nodes.proofs.PrintItems.{node-Value, node-Loop}
use Rattle.asr_nodes.proofs.Texts.{print_item_text-Value, print_item_text-Loop}
use Rattle.asr_nodes.proofs.print.stmt.item_shape.Goals as goal

pub returns-in-Value : goal.returns-in-Value
returns-in-Value c = λ r. c.one.ensures r ∙ sym (ap (λ n. print_item_text (print_item_node r.reading n)) c.in-Value.is ∙ ap print_item_text (node-Value r.reading _) ∙ print_item_text-Value _)

pub returns-in-Loop : goal.returns-in-Loop
returns-in-Loop c = λ r. c.five.ensures r ∙ sym (ap (λ n. print_item_text (print_item_node r.reading n)) c.in-Loop.is ∙ ap print_item_text (node-Loop r.reading _ _ _ _ _) ∙ print_item_text-Loop _ _ _ _ _)

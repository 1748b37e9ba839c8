use Rattle.c_nodes.proofs.ShownShapes.{shown_has_text, shown_are_items, early_is_none}
use Rattle.c_nodes.proofs.law.shapes_are_shown.Goals as goal

pub returns-clause-text : goal.returns-clause-text
returns-clause-text c = shown_has_text

pub returns-clause-items : goal.returns-clause-items
returns-clause-items c = shown_are_items

pub returns-clause-early : goal.returns-clause-early
returns-clause-early c = early_is_none

-- The text and the grammar of a small file with each shape.
use Rattle.std.proofs.Common.{◌≡◌, true, false, refl}
use Rattle.std.specs.Fmt.{digits}
use Rattle.std.specs.List.{list_all}
use Rattle.lf_base.specs.Contents.{joined}
use Rattle.c_nodes.specs.Text.{item_texts}
use Rattle.c_nodes.specs.Grammar.{is_item}
use Rattle.c_nodes.specs.ShownFile.{shown, shown_text, early_label}
use Rattle.c_nodes.proofs.GrammarShapes.{standings, marks}
use Rattle.c_nodes.proofs.Texts.{shapes}

pub shown_has_text : joined (item_texts shown) ≡ shown_text
unfolding joined digits
shown_has_text = simp shapes refl

pub shown_are_items : list_all is_item shown ≡ true
shown_are_items = simp (standings, marks) refl

pub early_is_none : list_all is_item early_label ≡ false
early_is_none = simp (standings, marks) refl

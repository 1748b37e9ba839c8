-- The prelude as trees is a file of the profile, and it has the text of the prelude; so is the prelude with items behind it.
use Rattle.std.proofs.Common.{◌≡◌, ℕ, true, ◌&&◌, IsTrue, List, [], ◌∷◌, ◌++◌, refl, sym, ap, ◌∙◌, append_assoc, append-nil}
use Rattle.std.specs.Fmt.{digits}
use Rattle.std.specs.List.{list_all}
use Rattle.std.proofs.lemmas.List.{map-append}
use Rattle.std.proofs.lemmas.List.Folds.{list_all-append}
use Rattle.lf_base.specs.Contents.{joined}
use Rattle.c_nodes.specs.declared.tree.CItem.{CItem}
use Rattle.c_nodes.specs.Text.{headers_text, item_text, item_texts, file_text}
use Rattle.c_nodes.specs.Grammar.{is_item, is_external}
use Rattle.c_prelude.specs.PreludeFile.{file_with, IsGrammatical, Spells}
use Rattle.c_prelude.specs.Prelude.{prelude_items, prelude_file}
use Rattle.c_prelude.specs.PreludeText.{prelude_text}
use Rattle.c_nodes.proofs.GrammarShapes.{standings, marks}
use Rattle.c_nodes.proofs.Texts.{shapes}

pub file_text-prelude_file : file_text prelude_file ≡ prelude_text
unfolding joined digits
file_text-prelude_file = simp shapes refl

pub prelude_is_right : list_all is_item prelude_items ≡ true
prelude_is_right = simp (standings, marks) refl

pub prelude_spelled : Spells prelude_text prelude_file
prelude_spelled = record {
  grammatical = record { rest = []; begins = refl; items = prelude_is_right; external = refl };
  text = sym file_text-prelude_file;
}

pub joined-append : (xs ys : List (List ℕ)) → joined (xs ++ ys) ≡ joined xs ++ joined ys
unfolding joined
joined-append [] ys = refl
joined-append (x ∷ xs) ys = ap (λ t. x ++ t) (joined-append xs ys) ∙ sym (append_assoc x (joined xs) (joined ys))

joined-two : (x y : List ℕ) → joined (x ∷ y ∷ []) ≡ x ++ y
unfolding joined
joined-two x y = ap (λ t. x ++ t) (append-nil y)

texts_with : (items rest : List CItem) → joined (item_texts (items ++ rest)) ≡ joined (item_texts items) ++ joined (item_texts rest)
texts_with items rest = ap joined (map-append item_text items rest) ∙ joined-append (item_texts items) (item_texts rest)

pub file_text-file_with : (rest : List CItem) → file_text (file_with rest) ≡ prelude_text ++ joined (item_texts rest)
file_text-file_with rest =
    joined-two headers_text (joined (item_texts (prelude_items ++ rest)))
    ∙ ap (λ t. headers_text ++ t) (texts_with prelude_items rest)
    ∙ sym (append_assoc headers_text (joined (item_texts prelude_items)) (joined (item_texts rest)))
    ∙ ap (λ t. t ++ joined (item_texts rest)) (sym (joined-two headers_text (joined (item_texts prelude_items))) ∙ file_text-prelude_file)

pub grammatical_with : (rest : List CItem) → IsTrue (list_all is_item rest) → IsTrue (list_all is_external rest) → IsGrammatical (file_with rest)
grammatical_with rest h k = record {
  rest = rest;
  begins = refl;
  items = list_all-append is_item prelude_items rest ∙ ap (λ b. b && list_all is_item rest) prelude_is_right ∙ h;
  external = k;
}

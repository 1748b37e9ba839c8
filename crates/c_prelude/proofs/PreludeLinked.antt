-- The items of the prelude are right, behind the library's headers, and nothing jumps in them.
use Rattle.std.proofs.Common.{◌≡◌, Bool, true, false, ◌&&◌, List, [], ◌∷◌, ◌++◌, refl, ap, ◌∙◌}
use Rattle.std.specs.List.{list_all}
use Rattle.c_nodes.specs.declared.tree.CItem.{CItem}
use Rattle.c_semantics.specs.Linking.{Known, at_start, with_item, is_right_item, are_right, known_behind}
use Rattle.c_semantics.specs.Program.{has_right_jumps}
use Rattle.c_prelude.specs.Prelude.{prelude_items}
use Rattle.c_semantics.proofs.LinkingShapes.{links}
use Rattle.c_semantics.proofs.JumpShapes.{jumping}

prelude_are_right : are_right prelude_items at_start ≡ true
prelude_are_right = simp links refl

pub prelude_jumps : list_all has_right_jumps prelude_items ≡ true
prelude_jumps = simp jumping refl

split : (p q r s : Bool) → r ≡ (q && s) → (p && r) ≡ ((p && q) && s)
split true q r s h = h
split false q r s h = refl

pub are_right_append : (items rest : List CItem) (known : Known) → are_right (items ++ rest) known ≡ (are_right items known && are_right rest (known_behind items known))
are_right_append [] rest known = refl
are_right_append (item ∷ items) rest known =
    let behind : Known = with_item item known in
    split (is_right_item item known) (are_right items behind) (are_right (items ++ rest) behind) (are_right rest (known_behind items behind)) (are_right_append items rest behind)

pub prelude_right : (rest : List CItem) → are_right (prelude_items ++ rest) at_start ≡ are_right rest (known_behind prelude_items at_start)
prelude_right rest = are_right_append prelude_items rest at_start ∙ ap (λ b. b && are_right rest (known_behind prelude_items at_start)) prelude_are_right

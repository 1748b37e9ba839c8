-- Items without a mark are one piece.
use Rattle.std.proofs.Common.{◌≡◌, Bool, true, false, ◌||◌, List, [], ◌∷◌, ◌++◌, refl, sym, ap, ◌∙◌, append_assoc, append-nil}
use Rattle.std.specs.Prelude.{if◌then◌else◌}
use Rattle.std.specs.List.{list_any}
use Rattle.ff_expressions.specs.declared.item.Mark.{Mark}
use Rattle.ff_expressions.specs.declared.item.Item.{Item}
use Rattle.ff_expressions.specs.Pieces.{is_mark, pieces_from, pieces_of}

pub left_false : (a b : Bool) → (a || b) ≡ false → a ≡ false
left_false true b h = h
left_false false b h = refl

right_false : (a b : Bool) → (a || b) ≡ false → b ≡ false
right_false true b h = cc
right_false false b h = h

undivided_from : (mark : Mark) (items piece : List Item) → list_any (is_mark mark) items ≡ false → pieces_from mark piece items ≡ (piece ++ items) ∷ []
undivided_from mark [] piece h = ap (λ p. p ∷ []) (sym (append-nil piece))
undivided_from mark (one ∷ items) piece h =
    let e : is_mark mark one ≡ false = left_false (is_mark mark one) (list_any (is_mark mark) items) h in
    let k : list_any (is_mark mark) items ≡ false = right_false (is_mark mark one) (list_any (is_mark mark) items) h in
    ap (λ t. if t then piece ∷ pieces_from mark [] items else pieces_from mark (piece ++ one ∷ []) items) e
    ∙ undivided_from mark items (piece ++ one ∷ []) k
    ∙ ap (λ p. p ∷ []) (append_assoc piece (one ∷ []) items)

pub undivided : (mark : Mark) (items : List Item) → list_any (is_mark mark) items ≡ false → pieces_of mark items ≡ items ∷ []
undivided mark items h = undivided_from mark items [] h

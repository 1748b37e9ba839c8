-- The parts of a group are found exactly where the grammar has them.
use Rattle.std.proofs.Common.{◌≡◌, Bool, true, false, List, [], ◌∷◌, ◌++◌, length, Some, refl, sym, subst, ap, ◌∙◌, append_assoc, append-nil, arith}
use Rattle.std.specs.Prelude.{if◌then◌else◌}
use Rattle.ff_expressions.specs.declared.item.Mark.TheVariants as mark
use Rattle.ff_expressions.specs.declared.item.Part.{Part}
use Rattle.ff_expressions.specs.declared.item.Item.{Item}
use Rattle.ff_expressions.specs.declared.item.Item.TheVariants as item
use Rattle.ff_expressions.specs.Pieces.{is_mark, ahead, each, pieces_from, pieces_of}
use Rattle.ff_expressions.specs.Expressions.{primary_of, power_of, term_of, sum_of, text_of, relation_of, negation_of, conjunction_of, disjunction_of, expression_of}
use Rattle.ff_expressions.specs.Items.{part_of, parts_of}
use Rattle.ff_expressions.specs.Parts.{IsPart, AreListed, AreParts}
use Rattle.ff_expressions.proofs.Joined.{nowhere, inside, false_is_true}
use Rattle.ff_expressions.proofs.Primaries.{some_more}
use Rattle.ff_expressions.proofs.Loops.{each_one}
use Rattle.ff_expressions.proofs.Firm.{IsFirm, firm_expression, Without, without_both, firm_without, no_such}
use Rattle.ff_expressions.proofs.Parts.{firm_bound, part_is, only_part}

abbrev IsOne : List Item → Type 0
IsOne items = Without (is_mark mark.Comma) items

-- items taken apart at commas
up_to : (before front behind : List Item) → IsOne front → pieces_from mark.Comma before (front ++ behind) ≡ pieces_from mark.Comma (before ++ front) behind
up_to before [] behind p = ap (λ f. pieces_from mark.Comma f behind) (sym (append-nil before))
up_to before (one ∷ front) behind p =
    ap (λ t. if t then before ∷ pieces_from mark.Comma [] (front ++ behind) else pieces_from mark.Comma (before ++ one ∷ []) (front ++ behind)) p.0
    ∙ up_to (before ++ one ∷ []) front behind p.1
    ∙ ap (λ f. pieces_from mark.Comma f behind) (append_assoc before (one ∷ []) front)

piece_alone : (items : List Item) → IsOne items → pieces_of mark.Comma items ≡ items ∷ []
piece_alone items p = ap (λ i. pieces_of mark.Comma i) (sym (append-nil items)) ∙ up_to [] items [] p

at_comma : (front behind : List Item) → IsOne front → pieces_of mark.Comma (front ++ item.Mark mark.Comma ∷ behind) ≡ front ∷ pieces_of mark.Comma behind
at_comma front behind p = up_to [] front (item.Mark mark.Comma ∷ behind) p

-- where the commas stand
data Cut : List Item → Type 0 where
  whole : {items : List Item} → IsOne items → Cut items
  comma : (front : List Item) {behind : List Item} → IsOne front → Cut behind → Cut (front ++ item.Mark mark.Comma ∷ behind)

comma_is : (one : Item) → is_mark mark.Comma one ≡ true → one ≡ item.Mark mark.Comma
comma_is (item.Mark mark.Comma) e = refl
comma_is (item.Mark (mark.Operator code)) e = false_is_true (sym (no_such mark.Comma (omega arith) (item.Mark (mark.Operator code)) tt) ∙ e)
comma_is (item.Mark mark.Colon) e = false_is_true e
comma_is (item.Mark mark.DoubleColon) e = false_is_true e
comma_is (item.Mark mark.Equals) e = false_is_true e
comma_is (item.Mark mark.Arrow) e = false_is_true e
comma_is (item.Mark mark.Percent) e = false_is_true e
comma_is (item.Word name) e = false_is_true e
comma_is (item.Number digits suffix) e = false_is_true e
comma_is (item.Truth value) e = false_is_true e
comma_is (item.Text bytes) e = false_is_true e
comma_is (item.Group bracket parts) e = false_is_true e

in_front : (one : Item) (items : List Item) → is_mark mark.Comma one ≡ false → Cut items → Cut (one ∷ items)
in_front one items e (Cut.whole p) = Cut.whole (e, p)
in_front one items e (Cut.comma front p c) = Cut.comma (one ∷ front) (e, p) c

cut : (items : List Item) → Cut items
cut [] = Cut.whole tt
cut (one ∷ items) = by (cut items) (is_mark mark.Comma one) refl
  where
    by : Cut items → (t : Bool) → is_mark mark.Comma one ≡ t → Cut (one ∷ items)
    by c true e = subst (λ x. Cut (x ∷ items)) (sym (comma_is one e)) (Cut.comma [] tt c)
    by c false e = in_front one items e c

listed_are : (items : List Item) (parts : List Part) → Cut items → each part_of (pieces_of mark.Comma items) ≡ Some parts → AreListed items parts
listed_are items parts (Cut.whole w) h = each_one part_of items [] parts (ap (λ r. each part_of r) (sym (piece_alone items w)) ∙ h) (λ p ps e l same.
    subst (λ ps. AreListed items ps) (sym (same ∙ ap (λ r. p ∷ r) (sym (inside [] ps l)))) (AreListed.last (part_is items p e)))
listed_are items parts (Cut.comma front {behind = behind} w c) h =
    each_one part_of front (pieces_of mark.Comma behind) parts (ap (λ r. each part_of r) (sym (at_comma front behind w)) ∙ h) (λ p ps e l same.
    subst (λ ps. AreListed (front ++ item.Mark mark.Comma ∷ behind) ps) (sym same) (AreListed.one_more (part_is front p e) (listed_are behind ps c l)))

pub parts_are : (items : List Item) (parts : List Part) → parts_of items ≡ Some parts → AreParts items parts
parts_are [] parts h = subst (λ ps. AreParts [] ps) (inside [] parts h) AreParts.none
parts_are (one ∷ items) parts h =
    AreParts.listed (listed_are (one ∷ items) parts (cut (one ∷ items)) (sym (ap (λ t. if t then Some [] else each part_of (pieces_of mark.Comma (one ∷ items))) (some_more (length items))) ∙ h))

-- and the other way
firm_one : (items : List Item) → IsFirm items → IsOne items
firm_one items p = firm_without (is_mark mark.Comma) (no_such mark.Comma (omega arith)) items p

is_one : (items : List Item) (p : Part) → IsPart items p → IsOne items
is_one items p IsPart.star = (no_such mark.Comma (omega arith) (item.Mark (mark.Operator 2)) tt, tt)
is_one items p (IsPart.keyed {items = value} {a = a} q) = (refl, (refl, firm_one value (firm_expression value a q)))
is_one items p IsPart.keyed_star = (refl, (refl, (no_such mark.Comma (omega arith) (item.Mark (mark.Operator 2)) tt, tt)))
is_one items p (IsPart.section {front = front} {behind = behind} {lower = lower} {upper = upper} l u) =
    without_both (is_mark mark.Comma) front (item.Mark mark.Colon ∷ behind) (firm_one front (firm_bound front lower l)) (refl, firm_one behind (firm_bound behind upper u))
is_one items p (IsPart.section_by {front = front} {between = between} {behind = behind} {lower = lower} {upper = upper} {step = step} l u s) =
    without_both (is_mark mark.Comma) front (item.Mark mark.Colon ∷ (between ++ item.Mark mark.Colon ∷ behind)) (firm_one front (firm_bound front lower l))
    (refl, without_both (is_mark mark.Comma) between (item.Mark mark.Colon ∷ behind) (firm_one between (firm_bound between upper u)) (refl, firm_one behind (firm_bound behind step s)))
is_one items p (IsPart.section_to_end {front = front} {behind = behind} {lower = lower} {step = step} l s) =
    without_both (is_mark mark.Comma) front (item.Mark mark.DoubleColon ∷ behind) (firm_one front (firm_bound front lower l)) (refl, firm_one behind (firm_bound behind step s))
is_one items p (IsPart.value {a = a} q) = firm_one items (firm_expression items a q)
is_one items p (IsPart.implied q) = (refl, tt)

only_listed : (items : List Item) (parts : List Part) → AreListed items parts → each part_of (pieces_of mark.Comma items) ≡ Some parts
only_listed items parts (AreListed.last {one = one} p) =
    ap (λ r. each part_of r) (piece_alone items (is_one items one p)) ∙ ap (λ o. ahead o (Some [])) (only_part items one p)
only_listed items parts (AreListed.one_more {front = front} {behind = behind} {one = one} {parts = others} p q) =
    ap (λ r. each part_of r) (at_comma front behind (is_one front one p))
    ∙ ap (λ o. ahead o (each part_of (pieces_of mark.Comma behind))) (only_part front one p)
    ∙ ap (λ os. ahead (Some one) os) (only_listed behind others q)

no_part : {R : Type 0} (parts : List Part) → each part_of ([] ∷ []) ≡ Some parts → R
unfolding part_of expression_of disjunction_of conjunction_of negation_of relation_of text_of sum_of term_of power_of primary_of
no_part parts h = nowhere parts h

pub only_parts : (items : List Item) (parts : List Part) → AreParts items parts → parts_of items ≡ Some parts
only_parts items parts AreParts.none = refl
only_parts items parts (AreParts.listed p) = by items (only_listed items parts p)
  where
    by : (items : List Item) → each part_of (pieces_of mark.Comma items) ≡ Some parts → parts_of items ≡ Some parts
    by [] h = no_part parts h
    by (one ∷ rest) h = ap (λ t. if t then Some [] else each part_of (pieces_of mark.Comma (one ∷ rest))) (some_more (length rest)) ∙ h

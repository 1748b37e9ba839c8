-- A level without an operator among the items hands them on to the next tighter one.
use Rattle.std.proofs.Common.{◌≡◌, ℕ, ◌+◌, ◌<◌, ◌≤◌, Bool, true, false, ◌||◌, List, [], ◌∷◌, length, drop, Option, Some, None, refl, sym, subst, ap, ◌∙◌, slice_get, arith}
use Rattle.std.specs.Prelude.{◌==◌, max, if◌then◌else◌}
use Rattle.std.specs.List.{list_any}
use Rattle.std.specs.Option.{is_some, option_map}
use Rattle.std.proofs.Math.Nat.{le-max_left, le-max_right}
use Rattle.std.proofs.lemmas.Bool.{eqb-true}
use Rattle.std.proofs.lemmas.List.{at_drop_more}
use Rattle.std.proofs.lemmas.Option.{slice_get-get_or}
use Rattle.ff_expressions.specs.declared.item.Parsed.{Parsed}
use Rattle.ff_expressions.specs.declared.item.Mark.{Mark}
use Rattle.ff_expressions.specs.declared.item.Mark.TheVariants.{Operator}
use Rattle.ff_expressions.specs.declared.item.Item.{Item}
use Rattle.ff_expressions.specs.declared.item.Item.TheVariants as item
use Rattle.ff_expressions.specs.declared.level.Level.{Level}
use Rattle.ff_expressions.specs.declared.level.Level.TheVariants.{Equivalence, Disjunction, Conjunction, Relation, Concatenation, Addition, Multiplication, Power}
use Rattle.ff_expressions.specs.Trees.{unary}
use Rattle.ff_expressions.specs.Pieces.{mark_number, stands, is_mark}
use Rattle.ff_expressions.specs.Expressions.{belongs, operator_of, operator_at, is_at, other_operands, to_left, to_right, at_most_two, left_level, primary_of, power_of, term_of, sign_in_front, behind_first, behind_sign, sum_behind, sum_of, text_of, relation_of, negation_of, conjunction_of, disjunction_of, operand_of}
use Rattle.ff_expressions.specs.Binding.{rank, tighter, looseness_of, looseness_in, looseness, looseness_at, loosest_from, loosest}
use Rattle.ff_expressions.proofs.Gathering.{at_place}
use Rattle.ff_expressions.proofs.Operands.{none_first, none_others}
use Rattle.ff_expressions.proofs.Undivided.{left_false}

-- one more item of those that are looked at
pub loosest_more : (items : List Item) (at found : ℕ) → at < length items → loosest_from found (drop at items) ≡ loosest_from (max found (looseness_at (slice_get items at))) (drop (at + 1) items)
loosest_more items at found h = at_place items at h step where
  step : (d : Item) → loosest_from found (drop at items) ≡ loosest_from (max found (looseness_at (slice_get items at))) (drop (at + 1) items)
  step d = at_drop_more (loosest_from found) items at d h ∙ ap (λ o. loosest_from (max found (looseness_at o)) (drop (at + 1) items)) (sym (slice_get-get_or items at d h))

-- what is found is no tighter than what was found before, or than any of the items
pub found_least : (items : List Item) (found k : ℕ) → loosest_from found items < k → found < k
found_least [] found k h = h
found_least (one ∷ items) found k h =
    let w : max found (looseness one) < k = found_least items (max found (looseness one)) k h in
    let l : found ≤ max found (looseness one) = le-max_left found (looseness one) in
    omega arith

first_least : (one : Item) (items : List Item) (found k : ℕ) → loosest_from found (one ∷ items) < k → looseness one < k
first_least one items found k h =
    let w : max found (looseness one) < k = found_least items (max found (looseness one)) k h in
    let l : looseness one ≤ max found (looseness one) = le-max_right found (looseness one) in
    omega arith

-- an operator of a level is looser than the level

at_least : (b : Bool) {x y : ℕ} (r : ℕ) → r < x → r < y → r < (if b then x else y)
at_least true r h k = h
at_least false r h k = k

at_this : (b : Bool) {x : ℕ} (y r : ℕ) → b ≡ true → r < x → r < (if b then x else y)
at_this true y r e h = h
at_this false y r e h = cc

right_true : (a b : Bool) → b ≡ true → (a || b) ≡ true
right_true true b e = refl
right_true false b e = e

least : (level : Level) (code : ℕ) → belongs level code ≡ true → rank level < looseness_of code
least Equivalence code e = at_this (belongs Equivalence code) _ 7 e (omega arith)
least Disjunction code e = at_least (belongs Equivalence code) 6 (omega arith) (at_this (belongs Disjunction code) _ 6 e (omega arith))
least Conjunction code e =
    at_least (belongs Equivalence code) 5 (omega arith)
    (at_least (belongs Disjunction code) 5 (omega arith) (at_this (belongs Conjunction code) _ 5 e (omega arith)))
least Relation code e =
    at_least (belongs Equivalence code) 4 (omega arith)
    (at_least (belongs Disjunction code) 4 (omega arith)
    (at_least (belongs Conjunction code) 4 (omega arith) (at_this (code == 16 || belongs Relation code) _ 4 (right_true (code == 16) (belongs Relation code) e) (omega arith))))
least Concatenation code e =
    at_least (belongs Equivalence code) 3 (omega arith)
    (at_least (belongs Disjunction code) 3 (omega arith)
    (at_least (belongs Conjunction code) 3 (omega arith)
    (at_least (code == 16 || belongs Relation code) 3 (omega arith) (at_this (belongs Concatenation code) _ 3 e (omega arith)))))
least Addition code e =
    at_least (belongs Equivalence code) 2 (omega arith)
    (at_least (belongs Disjunction code) 2 (omega arith)
    (at_least (belongs Conjunction code) 2 (omega arith)
    (at_least (code == 16 || belongs Relation code) 2 (omega arith)
    (at_least (belongs Concatenation code) 2 (omega arith) (at_this (belongs Addition code) _ 2 e (omega arith))))))
least Multiplication code e =
    at_least (belongs Equivalence code) 1 (omega arith)
    (at_least (belongs Disjunction code) 1 (omega arith)
    (at_least (belongs Conjunction code) 1 (omega arith)
    (at_least (code == 16 || belongs Relation code) 1 (omega arith)
    (at_least (belongs Concatenation code) 1 (omega arith)
    (at_least (belongs Addition code) 1 (omega arith) (at_this (belongs Multiplication code) _ 1 e (omega arith)))))))
least Power code e =
    at_least (belongs Equivalence code) 0 (omega arith)
    (at_least (belongs Disjunction code) 0 (omega arith)
    (at_least (belongs Conjunction code) 0 (omega arith)
    (at_least (code == 16 || belongs Relation code) 0 (omega arith)
    (at_least (belongs Concatenation code) 0 (omega arith)
    (at_least (belongs Addition code) 0 (omega arith)
    (at_least (belongs Multiplication code) 0 (omega arith) (omega arith)))))))

no_code : (b : Bool) (code : ℕ) {r l : ℕ} → (b ≡ true → r < l) → l ≤ r → is_some (if b then Some code else None) ≡ false
no_code true code h k = let w = h refl in absurd (omega arith)
no_code false code h k = refl

not_of : (level : Level) (mark : Mark) → looseness_in mark ≤ rank level → is_some (operator_of level mark) ≡ false
not_of level (Operator code) h = no_code (belongs level code) code (least level code) h
not_of level Mark.Comma h = refl
not_of level Mark.Colon h = refl
not_of level Mark.DoubleColon h = refl
not_of level Mark.Equals h = refl
not_of level Mark.Arrow h = refl
not_of level Mark.Percent h = refl

not_at : (level : Level) (one : Item) → looseness one ≤ rank level → is_at level one ≡ false
not_at level (item.Mark mark) h = not_of level mark h
not_at level (item.Word name) h = refl
not_at level (item.Number digits suffix) h = refl
not_at level (item.Truth value) h = refl
not_at level (item.Text bytes) h = refl
not_at level (item.Group bracket parts) h = refl

both_false : (a b : Bool) → a ≡ false → b ≡ false → (a || b) ≡ false
both_false true b h k = h
both_false false b h k = k

none_from : (level : Level) (items : List Item) (found : ℕ) → loosest_from found items < rank level + 1 → list_any (is_at level) items ≡ false
none_from level [] found h = refl
none_from level (one ∷ items) found h =
    let w : looseness one < rank level + 1 = first_least one items found (rank level + 1) h in
    let k : looseness one ≤ rank level = omega arith in
    both_false (is_at level one) (list_any (is_at level) items) (not_at level one k) (none_from level items (max found (looseness one)) h)

none : (level : Level) (items : List Item) → loosest items < rank level + 1 → list_any (is_at level) items ≡ false
none level items h = none_from level items 0 h

-- one level down, where none of its operators is there

left_none : (level : Level) (operand : List Item → Option Parsed) (items : List Item) → list_any (is_at level) items ≡ false → operand items ≡ left_level level operand items
left_none level operand items e =
    sym
    (ap (λ first. to_left operand (operand first) (other_operands level items)) (none_first level items e)
    ∙ ap (λ others. to_left operand (operand items) others) (none_others level items e))

down_power : (items : List Item) → loosest items < 1 → primary_of items ≡ power_of items
unfolding power_of
down_power items h =
    let e = none Power items h in
    sym (ap (λ first. to_right primary_of first (other_operands Power items)) (none_first Power items e) ∙ ap (λ others. to_right primary_of items others) (none_others Power items e))

down_term : (items : List Item) → loosest items < 2 → power_of items ≡ term_of items
unfolding term_of
down_term items h = left_none Multiplication power_of items (none Multiplication items h)

no_operator : (o : Option ℕ) → is_some o ≡ false → o ≡ None
no_operator None h = refl
no_operator (Some code) h = cc

no_sign : (items : List Item) → list_any (is_at Addition) items ≡ false → sign_in_front items ≡ None
no_sign [] h = refl
no_sign (one ∷ items) h = no_operator (operator_at Addition one) (left_false (is_at Addition one) (list_any (is_at Addition) items) h)

down_sum : (items : List Item) → loosest items < 3 → term_of items ≡ sum_of items
unfolding sum_of
down_sum items h =
    let e = none Addition items h in
    left_none Addition term_of items e ∙ sym (ap (λ sign. sum_behind sign (behind_sign sign items)) (no_sign items e))

down_text : (items : List Item) → loosest items < 4 → sum_of items ≡ text_of items
unfolding text_of
down_text items h = left_none Concatenation sum_of items (none Concatenation items h)

down_relation : (items : List Item) → loosest items < 5 → text_of items ≡ relation_of items
unfolding relation_of
down_relation items h =
    let e = none Relation items h in
    sym
    (ap (λ first. at_most_two text_of (text_of first) (other_operands Relation items)) (none_first Relation items e)
    ∙ ap (λ others. at_most_two text_of (text_of items) others) (none_others Relation items e))

not_code : (b : Bool) (code : ℕ) → (code + 6 == 22) ≡ b → looseness_of code < 5 → b ≡ false
not_code false code e h = refl
not_code true code e h =
    let w : code ≡ 16 = omega (arith, eqb-true (code + 6) 22 e) in
    let k : looseness_of 16 < 5 = subst (λ c. looseness_of c < 5) w h in
    absurd (omega arith)

no_not_in : (mark : Mark) → looseness_in mark < 5 → (mark_number mark == mark_number (Operator 16)) ≡ false
no_not_in (Operator code) h = not_code (code + 6 == 22) code refl h
no_not_in Mark.Comma h = refl
no_not_in Mark.Colon h = refl
no_not_in Mark.DoubleColon h = refl
no_not_in Mark.Equals h = refl
no_not_in Mark.Arrow h = refl
no_not_in Mark.Percent h = refl

no_not_at : (one : Item) → looseness one < 5 → is_mark (Operator 16) one ≡ false
no_not_at (item.Mark mark) h = no_not_in mark h
no_not_at (item.Word name) h = refl
no_not_at (item.Number digits suffix) h = refl
no_not_at (item.Truth value) h = refl
no_not_at (item.Text bytes) h = refl
no_not_at (item.Group bracket parts) h = refl

no_not : (items : List Item) → loosest items < 5 → stands (Operator 16) (slice_get items 0) ≡ false
no_not [] h = refl
no_not (one ∷ items) h = no_not_at one (first_least one items 0 5 h)

down_negation : (items : List Item) → loosest items < 5 → text_of items ≡ negation_of items
unfolding negation_of
down_negation items h =
    down_relation items h ∙ sym (ap (λ t. if t then option_map (unary 16) (relation_of (behind_first items)) else relation_of items) (no_not items h))

down_conjunction : (items : List Item) → loosest items < 6 → negation_of items ≡ conjunction_of items
unfolding conjunction_of
down_conjunction items h = left_none Conjunction negation_of items (none Conjunction items h)

down_disjunction : (items : List Item) → loosest items < 7 → conjunction_of items ≡ disjunction_of items
unfolding disjunction_of
down_disjunction items h = left_none Disjunction conjunction_of items (none Disjunction items h)

pub one_down : (level : Level) (items : List Item) → loosest items < rank level → operand_of (tighter level) items ≡ operand_of level items
one_down Power items h = absurd (omega arith)
one_down Multiplication items h = down_power items h
one_down Addition items h = down_term items h
one_down Concatenation items h = down_sum items h
one_down Relation items h = down_text items h
one_down Conjunction items h = down_negation items h
one_down Disjunction items h = down_conjunction items h
one_down Equivalence items h = down_disjunction items h

pub tighter_below : (level : Level) → rank (tighter level) ≤ rank level
tighter_below Power = omega arith
tighter_below Multiplication = omega arith
tighter_below Addition = omega arith
tighter_below Concatenation = omega arith
tighter_below Relation = omega arith
tighter_below Conjunction = omega arith
tighter_below Disjunction = omega arith
tighter_below Equivalence = omega arith

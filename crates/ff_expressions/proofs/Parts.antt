-- What stands between two commas is found exactly where the grammar has it.
use Rattle.std.proofs.Common.{◌≡◌, ℕ, ◌+◌, Bool, true, false, ◌||◌, ◌&&◌, ◌==◌, List, [], ◌∷◌, ◌++◌, length, Option, Some, None, refl, sym, subst, ap, ◌∙◌, append_assoc, append-nil, eqb-true, arith}
use Rattle.std.specs.Prelude.{if◌then◌else◌, slice_get}
use Rattle.std.specs.List.{list_any}
use Rattle.std.specs.Option.{option_map, option_and_then}
use Rattle.ff_expressions.specs.declared.item.Parsed.{Parsed}
use Rattle.ff_expressions.specs.declared.item.Mark.TheVariants as mark
use Rattle.ff_expressions.specs.declared.item.Bracket.TheVariants.{Round}
use Rattle.ff_expressions.specs.declared.item.Stride.TheVariants.{Absent}
use Rattle.ff_expressions.specs.declared.item.Part.{Part}
use Rattle.ff_expressions.specs.declared.item.Part.TheVariants as part
use Rattle.ff_expressions.specs.declared.item.Item.{Item}
use Rattle.ff_expressions.specs.declared.item.Item.TheVariants as item
use Rattle.ff_expressions.specs.Pieces.{is_mark, stands, is_colon, single_colons, pieces_from, pieces_of, each}
use Rattle.ff_expressions.specs.Expressions.{is_loop, loop_alone, loop_of, primary_of, power_of, term_of, sum_of, text_of, relation_of, negation_of, conjunction_of, disjunction_of, expression_of}
use Rattle.ff_expressions.specs.Items.{is_star, is_keyed, keyed_with, keyed_of, bound_of, step_of, section_with, section_of, value_part, part_of}
use Rattle.ff_expressions.specs.Grammar.{IsExpression}
use Rattle.ff_expressions.specs.Parts.{IsBound, IsPart}
use Rattle.ff_expressions.proofs.Joined.{nowhere, inside, false_is_true, follows, maps}
use Rattle.ff_expressions.proofs.Primaries.{some_more}
use Rattle.ff_expressions.proofs.Grammar.{expression_is, only_expression, operator_mark}
use Rattle.ff_expressions.proofs.Loops.{each_one, alone, loop_shape, loop_found, only_loop, several, no_loop}
use Rattle.ff_expressions.proofs.Firm.{Inner, IsFirm, firm_expression, Without, without_both, without_any, any_there, firm_without, no_such}

-- items taken apart at colons
abbrev Pieces : List Item → List (List Item)
Pieces items = pieces_of mark.Colon (single_colons items)

left_false : (s t : Bool) → (s || t) ≡ false → s ≡ false
left_false true t e = e
left_false false t e = refl

right_false : (s t : Bool) → (s || t) ≡ false → t ≡ false
right_false true t e = false_is_true (sym e)
right_false false t e = e

up_to : (before front behind : List Item) → Without is_colon front → pieces_from mark.Colon before (single_colons (front ++ behind)) ≡ pieces_from mark.Colon (before ++ front) (single_colons behind)
up_to before [] behind p = ap (λ f. pieces_from mark.Colon f (single_colons behind)) (sym (append-nil before))
up_to before (one ∷ front) behind p =
    ap (λ t. pieces_from mark.Colon before ((if t then item.Mark mark.Colon ∷ item.Mark mark.Colon ∷ [] else one ∷ []) ++ single_colons (front ++ behind))) (right_false (is_mark mark.Colon one) (is_mark mark.DoubleColon one) p.0)
    ∙ ap (λ t. if t then before ∷ pieces_from mark.Colon [] (single_colons (front ++ behind)) else pieces_from mark.Colon (before ++ one ∷ []) (single_colons (front ++ behind))) (left_false (is_mark mark.Colon one) (is_mark mark.DoubleColon one) p.0)
    ∙ up_to (before ++ one ∷ []) front behind p.1
    ∙ ap (λ f. pieces_from mark.Colon f (single_colons behind)) (append_assoc before (one ∷ []) front)

piece_alone : (items : List Item) → Without is_colon items → Pieces items ≡ items ∷ []
piece_alone items p = ap Pieces (sym (append-nil items)) ∙ up_to [] items [] p

at_colon : (front behind : List Item) → Without is_colon front → Pieces (front ++ item.Mark mark.Colon ∷ behind) ≡ front ∷ Pieces behind
at_colon front behind p = up_to [] front (item.Mark mark.Colon ∷ behind) p

at_colons : (front behind : List Item) → Without is_colon front → Pieces (front ++ item.Mark mark.DoubleColon ∷ behind) ≡ front ∷ [] ∷ Pieces behind
at_colons front behind p = up_to [] front (item.Mark mark.DoubleColon ∷ behind) p

-- where the colons stand
data Cut : List Item → Type 0 where
  whole : {items : List Item} → Without is_colon items → Cut items
  colon : (front : List Item) {behind : List Item} → Without is_colon front → Cut behind → Cut (front ++ item.Mark mark.Colon ∷ behind)
  colons : (front : List Item) {behind : List Item} → Without is_colon front → Cut behind → Cut (front ++ item.Mark mark.DoubleColon ∷ behind)

colon_is : (one : Item) → is_colon one ≡ true → (items : List Item) → Cut items → Cut (one ∷ items)
colon_is (item.Mark mark.Colon) e items c = Cut.colon [] tt c
colon_is (item.Mark mark.DoubleColon) e items c = Cut.colons [] tt c
colon_is (item.Mark (mark.Operator code)) e items c = false_is_true (sym (ap (λ t. t || (code + 6 == 2)) (no_such mark.Colon (omega arith) (item.Mark (mark.Operator code)) tt) ∙ no_such mark.DoubleColon (omega arith) (item.Mark (mark.Operator code)) tt) ∙ e)
colon_is (item.Mark mark.Comma) e items c = false_is_true e
colon_is (item.Mark mark.Equals) e items c = false_is_true e
colon_is (item.Mark mark.Arrow) e items c = false_is_true e
colon_is (item.Mark mark.Percent) e items c = false_is_true e
colon_is (item.Word name) e items c = false_is_true e
colon_is (item.Number digits suffix) e items c = false_is_true e
colon_is (item.Truth value) e items c = false_is_true e
colon_is (item.Text bytes) e items c = false_is_true e
colon_is (item.Group bracket parts) e items c = false_is_true e

in_front : (one : Item) (items : List Item) → is_colon one ≡ false → Cut items → Cut (one ∷ items)
in_front one items e (Cut.whole p) = Cut.whole (e, p)
in_front one items e (Cut.colon front p c) = Cut.colon (one ∷ front) (e, p) c
in_front one items e (Cut.colons front p c) = Cut.colons (one ∷ front) (e, p) c

cut : (items : List Item) → Cut items
cut [] = Cut.whole tt
cut (one ∷ items) = by (cut items) (is_colon one) refl
  where
    by : Cut items → (t : Bool) → is_colon one ≡ t → Cut (one ∷ items)
    by c true e = colon_is one e items c
    by c false e = in_front one items e c

some_piece : {R : Type 0} (items : List Item) → Cut items → ((piece : List Item) (pieces : List (List Item)) → Pieces items ≡ piece ∷ pieces → R) → R
some_piece items (Cut.whole p) k = k items [] (piece_alone items p)
some_piece items (Cut.colon front {behind = behind} p c) k = k front (Pieces behind) (at_colon front behind p)
some_piece items (Cut.colons front {behind = behind} p c) k = k front ([] ∷ Pieces behind) (at_colons front behind p)

-- a bound
bound_is : (items : List Item) (o : Option Parsed) → bound_of items ≡ Some o → IsBound items o
bound_is [] o h = subst (λ o. IsBound [] o) (inside None o h) IsBound.missing
bound_is (one ∷ items) o h =
    maps (expression_of (one ∷ items)) Some o (sym (ap (λ t. if t then Some None else option_map Some (expression_of (one ∷ items))) (some_more (length items))) ∙ h) (λ a k same.
    subst (λ o. IsBound (one ∷ items) o) same (IsBound.given (expression_is (one ∷ items) a k)))

no_expression : {R : Type 0} (a : Parsed) → expression_of [] ≡ Some a → R
unfolding expression_of disjunction_of conjunction_of negation_of relation_of text_of sum_of term_of power_of primary_of
no_expression a h = nowhere a h

only_bound : (items : List Item) (o : Option Parsed) → IsBound items o → bound_of items ≡ Some o
only_bound items o IsBound.missing = refl
only_bound items o (IsBound.given {a = a} p) = by items (only_expression items a p)
  where
    by : (items : List Item) → expression_of items ≡ Some a → bound_of items ≡ Some (Some a)
    by [] h = no_expression a h
    by (one ∷ rest) h = ap (λ t. if t then Some None else option_map Some (expression_of (one ∷ rest))) (some_more (length rest)) ∙ ap (λ e. option_map Some e) h

pub firm_bound : (items : List Item) (o : Option Parsed) → IsBound items o → IsFirm items
firm_bound items o IsBound.missing = tt
firm_bound items o (IsBound.given {a = a} p) = firm_expression items a p

-- two bounds, three, and no more
abbrev Sectioned : List (List Item) → Option Part
Sectioned pieces = option_and_then section_with (each bound_of pieces)

two : {R : Type 0} (a b : List Item) (p : Part) → Sectioned (a ∷ b ∷ []) ≡ Some p → ((lower upper : Option Parsed) → IsBound a lower → IsBound b upper → part.Section lower upper Absent ≡ p → R) → R
two a b p h k = follows (each bound_of (a ∷ b ∷ [])) section_with p h (λ os e l.
    each_one bound_of a (b ∷ []) os e (λ x xs ex exs same.
    each_one bound_of b [] xs exs (λ y ys ey eys also.
    let all : os ≡ x ∷ y ∷ [] = same ∙ ap (λ r. x ∷ r) (also ∙ ap (λ r. y ∷ r) (sym (inside [] ys eys))) in
    k x y (bound_is a x ex) (bound_is b y ey) (inside (part.Section x y Absent) p (ap section_with (sym all) ∙ l)))))

three : {R : Type 0} (a b c : List Item) (p : Part) → Sectioned (a ∷ b ∷ c ∷ []) ≡ Some p
    → ((lower upper step : Option Parsed) → IsBound a lower → IsBound b upper → IsBound c step → part.Section lower upper (step_of step) ≡ p → R) → R
three a b c p h k = follows (each bound_of (a ∷ b ∷ c ∷ [])) section_with p h (λ os e l.
    each_one bound_of a (b ∷ c ∷ []) os e (λ x xs ex exs same.
    each_one bound_of b (c ∷ []) xs exs (λ y ys ey eys also.
    each_one bound_of c [] ys eys (λ z zs ez ezs too.
    let all : os ≡ x ∷ y ∷ z ∷ [] = same ∙ ap (λ r. x ∷ r) (also ∙ ap (λ r. y ∷ r) (too ∙ ap (λ r. z ∷ r) (sym (inside [] zs ezs)))) in
    k x y z (bound_is a x ex) (bound_is b y ey) (bound_is c z ez) (inside (part.Section x y (step_of z)) p (ap section_with (sym all) ∙ l))))))

four : {R : Type 0} (a b c d : List Item) (pieces : List (List Item)) (p : Part) → Sectioned (a ∷ b ∷ c ∷ d ∷ pieces) ≡ Some p → R
four a b c d pieces p h = follows (each bound_of (a ∷ b ∷ c ∷ d ∷ pieces)) section_with p h (λ os e l.
    each_one bound_of a (b ∷ c ∷ d ∷ pieces) os e (λ x xs ex exs same.
    each_one bound_of b (c ∷ d ∷ pieces) xs exs (λ y ys ey eys also.
    each_one bound_of c (d ∷ pieces) ys eys (λ z zs ez ezs too.
    each_one bound_of d pieces zs ezs (λ w ws ew ews last.
    let all : os ≡ x ∷ y ∷ z ∷ w ∷ ws = same ∙ ap (λ r. x ∷ r) (also ∙ ap (λ r. y ∷ r) (too ∙ ap (λ r. z ∷ r) last)) in
    nowhere p (sym (ap section_with all ∙ ap (λ t. if t then Some (part.Section x y (step_of z)) else None) (some_more (length ws))) ∙ l))))))

-- a section
section_behind_two : (a b c : List Item) (p : Part) → Without is_colon a → Without is_colon b → Cut c → Sectioned (a ∷ b ∷ Pieces c) ≡ Some p → IsPart (a ++ item.Mark mark.Colon ∷ (b ++ item.Mark mark.Colon ∷ c)) p
section_behind_two a b c p f g (Cut.whole w) h = three a b c p (ap (λ r. Sectioned (a ∷ b ∷ r)) (sym (piece_alone c w)) ∙ h) (λ lower upper step l u s same.
    subst (λ t. IsPart (a ++ item.Mark mark.Colon ∷ (b ++ item.Mark mark.Colon ∷ c)) t) same (IsPart.section_by l u s))
section_behind_two a b c p f g (Cut.colon front {behind = behind} w more) h = some_piece behind more (λ d pieces same.
    four a b front d pieces p (ap (λ r. Sectioned (a ∷ b ∷ r)) (sym (at_colon front behind w ∙ ap (λ r. front ∷ r) same)) ∙ h))
section_behind_two a b c p f g (Cut.colons front {behind = behind} w more) h =
    four a b front [] (Pieces behind) p (ap (λ r. Sectioned (a ∷ b ∷ r)) (sym (at_colons front behind w)) ∙ h)

section_behind : (a b : List Item) (p : Part) → Without is_colon a → Cut b → Sectioned (a ∷ Pieces b) ≡ Some p → IsPart (a ++ item.Mark mark.Colon ∷ b) p
section_behind a b p f (Cut.whole w) h = two a b p (ap (λ r. Sectioned (a ∷ r)) (sym (piece_alone b w)) ∙ h) (λ lower upper l u same.
    subst (λ t. IsPart (a ++ item.Mark mark.Colon ∷ b) t) same (IsPart.section l u))
section_behind a b p f (Cut.colon front {behind = behind} w more) h =
    section_behind_two a front behind p f w more (ap (λ r. Sectioned (a ∷ r)) (sym (at_colon front behind w)) ∙ h)
section_behind a b p f (Cut.colons front {behind = behind} w more) h = some_piece behind more (λ d pieces same.
    four a front [] d pieces p (ap (λ r. Sectioned (a ∷ r)) (sym (at_colons front behind w ∙ ap (λ r. front ∷ [] ∷ r) same)) ∙ h))

section_to_end : (a b : List Item) (p : Part) → Without is_colon a → Cut b → Sectioned (a ∷ [] ∷ Pieces b) ≡ Some p → IsPart (a ++ item.Mark mark.DoubleColon ∷ b) p
section_to_end a b p f (Cut.whole w) h = three a [] b p (ap (λ r. Sectioned (a ∷ [] ∷ r)) (sym (piece_alone b w)) ∙ h) (λ lower upper step l u s same.
    ended upper lower step l s u same)
  where
    ended : (upper lower step : Option Parsed) → IsBound a lower → IsBound b step → IsBound [] upper → part.Section lower upper (step_of step) ≡ p → IsPart (a ++ item.Mark mark.DoubleColon ∷ b) p
    ended None lower step l s u same = subst (λ t. IsPart (a ++ item.Mark mark.DoubleColon ∷ b) t) same (IsPart.section_to_end l s)
    ended (Some v) lower step l s (IsBound.given q) same = no_expression v (only_expression [] v q)
section_to_end a b p f (Cut.colon front {behind = behind} w more) h = some_piece behind more (λ d pieces same.
    four a [] front d pieces p (ap (λ r. Sectioned (a ∷ [] ∷ r)) (sym (at_colon front behind w ∙ ap (λ r. front ∷ r) same)) ∙ h))
section_to_end a b p f (Cut.colons front {behind = behind} w more) h =
    four a [] front [] (Pieces behind) p (ap (λ r. Sectioned (a ∷ [] ∷ r)) (sym (at_colons front behind w)) ∙ h)

section_is : (items : List Item) (p : Part) → Cut items → list_any is_colon items ≡ true → section_of items ≡ Some p → IsPart items p
section_is items p (Cut.whole w) any h = false_is_true (sym (without_any is_colon items w) ∙ any)
section_is items p (Cut.colon front {behind = behind} w more) any h = section_behind front behind p w more (ap Sectioned (sym (at_colon front behind w)) ∙ h)
section_is items p (Cut.colons front {behind = behind} w more) any h = section_to_end front behind p w more (ap Sectioned (sym (at_colons front behind w)) ∙ h)

-- `*`
star_shape : {R : Type 0} (items : List Item) → is_star items ≡ true → (items ≡ item.Mark (mark.Operator 2) ∷ [] → R) → R
star_shape [] h k = false_is_true h
star_shape (one ∷ []) h k = k (ap (λ x. x ∷ []) (operator_mark 2 one h))
star_shape (one ∷ other ∷ items) h k = alone one other items (stands (mark.Operator 2) (slice_get (one ∷ other ∷ items) 0)) h

-- `name =`
equals_is : (one : Item) → is_mark mark.Equals one ≡ true → one ≡ item.Mark mark.Equals
equals_is (item.Mark mark.Equals) e = refl
equals_is (item.Mark (mark.Operator code)) e = let w : code + 6 ≡ 3 = eqb-true (code + 6) 3 e in absurd (omega (arith, w))
equals_is (item.Mark mark.Comma) e = false_is_true e
equals_is (item.Mark mark.Colon) e = false_is_true e
equals_is (item.Mark mark.DoubleColon) e = false_is_true e
equals_is (item.Mark mark.Arrow) e = false_is_true e
equals_is (item.Mark mark.Percent) e = false_is_true e
equals_is (item.Word name) e = false_is_true e
equals_is (item.Number digits suffix) e = false_is_true e
equals_is (item.Truth value) e = false_is_true e
equals_is (item.Text bytes) e = false_is_true e
equals_is (item.Group bracket parts) e = false_is_true e

keyed_value : (name : List ℕ) (items : List Item) (p : Part) → keyed_with name items ≡ Some p → IsPart (item.Word name ∷ item.Mark mark.Equals ∷ items) p
keyed_value name items p h = by (is_star items) refl h
  where
    by : (t : Bool) → is_star items ≡ t → (if t then Some (part.Keyed name None) else option_map (λ e. part.Keyed name (Some e)) (expression_of items)) ≡ Some p → IsPart (item.Word name ∷ item.Mark mark.Equals ∷ items) p
    by true k h = star_shape items k (λ same. subst (λ i. IsPart (item.Word name ∷ item.Mark mark.Equals ∷ i) p) (sym same)
        (subst (λ t. IsPart (item.Word name ∷ item.Mark mark.Equals ∷ item.Mark (mark.Operator 2) ∷ []) t) (inside (part.Keyed name None) p h) IsPart.keyed_star))
    by false k h = maps (expression_of items) (λ e. part.Keyed name (Some e)) p h (λ a l same.
        subst (λ t. IsPart (item.Word name ∷ item.Mark mark.Equals ∷ items) t) same (IsPart.keyed (expression_is items a l)))

keyed_is : (items : List Item) (p : Part) → is_keyed items ≡ true → keyed_of items ≡ Some p → IsPart items p
keyed_is [] p k h = nowhere p h
keyed_is (item.Number digits suffix ∷ items) p k h = nowhere p h
keyed_is (item.Truth value ∷ items) p k h = nowhere p h
keyed_is (item.Text bytes ∷ items) p k h = nowhere p h
keyed_is (item.Mark of ∷ items) p k h = nowhere p h
keyed_is (item.Group bracket parts ∷ items) p k h = nowhere p h
keyed_is (item.Word name ∷ []) p k h = false_is_true k
keyed_is (item.Word name ∷ one ∷ items) p k h = subst (λ x. IsPart (item.Word name ∷ x ∷ items) p) (sym (equals_is one k)) (keyed_value name items p h)

value_is : (items : List Item) (p : Part) → value_part items ≡ Some p → IsPart items p
value_is items p h = by (is_loop items) refl h
  where
    by : (t : Bool) → is_loop items ≡ t → (if t then option_map part.Implied (loop_alone items) else option_map part.Plain (expression_of items)) ≡ Some p → IsPart items p
    by false k h = maps (expression_of items) part.Plain p h (λ a l same. subst (λ t. IsPart items t) same (IsPart.value (expression_is items a l)))
    by true k h = maps (loop_alone items) part.Implied p h (λ a l same. subst (λ t. IsPart items t) same
        (loop_shape items k (λ parts shape n. subst (λ i. IsPart i (part.Implied a)) (sym shape) (IsPart.implied (loop_found parts a (ap loop_alone (sym shape) ∙ l))))))

pub part_is : (items : List Item) (p : Part) → part_of items ≡ Some p → IsPart items p
unfolding part_of
part_is items p h = by (is_star items) (is_keyed items) (list_any is_colon items) refl refl refl h
  where
    by : (s t u : Bool) → is_star items ≡ s → is_keyed items ≡ t → list_any is_colon items ≡ u
        → (if s then Some part.Star else if t then keyed_of items else if u then section_of items else value_part items) ≡ Some p → IsPart items p
    by true t u s k c h = star_shape items s (λ same. subst (λ i. IsPart i p) (sym same) (subst (λ t. IsPart (item.Mark (mark.Operator 2) ∷ []) t) (inside part.Star p h) IsPart.star))
    by false true u s k c h = keyed_is items p k h
    by false false true s k c h = section_is items p (cut items) c h
    by false false false s k c h = value_is items p h

-- and the other way
star_alone : {R : Type 0} (e : Parsed) → expression_of (item.Mark (mark.Operator 2) ∷ []) ≡ Some e → R
unfolding expression_of disjunction_of conjunction_of negation_of relation_of text_of sum_of term_of power_of primary_of
star_alone e h = nowhere e h

no_star : (items : List Item) (e : Parsed) → IsExpression items e → is_star items ≡ false
no_star items e p = by (is_star items) refl
  where
    by : (t : Bool) → is_star items ≡ t → t ≡ false
    by false k = refl
    by true k = star_shape items k (λ same. star_alone e (ap expression_of (sym same) ∙ only_expression items e p))

colon_no_star : (items : List Item) → list_any is_colon items ≡ true → is_star items ≡ false
colon_no_star items c = by (is_star items) refl
  where
    by : (t : Bool) → is_star items ≡ t → t ≡ false
    by false k = refl
    by true k = star_shape items k (λ same. false_is_true (ap (λ i. list_any is_colon i) (sym same) ∙ c))

not_keyed : (items : List Item) → Without (is_mark mark.Equals) items → is_keyed items ≡ false
not_keyed [] w = refl
not_keyed (one ∷ []) w = refl
not_keyed (one ∷ other ∷ items) w = w.1.0

no_colon : (one : Item) → Inner one → is_colon one ≡ false
no_colon one p = ap (λ t. t || is_mark mark.DoubleColon one) (no_such mark.Colon (omega arith) one p) ∙ no_such mark.DoubleColon (omega arith) one p

without_colon : (items : List Item) → IsFirm items → Without is_colon items
without_colon items p = firm_without is_colon no_colon items p

without_equals : (items : List Item) → IsFirm items → Without (is_mark mark.Equals) items
without_equals items p = firm_without (is_mark mark.Equals) (no_such mark.Equals (omega arith)) items p

chosen : (items : List Item) → is_star items ≡ false → is_keyed items ≡ false → part_of items ≡ (if list_any is_colon items then section_of items else value_part items)
unfolding part_of
chosen items s k =
    ap (λ t. if t then Some part.Star else if is_keyed items then keyed_of items else if list_any is_colon items then section_of items else value_part items) s
    ∙ ap (λ t. if t then keyed_of items else if list_any is_colon items then section_of items else value_part items) k

sectioned : (items : List Item) (p : Part) → list_any is_colon items ≡ true → Without (is_mark mark.Equals) items → section_of items ≡ Some p → part_of items ≡ Some p
sectioned items p c w h = chosen items (colon_no_star items c) (not_keyed items w) ∙ ap (λ t. if t then section_of items else value_part items) c ∙ h

keyed_part : (name : List ℕ) (items : List Item) → part_of (item.Word name ∷ item.Mark mark.Equals ∷ items) ≡ keyed_with name items
unfolding part_of
keyed_part name items = by (length (item.Word name ∷ item.Mark mark.Equals ∷ items) == 1)
  where
    by : (t : Bool) → (if (t && false) then Some part.Star else keyed_with name items) ≡ keyed_with name items
    by true = refl
    by false = refl

pub only_part : (items : List Item) (p : Part) → IsPart items p → part_of items ≡ Some p
unfolding part_of
only_part items p IsPart.star = refl
only_part items p (IsPart.keyed {name = name} {items = value} {a = a} q) =
    keyed_part name value
    ∙ ap (λ t. if t then Some (part.Keyed name None) else option_map (λ e. part.Keyed name (Some e)) (expression_of value)) (no_star value a q)
    ∙ ap (λ o. option_map (λ e. part.Keyed name (Some e)) o) (only_expression value a q)
only_part items p (IsPart.keyed_star {name = name}) = keyed_part name (item.Mark (mark.Operator 2) ∷ [])
only_part items p (IsPart.section {front = front} {behind = behind} {lower = lower} {upper = upper} l u) =
    let f = firm_bound front lower l in let g = firm_bound behind upper u in
    sectioned items p (any_there is_colon front (item.Mark mark.Colon) behind refl)
    (without_both (is_mark mark.Equals) front (item.Mark mark.Colon ∷ behind) (without_equals front f) (refl, without_equals behind g))
    (ap Sectioned (at_colon front behind (without_colon front f) ∙ ap (λ r. front ∷ r) (piece_alone behind (without_colon behind g)))
    ∙ rw (only_bound front lower l, only_bound behind upper u) refl)
only_part items p (IsPart.section_by {front = front} {between = between} {behind = behind} {lower = lower} {upper = upper} {step = step} l u s) =
    let f = firm_bound front lower l in let g = firm_bound between upper u in let h = firm_bound behind step s in
    sectioned items p (any_there is_colon front (item.Mark mark.Colon) (between ++ item.Mark mark.Colon ∷ behind) refl)
    (without_both (is_mark mark.Equals) front (item.Mark mark.Colon ∷ (between ++ item.Mark mark.Colon ∷ behind)) (without_equals front f)
    (refl, without_both (is_mark mark.Equals) between (item.Mark mark.Colon ∷ behind) (without_equals between g) (refl, without_equals behind h)))
    (ap Sectioned (at_colon front (between ++ item.Mark mark.Colon ∷ behind) (without_colon front f)
    ∙ ap (λ r. front ∷ r) (at_colon between behind (without_colon between g) ∙ ap (λ r. between ∷ r) (piece_alone behind (without_colon behind h))))
    ∙ rw (only_bound front lower l, only_bound between upper u, only_bound behind step s) refl)
only_part items p (IsPart.section_to_end {front = front} {behind = behind} {lower = lower} {step = step} l s) =
    let f = firm_bound front lower l in let g = firm_bound behind step s in
    sectioned items p (any_there is_colon front (item.Mark mark.DoubleColon) behind refl)
    (without_both (is_mark mark.Equals) front (item.Mark mark.DoubleColon ∷ behind) (without_equals front f) (refl, without_equals behind g))
    (ap Sectioned (at_colons front behind (without_colon front f) ∙ ap (λ r. front ∷ [] ∷ r) (piece_alone behind (without_colon behind g)))
    ∙ rw (only_bound front lower l, only_bound behind step s) refl)
only_part items p (IsPart.value {a = a} q) =
    let f = firm_expression items a q in
    chosen items (no_star items a q) (not_keyed items (without_equals items f))
    ∙ ap (λ t. if t then section_of items else value_part items) (without_any is_colon items (without_colon items f))
    ∙ ap (λ t. if t then option_map part.Implied (loop_alone items) else option_map part.Plain (expression_of items)) (no_loop items a q)
    ∙ ap (λ o. option_map part.Plain o) (only_expression items a q)
only_part items p (IsPart.implied {parts = parts} {a = a} q) =
    ap (λ t. if t then option_map part.Implied (loop_of parts) else option_map part.Plain (expression_of (item.Group Round parts ∷ []))) (several parts a q)
    ∙ ap (λ o. option_map part.Implied o) (only_loop parts a q)

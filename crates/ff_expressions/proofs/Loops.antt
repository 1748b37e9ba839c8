-- An implied do and an item to be written are found exactly where the grammar has them.
use Rattle.std.proofs.Common.{◌≡◌, ℕ, Bool, true, false, ◌&&◌, ◌==◌, List, [], ◌∷◌, ◌++◌, length, Option, Some, None, refl, sym, subst, ap, ◌∙◌, append_assoc, eqb-true, arith, length-append}
use Rattle.std.specs.Prelude.{if◌then◌else◌, slice_get, nat_lt}
use Rattle.std.specs.Option.{option_map, option_and_then}
use Rattle.std.proofs.lemmas.Bool.{lt-ltb}
use Rattle.ff_expressions.specs.declared.item.Parsed.{Parsed}
use Rattle.ff_expressions.specs.declared.item.Bracket.TheVariants.{Round, Square}
use Rattle.ff_expressions.specs.declared.item.Part.{Part}
use Rattle.ff_expressions.specs.declared.item.Part.TheVariants as part
use Rattle.ff_expressions.specs.declared.item.Item.{Item}
use Rattle.ff_expressions.specs.declared.item.Item.TheVariants as item
use Rattle.ff_expressions.specs.declared.group.Arguments.{Arguments}
use Rattle.ff_expressions.specs.declared.group.GroupRole.TheVariants.{Element}
use Rattle.ff_expressions.specs.Pieces.{ahead, each, there}
use Rattle.ff_expressions.specs.Trees.{paren, no_arguments, with_argument, implied_do}
use Rattle.ff_expressions.specs.Expressions.{plain, loop_with, loop_over, loop_behind, loop_of, is_several, is_loop, loop_alone, primary_of, power_of, term_of, sum_of, text_of, relation_of, negation_of, conjunction_of, disjunction_of, expression_of, output_of}
use Rattle.ff_expressions.specs.Grammar.{IsValue, AreValues, IsExpression}
use Rattle.ff_expressions.specs.Parts.{IsLoop, IsOutput}
use Rattle.ff_expressions.proofs.Joined.{nowhere, inside, false_is_true, follows}
use Rattle.ff_expressions.proofs.Primaries.{some_more, not_empty}
use Rattle.ff_expressions.proofs.Grammar.{expression_is, only_expression}

-- what comes of each
pub each_one : {A B R : Type 0} (f : A → Option B) (x : A) (xs : List A) (ys : List B) → each f (x ∷ xs) ≡ Some ys → ((b : B) (bs : List B) → f x ≡ Some b → each f xs ≡ Some bs → ys ≡ b ∷ bs → R) → R
each_one {A = A} {B = B} {R = R} f x xs ys h k = by (f x) (each f xs) refl refl h
  where
    by : (o : Option B) (os : Option (List B)) → f x ≡ o → each f xs ≡ os → ahead o os ≡ Some ys → R
    by None os e l h = nowhere ys h
    by (Some b) None e l h = nowhere ys h
    by (Some b) (Some bs) e l h = k b bs e l (sym (inside (b ∷ bs) ys h))

-- the bounds of a loop
plain_is : (one : Part) (a : Parsed) → plain one ≡ Some a → one ≡ part.Plain a
plain_is (part.Plain v) a h = ap part.Plain (inside v a h)
plain_is part.Star a h = nowhere a h
plain_is (part.Implied v) a h = nowhere a h
plain_is (part.Section lower upper stride) a h = nowhere a h
plain_is (part.Keyed name v) a h = nowhere a h

abbrev plains : List Parsed → List Part
plains [] = []
plains (value ∷ values) = part.Plain value ∷ plains values

plains_are : (parts : List Part) (values : List Parsed) → each plain parts ≡ Some values → parts ≡ plains values
plains_are [] values h = ap plains (inside [] values h)
plains_are (one ∷ parts) values h = each_one plain one parts values h (λ b bs e l same.
    ap (λ x. x ∷ parts) (plain_is one b e) ∙ ap (λ xs. part.Plain b ∷ xs) (plains_are parts bs l) ∙ ap plains (sym same))

module _ {front : List Part} {before : Arguments} {last : Part} {value : Parsed} (variable : List ℕ) (lower e : Parsed) (p : AreValues Element front before) (q : IsValue Element last value) where
  loop_bounds : (values : List Parsed) → loop_with (with_argument before value) variable lower values ≡ Some e → IsLoop (front ++ last ∷ part.Keyed variable (Some lower) ∷ plains values) e
  loop_bounds [] h = nowhere e h
  loop_bounds (upper ∷ []) h =
      subst (λ t. IsLoop (front ++ last ∷ part.Keyed variable (Some lower) ∷ part.Plain upper ∷ []) t) (inside (implied_do variable lower upper None (with_argument before value)) e h) (IsLoop.loop variable lower upper p q)
  loop_bounds (upper ∷ step ∷ []) h =
      subst (λ t. IsLoop (front ++ last ∷ part.Keyed variable (Some lower) ∷ part.Plain upper ∷ part.Plain step ∷ []) t) (inside (implied_do variable lower upper (Some step) (with_argument before value)) e h)
      (IsLoop.loop_by variable lower upper step p q)
  loop_bounds (upper ∷ step ∷ third ∷ values) h =
      nowhere e (sym (ap (λ t. if t then Some (implied_do variable lower upper (Some step) (with_argument before value)) else None) (some_more (length values))) ∙ h)

loop_here : (front : List Part) (before : Arguments) (variable : List ℕ) (lower : Parsed) (bounds : List Part) (e : Parsed) → AreValues Element front before
    → loop_over before variable (Some lower) bounds ≡ Some e → IsLoop (front ++ part.Keyed variable (Some lower) ∷ bounds) e
loop_here front before variable lower bounds e AreValues.none h = nowhere e h
loop_here front before variable lower bounds e (AreValues.one_more {parts = parts} {before = others} {last = last} {value = value} p q) h = by (length (others.list ++ value.tree ∷ []) == 0) h
  where
    by : (t : Bool) → (if t then None else option_and_then (loop_with (with_argument others value) variable lower) (each plain bounds)) ≡ Some e → IsLoop ((parts ++ last ∷ []) ++ part.Keyed variable (Some lower) ∷ bounds) e
    by true h = nowhere e h
    by false h = follows (each plain bounds) (loop_with (with_argument others value) variable lower) e h (λ values k l.
        subst (λ i. IsLoop i e) (sym (append_assoc parts (last ∷ []) (part.Keyed variable (Some lower) ∷ bounds)))
        (subst (λ b. IsLoop (parts ++ last ∷ part.Keyed variable (Some lower) ∷ b) e) (sym (plains_are bounds values k)) (loop_bounds variable lower e p q values l)))

loop_from : (front parts : List Part) (before : Arguments) (e : Parsed) → AreValues Element front before → loop_behind before parts ≡ Some e → IsLoop (front ++ parts) e
loop_from front [] before e p h = nowhere e h
loop_from front (part.Plain v ∷ parts) before e p h =
    subst (λ i. IsLoop i e) (append_assoc front (part.Plain v ∷ []) parts) (loop_from (front ++ part.Plain v ∷ []) parts (with_argument before v) e (AreValues.one_more p IsValue.element) h)
loop_from front (part.Implied v ∷ parts) before e p h =
    subst (λ i. IsLoop i e) (append_assoc front (part.Implied v ∷ []) parts) (loop_from (front ++ part.Implied v ∷ []) parts (with_argument before v) e (AreValues.one_more p IsValue.implied) h)
loop_from front (part.Keyed variable None ∷ bounds) before e p h = nowhere e h
loop_from front (part.Keyed variable (Some lower) ∷ bounds) before e p h = loop_here front before variable lower bounds e p h
loop_from front (part.Star ∷ parts) before e p h = nowhere e h
loop_from front (part.Section lower upper stride ∷ parts) before e p h = nowhere e h

pub loop_found : (parts : List Part) (e : Parsed) → loop_of parts ≡ Some e → IsLoop parts e
loop_found parts e h = loop_from [] parts no_arguments e AreValues.none h

-- and the other way
loop_one : {one : Part} {value : Parsed} (before : Arguments) (more : List Part) → IsValue Element one value → loop_behind before (one ∷ more) ≡ loop_behind (with_argument before value) more
loop_one before more IsValue.element = refl
loop_one before more IsValue.implied = refl

loop_then : (parts : List Part) (values : Arguments) (more : List Part) → AreValues Element parts values → loop_behind no_arguments (parts ++ more) ≡ loop_behind values more
loop_then parts values more AreValues.none = refl
loop_then parts values more (AreValues.one_more {parts = front} {before = before} {last = last} {value = value} p q) =
    ap (λ ps. loop_behind no_arguments ps) (append_assoc front (last ∷ []) more) ∙ loop_then front before (last ∷ more) p ∙ loop_one before more q

loop_last : (front : List Part) (before : Arguments) (last : Part) (value : Parsed) (variable : List ℕ) (lower : Parsed) (bounds : List Part) → AreValues Element front before → IsValue Element last value
    → loop_of (front ++ last ∷ part.Keyed variable (Some lower) ∷ bounds) ≡ option_and_then (loop_with (with_argument before value) variable lower) (each plain bounds)
loop_last front before last value variable lower bounds p q =
    loop_then front before (last ∷ part.Keyed variable (Some lower) ∷ bounds) p
    ∙ loop_one before (part.Keyed variable (Some lower) ∷ bounds) q
    ∙ ap (λ t. if t then None else option_and_then (loop_with (with_argument before value) variable lower) (each plain bounds)) (not_empty before.list value.tree)

pub only_loop : (parts : List Part) (e : Parsed) → IsLoop parts e → loop_of parts ≡ Some e
only_loop parts e (IsLoop.loop {front = front} {before = before} {last = last} {value = value} variable lower upper p q) =
    loop_last front before last value variable lower (part.Plain upper ∷ []) p q
only_loop parts e (IsLoop.loop_by {front = front} {before = before} {last = last} {value = value} variable lower upper step p q) =
    loop_last front before last value variable lower (part.Plain upper ∷ part.Plain step ∷ []) p q

-- A loop has several parts.
pub several : (parts : List Part) (e : Parsed) → IsLoop parts e → nat_lt 1 (length parts) ≡ true
several parts e (IsLoop.loop {front = front} {last = last} variable lower upper p q) =
    lt-ltb 1 (length parts) (omega (arith, length-append front (last ∷ part.Keyed variable (Some lower) ∷ part.Plain upper ∷ [])))
several parts e (IsLoop.loop_by {front = front} {last = last} variable lower upper step p q) =
    lt-ltb 1 (length parts) (omega (arith, length-append front (last ∷ part.Keyed variable (Some lower) ∷ part.Plain upper ∷ part.Plain step ∷ [])))

both_true : (s t : Bool) → (s && t) ≡ true → s ≡ true
both_true true t e = refl
both_true false t e = e

pub alone : {A R : Type 0} (x y : A) (xs : List A) (t : Bool) → ((length (x ∷ y ∷ xs) == 1) && t) ≡ true → R
alone x y xs t h = let w : length (x ∷ y ∷ xs) ≡ 1 = eqb-true (length (x ∷ y ∷ xs)) 1 (both_true (length (x ∷ y ∷ xs) == 1) t h) in absurd (omega (arith, w))

pub loop_shape : {R : Type 0} (items : List Item) → is_loop items ≡ true → ((parts : List Part) → items ≡ item.Group Round parts ∷ [] → nat_lt 1 (length parts) ≡ true → R) → R
loop_shape [] h k = false_is_true h
loop_shape (item.Group Round parts ∷ []) h k = k parts refl h
loop_shape (item.Group Square parts ∷ []) h k = false_is_true h
loop_shape (item.Word name ∷ []) h k = false_is_true h
loop_shape (item.Number digits suffix ∷ []) h k = false_is_true h
loop_shape (item.Truth value ∷ []) h k = false_is_true h
loop_shape (item.Text bytes ∷ []) h k = false_is_true h
loop_shape (item.Mark of ∷ []) h k = false_is_true h
loop_shape (one ∷ other ∷ items) h k = alone one other items (there is_several (slice_get (one ∷ other ∷ items) 0)) h

-- An expression is no group of several parts.
no_several : {R : Type 0} (parts : List Part) (e : Parsed) → nat_lt 1 (length parts) ≡ true → expression_of (item.Group Round parts ∷ []) ≡ Some e → R
unfolding expression_of disjunction_of conjunction_of negation_of relation_of text_of sum_of term_of power_of primary_of
no_several [] e t h = false_is_true t
no_several (one ∷ []) e t h = false_is_true t
no_several (one ∷ other ∷ parts) e t h = nowhere e (sym (ap (λ t. if t then option_map paren (plain one) else None) (some_more (length parts))) ∙ h)

pub no_loop : (items : List Item) (e : Parsed) → IsExpression items e → is_loop items ≡ false
no_loop items e p = by (is_loop items) refl
  where
    by : (t : Bool) → is_loop items ≡ t → t ≡ false
    by false k = refl
    by true k = loop_shape items k (λ parts same l. no_several parts e l (ap expression_of (sym same) ∙ only_expression items e p))

pub output_is : (items : List Item) (e : Parsed) → output_of items ≡ Some e → IsOutput items e
output_is items e h = by (is_loop items) refl h
  where
    by : (t : Bool) → is_loop items ≡ t → (if t then loop_alone items else expression_of items) ≡ Some e → IsOutput items e
    by false k h = IsOutput.expression (expression_is items e h)
    by true k h = loop_shape items k (λ parts same l. subst (λ i. IsOutput i e) (sym same) (IsOutput.loop (loop_found parts e (ap loop_alone (sym same) ∙ h))))

pub only_output : (items : List Item) (e : Parsed) → IsOutput items e → output_of items ≡ Some e
only_output items e (IsOutput.expression p) = ap (λ t. if t then loop_alone items else expression_of items) (no_loop items e p) ∙ only_expression items e p
only_output items e (IsOutput.loop {parts = parts} p) =
    ap (λ t. if t then loop_of parts else expression_of (item.Group Round parts ∷ [])) (several parts e p) ∙ only_loop parts e p

-- A designator and a primary are found exactly where the grammar has them.
use Rattle.std.proofs.Common.{◌≡◌, ℕ, ◌+◌, Bool, true, false, ◌==◌, suc, List, [], ◌∷◌, ◌++◌, length, Option, Some, None, refl, sym, subst, ap, ◌∙◌, append_assoc, append-nil, eqb-true, arith}
use Rattle.std.specs.Prelude.{if◌then◌else◌, slice_get}
use Rattle.std.specs.Option.{option_map, option_and_then}
use Rattle.ff_expressions.specs.declared.item.Parsed.{Parsed}
use Rattle.ff_expressions.specs.declared.item.Reference.{Reference}
use Rattle.ff_expressions.specs.declared.item.Mark.{Mark}
use Rattle.ff_expressions.specs.declared.item.Mark.TheVariants as mark
use Rattle.ff_expressions.specs.declared.item.Bracket.TheVariants.{Round, Square}
use Rattle.ff_expressions.specs.declared.item.Part.{Part}
use Rattle.ff_expressions.specs.declared.item.Part.TheVariants as part
use Rattle.ff_expressions.specs.declared.item.Item.{Item}
use Rattle.ff_expressions.specs.declared.item.Item.TheVariants as item
use Rattle.ff_expressions.specs.declared.group.Arguments.{Arguments}
use Rattle.ff_expressions.specs.declared.group.GroupRole.{GroupRole}
use Rattle.ff_expressions.specs.declared.group.GroupRole.TheVariants.{Argument, Element}
use Rattle.ff_expressions.specs.Pieces.{there, mark_number}
use Rattle.ff_expressions.specs.Trees.{paren, no_arguments, with_argument, array, nothing_named, with_name, with_group, as_expression}
use Rattle.ff_expressions.specs.Expressions.{value_at, values_behind, values_of, arguments_of, plain, designator_behind, reference_of, paren_of, array_with, array_of, literal, literal_alone, is_name, primary_of}
use Rattle.ff_expressions.specs.Grammar.{IsValue, AreValues, IsDesignator, IsPrimary}
use Rattle.ff_expressions.proofs.Joined.{nowhere, inside, false_is_true, follows, maps, Below, below_both}

-- the values of a group
value_is : (place : GroupRole) (one : Part) (value : Parsed) → value_at place one ≡ Some value → IsValue place one value
value_is Argument (part.Plain v) value h = subst (λ t. IsValue Argument (part.Plain v) t) (inside v value h) IsValue.argument
value_is Argument (part.Section lower upper stride) value h = subst (λ t. IsValue Argument (part.Section lower upper stride) t) (inside _ value h) IsValue.section
value_is Argument part.Star value h = nowhere value h
value_is Argument (part.Implied v) value h = nowhere value h
value_is Argument (part.Keyed name v) value h = nowhere value h
value_is Element (part.Plain v) value h = subst (λ t. IsValue Element (part.Plain v) t) (inside v value h) IsValue.element
value_is Element (part.Implied v) value h = subst (λ t. IsValue Element (part.Implied v) t) (inside v value h) IsValue.implied
value_is Element part.Star value h = nowhere value h
value_is Element (part.Section lower upper stride) value h = nowhere value h
value_is Element (part.Keyed name v) value h = nowhere value h

only_value : {place : GroupRole} {one : Part} {value : Parsed} → IsValue place one value → value_at place one ≡ Some value
only_value IsValue.argument = refl
only_value IsValue.section = refl
only_value IsValue.element = refl
only_value IsValue.implied = refl

values_from : (place : GroupRole) (front parts : List Part) (before values : Arguments) → AreValues place front before → values_behind place before parts ≡ Some values → AreValues place (front ++ parts) values
values_from place front [] before values p h = subst (λ v. AreValues place (front ++ []) v) (inside before values h) (subst (λ ps. AreValues place ps before) (sym (append-nil front)) p)
values_from place front (one ∷ parts) before values p h =
    follows (value_at place one) (λ value. values_behind place (with_argument before value) parts) values h (λ value e k.
    subst (λ ps. AreValues place ps values) (append_assoc front (one ∷ []) parts)
    (values_from place (front ++ one ∷ []) parts (with_argument before value) values (AreValues.one_more p (value_is place one value e)) k))

pub values_are : (place : GroupRole) (parts : List Part) (values : Arguments) → values_of place parts ≡ Some values → AreValues place parts values
values_are place parts values h = values_from place [] parts no_arguments values AreValues.none h

values_then : (place : GroupRole) (parts : List Part) (values : Arguments) (more : List Part) → AreValues place parts values → values_behind place no_arguments (parts ++ more) ≡ values_behind place values more
values_then place parts values more AreValues.none = refl
values_then place parts values more (AreValues.one_more {parts = front} {before = before} {last = last} {value = value} p q) =
    ap (λ ps. values_behind place no_arguments ps) (append_assoc front (last ∷ []) more)
    ∙ values_then place front before (last ∷ more) p
    ∙ ap (λ o. option_and_then (λ v. values_behind place (with_argument before v) more) o) (only_value q)

pub only_values : (place : GroupRole) (parts : List Part) (values : Arguments) → AreValues place parts values → values_of place parts ≡ Some values
only_values place parts values p = ap (λ ps. values_behind place no_arguments ps) (sym (append-nil parts)) ∙ values_then place parts values [] p

-- a name that is due, or a designator that may go on
abbrev Going : Bool → List Item → Reference → Type 0
Going true front before = (name : List ℕ) → IsDesignator (front ++ item.Word name ∷ []) (with_name before name)
Going false front before = IsDesignator front before

step : (front : List Item) (one : Item) (rest : List Item) (r : Reference) → IsDesignator ((front ++ one ∷ []) ++ rest) r → IsDesignator (front ++ one ∷ rest) r
step front one rest r p = subst (λ items. IsDesignator items r) (append_assoc front (one ∷ []) rest) p

percent : (of : Mark) (t : Bool) → (mark_number of == 5) ≡ t → t ≡ true → of ≡ mark.Percent
percent mark.Percent t e h = refl
percent (mark.Operator code) t e h = let w : code + 6 ≡ 5 = eqb-true (code + 6) 5 (e ∙ h) in absurd (omega arith)
percent mark.Comma t e h = false_is_true (e ∙ h)
percent mark.Colon t e h = false_is_true (e ∙ h)
percent mark.DoubleColon t e h = false_is_true (e ∙ h)
percent mark.Equals t e h = false_is_true (e ∙ h)
percent mark.Arrow t e h = false_is_true (e ∙ h)

going : (due : Bool) (front : List Item) (before : Reference) (items : List Item) (r : Reference) → Going due front before → designator_behind due before items ≡ Some r → IsDesignator (front ++ items) r
going true front before [] r p h = nowhere r h
going true front before (item.Word name ∷ items) r p h = step front (item.Word name) items r (going false (front ++ item.Word name ∷ []) (with_name before name) items r (p name) h)
going true front before (item.Number digits suffix ∷ items) r p h = nowhere r h
going true front before (item.Truth value ∷ items) r p h = nowhere r h
going true front before (item.Text bytes ∷ items) r p h = nowhere r h
going true front before (item.Mark of ∷ items) r p h = nowhere r h
going true front before (item.Group bracket parts ∷ items) r p h = nowhere r h
going false front before [] r p h = subst (λ s. IsDesignator (front ++ []) s) (inside before r h) (subst (λ items. IsDesignator items before) (sym (append-nil front)) p)
going false front before (item.Word name ∷ items) r p h = nowhere r h
going false front before (item.Number digits suffix ∷ items) r p h = nowhere r h
going false front before (item.Truth value ∷ items) r p h = nowhere r h
going false front before (item.Text bytes ∷ items) r p h = nowhere r h
going false front before (item.Group Square parts ∷ items) r p h = nowhere r h
going false front before (item.Group Round parts ∷ items) r p h =
    by (λ arguments q h. step front (item.Group Round parts) items r (going false (front ++ item.Group Round parts ∷ []) (with_group before arguments) items r (IsDesignator.with_arguments p q) h))
    (arguments_of parts) refl h
  where
    by : ((arguments : Arguments) → AreValues Argument parts arguments → designator_behind false (with_group before arguments) items ≡ Some r → IsDesignator (front ++ item.Group Round parts ∷ items) r)
        → (o : Option Arguments) → arguments_of parts ≡ o → option_and_then (λ (next : Bool × Reference). designator_behind next.0 next.1 items) (option_map (λ arguments. (false, with_group before arguments)) o) ≡ Some r → IsDesignator (front ++ item.Group Round parts ∷ items) r
    by go None e h = nowhere r h
    by go (Some arguments) e h = go arguments (values_are Argument parts arguments e) h
going false front before (item.Mark of ∷ items) r p h =
    by (λ q h. step front (item.Mark of) items r (going true (front ++ item.Mark of ∷ []) before items r q h)) (mark_number of == 5) refl h
  where
    by : (Going true (front ++ item.Mark of ∷ []) before → designator_behind true before items ≡ Some r → IsDesignator (front ++ item.Mark of ∷ items) r)
        → (t : Bool) → (mark_number of == 5) ≡ t → option_and_then (λ (next : Bool × Reference). designator_behind next.0 next.1 items) (if t then Some (true, before) else None) ≡ Some r → IsDesignator (front ++ item.Mark of ∷ items) r
    by go false e h = nowhere r h
    by go true e h = go
        (λ name. subst (λ m. IsDesignator ((front ++ item.Mark m ∷ []) ++ item.Word name ∷ []) (with_name before name)) (sym (percent of true e refl))
        (subst (λ i. IsDesignator i (with_name before name)) (sym (append_assoc front (item.Mark mark.Percent ∷ []) (item.Word name ∷ []))) (IsDesignator.component name p))) h

pub designator_is : (items : List Item) (r : Reference) → reference_of items ≡ Some r → IsDesignator items r
unfolding reference_of
designator_is items r h = going true [] nothing_named items r (λ name. IsDesignator.name) h

designator_then : (items : List Item) (r : Reference) (more : List Item) → IsDesignator items r → designator_behind true nothing_named (items ++ more) ≡ designator_behind false r more
designator_then items r more IsDesignator.name = refl
designator_then items r more (IsDesignator.with_arguments {front = front} {before = before} {parts = parts} {arguments = arguments} p q) =
    ap (λ i. designator_behind true nothing_named i) (append_assoc front (item.Group Round parts ∷ []) more)
    ∙ designator_then front before (item.Group Round parts ∷ more) p
    ∙ ap (λ o. option_and_then (λ (next : Bool × Reference). designator_behind next.0 next.1 more) (option_map (λ arguments. (false, with_group before arguments)) o)) (only_values Argument parts arguments q)
designator_then items r more (IsDesignator.component {front = front} {before = before} name p) =
    ap (λ i. designator_behind true nothing_named i) (append_assoc front (item.Mark mark.Percent ∷ item.Word name ∷ []) more)
    ∙ designator_then front before (item.Mark mark.Percent ∷ item.Word name ∷ more) p

pub only_designator : (items : List Item) (r : Reference) → IsDesignator items r → reference_of items ≡ Some r
unfolding reference_of
only_designator items r p = ap (λ i. designator_behind true nothing_named i) (sym (append-nil items)) ∙ designator_then items r [] p

-- a name stands in front
named : (items : List Item) (r : Reference) → IsDesignator items r → (name : List ℕ) × (rest : List Item) × (items ≡ item.Word name ∷ rest)
named items r (IsDesignator.name {name = name}) = (name, [], refl)
named items r (IsDesignator.with_arguments {front = front} {before = before} {parts = parts} p q) =
    let s = named front before p in (s.0, s.1 ++ item.Group Round parts ∷ [], ap (λ i. i ++ item.Group Round parts ∷ []) s.2)
named items r (IsDesignator.component {front = front} {before = before} name p) =
    let s = named front before p in (s.0, s.1 ++ item.Mark mark.Percent ∷ item.Word name ∷ [], ap (λ i. i ++ item.Mark mark.Percent ∷ item.Word name ∷ []) s.2)

below_designator : (items : List Item) (r : Reference) → IsDesignator items r → Below 0 items
below_designator items r IsDesignator.name = (omega arith, tt)
below_designator items r (IsDesignator.with_arguments {front = front} {before = before} {parts = parts} p q) =
    below_both 0 front (item.Group Round parts ∷ []) (below_designator front before p) (omega arith, tt)
below_designator items r (IsDesignator.component {front = front} {before = before} name p) =
    below_both 0 front (item.Mark mark.Percent ∷ item.Word name ∷ []) (below_designator front before p) (omega arith, (omega arith, tt))

pub below_primary : (items : List Item) (e : Parsed) → IsPrimary items e → Below 0 items
below_primary items e (IsPrimary.designator {reference = r} p) = below_designator items r p
below_primary items e IsPrimary.number = (omega arith, tt)
below_primary items e IsPrimary.truth = (omega arith, tt)
below_primary items e IsPrimary.text = (omega arith, tt)
below_primary items e IsPrimary.in_parentheses = (omega arith, tt)
below_primary items e (IsPrimary.constructor p q) = (omega arith, tt)

-- a primary
pub some_more : (n : ℕ) → (suc n == 0) ≡ false
some_more n = by (suc n == 0) refl
  where
    by : (t : Bool) → (suc n == 0) ≡ t → t ≡ false
    by false e = refl
    by true e = let w : suc n ≡ 0 = eqb-true (suc n) 0 e in absurd (omega (arith, w))

round : (parts : List Part) (e : Parsed) → paren_of parts ≡ Some e → IsPrimary (item.Group Round parts ∷ []) e
round [] e h = nowhere e h
round (first ∷ []) e h = by first h
  where
    by : (first : Part) → option_map paren (plain first) ≡ Some e → IsPrimary (item.Group Round (first ∷ []) ∷ []) e
    by (part.Plain inner) h = subst (λ t. IsPrimary (item.Group Round (part.Plain inner ∷ []) ∷ []) t) (inside (paren inner) e h) IsPrimary.in_parentheses
    by part.Star h = nowhere e h
    by (part.Implied v) h = nowhere e h
    by (part.Section lower upper stride) h = nowhere e h
    by (part.Keyed name v) h = nowhere e h
round (first ∷ second ∷ parts) e h = nowhere e (sym (ap (λ t. if t then option_map paren (plain first) else None) (some_more (length parts))) ∙ h)

square_of : (parts : List Part) (values : Arguments) (e : Parsed) → AreValues Element parts values → array_with values ≡ Some e → IsPrimary (item.Group Square parts ∷ []) e
square_of parts values e AreValues.none h = nowhere e h
square_of parts values e (AreValues.one_more {parts = front} {before = before} {last = last} {value = value} p q) h = by (length (before.list ++ value.tree ∷ []) == 0) h
  where
    by : (t : Bool) → (if t then None else Some (array (with_argument before value))) ≡ Some e → IsPrimary (item.Group Square (front ++ last ∷ []) ∷ []) e
    by true h = nowhere e h
    by false h = subst (λ t. IsPrimary (item.Group Square (front ++ last ∷ []) ∷ []) t) (inside (array (with_argument before value)) e h) (IsPrimary.constructor p q)

square : (parts : List Part) (e : Parsed) → array_of parts ≡ Some e → IsPrimary (item.Group Square parts ∷ []) e
square parts e h = follows (values_of Element parts) array_with e h (λ values k l. square_of parts values e (values_are Element parts values k) l)

alone_only : (first : Item) (items : List Item) → (if suc (length items) == 0 then literal first else None) ≡ None
alone_only first items = ap (λ t. if t then literal first else None) (some_more (length items))

pub primary_is : (items : List Item) (e : Parsed) → primary_of items ≡ Some e → IsPrimary items e
unfolding primary_of
primary_is [] e h = nowhere e h
primary_is (item.Word name ∷ items) e h =
    maps (reference_of (item.Word name ∷ items)) as_expression e h (λ r k same. subst (λ t. IsPrimary (item.Word name ∷ items) t) same (IsPrimary.designator (designator_is (item.Word name ∷ items) r k)))
primary_is (item.Number digits suffix ∷ []) e h = subst (λ t. IsPrimary (item.Number digits suffix ∷ []) t) (inside _ e h) IsPrimary.number
primary_is (item.Truth value ∷ []) e h = subst (λ t. IsPrimary (item.Truth value ∷ []) t) (inside _ e h) IsPrimary.truth
primary_is (item.Text bytes ∷ []) e h = subst (λ t. IsPrimary (item.Text bytes ∷ []) t) (inside _ e h) IsPrimary.text
primary_is (item.Mark of ∷ []) e h = nowhere e h
primary_is (item.Group Round parts ∷ []) e h = round parts e h
primary_is (item.Group Square parts ∷ []) e h = square parts e h
primary_is (item.Number digits suffix ∷ other ∷ items) e h = nowhere e (sym (alone_only (item.Number digits suffix) items) ∙ h)
primary_is (item.Truth value ∷ other ∷ items) e h = nowhere e (sym (alone_only (item.Truth value) items) ∙ h)
primary_is (item.Text bytes ∷ other ∷ items) e h = nowhere e (sym (alone_only (item.Text bytes) items) ∙ h)
primary_is (item.Mark of ∷ other ∷ items) e h = nowhere e (sym (alone_only (item.Mark of) items) ∙ h)
primary_is (item.Group bracket parts ∷ other ∷ items) e h = nowhere e (sym (alone_only (item.Group bracket parts) items) ∙ h)

pub not_empty : {A : Type 0} (xs : List A) (x : A) → (length (xs ++ x ∷ []) == 0) ≡ false
not_empty [] x = refl
not_empty (y ∷ xs) x = some_more (length (xs ++ x ∷ []))

pub only_primary : (items : List Item) (e : Parsed) → IsPrimary items e → primary_of items ≡ Some e
unfolding primary_of
only_primary items e (IsPrimary.designator {reference = r} p) =
    let s = named items r p in
    ap (λ i. if there is_name (slice_get i 0) then option_map as_expression (reference_of items) else literal_alone items) s.2
    ∙ ap (λ o. option_map as_expression o) (only_designator items r p)
only_primary items e IsPrimary.number = refl
only_primary items e IsPrimary.truth = refl
only_primary items e IsPrimary.text = refl
only_primary items e IsPrimary.in_parentheses = refl
only_primary items e (IsPrimary.constructor {parts = parts} {before = before} {last = last} {value = value} p q) =
    ap (λ o. option_and_then array_with o) (only_values Element (parts ++ last ∷ []) (with_argument before value) (AreValues.one_more p q))
    ∙ ap (λ t. if t then None else Some (array (with_argument before value))) (not_empty before.list value.tree)

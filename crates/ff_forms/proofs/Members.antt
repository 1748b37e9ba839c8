-- The lists of a statement, name by name, rename by rename, attribute by attribute and entity by entity.
use Rattle.std.proofs.Common.{◌≡◌, ℕ, Bool, true, false, List, [], ◌∷◌, max, Option, Some, None, refl, sym}
use Rattle.std.specs.Prelude.{codes, slice_get}
use Rattle.ast_nodes.specs.declared.declaration.Attribute.{Attribute}
use Rattle.ast_nodes.specs.declared.declaration.Bound.{Bound}
use Rattle.ast_nodes.specs.declared.declaration.Entity.{Entity}
use Rattle.ast_nodes.specs.declared.declaration.Length.{Length}
use Rattle.ast_nodes.specs.declared.declaration.Rename.{Rename}
use Rattle.ast_nodes.specs.declared.statement.CaseRange.{CaseRange}
use Rattle.ast_nodes.specs.declared.expression.Expr.{Expr}
use Rattle.ff_expressions.specs.declared.item.Bracket.TheVariants.{Round}
use Rattle.ff_expressions.specs.declared.item.Item.{Item}
use Rattle.ff_expressions.specs.declared.item.Item.TheVariants.{Word, Mark, Group}
use Rattle.ff_expressions.specs.declared.item.Mark.TheVariants as mark
use Rattle.ff_expressions.specs.declared.item.Part.{Part}
use Rattle.ff_expressions.specs.declared.item.Part.TheVariants.{Star, Plain, Keyed, Section}
use Rattle.ff_expressions.specs.declared.item.Stride.TheVariants.{Absent}
use Rattle.ff_forms.specs.Answers.{on, Read, all, each, with_first}
use Rattle.ff_forms.specs.Shapes.{is, nothing, something, only_one, first_of, word_first, only_word, behind_arrow, behind_equals, group_first, only_group, is_group}
use Rattle.ff_forms.specs.Names.{rename_of, renamed, only_item, only_behind}
use Rattle.ff_forms.specs.Constructs.{ranges_of, range_of, section_range}
use Rattle.ff_forms.specs.Types.{one_kind, kind_part, kind_keyed, one_length, length_part, length_keyed, length_value, bounds_of, bound_of, section_bound, upper_bound, both_bounds, attribute_of, attribute_named, bare_attribute, word_attribute, dimension_of, intent_of, intent_code}
use Rattle.ff_forms.specs.Declarations.{entity_of, entity_behind, own_bounds, own_value, value_behind}
use Rattle.ff_forms.specs.Cases.{AreAll, AreEach, IsKind, IsLength, IsBound, AreBounds, IsRange, AreRanges, IsName, IsRename, IsOnly, IsIntent, IsAttribute, HasBounds, HasValue, IsEntity}
use Rattle.ff_forms.proofs.Readings.{alone, when, when_word, nowhere, follows, said, told, ended, word, word_only, group, group_only, equals}

pub all_are : {A : Type 0} (IsOne : List Item → A → Type 0) (f : List Item → Option A) → ((piece : List Item) (x : A) → f piece ≡ Some x → IsOne piece x)
    → (pieces : List (List Item)) (xs : List A) → all f pieces ≡ Some xs → AreAll IsOne pieces xs
all_are IsOne f is_one [] xs h = told (AreAll IsOne []) h AreAll.none
all_are IsOne f is_one (piece ∷ pieces) xs h = follows _ _ _ h (λ x e k. follows _ _ _ k (λ rest e2 k. told (AreAll IsOne (piece ∷ pieces)) k (AreAll.one_more (is_one piece x e) (all_are IsOne f is_one pieces rest e2))))

pub all_found : {A : Type 0} (IsOne : List Item → A → Type 0) (f : List Item → Option A) → ((piece : List Item) (x : A) → IsOne piece x → f piece ≡ Some x)
    → {pieces : List (List Item)} {xs : List A} → AreAll IsOne pieces xs → all f pieces ≡ Some xs
all_found IsOne f found AreAll.none = refl
all_found IsOne f found (AreAll.one_more {piece = piece} {x = x} p ps) = rw (found piece x p, all_found IsOne f found ps)

pub each_are : {A B : Type 0} (IsOne : A → B → ℕ → Type 0) (f : A → Read B) → ((x : A) (y : B) (d : ℕ) → f x ≡ Some (y, d) → IsOne x y d)
    → (xs : List A) (z : List B × ℕ) → each f xs ≡ Some z → AreEach IsOne xs z.0 z.1
each_are {A = A} {B = B} IsOne f is_one [] z h = told (λ (z : List B × ℕ). AreEach IsOne [] z.0 z.1) h AreEach.none
each_are {A = A} {B = B} IsOne f is_one (x ∷ xs) z h = follows _ _ _ h (λ y e k. at y e (λ rest e2. each_are IsOne f is_one xs rest e2) (each f xs) refl k)
  where
    at : (y : B × ℕ) → f x ≡ Some y → ((rest : List B × ℕ) → each f xs ≡ Some rest → AreEach IsOne xs rest.0 rest.1) → (r : Read (List B)) → each f xs ≡ r → with_first y r ≡ Some z → AreEach IsOne (x ∷ xs) z.0 z.1
    at y e more None e2 k = nowhere z k
    at y e more (Some rest) e2 k = told (λ (z : List B × ℕ). AreEach IsOne (x ∷ xs) z.0 z.1) k (AreEach.one_more (is_one x y.0 y.1 e) (more rest e2))

pub each_found : {A B : Type 0} (IsOne : A → B → ℕ → Type 0) (f : A → Read B) → ((x : A) (y : B) (d : ℕ) → IsOne x y d → f x ≡ Some (y, d))
    → {xs : List A} {ys : List B} {d : ℕ} → AreEach IsOne xs ys d → each f xs ≡ Some (ys, d)
each_found IsOne f found AreEach.none = refl
each_found IsOne f found (AreEach.one_more {x = x} {y = y} {d = d} p ps) = rw (found x y d p, each_found IsOne f found ps)

-- names and renames
pub name_is : (piece : List Item) (x : List ℕ) → only_word piece ≡ Some x → IsName piece x
unfolding only_word word_first nothing
name_is [] x h = nowhere x h
name_is (Word name ∷ []) x h = told (IsName (Word name ∷ [])) h IsName.name
name_is (Word name ∷ y ∷ rest) x h = nowhere x h
name_is (other ∷ rest) x h = nowhere x h

pub name_found : (piece : List Item) (x : List ℕ) → IsName piece x → only_word piece ≡ Some x
unfolding only_word word_first nothing
name_found piece x IsName.name = refl

behind_name : (local : List ℕ) (rest : List Item) (x : Rename) → renamed local rest ≡ Some x → IsRename (Word local ∷ rest) x
unfolding renamed behind_arrow
behind_name local [] x h = nowhere x h
behind_name local (Mark mark.Arrow ∷ rest) x h = word_only (λ i. IsRename (Word local ∷ Mark mark.Arrow ∷ i) x) rest _ _ h (λ original k. told (IsRename (Word local ∷ Mark mark.Arrow ∷ Word original ∷ [])) k IsRename.renamed)
behind_name local (other ∷ rest) x h = nowhere x h

pub rename_is : (piece : List Item) (x : Rename) → rename_of piece ≡ Some x → IsRename piece x
unfolding rename_of
rename_is piece x h = word (λ i. IsRename i x) piece _ _ h (λ name rest k. behind_name name rest x k)

pub rename_found : (piece : List Item) (x : Rename) → IsRename piece x → rename_of piece ≡ Some x
unfolding rename_of renamed behind_arrow only_word word_first nothing
rename_found piece x IsRename.renamed = refl

pub only_is : (piece : List Item) (x : Rename) → only_item piece ≡ Some x → IsOnly piece x
unfolding only_item only_behind
only_is piece x h = word (λ i. IsOnly i x) piece _ _ h at
  where
    at : (name : List ℕ) (rest : List Item) → only_behind name rest ≡ Some x → IsOnly (Word name ∷ rest) x
    at name [] k = told (IsOnly (Word name ∷ [])) k IsOnly.same
    at name (y ∷ rest) k = IsOnly.renamed (behind_name name (y ∷ rest) x k)

pub only_found : (piece : List Item) (x : Rename) → IsOnly piece x → only_item piece ≡ Some x
unfolding only_item only_behind renamed behind_arrow only_word word_first nothing
only_found piece x IsOnly.same = refl
only_found piece x (IsOnly.renamed IsRename.renamed) = refl

-- kinds, lengths, bounds and ranges
pub kind_is : (parts : List Part) (kind : ℕ) → one_kind parts ≡ Some kind → IsKind parts kind
unfolding one_kind kind_part kind_keyed
kind_is parts kind h = alone (λ p. IsKind p kind) parts _ _ h at
  where
    at : (part : Part) → kind_part part ≡ Some kind → IsKind (part ∷ []) kind
    at (Plain value) k = IsKind.plain k
    at (Keyed name None) k = nowhere kind k
    at (Keyed name (Some value)) k = when_word (λ n. IsKind (Keyed n (Some value) ∷ []) kind) name _ _ _ _ k (λ k. IsKind.keyed k) (λ k. nowhere _ k)
    at other k = nowhere kind k

pub kind_found : {parts : List Part} {kind : ℕ} → IsKind parts kind → one_kind parts ≡ Some kind
unfolding one_kind kind_part kind_keyed only_one first_of nothing is
kind_found (IsKind.plain e) = e
kind_found (IsKind.keyed e) = e

pub length_is : (parts : List Part) (length : Length) (d : ℕ) → one_length parts ≡ Some (length, d) → IsLength parts length d
unfolding one_length length_part length_keyed length_value
length_is parts length d h = alone (λ p. IsLength p length d) parts _ _ h at
  where
    at : (part : Part) → length_part part ≡ Some (length, d) → IsLength (part ∷ []) length d
    at Star k = said (IsLength (Star ∷ [])) k IsLength.star
    at (Plain value) k = said (IsLength (Plain value ∷ [])) k IsLength.plain
    at (Keyed name None) k = when_word (λ n. IsLength (Keyed n None ∷ []) length d) name _ _ _ _ k (λ k. said (IsLength (Keyed (codes "len") None ∷ [])) k IsLength.keyed_star) (λ k. nowhere _ k)
    at (Keyed name (Some value)) k = when_word (λ n. IsLength (Keyed n (Some value) ∷ []) length d) name _ _ _ _ k (λ k. said (IsLength (Keyed (codes "len") (Some value) ∷ [])) k IsLength.keyed) (λ k. nowhere _ k)
    at other k = nowhere (length, d) k

pub length_found : {parts : List Part} {length : Length} {d : ℕ} → IsLength parts length d → one_length parts ≡ Some (length, d)
unfolding one_length length_part length_keyed length_value only_one first_of nothing is
length_found IsLength.star = refl
length_found IsLength.plain = refl
length_found IsLength.keyed_star = refl
length_found IsLength.keyed = refl

bound_is : (part : Part) (x : Bound) (d : ℕ) → bound_of part ≡ Some (x, d) → IsBound part x d
unfolding bound_of section_bound upper_bound both_bounds
bound_is (Plain value) x d h = said (IsBound (Plain value)) h IsBound.upper
bound_is (Section (Some lower) (Some upper) Absent) x d h = said (IsBound (Section (Some lower) (Some upper) Absent)) h IsBound.both
bound_is (Section (Some lower) None Absent) x d h = nowhere (x, d) h
bound_is (Section None (Some upper) Absent) x d h = nowhere (x, d) h
bound_is (Section None None Absent) x d h = said (IsBound (Section None None Absent)) h IsBound.neither
bound_is other x d h = nowhere (x, d) h

bound_found : (part : Part) (x : Bound) (d : ℕ) → IsBound part x d → bound_of part ≡ Some (x, d)
unfolding bound_of section_bound upper_bound both_bounds
bound_found part x d IsBound.upper = refl
bound_found part x d IsBound.both = refl
bound_found part x d IsBound.neither = refl

pub bounds_are : (parts : List Part) (z : List Bound × ℕ) → bounds_of parts ≡ Some z → AreBounds parts z.0 z.1
unfolding bounds_of something
bounds_are [] z h = nowhere z h
bounds_are (part ∷ parts) z h = AreBounds.bounds (each_are IsBound bound_of bound_is (part ∷ parts) z h)

pub bounds_found : {parts : List Part} {bounds : List Bound} {d : ℕ} → AreBounds parts bounds d → bounds_of parts ≡ Some (bounds, d)
unfolding bounds_of something
bounds_found (AreBounds.bounds a) = each_found IsBound bound_of bound_found a

range_is : (part : Part) (x : CaseRange) (d : ℕ) → range_of part ≡ Some (x, d) → IsRange part x d
unfolding range_of section_range
range_is (Plain value) x d h = said (IsRange (Plain value)) h IsRange.one
range_is (Section (Some lower) (Some upper) Absent) x d h = said (IsRange (Section (Some lower) (Some upper) Absent)) h IsRange.both
range_is (Section (Some lower) None Absent) x d h = said (IsRange (Section (Some lower) None Absent)) h IsRange.from
range_is (Section None (Some upper) Absent) x d h = said (IsRange (Section None (Some upper) Absent)) h IsRange.up_to
range_is (Section None None Absent) x d h = nowhere (x, d) h
range_is other x d h = nowhere (x, d) h

range_found : (part : Part) (x : CaseRange) (d : ℕ) → IsRange part x d → range_of part ≡ Some (x, d)
unfolding range_of section_range
range_found part x d IsRange.one = refl
range_found part x d IsRange.both = refl
range_found part x d IsRange.from = refl
range_found part x d IsRange.up_to = refl

pub ranges_are : (parts : List Part) (z : List CaseRange × ℕ) → ranges_of parts ≡ Some z → AreRanges parts z.0 z.1
unfolding ranges_of something
ranges_are [] z h = nowhere z h
ranges_are (part ∷ parts) z h = AreRanges.ranges (each_are IsRange range_of range_is (part ∷ parts) z h)

pub ranges_found : {parts : List Part} {ranges : List CaseRange} {d : ℕ} → AreRanges parts ranges d → ranges_of parts ≡ Some (ranges, d)
unfolding ranges_of something
ranges_found (AreRanges.ranges a) = each_found IsRange range_of range_found a

-- attributes
intent_is : (w : List ℕ) (code : ℕ) → intent_code w ≡ Some code → IsIntent w code
unfolding intent_code
intent_is w code h =
    when_word (λ w. IsIntent w code) w _ _ _ _ h (λ k. told (IsIntent (codes "in")) k IsIntent.into) (λ h.
    when_word (λ w. IsIntent w code) w _ _ _ _ h (λ k. told (IsIntent (codes "out")) k IsIntent.out) (λ h.
    when_word (λ w. IsIntent w code) w _ _ _ _ h (λ k. told (IsIntent (codes "inout")) k IsIntent.in_and_out) (λ h. nowhere _ h)))

word_attribute_is : (w : List ℕ) (x : Attribute) → word_attribute w ≡ Some x → IsAttribute (Word w ∷ []) x 0
unfolding word_attribute
word_attribute_is w x h =
    when_word (λ w. IsAttribute (Word w ∷ []) x 0) w _ _ _ _ h (λ k. told (λ x. IsAttribute (Word (codes "parameter") ∷ []) x 0) k IsAttribute.parameter) (λ h.
    when_word (λ w. IsAttribute (Word w ∷ []) x 0) w _ _ _ _ h (λ k. told (λ x. IsAttribute (Word (codes "save") ∷ []) x 0) k IsAttribute.save) (λ h.
    when_word (λ w. IsAttribute (Word w ∷ []) x 0) w _ _ _ _ h (λ k. told (λ x. IsAttribute (Word (codes "private") ∷ []) x 0) k IsAttribute.private) (λ h.
    when_word (λ w. IsAttribute (Word w ∷ []) x 0) w _ _ _ _ h (λ k. told (λ x. IsAttribute (Word (codes "public") ∷ []) x 0) k IsAttribute.public) (λ h. nowhere _ h))))

attribute_named_is : (w : List ℕ) (rest : List Item) (x : Attribute) (d : ℕ) → attribute_named w rest ≡ Some (x, d) → IsAttribute (Word w ∷ rest) x d
unfolding attribute_named dimension_of intent_of bare_attribute
attribute_named_is w rest x d h =
    when_word (λ w. IsAttribute (Word w ∷ rest) x d) w _ _ _ _ h (λ k. group_only (λ i. IsAttribute (Word (codes "dimension") ∷ i) x d) rest _ _ k (λ parts k. follows _ _ _ k (λ bounds e k.
    said (IsAttribute (Word (codes "dimension") ∷ Group Round parts ∷ [])) k (IsAttribute.dimension (bounds_are parts bounds e))))) (λ h.
    when_word (λ w. IsAttribute (Word w ∷ rest) x d) w _ _ _ _ h (λ k. group_only (λ i. IsAttribute (Word (codes "intent") ∷ i) x d) rest _ _ k (λ parts k. follows _ _ _ k (λ name e k. follows _ _ _ k (λ code e2 k.
    said (IsAttribute (Word (codes "intent") ∷ Group Round parts ∷ [])) k (IsAttribute.intent e (intent_is name code e2)))))) (λ h.
    follows _ _ _ h (λ a e k. ended (λ i. IsAttribute (Word w ∷ i) x d) rest _ _ k (λ k. said (IsAttribute (Word w ∷ [])) k (word_attribute_is w a e)))))

pub attribute_is : (piece : List Item) (x : Attribute) (d : ℕ) → attribute_of piece ≡ Some (x, d) → IsAttribute piece x d
unfolding attribute_of
attribute_is piece x d h = word (λ i. IsAttribute i x d) piece _ _ h (λ w rest k. attribute_named_is w rest x d k)

intent_found : {w : List ℕ} {code : ℕ} → IsIntent w code → intent_code w ≡ Some code
unfolding intent_code is
intent_found IsIntent.into = refl
intent_found IsIntent.out = refl
intent_found IsIntent.in_and_out = refl

pub attribute_found : (piece : List Item) (x : Attribute) (d : ℕ) → IsAttribute piece x d → attribute_of piece ≡ Some (x, d)
unfolding attribute_of word_first attribute_named dimension_of intent_of bare_attribute word_attribute only_group group_first nothing is
attribute_found piece x d IsAttribute.parameter = refl
attribute_found piece x d IsAttribute.save = refl
attribute_found piece x d IsAttribute.private = refl
attribute_found piece x d IsAttribute.public = refl
attribute_found piece x d (IsAttribute.dimension b) = rw (bounds_found b)
attribute_found piece x d (IsAttribute.intent e i) = rw (e, intent_found i)

-- entities
value_is : (may : Bool) (items : List Item) (z : Option Expr × ℕ) → own_value may items ≡ Some z → HasValue may items z.0 z.1
unfolding own_value value_behind
value_is may [] z h = told (λ (z : Option Expr × ℕ). HasValue may [] z.0 z.1) h HasValue.none
value_is false (x ∷ items) z h = nowhere z h
value_is true (x ∷ items) z h = equals (λ i. HasValue true i z.0 z.1) (x ∷ items) _ _ h (λ rest k. follows _ _ _ k (λ value e k.
    told (λ (z : Option Expr × ℕ). HasValue true (Mark mark.Equals ∷ rest) z.0 z.1) k (HasValue.given e)))

-- the entity of these bounds and this value
abbrev made : List ℕ → List Bound → ℕ → Option Expr × ℕ → Entity × ℕ
made name bounds d value = (record { name = name; bounds = bounds; init = value.0 }, max d value.1)

entity_behind_is : (may : Bool) (name : List ℕ) (rest : List Item) (x : Entity) (d : ℕ) → entity_behind may name rest ≡ Some (x, d) → IsEntity may (Word name ∷ rest) x d
unfolding entity_behind own_bounds
entity_behind_is may name rest x d h = follows _ _ _ h (λ b e m. when (is_group (slice_get rest 0)) _ _ _ e
    (λ c e. group (λ i. IsEntity may (Word name ∷ i) x d) rest _ _ e (λ parts more e. follows {A = List Bound × ℕ} _ _ _ e (λ bounds e2 e.
    follows _ _ _ (told (λ (b : List Bound × ℕ × List Item). on (own_value may b.2) (λ value. Some (made name b.0 b.1 value)) ≡ Some (x, d)) (sym e) m) (λ value e3 k.
    said (IsEntity may (Word name ∷ Group Round parts ∷ more)) k (IsEntity.entity (HasBounds.given (bounds_are parts bounds e2)) (value_is may more value e3))))))
    (λ c e. follows _ _ _ (told (λ (b : List Bound × ℕ × List Item). on (own_value may b.2) (λ value. Some (made name b.0 b.1 value)) ≡ Some (x, d)) (sym e) m) (λ value e3 k.
    said (IsEntity may (Word name ∷ rest)) k (IsEntity.entity HasBounds.none (value_is may rest value e3)))))

pub entity_is : (may : Bool) (piece : List Item) (x : Entity) (d : ℕ) → entity_of may piece ≡ Some (x, d) → IsEntity may piece x d
unfolding entity_of
entity_is may piece x d h = word (λ i. IsEntity may i x d) piece _ _ h (λ name rest k. entity_behind_is may name rest x d k)

pub entity_found : (may : Bool) (piece : List Item) (x : Entity) (d : ℕ) → IsEntity may piece x d → entity_of may piece ≡ Some (x, d)
unfolding entity_of word_first entity_behind own_bounds group_first is_group own_value value_behind behind_equals
entity_found may piece x d (IsEntity.entity HasBounds.none HasValue.none) = refl
entity_found may piece x d (IsEntity.entity HasBounds.none (HasValue.given e)) = rw e
entity_found may piece x d (IsEntity.entity (HasBounds.given b) HasValue.none) = rw (bounds_found b)
entity_found may piece x d (IsEntity.entity (HasBounds.given b) (HasValue.given e)) = rw (bounds_found b, e)

-- What was found by one reading after another, and what stands in front where it was found.
use Rattle.std.proofs.Common.{◌≡◌, ℕ, Bool, true, false, ◌&&◌, List, [], ◌∷◌, ◌++◌, Option, Some, None, refl, ap, sym, ◌∙◌, subst, append-nil, append_assoc}
use Rattle.std.specs.Prelude.{if◌then◌else◌}
use Rattle.std.proofs.lemmas.Slice.Eq.{bytes_eq-Decides}
use Rattle.ff_expressions.specs.declared.item.Bracket.TheVariants.{Round}
use Rattle.ff_expressions.specs.declared.item.Item.{Item}
use Rattle.ff_expressions.specs.declared.item.Item.TheVariants as item
use Rattle.ff_expressions.specs.declared.item.Mark.{Mark}
use Rattle.ff_expressions.specs.declared.item.Mark.TheVariants as mark
use Rattle.ff_expressions.specs.declared.item.Part.{Part}
use Rattle.ff_expressions.specs.declared.item.Part.TheVariants as part
use Rattle.ff_expressions.specs.Pieces.{is_mark, pieces_from}
use Rattle.ff_forms.specs.Answers.{on}
use Rattle.ff_forms.specs.Shapes.{is, nothing, first_of, only_one, word_first, only_word, maybe_word, behind_word, behind_comma, behind_colon, behind_double_colon, behind_equals, group_first, only_group, behind_star, star_part}
use Rattle.ff_forms.specs.Cases.{perhaps}

pub same_word : (name text : List ℕ) → is name text ≡ true → name ≡ text
unfolding is
same_word name text e = (bytes_eq-Decides name text).0 e

pub is_itself : (text : List ℕ) → is text text ≡ true
unfolding is
is_itself text = (bytes_eq-Decides text text).1 refl

pub when : {A R : Type 0} (t : Bool) (x y : Option A) (z : A) → (if t then x else y) ≡ Some z → (t ≡ true → x ≡ Some z → R) → (t ≡ false → y ≡ Some z → R) → R
when true x y z h here later = here refl h
when false x y z h here later = later refl h

pub when_word : {A : Type 0} (R : List ℕ → Type 0) (name text : List ℕ) (x y : Option A) (z : A) → (if is name text then x else y) ≡ Some z → (x ≡ Some z → R text) → (y ≡ Some z → R name) → R name
when_word R name text x y z h here later = when (is name text) x y z h (λ e k. subst R (sym (same_word name text e)) (here k)) (λ e k. later k)

pub nowhere : {A R : Type 0} (z : A) → None ≡ Some z → R
nowhere z h = absurd (elsewhere z h)
  where
    elsewhere : {A : Type 0} (z : A) → None ≡ Some z → ⊥
    elsewhere z h = cc

-- what was found goes on
pub follows : {A B R : Type 0} (r : Option A) (f : A → Option B) (z : B) → on r f ≡ Some z → ((a : A) → r ≡ Some a → f a ≡ Some z → R) → R
follows None f z h k = nowhere z h
follows (Some a) f z h k = k a refl h

pub onto : {A B : Type 0} (r : Option A) (f : A → Option B) (a : A) (z : Option B) → r ≡ Some a → f a ≡ z → on r f ≡ z
onto r f a z e h = ap (λ x. on x f) e ∙ h

pub chosen : {A : Type 0} (t : Bool) (x y z : A) → t ≡ true → x ≡ z → (if t then x else y) ≡ z
chosen true x y z e h = h
chosen false x y z e h = absurd (apart e)
  where
    apart : false ≡ true → ⊥
    apart e = cc

pub passed : {A : Type 0} (t : Bool) (x y z : A) → t ≡ false → y ≡ z → (if t then x else y) ≡ z
passed false x y z e h = h
passed true x y z e h = absurd (apart e)
  where
    apart : true ≡ false → ⊥
    apart e = cc

-- what is said of a pair that was found
pub said : {A B : Type 0} (P : A → B → Type 0) {a x : A} {b y : B} → ◌≡◌ {A = Option (A × B)} (Some (x, y)) (Some (a, b)) → P x y → P a b
said P {a = a} {x = x} {b = b} {y = y} h p = subst (λ r. P r.0 r.1) (inside (x, y) (a, b) h) p
  where
    inside : {A B : Type 0} (p q : A × B) → Some p ≡ Some q → p ≡ q
    inside p q h = cc

pub told : {A : Type 0} (P : A → Type 0) {a x : A} → Some x ≡ Some a → P x → P a
told P {a = a} {x = x} h p = subst P (inside x a h) p
  where
    inside : {A : Type 0} (p q : A) → Some p ≡ Some q → p ≡ q
    inside p q h = cc

-- what stands in front
pub ended : {A B : Type 0} (R : List A → Type 0) (xs : List A) (f : Unit {0} → Option B) (z : B) → on (nothing xs) f ≡ Some z → (f tt ≡ Some z → R []) → R xs
unfolding nothing
ended R [] f z h k = k h
ended R (x ∷ xs) f z h k = nowhere z h

pub word : {B : Type 0} (R : List Item → Type 0) (items : List Item) (f : List ℕ × List Item → Option B) (z : B) → on (word_first items) f ≡ Some z → ((name : List ℕ) (rest : List Item) → f (name, rest) ≡ Some z → R (item.Word name ∷ rest)) → R items
unfolding word_first
word R [] f z h k = nowhere z h
word R (item.Word name ∷ rest) f z h k = k name rest h
word R (other ∷ rest) f z h k = nowhere z h

pub word_only : {B : Type 0} (R : List Item → Type 0) (items : List Item) (f : List ℕ → Option B) (z : B) → on (only_word items) f ≡ Some z → ((name : List ℕ) → f name ≡ Some z → R (item.Word name ∷ [])) → R items
unfolding only_word word_first nothing
word_only R [] f z h k = nowhere z h
word_only R (item.Word name ∷ []) f z h k = k name h
word_only R (item.Word name ∷ x ∷ rest) f z h k = nowhere z h
word_only R (other ∷ rest) f z h k = nowhere z h

pub word_maybe : {B : Type 0} (R : List Item → Type 0) (items : List Item) (f : Option (List ℕ) → Option B) (z : B) → on (maybe_word items) f ≡ Some z → ((name : Option (List ℕ)) → f name ≡ Some z → R (perhaps name)) → R items
unfolding maybe_word nothing
word_maybe R [] f z h k = k None h
word_maybe R (item.Word name ∷ []) f z h k = k (Some name) h
word_maybe R (item.Word name ∷ x ∷ rest) f z h k = nowhere z h
word_maybe R (other ∷ rest) f z h k = nowhere z h

pub this_word : {B : Type 0} (R : List Item → Type 0) (text : List ℕ) (items : List Item) (f : List Item → Option B) (z : B) → on (behind_word text items) f ≡ Some z → ((rest : List Item) → f rest ≡ Some z → R (item.Word text ∷ rest)) → R items
unfolding behind_word word_first
this_word R text [] f z h k = nowhere z h
this_word R text (item.Word name ∷ rest) f z h k = at (is name text) refl h
  where
    at : (t : Bool) → is name text ≡ t → on (if t then Some rest else None) f ≡ Some z → R (item.Word name ∷ rest)
    at true e h = subst (λ w. R (item.Word w ∷ rest)) (sym (same_word name text e)) (k rest h)
    at false e h = nowhere z h
this_word R text (other ∷ rest) f z h k = nowhere z h

pub group : {B : Type 0} (R : List Item → Type 0) (items : List Item) (f : List Part × List Item → Option B) (z : B) → on (group_first items) f ≡ Some z → ((parts : List Part) (rest : List Item) → f (parts, rest) ≡ Some z → R (item.Group Round parts ∷ rest)) → R items
unfolding group_first
group R [] f z h k = nowhere z h
group R (item.Group Round parts ∷ rest) f z h k = k parts rest h
group R (other ∷ rest) f z h k = nowhere z h

pub group_only : {B : Type 0} (R : List Item → Type 0) (items : List Item) (f : List Part → Option B) (z : B) → on (only_group items) f ≡ Some z → ((parts : List Part) → f parts ≡ Some z → R (item.Group Round parts ∷ [])) → R items
unfolding only_group group_first nothing
group_only R [] f z h k = nowhere z h
group_only R (item.Group Round parts ∷ []) f z h k = k parts h
group_only R (item.Group Round parts ∷ x ∷ rest) f z h k = nowhere z h
group_only R (other ∷ rest) f z h k = nowhere z h

pub comma : {B : Type 0} (R : List Item → Type 0) (items : List Item) (f : List Item → Option B) (z : B) → on (behind_comma items) f ≡ Some z → ((rest : List Item) → f rest ≡ Some z → R (item.Mark mark.Comma ∷ rest)) → R items
unfolding behind_comma
comma R [] f z h k = nowhere z h
comma R (item.Mark mark.Comma ∷ rest) f z h k = k rest h
comma R (other ∷ rest) f z h k = nowhere z h

pub colon : {B : Type 0} (R : List Item → Type 0) (items : List Item) (f : List Item → Option B) (z : B) → on (behind_colon items) f ≡ Some z → ((rest : List Item) → f rest ≡ Some z → R (item.Mark mark.Colon ∷ rest)) → R items
unfolding behind_colon
colon R [] f z h k = nowhere z h
colon R (item.Mark mark.Colon ∷ rest) f z h k = k rest h
colon R (other ∷ rest) f z h k = nowhere z h

pub colons : {B : Type 0} (R : List Item → Type 0) (items : List Item) (f : List Item → Option B) (z : B) → on (behind_double_colon items) f ≡ Some z → ((rest : List Item) → f rest ≡ Some z → R (item.Mark mark.DoubleColon ∷ rest)) → R items
unfolding behind_double_colon
colons R [] f z h k = nowhere z h
colons R (item.Mark mark.DoubleColon ∷ rest) f z h k = k rest h
colons R (other ∷ rest) f z h k = nowhere z h

pub equals : {B : Type 0} (R : List Item → Type 0) (items : List Item) (f : List Item → Option B) (z : B) → on (behind_equals items) f ≡ Some z → ((rest : List Item) → f rest ≡ Some z → R (item.Mark mark.Equals ∷ rest)) → R items
unfolding behind_equals
equals R [] f z h k = nowhere z h
equals R (item.Mark mark.Equals ∷ rest) f z h k = k rest h
equals R (other ∷ rest) f z h k = nowhere z h

-- the first, and one alone
pub first : {A B : Type 0} (R : List A → Type 0) (xs : List A) (f : A × List A → Option B) (z : B) → on (first_of xs) f ≡ Some z → ((x : A) (rest : List A) → f (x, rest) ≡ Some z → R (x ∷ rest)) → R xs
unfolding first_of
first R [] f z h k = nowhere z h
first R (x ∷ rest) f z h k = k x rest h

pub alone : {A B : Type 0} (R : List A → Type 0) (xs : List A) (f : A → Option B) (z : B) → on (only_one xs) f ≡ Some z → ((x : A) → f x ≡ Some z → R (x ∷ [])) → R xs
unfolding only_one first_of nothing
alone R [] f z h k = nowhere z h
alone R (x ∷ []) f z h k = k x h
alone R (x ∷ y ∷ rest) f z h k = nowhere z h

pub star : {B : Type 0} (R : List Part → Type 0) (parts : List Part) (f : List Part → Option B) (z : B) → on (behind_star parts) f ≡ Some z → ((rest : List Part) → f rest ≡ Some z → R (part.Star ∷ rest)) → R parts
unfolding behind_star first_of star_part
star R [] f z h k = nowhere z h
star R (part.Star ∷ rest) f z h k = k rest h
star R (other ∷ rest) f z h k = nowhere z h

pub maybe : (name : Option (List ℕ)) → maybe_word (perhaps name) ≡ Some name
unfolding maybe_word nothing
maybe None = refl
maybe (Some name) = refl

pub never : (t : Bool) → (t && false) ≡ false
never true = refl
never false = refl

-- what has been read stands in front of the first piece
pub first_piece : (at : Mark) (front items : List Item) → (more : List Item) × (pieces : List (List Item)) × (pieces_from at front items ≡ (front ++ more) ∷ pieces)
first_piece at front [] = ([], [], ap (λ piece. piece ∷ []) (sym (append-nil front)))
first_piece at front (x ∷ items) = by (is_mark at x) (first_piece at (front ++ x ∷ []) items)
  where
    by : (t : Bool) → (more : List Item) × (pieces : List (List Item)) × (pieces_from at (front ++ x ∷ []) items ≡ ((front ++ x ∷ []) ++ more) ∷ pieces)
        → (more : List Item) × (pieces : List (List Item)) × ((if t then front ∷ pieces_from at [] items else pieces_from at (front ++ x ∷ []) items) ≡ (front ++ more) ∷ pieces)
    by true r = ([], pieces_from at [] items, ap (λ piece. piece ∷ pieces_from at [] items) (sym (append-nil front)))
    by false r = (x ∷ r.0, r.1, r.2 ∙ ap (λ piece. piece ∷ r.1) (append_assoc front (x ∷ []) r.0))

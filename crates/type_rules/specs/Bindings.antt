-- Dummy arguments and subscripts: what a dummy is bound to, with bounds and a length of its own (ISO/IEC 1539-1:2018,
-- 15.5.2), the bounds of a dimension (8.5.8.2), the place of a subscript in its dimension (9.5.3.2), and the bytes of a
-- substring (9.4.1).
use Rattle.std.specs.Prelude.{◌≡◌, ℕ, ℤ, pos, ◌+◌, ◌+ℤ◌, ◌-ℤ◌, ◌≤◌, ◌<◌, ◌≤ℤ◌, ◌<ℤ◌, int_lt, unsigned_abs, ◌&&◌, if◌then◌else◌, List, [], ◌∷◌, ◌++◌, Option, Some}
use Rattle.std.specs.Option.{option_and_then}
use Rattle.lf_base.specs.declared.trap.Trap.TheVariants.{SubscriptOutOfRange, SubstringOutOfRange}
use Rattle.type_rules.specs.Values.{Evaluation, Gives, Traps, NoRule, and_then}
use Rattle.type_rules.specs.Counts.{not_below_zero, is_within}
use Rattle.type_rules.specs.Store.{Selector, Bytes, Place, Store, Value, value_at, read, offset_in, size_of}

-- The lower bound of a dimension, and how many elements there are along it.
pub record Bounds : Type 0 where
  pub lower : ℤ
  pub extent : ℕ

-- The bounds of a dimension that is declared with these two. It has no elements where the upper one is below the lower one.
abbrev pub declared_bounds : ℤ → ℤ → Bounds
declared_bounds lower upper = record { lower = lower; extent = not_below_zero (upper -ℤ lower +ℤ pos 1) }

-- The upper bound of a dimension. Where there are no elements, it is the lower bound less 1, whatever was declared.
abbrev pub upper_of : Bounds → ℤ
upper_of b = b.lower +ℤ pos b.extent -ℤ pos 1

-- A dummy is bound to a place, or to the instance of a copy.
pub data Target : Type 0 where
  ToPlace : (place : Place) → Target
  ToCopy : (instance : ℕ) → Target

-- With bounds of its own, and for characters with a length of its own.
pub record Binding : Type 0 where
  pub target : Target
  pub bounds : List Bounds
  pub length_of : Option ℕ

abbrev pub target_place : Target → Place
target_place (ToPlace place) = place
target_place (ToCopy instance) = record { instance = instance; path = [] }

-- A scalar of characters with a length of its own is the first bytes of what it is bound to.
abbrev pub bound_path : List Bounds → Option ℕ → List Selector
bound_path [] (Some n) = Bytes 0 n ∷ []
bound_path _ _ = []

abbrev pub place_of : Binding → Place
place_of b = let there = target_place b.target in record { instance = there.instance; path = there.path ++ bound_path b.bounds b.length_of }

-- A place in a dimension by its subscript, counted from the lower bound.
abbrev pub position_in : Bounds → ℤ → Evaluation ℕ
position_in b subscript = if is_within b.lower (upper_of b) subscript then Gives (unsigned_abs (subscript -ℤ b.lower)) else Traps SubscriptOutOfRange

abbrev pub positions_in : List Bounds → List ℤ → Evaluation (List ℕ)
positions_in [] [] = Gives []
positions_in (b ∷ bs) (s ∷ ss) = and_then (position_in b s) (λ k. and_then (positions_in bs ss) (λ ks. Gives (k ∷ ks)))
positions_in _ _ = NoRule

abbrev pub extents_of : List Bounds → List ℕ
extents_of [] = []
extents_of (b ∷ bs) = b.extent ∷ extents_of bs

-- The bytes of a substring: how many stand in front, and how many there are. One whose first place is behind its last
-- is empty.
abbrev pub substring_of : ℤ → ℤ → ℕ → Evaluation (ℕ × ℕ)
substring_of first last n =
    if int_lt last first then Gives (0, 0)
    else if is_within (pos 1) (pos n) first && is_within (pos 1) (pos n) last then Gives (unsigned_abs (first -ℤ pos 1), unsigned_abs (last -ℤ first +ℤ pos 1))
    else Traps SubstringOutOfRange

-- The place of a subscript is that many behind the lower bound, and there is one exactly within the bounds.
abbrev pub IsPosition : Bounds → ℤ → Evaluation ℕ → Type 0
IsPosition b subscript (Gives k) = (subscript ≡ b.lower +ℤ pos k) × (k < b.extent)
IsPosition b subscript (Traps trap) = (trap ≡ SubscriptOutOfRange) × (b.lower ≤ℤ subscript → upper_of b <ℤ subscript)
IsPosition b subscript NoRule = ⊥

-- The element in these places is one of those that there are.
pub record HasElement (extents at : List ℕ) : Type 0 where
  pub offset : ℕ
  pub is : offset_in extents at ≡ Some offset
  pub below : offset < size_of extents

abbrev pub AreElements : List Bounds → Evaluation (List ℕ) → Type 0
AreElements bs (Gives at) = HasElement (extents_of bs) at
AreElements bs (Traps trap) = trap ≡ SubscriptOutOfRange
AreElements bs NoRule = Unit {0}

-- The bytes of a substring stand within the text. It is empty exactly where the first place is behind the last.
abbrev pub IsSubstring : ℤ → ℤ → ℕ → Evaluation (ℕ × ℕ) → Type 0
IsSubstring first last n (Gives (skipped, count)) = (skipped + count ≤ n) × (last <ℤ first → count ≡ 0) × (first ≤ℤ last → (first ≡ pos (skipped + 1)) × (last ≡ pos (skipped + count)))
IsSubstring first last n (Traps trap) = (trap ≡ SubstringOutOfRange) × (first ≤ℤ last) × (pos 1 ≤ℤ first → pos n <ℤ last)
IsSubstring first last n NoRule = ⊥

-- What a dummy is: the whole of what it is bound to, or its first bytes.
abbrev pub bound_value : Store → Binding → Option Value
bound_value store b = option_and_then (value_at (bound_path b.bounds b.length_of)) (read store (target_place b.target))

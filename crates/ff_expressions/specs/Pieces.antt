-- Lists of items, taken apart at marks.
use Rattle.std.specs.Prelude.{ℕ, ◌+◌, Bool, false, ◌==◌, ◌||◌, if◌then◌else◌, List, [], ◌∷◌, ◌++◌, Option, Some, None}
use Rattle.ff_expressions.specs.declared.item.Mark.{Mark}
use Rattle.ff_expressions.specs.declared.item.Mark.TheVariants.{Operator, Comma, Colon, DoubleColon, Equals, Arrow, Percent}
use Rattle.ff_expressions.specs.declared.item.Item.{Item}
use Rattle.ff_expressions.specs.declared.item.Item.TheVariants as item

-- a number of its own for each mark
abbrev pub mark_number : Mark → ℕ
mark_number Comma = 0
mark_number Colon = 1
mark_number DoubleColon = 2
mark_number Equals = 3
mark_number Arrow = 4
mark_number Percent = 5
mark_number (Operator code) = code + 6

abbrev pub is_mark : Mark → Item → Bool
is_mark mark (item.Mark other) = mark_number other == mark_number mark
is_mark mark _ = false

-- whether something is there and passes the test
abbrev pub there : {A : Type 0} → (A → Bool) → Option A → Bool
there test None = false
there test (Some x) = test x

abbrev pub stands : Mark → Option Item → Bool
stands mark = there (is_mark mark)

-- the pieces round a mark, where these items of the first have been read
abbrev pub pieces_from : Mark → List Item → List Item → List (List Item)
pieces_from mark piece [] = piece ∷ []
pieces_from mark piece (item ∷ items) =
    if is_mark mark item then piece ∷ pieces_from mark [] items else pieces_from mark (piece ++ item ∷ []) items

-- the pieces round a mark
abbrev pub pieces_of : Mark → List Item → List (List Item)
pieces_of mark items = pieces_from mark [] items

-- `::` counts as two colons
abbrev pub colons_in : Item → List Item
colons_in one = if is_mark DoubleColon one then item.Mark Colon ∷ item.Mark Colon ∷ [] else one ∷ []

abbrev pub single_colons : List Item → List Item
single_colons [] = []
single_colons (item ∷ items) = colons_in item ++ single_colons items

abbrev pub is_colon : Item → Bool
is_colon item = is_mark Colon item || is_mark DoubleColon item

-- what comes of each, if something comes of all
abbrev pub ahead : {A : Type 0} → Option A → Option (List A) → Option (List A)
ahead None others = None
ahead (Some first) None = None
ahead (Some first) (Some others) = Some (first ∷ others)

abbrev pub each : {A B : Type 0} → (A → Option B) → List A → Option (List B)
each f [] = Some []
each f (x ∷ xs) = ahead (f x) (each f xs)

-- these in front of the others
abbrev pub behind : {A : Type 0} → List A → Option (List A) → Option (List A)
behind first None = None
behind first (Some others) = Some (first ++ others)

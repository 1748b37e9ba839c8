-- Values, places and the store (ISO/IEC 1539-1:2018, 7.1, 9.4 and 9.5).
use Rattle.std.specs.Prelude.{ℕ, zero, suc, ◌+◌, ◌*◌, ◌==◌, nat_lt, nat_le, Bool, true, false, not, ◌&&◌, ◌||◌, if◌then◌else◌, List, [], ◌∷◌, ◌++◌, length, take, drop, Option, Some, None}
use Rattle.std.specs.Option.{option_map, option_and_then}
use Rattle.std.specs.Str.{bytes_eq}
use Rattle.std.specs.FinMap.{FinMap, empty, insert}
use Rattle.std.specs.Ordering.{nat_cmp}
use Rattle.type_rules.specs.Values.{Scalar, Characters}
use Rattle.type_rules.specs.declared.ty.Elem.{Elem}

-- A scalar; an array with its element type, its extents and its elements in element order; or a record with its
-- components in order, by their names.
mutual
  pub data Value : Type 0 where
    Single : (scalar : Scalar) → Value
    Array : (element : Elem) (extents : List ℕ) (elements : Values) → Value
    Record : (components : Components) → Value

  pub data Values : Type 0 where
    none : Values
    more : (first : Value) (rest : Values) → Values

  pub data Components : Type 0 where
    no_component : Components
    component : (name : List ℕ) (value : Value) (rest : Components) → Components

-- One of the values, counted from 0.
abbrev pub nth : Values → ℕ → Option Value
nth none k = None
nth (more v vs) zero = Some v
nth (more v vs) (suc k) = nth vs k

abbrev pub with_nth : Values → ℕ → Value → Values
with_nth none k new = none
with_nth (more v vs) zero new = more new vs
with_nth (more v vs) (suc k) new = more v (with_nth vs k new)

abbrev pub component_of : Components → List ℕ → Option Value
component_of no_component name = None
component_of (component n v rest) name = if bytes_eq n name then Some v else component_of rest name

abbrev pub with_component : Components → List ℕ → Value → Components
with_component no_component name new = no_component
with_component (component n v rest) name new =
    if bytes_eq n name then component n new rest else component n v (with_component rest name new)

-- How many elements there are.
abbrev pub size_of : List ℕ → ℕ
size_of [] = 1
size_of (extent ∷ extents) = extent * size_of extents

-- Where an element stands in element order, the first extent fastest. Its place in each dimension is counted from 0.
abbrev pub offset_in : List ℕ → List ℕ → Option ℕ
offset_in [] [] = Some 0
offset_in (extent ∷ extents) (k ∷ ks) = if nat_lt k extent then option_map (λ rest. k + extent * rest) (offset_in extents ks) else None
offset_in _ _ = None

-- A part of a value: a component by its name, an element by its place in each dimension, or so many bytes of characters
-- behind the first ones.
pub data Selector : Type 0 where
  Component : (name : List ℕ) → Selector
  Element : (at : List ℕ) → Selector
  Bytes : (skipped : ℕ) (count : ℕ) → Selector

abbrev pub cut_of : ℕ → ℕ → List ℕ → Option (List ℕ)
cut_of skipped count bytes = if nat_le (skipped + count) (length bytes) then Some (take count (drop skipped bytes)) else None

-- One selector into a value.
abbrev pub part_of : Selector → Value → Option Value
part_of (Component name) (Record components) = component_of components name
part_of (Element at) (Array element extents elements) = option_and_then (nth elements) (offset_in extents at)
part_of (Bytes skipped count) (Single (Characters bytes)) = option_map (λ cut. Single (Characters cut)) (cut_of skipped count bytes)
part_of _ _ = None

-- The value with another part in the place of one. Characters are replaced by as many.
abbrev pub spliced : ℕ → ℕ → List ℕ → Value → Option Value
spliced skipped count bytes (Single (Characters new)) =
    if (length new == count) && nat_le (skipped + count) (length bytes)
    then Some (Single (Characters (take skipped bytes ++ new ++ drop (skipped + count) bytes)))
    else None
spliced _ _ _ _ = None

abbrev pub with_part : Selector → Value → Value → Option Value
with_part (Component name) (Record components) new = Some (Record (with_component components name new))
with_part (Element at) (Array element extents elements) new = option_map (λ k. Array element extents (with_nth elements k new)) (offset_in extents at)
with_part (Bytes skipped count) (Single (Characters bytes)) new = spliced skipped count bytes new
with_part _ _ _ = None

-- The part at the end of a path, and the value with another one there.
abbrev pub value_at : List Selector → Value → Option Value
value_at [] v = Some v
value_at (selector ∷ path) v = option_and_then (value_at path) (part_of selector v)

abbrev pub with_value : List Selector → Value → Value → Option Value
with_value [] new v = Some new
with_value (selector ∷ path) new v = option_and_then (λ old. option_and_then (with_part selector v) (with_value path new old)) (part_of selector v)

-- An instance of a variable, by its number, with a path into its value.
pub record Place : Type 0 where
  pub instance : ℕ
  pub path : List Selector

-- What each instance of a variable holds. Of two entries for one instance the first counts.
abbrev pub Store : Type 0
Store = List (ℕ × Value)

abbrev pub held : Store → ℕ → Option Value
held [] instance = None
held (entry ∷ store) instance = if entry.0 == instance then Some entry.1 else held store instance

-- The store with another value in an instance that it has.
abbrev pub with_held : Store → ℕ → Value → Store
with_held [] instance new = []
with_held (entry ∷ store) instance new =
    if entry.0 == instance then (instance, new) ∷ store else entry ∷ with_held store instance new

abbrev pub read : Store → Place → Option Value
read store place = option_and_then (value_at place.path) (held store place.instance)

abbrev pub write : Store → Place → Value → Option Store
write store place new = option_map (with_held store place.instance) (option_and_then (with_value place.path new) (held store place.instance))

-- The store as a map from the numbers of the instances.
abbrev pub map_of : Store → FinMap nat_cmp Value
map_of [] = empty
map_of (entry ∷ store) = insert (map_of store) entry.0 entry.1

-- Two selectors choose the same part, or parts with nothing in common: components of other names, elements at other places,
-- or bytes of which the last ones of one stand before the first ones of the other.
abbrev pub same_numbers : List ℕ → List ℕ → Bool
same_numbers [] [] = true
same_numbers (m ∷ ms) (n ∷ ns) = (m == n) && same_numbers ms ns
same_numbers _ _ = false

abbrev pub same_part : Selector → Selector → Bool
same_part (Component m) (Component n) = bytes_eq m n
same_part (Element at) (Element other) = same_numbers at other
same_part (Bytes skipped count) (Bytes other_skipped other_count) = (skipped == other_skipped) && (count == other_count)
same_part _ _ = false

abbrev pub parts_apart : Selector → Selector → Bool
parts_apart (Component m) (Component n) = not (bytes_eq m n)
parts_apart (Element at) (Element other) = not (same_numbers at other)
parts_apart (Bytes skipped count) (Bytes other_skipped other_count) =
    nat_le (skipped + count) other_skipped || nat_le (other_skipped + other_count) skipped
parts_apart _ _ = false

-- Two paths part at some selector.
abbrev pub paths_apart : List Selector → List Selector → Bool
paths_apart (s ∷ path) (t ∷ other) = parts_apart s t || (same_part s t && paths_apart path other)
paths_apart _ _ = false

-- Two places with nothing in common.
abbrev pub places_apart : Place → Place → Bool
places_apart place other = not (place.instance == other.instance) || paths_apart place.path other.path

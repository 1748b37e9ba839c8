-- The shape of a value: all that the declaration of a variable fixes of it (ISO/IEC 1539-1:2018, 7.1 and 8.5). Each value has
-- one, also an array without elements, so that the type of a value is a test of its shape.
use Rattle.std.specs.Prelude.{◌≡◌, ℕ, zero, suc, ◌+◌, ◌==◌, nat_le, Bool, true, false, ◌&&◌, if◌then◌else◌, List, [], ◌∷◌, length, Option, Some, None}
use Rattle.std.specs.Option.{option_and_then}
use Rattle.std.specs.Str.{bytes_eq}
use Rattle.type_rules.specs.Values.{Scalar, Integer, Logical, Characters, is_kind, is_in_kind}
use Rattle.type_rules.specs.Store.{Value, Single, Array, Record, Values, none, more, Components, no_component, component, Selector, Component, Element, Bytes, offset_in, size_of}
use Rattle.type_rules.specs.declared.ty.Ty.{Ty}
use Rattle.type_rules.specs.declared.ty.Elem.{Elem}
use Rattle.type_rules.specs.declared.ty.Elem.TheVariants as elem
use Rattle.type_rules.specs.declared.ty.Len.{Len}
use Rattle.type_rules.specs.declared.ty.Len.TheVariants as len
use Rattle.type_rules.specs.declared.ty.Dim.{Dim}
use Rattle.type_rules.specs.declared.ty.Dim.TheVariants as dim

-- An integer with its kind, and whether it is within it; a logical; characters with their length; an array with its element
-- type, its extents and the shapes of its elements; a record with the names and shapes of its components.
mutual
  pub data Shape : Type 0 where
    IntegerShape : (kind : ℕ) (in_kind : Bool) → Shape
    LogicalShape : Shape
    CharactersShape : (len : ℕ) → Shape
    ArrayShape : (element : Elem) (extents : List ℕ) (elements : ElementShapes) → Shape
    RecordShape : (components : ComponentShapes) → Shape

  pub data ElementShapes : Type 0 where
    no_element : ElementShapes
    element_shape : (first : Shape) (rest : ElementShapes) → ElementShapes

  pub data ComponentShapes : Type 0 where
    no_component_shape : ComponentShapes
    component_shape : (name : List ℕ) (shape : Shape) (rest : ComponentShapes) → ComponentShapes

abbrev pub shape_of_scalar : Scalar → Shape
shape_of_scalar (Integer kind value) = IntegerShape kind (is_in_kind kind value)
shape_of_scalar (Logical truth) = LogicalShape
shape_of_scalar (Characters bytes) = CharactersShape (length bytes)

abbrev mutual
  pub shape_of : Value → Shape
  shape_of (Single scalar) = shape_of_scalar scalar
  shape_of (Array element extents elements) = ArrayShape element extents (shapes_of elements)
  shape_of (Record components) = RecordShape (component_shapes components)

  pub shapes_of : Values → ElementShapes
  shapes_of none = no_element
  shapes_of (more first rest) = element_shape (shape_of first) (shapes_of rest)

  pub component_shapes : Components → ComponentShapes
  component_shapes no_component = no_component_shape
  component_shapes (component name value rest) = component_shape name (shape_of value) (component_shapes rest)

-- The shape of a part, by the shape of the whole.
abbrev pub nth_shape : ElementShapes → ℕ → Option Shape
nth_shape no_element k = None
nth_shape (element_shape first rest) zero = Some first
nth_shape (element_shape first rest) (suc k) = nth_shape rest k

abbrev pub shape_named : ComponentShapes → List ℕ → Option Shape
shape_named no_component_shape name = None
shape_named (component_shape n shape rest) name = if bytes_eq n name then Some shape else shape_named rest name

abbrev pub shape_chosen : Selector → Shape → Option Shape
shape_chosen (Component name) (RecordShape components) = shape_named components name
shape_chosen (Element at) (ArrayShape element extents elements) = option_and_then (nth_shape elements) (offset_in extents at)
shape_chosen (Bytes skipped count) (CharactersShape n) = if nat_le (skipped + count) n then Some (CharactersShape count) else None
shape_chosen _ _ = None

abbrev pub shape_at : List Selector → Shape → Option Shape
shape_at [] shape = Some shape
shape_at (selector ∷ path) shape = option_and_then (shape_at path) (shape_chosen selector shape)

-- The names and types of the components of each derived type, by its symbol.
abbrev pub Definitions : Type 0
Definitions = ℕ → Option (List (List ℕ × Ty))

-- A length that a declaration allows. A value has at most 65,535 bytes.
abbrev pub is_length : Len → ℕ → Bool
is_length (len.Fixed n) m = (m == n) && nat_le m 65535
is_length len.Assumed m = nat_le m 65535

-- The element type that an array of values has, where this one is declared.
abbrev pub is_element : Elem → Elem → Bool
is_element (elem.Integer j) (elem.Integer k) = (j == k) && is_kind k
is_element elem.Logical elem.Logical = true
is_element (elem.Character n) (elem.Character (len.Fixed m)) = is_length n m
is_element (elem.Derived s) (elem.Derived t) = s.0 == t.0
is_element _ _ = false

-- The extents that an array of values has, where these dimensions are declared.
abbrev pub is_extent : Dim → ℕ → Bool
is_extent (dim.Fixed lower n) extent = extent == n
is_extent dim.Assumed extent = true

abbrev pub are_extents : List Dim → List ℕ → Bool
are_extents [] [] = true
are_extents (d ∷ ds) (n ∷ ns) = is_extent d n && are_extents ds ns
are_extents _ _ = false

abbrev pub count_shapes : ElementShapes → ℕ
count_shapes no_element = 0
count_shapes (element_shape first rest) = suc (count_shapes rest)

abbrev pub is_scalar : List Dim → Bool
is_scalar [] = true
is_scalar (d ∷ ds) = false

abbrev pub scalar_type : Elem → Ty
scalar_type elem = record { elem = elem; dims = [] }

abbrev pub is_array : List Dim → List ℕ → Bool
is_array [] ns = false
is_array (d ∷ ds) ns = are_extents (d ∷ ds) ns

abbrev pub components_of : Definitions → Elem → Option (List (List ℕ × Ty))
components_of definitions (elem.Derived sym) = definitions sym.0
components_of definitions _ = None

-- A shape of this type: a scalar of the element's type and kind, an integer within its kind; characters of the length; an
-- array of as many elements of the element's type as the extents say; the components of the derived type in order.
abbrev mutual
  pub is_of : Definitions → Ty → Shape → Bool
  is_of definitions ty (IntegerShape kind in_kind) = is_scalar ty.dims && (is_element ty.elem (elem.Integer kind) && in_kind)
  is_of definitions ty LogicalShape = is_scalar ty.dims && is_element ty.elem elem.Logical
  is_of definitions ty (CharactersShape n) = is_scalar ty.dims && is_element ty.elem (elem.Character (len.Fixed n))
  is_of definitions ty (ArrayShape element extents elements) =
      is_array ty.dims extents && (is_element ty.elem element && ((count_shapes elements == size_of extents) && are_of definitions element elements))
  is_of definitions ty (RecordShape components) = is_scalar ty.dims && have_types definitions (components_of definitions ty.elem) components

  pub are_of : Definitions → Elem → ElementShapes → Bool
  are_of definitions element no_element = true
  are_of definitions element (element_shape first rest) = is_of definitions (scalar_type element) first && are_of definitions element rest

  pub have_types : Definitions → Option (List (List ℕ × Ty)) → ComponentShapes → Bool
  have_types definitions None components = false
  have_types definitions (Some []) no_component_shape = true
  have_types definitions (Some []) (component_shape name shape rest) = false
  have_types definitions (Some (c ∷ cs)) no_component_shape = false
  have_types definitions (Some (c ∷ cs)) (component_shape name shape rest) =
      bytes_eq c.0 name && (is_of definitions c.1 shape && have_types definitions (Some cs) rest)

-- A value of this type.
pub record IsValue (definitions : Definitions) (ty : Ty) (value : Value) : Type 0 where
  pub holds : is_of definitions ty (shape_of value) ≡ true

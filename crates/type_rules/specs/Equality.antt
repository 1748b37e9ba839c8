-- When two types, or two constants, are the same in everything: also in lengths, bounds and extents.
use Rattle.std.specs.Prelude.{◌==◌, min, Bool, true, false, ◌&&◌, List, [], ◌∷◌, length}
use Rattle.std.specs.Ordering.{int_eq}
use Rattle.std.specs.Str.{bytes_eq}
use Rattle.type_rules.specs.declared.ty.Ty.{Ty}
use Rattle.type_rules.specs.declared.ty.Elem.{Elem}
use Rattle.type_rules.specs.declared.ty.Elem.TheVariants.{Integer, Logical, Character, Derived}
use Rattle.type_rules.specs.declared.ty.Len.{Len}
use Rattle.type_rules.specs.declared.ty.Len.TheVariants as len
use Rattle.type_rules.specs.declared.ty.Dim.{Dim}
use Rattle.type_rules.specs.declared.ty.Dim.TheVariants as dim
use Rattle.type_rules.specs.declared.constant.Const.{Const}
use Rattle.type_rules.specs.declared.constant.Const.TheVariants.{IntConst, LogConst, CharConst}

abbrev pub identical_length : Len → Len → Bool
identical_length (len.Fixed m) (len.Fixed n) = m == n
identical_length len.Assumed len.Assumed = true
identical_length _ _ = false

abbrev pub identical_element : Elem → Elem → Bool
identical_element (Integer j) (Integer k) = j == k
identical_element Logical Logical = true
identical_element (Character m) (Character n) = identical_length m n
identical_element (Derived s) (Derived t) = s.0 == t.0
identical_element _ _ = false

abbrev pub identical_dim : Dim → Dim → Bool
identical_dim (dim.Fixed lower extent) (dim.Fixed other_lower other_extent) = int_eq lower other_lower && (extent == other_extent)
identical_dim dim.Assumed dim.Assumed = true
identical_dim _ _ = false

abbrev pub identical_dims : List Dim → List Dim → Bool
identical_dims [] [] = true
identical_dims (a ∷ xs) (b ∷ ys) = identical_dim a b && identical_dims xs ys
identical_dims _ _ = false

abbrev pub identical_type : Ty → Ty → Bool
identical_type a b = identical_element a.elem b.elem && identical_dims a.dims b.dims

abbrev pub identical_constant : Const → Const → Bool
identical_constant (IntConst j a) (IntConst k b) = (j == k) && int_eq a b
identical_constant (LogConst p) (LogConst q) = p == q
identical_constant (CharConst a) (CharConst b) = bytes_eq a b
identical_constant _ _ = false

-- The type of a constant.
abbrev pub element_of_constant : Const → Elem
element_of_constant (IntConst kind value) = Integer kind
element_of_constant (LogConst value) = Logical
element_of_constant (CharConst bytes) = Character (len.Fixed (min (length bytes) 4294967295))

abbrev pub type_of_constant : Const → Ty
type_of_constant c = record { elem = element_of_constant c; dims = [] }

-- Types: when two are the same, and the type of an operation (ISO/IEC 1539-1:2018, 10.1.9, and 10.1.5 for the types of the
-- operands).
use Rattle.std.specs.Prelude.{◌≡◌, ℕ, ◌+◌, min, max, ◌==◌, Bool, true, false, not, ◌&&◌, ◌||◌, map, pos, if◌then◌else◌, List, [], ◌∷◌, length, Option, Some, None, Result, Ok, Err}
use Rattle.lf_base.specs.declared.rule.Rule.{Rule}
use Rattle.lf_base.specs.declared.rule.Rule.TheVariants.{E401, E404, E412}
use Rattle.type_rules.specs.declared.ty.Ty.{Ty}
use Rattle.type_rules.specs.declared.ty.Elem.{Elem}
use Rattle.type_rules.specs.declared.ty.Elem.TheVariants.{Integer, Logical, Character, Derived}
use Rattle.type_rules.specs.declared.ty.Len.{Len}
use Rattle.type_rules.specs.declared.ty.Len.TheVariants as len
use Rattle.type_rules.specs.declared.ty.Dim.{Dim}
use Rattle.type_rules.specs.declared.ty.Dim.TheVariants as dim
use Rattle.lf_base.specs.declared.operator.Operator.{Operator}
use Rattle.lf_base.specs.declared.operator.Operator.TheVariants.{Add, Subtract, Multiply, Divide, Power, Concatenate, Eq, Ne, Lt, Le, Gt, Ge, And, Or, Eqv, Neqv}
use Rattle.type_rules.specs.declared.constant.Op.{Op}
use Rattle.type_rules.specs.declared.constant.Op.TheVariants.{Binary}
use Rattle.type_rules.specs.declared.constant.TypeFault.{TypeFault}
use Rattle.type_rules.specs.declared.constant.TypeFault.TheVariants.{Rule as Broken, Memory}
use Rattle.lf_base.specs.Operators.{operator_of}

-- The same type and kind, or the same derived type. Lengths of characters do not count.
abbrev pub same_element : Elem → Elem → Bool
same_element (Integer j) (Integer k) = j == k
same_element Logical Logical = true
same_element (Character _) (Character _) = true
same_element (Derived s) (Derived t) = s.0 == t.0
same_element _ _ = false

-- The same type, kind and rank. Extents do not count.
abbrev pub same : Ty → Ty → Bool
same a b = same_element a.elem b.elem && (length a.dims == length b.dims)

-- The length of a concatenation is known where those of both parts are.
abbrev pub joined_length : Len → Len → Len
joined_length (len.Fixed m) (len.Fixed n) = len.Fixed (min (m + n) 4294967295)
joined_length (len.Fixed m) len.Assumed = len.Assumed
joined_length len.Assumed n = len.Assumed

-- The element type that an operator gives.
abbrev pub of_relation : Operator → Option Elem
of_relation Eq = Some Logical
of_relation Ne = Some Logical
of_relation Lt = Some Logical
of_relation Le = Some Logical
of_relation Gt = Some Logical
of_relation Ge = Some Logical
of_relation _ = None

abbrev pub of_integers : Operator → ℕ → Option Elem
of_integers Add kind = Some (Integer kind)
of_integers Subtract kind = Some (Integer kind)
of_integers Multiply kind = Some (Integer kind)
of_integers Divide kind = Some (Integer kind)
of_integers Power kind = Some (Integer kind)
of_integers op kind = of_relation op

abbrev pub of_logicals : Operator → Option Elem
of_logicals And = Some Logical
of_logicals Or = Some Logical
of_logicals Eqv = Some Logical
of_logicals Neqv = Some Logical
of_logicals _ = None

abbrev pub of_characters : Operator → Len → Len → Option Elem
of_characters Concatenate m n = Some (Character (joined_length m n))
of_characters op m n = of_relation op

abbrev pub element_of : Operator → Elem → Elem → Option Elem
element_of op (Integer j) (Integer k) = of_integers op (max j k)
element_of op Logical Logical = of_logicals op
element_of op (Character m) (Character n) = of_characters op m n
element_of op _ _ = None

-- The bounds of an operation: a known extent counts from 1.
abbrev pub from_one : Dim → Dim
from_one (dim.Fixed lower extent) = dim.Fixed (pos 1) extent
from_one dim.Assumed = dim.Assumed

-- One known and one unknown extent give the known one.
abbrev pub joined_dim : Dim → Dim → Dim
joined_dim (dim.Fixed lower extent) b = dim.Fixed (pos 1) extent
joined_dim dim.Assumed b = from_one b

abbrev pub joined_dims : List Dim → List Dim → List Dim
joined_dims (a ∷ xs) (b ∷ ys) = joined_dim a b ∷ joined_dims xs ys
joined_dims _ _ = []

-- Both extents are known, and they differ.
abbrev pub known_apart : Dim → Dim → Bool
known_apart (dim.Fixed _ m) (dim.Fixed _ n) = not (m == n)
known_apart _ _ = false

abbrev pub extents_apart : List Dim → List Dim → Bool
extents_apart (a ∷ xs) (b ∷ ys) = known_apart a b || extents_apart xs ys
extents_apart _ _ = false

-- The shape of an operation on two arrays, or the rule that they break.
abbrev pub arrays : List Dim → List Dim → Result (List Dim) Rule
arrays a b =
    if not (length a == length b) then Err E404
    else if extents_apart a b then Err E412
    else Ok (joined_dims a b)

-- The shape of an operation element by element, where a scalar conforms with every shape.
abbrev pub conformed : List Dim → List Dim → Result (List Dim) Rule
conformed [] bs = Ok (map from_one bs)
conformed (a ∷ xs) [] = Ok (map from_one (a ∷ xs))
conformed (a ∷ xs) (b ∷ ys) = arrays (a ∷ xs) (b ∷ ys)

-- Two scalars.
abbrev pub scalars : List Dim → List Dim → Result (List Dim) Rule
scalars [] [] = Ok []
scalars _ _ = Err E404

-- Concatenation takes scalars alone.
abbrev pub is_concatenation : Operator → Bool
is_concatenation Concatenate = true
is_concatenation _ = false

abbrev pub dims_under : Operator → List Dim → List Dim → Result (List Dim) Rule
dims_under op a b = if is_concatenation op then scalars a b else conformed a b

abbrev pub typed : Elem → Result (List Dim) Rule → Result Ty Rule
typed elem (Ok dims) = Ok (record { elem = elem; dims = dims })
typed elem (Err rule) = Err rule

abbrev pub with_element : Option Elem → Result (List Dim) Rule → Result Ty Rule
with_element None dims = Err E401
with_element (Some elem) dims = typed elem dims

abbrev pub type_under : Option Operator → Ty → Ty → Result Ty Rule
type_under None a b = Err E401
type_under (Some op) a b = with_element (element_of op a.elem b.elem) (dims_under op a.dims b.dims)

-- The type of an operation, or the least rule that the types of its operands break.
abbrev pub result_type : Op → Ty → Ty → Result Ty Rule
result_type (Binary code) a b = type_under (operator_of code) a b
result_type _ a b = Err E401

-- A shape takes memory where it is that of an array.
abbrev pub TakesMemory : Result (List Dim) Rule → Type 0
TakesMemory (Ok []) = ⊥
TakesMemory (Ok (dim ∷ dims)) = Unit {0}
TakesMemory (Err rule) = ⊥

abbrev pub dims_in : Result Ty Rule → Result (List Dim) Rule
dims_in (Ok ty) = Ok ty.dims
dims_in (Err rule) = Err rule

-- What was answered is what there is. Want of memory comes for arrays alone.
abbrev pub GivesDims : Result (List Dim) TypeFault → Result (List Dim) Rule → Type 0
GivesDims (Ok dims) there = there ≡ Ok dims
GivesDims (Err (Broken rule)) there = there ≡ Err rule
GivesDims (Err Memory) there = TakesMemory there

abbrev pub Unifies : Result Ty TypeFault → Result Ty Rule → Type 0
Unifies (Ok ty) there = there ≡ Ok ty
Unifies (Err (Broken rule)) there = there ≡ Err rule
Unifies (Err Memory) there = TakesMemory (dims_in there)

-- The table of operations on values: on scalars, element by element on arrays, and the functions that reduce an array
-- (ISO/IEC 1539-1:2018, 10.1.5, 10.1.9 and 16.9: ALL, ANY, COUNT, MAXVAL, MINVAL, PRODUCT, SUM).
use Rattle.std.specs.Prelude.{◌≡◌, ℕ, zero, suc, ℤ, pos, ◌+◌, Bool, true, false, ◌&&◌, ◌||◌, if◌then◌else◌, List, [], ◌∷◌, length, map, replicate, Option, Some, None}
use Rattle.std.specs.Option.{option_map, option_and_then}
use Rattle.std.specs.Int.{int_min, int_max}
use Rattle.lf_base.specs.declared.operator.Operator.TheVariants.{Add, Multiply}
use Rattle.lf_base.specs.declared.trap.Trap.TheVariants.{ShapeMismatch}
use Rattle.type_rules.specs.Values.{Scalar, Integer, Logical, Characters, Evaluation, Gives, Traps, NoRule, and_then, greatest, least}
use Rattle.type_rules.specs.Store.{Value, Single, Array, Record, Values, none, more, nth, size_of, same_numbers}
use Rattle.type_rules.specs.Codes.{intrinsic_of}
use Rattle.type_rules.specs.Typing.{judged, ranks_of, breaks_ranks}
use Rattle.type_rules.specs.Operations.{operation, on_integers}
use Rattle.type_rules.specs.declared.ty.Ty.{Ty}
use Rattle.type_rules.specs.declared.ty.Elem.{Elem}
use Rattle.type_rules.specs.declared.ty.Elem.TheVariants as elem
use Rattle.type_rules.specs.declared.ty.Len.TheVariants as len
use Rattle.type_rules.specs.declared.ty.Dim.TheVariants as dim
use Rattle.type_rules.specs.declared.signature.Judgement.{Judgement}
use Rattle.type_rules.specs.declared.signature.Judgement.TheVariants.{Element, NoType, Misused}
use Rattle.type_rules.specs.declared.signature.Ranks.{Ranks}
use Rattle.type_rules.specs.declared.signature.Ranks.TheVariants.{Elementwise, Scalars, OneArray}
use Rattle.type_rules.specs.declared.code.TheConstants.{SUM, PRODUCT, MAXVAL, MINVAL, COUNT, ANY, ALL}
use Rattle.type_rules.specs.declared.code.Intrinsic.{Intrinsic}
use Rattle.type_rules.specs.declared.code.Intrinsic.TheVariants.{Sum, Product, Maxval, Minval, Count, Any, All}
use Rattle.type_rules.specs.declared.constant.Op.{Op}
use Rattle.type_rules.specs.declared.constant.Op.TheVariants.{Intrinsic as IntrinsicOf}

abbrev pub single : Evaluation Scalar → Evaluation Value
single (Gives s) = Gives (Single s)
single (Traps trap) = Traps trap
single NoRule = NoRule

-- The scalars, if all are scalars.
abbrev pub scalars_of : List Value → Option (List Scalar)
scalars_of [] = Some []
scalars_of (Single s ∷ vs) = option_map (λ ss. s ∷ ss) (scalars_of vs)
scalars_of (Array _ _ _ ∷ vs) = None
scalars_of (Record _ ∷ vs) = None

-- The extents of the first array, and whether each further array has the same ones.
abbrev pub first_extents : List Value → List ℕ
first_extents [] = []
first_extents (Array element extents elements ∷ vs) = extents
first_extents (Single _ ∷ vs) = first_extents vs
first_extents (Record _ ∷ vs) = first_extents vs

abbrev pub all_have : List ℕ → List Value → Bool
all_have extents [] = true
all_have extents (Array element xs elements ∷ vs) = same_numbers extents xs && all_have extents vs
all_have extents (Single _ ∷ vs) = all_have extents vs
all_have extents (Record _ ∷ vs) = all_have extents vs

-- The operands of one element, where a scalar is the operand of each.
abbrev pub scalar_in : Option Value → Option Scalar
scalar_in (Some (Single s)) = Some s
scalar_in (Some (Array _ _ _)) = None
scalar_in (Some (Record _)) = None
scalar_in None = None

abbrev pub operand_at : ℕ → Value → Option Scalar
operand_at k (Single s) = Some s
operand_at k (Array element extents elements) = scalar_in (nth elements k)
operand_at k (Record _) = None

abbrev pub operands_at : ℕ → List Value → Option (List Scalar)
operands_at k [] = Some []
operands_at k (v ∷ vs) = option_and_then (λ s. option_map (λ ss. s ∷ ss) (operands_at k vs)) (operand_at k v)

abbrev pub on_operands : Op → Option (List Scalar) → Evaluation Scalar
on_operands op (Some args) = operation op args
on_operands op None = NoRule

-- So many elements of the result, from this one on, in element order. The first that traps ends it.
abbrev pub elements_from : Op → List Value → ℕ → ℕ → Evaluation Values
elements_from op args k zero = Gives none
elements_from op args k (suc count) =
    and_then (on_operands op (operands_at k args)) (λ s. and_then (elements_from op args (k + 1) count) (λ rest. Gives (more (Single s) rest)))

-- The element type of a value while the program runs, without its length: lengths are checked where the bytes are taken. The
-- symbol of a derived type does not count, since no operation takes one.
abbrev pub unmeasured : Elem → Elem
unmeasured (elem.Integer kind) = elem.Integer kind
unmeasured elem.Logical = elem.Logical
unmeasured (elem.Character n) = elem.Character len.Assumed
unmeasured (elem.Derived sym) = elem.Derived (record { 0 = 0 })

abbrev pub element_at_run : Value → Elem
element_at_run (Single (Integer kind value)) = elem.Integer kind
element_at_run (Single (Logical truth)) = elem.Logical
element_at_run (Single (Characters bytes)) = elem.Character len.Assumed
element_at_run (Array element extents elements) = unmeasured element
element_at_run (Record components) = elem.Derived (record { 0 = 0 })

abbrev pub rank_of : Value → ℕ
rank_of (Single scalar) = 0
rank_of (Array element extents elements) = length extents
rank_of (Record components) = 0

-- The type of a value while the program runs, without its length and its extents.
abbrev pub type_at_run : Value → Ty
type_at_run v = record { elem = element_at_run v; dims = replicate (rank_of v) dim.Assumed }

-- The array of the results, where all arrays have one shape.
abbrev pub each_under : Op → List Value → List ℕ → Elem → Evaluation Value
each_under op args extents element =
    if all_have extents args then and_then (elements_from op args 0 (size_of extents)) (λ elements. Gives (Array element extents elements))
    else Traps ShapeMismatch

-- The elements in order, each joined with what came of those before.
abbrev pub joined_by : (Scalar → Scalar → Evaluation Scalar) → Scalar → Values → Evaluation Scalar
joined_by join so_far none = Gives so_far
joined_by join so_far (more (Single s) rest) = and_then (join so_far s) (λ next. joined_by join next rest)
joined_by join so_far (more (Array _ _ _) rest) = NoRule
joined_by join so_far (more (Record _) rest) = NoRule

abbrev pub integers : (ℤ → ℤ → Evaluation Scalar) → Scalar → Scalar → Evaluation Scalar
integers join (Integer j a) (Integer k b) = join a b
integers join _ _ = NoRule

abbrev pub logicals : (Bool → Bool → Bool) → Scalar → Scalar → Evaluation Scalar
logicals join (Logical p) (Logical q) = Gives (Logical (join p q))
logicals join _ _ = NoRule

-- One more, where it is true.
abbrev pub counted : Scalar → Scalar → Evaluation Scalar
counted (Integer kind n) (Logical true) = on_integers Add kind n (pos 1)
counted (Integer kind n) (Logical false) = Gives (Integer kind n)
counted _ _ = NoRule

-- An array without elements gives 0, 1, the least and the greatest value of the kind, no and all.
abbrev pub reduced : Intrinsic → Elem → Values → Evaluation Scalar
reduced Sum (elem.Integer kind) elements = joined_by (integers (on_integers Add kind)) (Integer kind (pos 0)) elements
reduced Product (elem.Integer kind) elements = joined_by (integers (on_integers Multiply kind)) (Integer kind (pos 1)) elements
reduced Maxval (elem.Integer kind) elements = joined_by (integers (λ a b. Gives (Integer kind (int_max a b)))) (Integer kind (least kind)) elements
reduced Minval (elem.Integer kind) elements = joined_by (integers (λ a b. Gives (Integer kind (int_min a b)))) (Integer kind (greatest kind)) elements
reduced Count elem.Logical elements = joined_by counted (Integer 4 (pos 0)) elements
reduced Any elem.Logical elements = joined_by (logicals (λ p q. p || q)) (Logical false) elements
reduced All elem.Logical elements = joined_by (logicals (λ p q. p && q)) (Logical true) elements
reduced _ _ _ = NoRule

abbrev pub reduction : Option Intrinsic → List Value → Evaluation Value
reduction (Some which) (Array element extents elements ∷ []) = single (reduced which element elements)
reduction _ _ = NoRule

abbrev pub reduced_by : Op → List Value → Evaluation Value
reduced_by (IntrinsicOf code) args = reduction (intrinsic_of code) args
reduced_by _ args = NoRule

-- Arrays are judged by their types, also those without elements: by the element types, then by the ranks, and by their extents
-- only then.
abbrev pub under_ranks : Ranks → Op → List Value → Elem → Evaluation Value
under_ranks Elementwise op args element = each_under op args (first_extents args) element
under_ranks OneArray op args element = reduced_by op args
under_ranks Scalars op args element = NoRule

abbrev pub under_type : Op → List Value → Judgement → Bool → Evaluation Value
under_type op args NoType ranks = NoRule
under_type op args (Misused rule) ranks = NoRule
under_type op args (Element element) ranks = if ranks then NoRule else under_ranks (ranks_of op) op args element

abbrev pub on_arrays : Op → List Value → Evaluation Value
on_arrays op args = under_type op args (judged op (map element_at_run args)) (breaks_ranks (ranks_of op) (map rank_of args))

abbrev pub on_values : Op → List Value → Option (List Scalar) → Evaluation Value
on_values op args (Some scalars) = single (operation op scalars)
on_values op args None = on_arrays op args

-- What an operation gives for these operands.
abbrev pub operation_on : Op → List Value → Evaluation Value
operation_on op args = on_values op args (scalars_of args)

-- What the reductions give for an array without elements.
pub record OfEmpty (kind : ℕ) : Type 0 where
  pub sum : operation_on (IntrinsicOf SUM) (Array (elem.Integer kind) (0 ∷ []) none ∷ []) ≡ Gives (Single (Integer kind (pos 0)))
  pub product : operation_on (IntrinsicOf PRODUCT) (Array (elem.Integer kind) (0 ∷ []) none ∷ []) ≡ Gives (Single (Integer kind (pos 1)))
  pub maxval : operation_on (IntrinsicOf MAXVAL) (Array (elem.Integer kind) (0 ∷ []) none ∷ []) ≡ Gives (Single (Integer kind (least kind)))
  pub minval : operation_on (IntrinsicOf MINVAL) (Array (elem.Integer kind) (0 ∷ []) none ∷ []) ≡ Gives (Single (Integer kind (greatest kind)))
  pub count : operation_on (IntrinsicOf COUNT) (Array elem.Logical (0 ∷ []) none ∷ []) ≡ Gives (Single (Integer 4 (pos 0)))
  pub any : operation_on (IntrinsicOf ANY) (Array elem.Logical (0 ∷ []) none ∷ []) ≡ Gives (Single (Logical false))
  pub all : operation_on (IntrinsicOf ALL) (Array elem.Logical (0 ∷ []) none ∷ []) ≡ Gives (Single (Logical true))

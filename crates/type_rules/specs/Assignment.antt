-- Intrinsic assignment (ISO/IEC 1539-1:2018, 10.2.1.3): the value is converted to the kind or the length of the target in element
-- order, and only then the shapes are compared.
use Rattle.std.specs.Prelude.{ℕ, pos, zero, suc, nat_le, ◌==◌, if◌then◌else◌, List, [], ◌∷◌, length, Ok}
use Rattle.lf_base.specs.declared.trap.Trap.TheVariants.{LengthLimit, ShapeMismatch}
use Rattle.type_rules.specs.Values.{Scalar, Integer, Logical, Characters, Evaluation, Gives, Traps, NoRule, and_then, fitted, is_kind}
use Rattle.type_rules.specs.Characters.{in_length}
use Rattle.type_rules.specs.Store.{Value, Single, Array, Record, Values, none, more, size_of, same_numbers}
use Rattle.type_rules.specs.Arrays.{single}
use Rattle.type_rules.specs.declared.ty.Elem.{Elem}
use Rattle.type_rules.specs.declared.ty.Elem.TheVariants as elem
use Rattle.type_rules.specs.declared.ty.Dim.{Dim}
use Rattle.type_rules.specs.declared.ty.Dim.TheVariants as dim
use Rattle.type_rules.specs.declared.ty.Len.{Len}
use Rattle.type_rules.specs.declared.ty.Len.TheVariants as len

-- Characters are cut, or padded with blanks. A target of unknown length has that of its value.
abbrev pub of_length : Len → List ℕ → Evaluation Scalar
of_length (len.Fixed n) text = if nat_le n 65535 then Gives (Characters (in_length n text)) else Traps LengthLimit
of_length len.Assumed text = Gives (Characters text)

-- The scalar that a target of this element type has after the assignment.
abbrev pub assigned_scalar : Elem → Scalar → Evaluation Scalar
assigned_scalar (elem.Integer kind) (Integer k value) = if is_kind kind then fitted kind (Ok value) else NoRule
assigned_scalar elem.Logical (Logical truth) = Gives (Logical truth)
assigned_scalar (elem.Character n) (Characters text) = of_length n text
assigned_scalar _ _ = NoRule

abbrev pub assigned_record : Elem → Value → Evaluation Value
assigned_record (elem.Derived sym) v = Gives v
assigned_record _ v = NoRule

-- The elements in order. The first that traps ends it.
abbrev pub assigned_part : Elem → Value → Evaluation Value
assigned_part e (Single s) = single (assigned_scalar e s)
assigned_part e (Array element extents elements) = NoRule
assigned_part e (Record components) = assigned_record e (Record components)

abbrev pub assigned_each : Elem → Values → Evaluation Values
assigned_each e none = Gives none
assigned_each e (more v vs) = and_then (assigned_part e v) (λ u. and_then (assigned_each e vs) (λ us. Gives (more u us)))

-- As many of one value.
abbrev pub copies : ℕ → Value → Values
copies zero v = none
copies (suc n) v = more v (copies n v)

abbrev pub spread : Elem → List ℕ → Value → Value
spread e [] v = v
spread e (n ∷ ns) v = Array e (n ∷ ns) (copies (size_of (n ∷ ns)) v)

abbrev pub in_extents : Elem → List ℕ → List ℕ → Values → Evaluation Value
in_extents e target extents elements =
    if length target == length extents
    then (if same_numbers target extents then Gives (Array e extents elements) else Traps ShapeMismatch)
    else NoRule

-- The value that a target of this element type and these extents has after the assignment. A scalar is the value of each element.
abbrev pub assigned : Elem → List ℕ → Value → Evaluation Value
assigned e target (Single s) = and_then (assigned_part e (Single s)) (λ v. Gives (spread e target v))
assigned e target (Record components) = and_then (assigned_part e (Record components)) (λ v. Gives (spread e target v))
assigned e target (Array element extents elements) = and_then (assigned_each e elements) (λ vs. in_extents e target extents vs)

-- The dimensions of a target with these extents, and an element type that is no derived one.
abbrev pub from_extents : List ℕ → List Dim
from_extents [] = []
from_extents (n ∷ ns) = dim.Fixed (pos 1) n ∷ from_extents ns

abbrev pub IsIntrinsic : Elem → Type 0
IsIntrinsic (elem.Derived sym) = ⊥
IsIntrinsic _ = Unit {0}

-- The type of every operation that has a code, or the least rule that its operands break (ISO/IEC 1539-1:2018, 10.1.9 and
-- 16.9). The function INT is the conversion.
use Rattle.std.specs.Prelude.{ℕ, max, ◌==◌, nat_le, Bool, true, false, not, ◌&&◌, ◌||◌, map, if◌then◌else◌, List, [], ◌∷◌, length, Option, Some, None, Result, Ok, Err}
use Rattle.lf_base.specs.declared.rule.Rule.{Rule}
use Rattle.lf_base.specs.declared.rule.Rule.TheVariants.{E401, E404, E405, E406, E412}
use Rattle.lf_base.specs.declared.operator.Operator.{Operator}
use Rattle.lf_base.specs.declared.operator.Operator.TheVariants.{Add, Subtract, Not}
use Rattle.lf_base.specs.Operators.{operator_of}
use Rattle.type_rules.specs.Codes.{intrinsic_of}
use Rattle.type_rules.specs.Values.{is_kind}
use Rattle.type_rules.specs.Types.{element_of, from_one, joined_dims, extents_apart, is_concatenation, typed}
use Rattle.type_rules.specs.declared.ty.Ty.{Ty}
use Rattle.type_rules.specs.declared.ty.Elem.{Elem}
use Rattle.type_rules.specs.declared.ty.Elem.TheVariants as elem
use Rattle.type_rules.specs.declared.ty.Len.{Len}
use Rattle.type_rules.specs.declared.ty.Len.TheVariants as len
use Rattle.type_rules.specs.declared.ty.Dim.{Dim}
use Rattle.type_rules.specs.declared.code.Intrinsic.{Intrinsic}
use Rattle.type_rules.specs.declared.code.Intrinsic.TheVariants.{Abs, Mod, Modulo, Min, Max, Sign, Iachar, Achar, Len as LenOf, LenTrim, Trim, Index, Sum, Product, Maxval, Minval, Count, Any, All}
use Rattle.type_rules.specs.declared.constant.Op.{Op}
use Rattle.type_rules.specs.declared.constant.Op.TheVariants.{Unary, Binary, Intrinsic as IntrinsicOf, Convert}
use Rattle.type_rules.specs.declared.signature.Judgement.{Judgement}
use Rattle.type_rules.specs.declared.signature.Judgement.TheVariants.{Element, NoType, Misused}
use Rattle.type_rules.specs.declared.signature.Ranks.{Ranks}
use Rattle.type_rules.specs.declared.signature.Ranks.TheVariants.{Elementwise, Scalars, OneArray}
use Rattle.type_rules.specs.declared.signature.Class.{Class}
use Rattle.type_rules.specs.declared.signature.Class.TheVariants.{Integers, Logicals, Characters, OneCharacter}

-- What an intrinsic function takes: how many arguments, of which class, and of which ranks.
abbrev pub takes : Intrinsic → ℕ → Bool
takes Mod n = n == 2
takes Modulo n = n == 2
takes Sign n = n == 2
takes Index n = n == 2
takes Min n = nat_le 2 n && nat_le n 31
takes Max n = nat_le 2 n && nat_le n 31
takes _ n = n == 1

abbrev pub class_of : Intrinsic → Class
class_of Iachar = OneCharacter
class_of LenOf = Characters
class_of LenTrim = Characters
class_of Trim = Characters
class_of Index = Characters
class_of Count = Logicals
class_of Any = Logicals
class_of All = Logicals
class_of _ = Integers

abbrev pub may_be_one : Len → Bool
may_be_one (len.Fixed n) = n == 1
may_be_one len.Assumed = true

abbrev pub is_in_class : Class → Elem → Bool
is_in_class Integers (elem.Integer kind) = true
is_in_class Logicals elem.Logical = true
is_in_class Characters (elem.Character n) = true
is_in_class OneCharacter (elem.Character n) = may_be_one n
is_in_class _ _ = false

abbrev pub are_in_class : Class → List Elem → Bool
are_in_class class [] = true
are_in_class class (e ∷ es) = is_in_class class e && are_in_class class es

abbrev pub ranks_of_intrinsic : Intrinsic → Ranks
ranks_of_intrinsic Abs = Elementwise
ranks_of_intrinsic Mod = Elementwise
ranks_of_intrinsic Modulo = Elementwise
ranks_of_intrinsic Min = Elementwise
ranks_of_intrinsic Max = Elementwise
ranks_of_intrinsic Sign = Elementwise
ranks_of_intrinsic Iachar = Elementwise
ranks_of_intrinsic Sum = OneArray
ranks_of_intrinsic Product = OneArray
ranks_of_intrinsic Maxval = OneArray
ranks_of_intrinsic Minval = OneArray
ranks_of_intrinsic Count = OneArray
ranks_of_intrinsic Any = OneArray
ranks_of_intrinsic All = OneArray
ranks_of_intrinsic _ = Scalars

-- What it gives, with the greatest kind of its arguments.
abbrev pub kind_of : Elem → ℕ
kind_of (elem.Integer kind) = kind
kind_of _ = 0

abbrev pub greatest_kind : List Elem → ℕ
greatest_kind [] = 0
greatest_kind (e ∷ es) = max (kind_of e) (greatest_kind es)

abbrev pub result_element : Intrinsic → ℕ → Elem
result_element Iachar kind = elem.Integer 4
result_element Achar kind = elem.Character (len.Fixed 1)
result_element LenOf kind = elem.Integer 4
result_element LenTrim kind = elem.Integer 4
result_element Trim kind = elem.Character len.Assumed
result_element Index kind = elem.Integer 4
result_element Count kind = elem.Integer 4
result_element Any kind = elem.Logical
result_element All kind = elem.Logical
result_element _ kind = elem.Integer kind

-- The element type of the result, by those of the operands.
abbrev pub unary_element : Operator → Elem → Option Elem
unary_element Add (elem.Integer kind) = Some (elem.Integer kind)
unary_element Subtract (elem.Integer kind) = Some (elem.Integer kind)
unary_element Not elem.Logical = Some elem.Logical
unary_element _ _ = None

abbrev pub element_or_none : Option Elem → Judgement
element_or_none (Some e) = Element e
element_or_none None = NoType

abbrev pub unary_judged : Option Operator → Elem → Judgement
unary_judged None a = NoType
unary_judged (Some op) a = element_or_none (unary_element op a)

abbrev pub binary_judged : Option Operator → Elem → Elem → Judgement
binary_judged None a b = NoType
binary_judged (Some op) a b = element_or_none (element_of op a b)

abbrev pub intrinsic_judged : Option Intrinsic → List Elem → Judgement
intrinsic_judged None es = NoType
intrinsic_judged (Some which) es =
    if not (takes which (length es)) then Misused E405
    else if not (are_in_class (class_of which) es) then Misused E406
    else Element (result_element which (greatest_kind es))

abbrev pub conversion_judged : ℕ → Elem → Judgement
conversion_judged kind a = if is_kind kind && is_in_class Integers a then Element (elem.Integer kind) else Misused E406

abbrev pub judged : Op → List Elem → Judgement
judged (Unary code) (a ∷ []) = unary_judged (operator_of code) a
judged (Binary code) (a ∷ b ∷ []) = binary_judged (operator_of code) a b
judged (IntrinsicOf code) es = intrinsic_judged (intrinsic_of code) es
judged (Convert kind) (a ∷ []) = conversion_judged kind a
judged (Convert kind) _ = Misused E405
judged _ _ = NoType

-- Concatenation and some functions take scalars alone, others one array, and all others arrays of one rank and scalars.
abbrev pub ranks_of_operator : Option Operator → Ranks
ranks_of_operator None = Elementwise
ranks_of_operator (Some op) = if is_concatenation op then Scalars else Elementwise

abbrev pub ranks_of_function : Option Intrinsic → Ranks
ranks_of_function None = Elementwise
ranks_of_function (Some which) = ranks_of_intrinsic which

abbrev pub ranks_of : Op → Ranks
ranks_of (Binary code) = ranks_of_operator (operator_of code)
ranks_of (IntrinsicOf code) = ranks_of_function (intrinsic_of code)
ranks_of _ = Elementwise

abbrev pub ranks_apart : ℕ → ℕ → Bool
ranks_apart m n = not (m == 0) && (not (n == 0) && not (m == n))

abbrev pub some_ranks_apart : ℕ → List ℕ → Bool
some_ranks_apart rank [] = false
some_ranks_apart rank (n ∷ ns) = ranks_apart rank n || some_ranks_apart (max rank n) ns

abbrev pub some_array : List ℕ → Bool
some_array [] = false
some_array (n ∷ ns) = not (n == 0) || some_array ns

abbrev pub breaks_ranks : Ranks → List ℕ → Bool
breaks_ranks Elementwise ns = some_ranks_apart 0 ns
breaks_ranks Scalars ns = some_array ns
breaks_ranks OneArray ns = false

-- The dimensions of the result. A function that reduces an array takes no scalar.
abbrev pub apart_from : List Dim → List (List Dim) → Bool
apart_from a [] = false
apart_from a (b ∷ bs) = extents_apart a b || apart_from a bs

abbrev pub some_apart : List (List Dim) → Bool
some_apart [] = false
some_apart (a ∷ others) = apart_from a others || some_apart others

abbrev pub joined : List Dim → List Dim → List Dim
joined [] b = map from_one b
joined (a ∷ xs) [] = map from_one (a ∷ xs)
joined (a ∷ xs) (b ∷ ys) = joined_dims (a ∷ xs) (b ∷ ys)

abbrev pub joined_with : List Dim → List (List Dim) → List Dim
joined_with a [] = a
joined_with a (b ∷ bs) = joined_with (joined a b) bs

abbrev pub dims_of_result : Ranks → List (List Dim) → Result (List Dim) Rule
dims_of_result Elementwise all = if some_apart all then Err E412 else Ok (joined_with [] all)
dims_of_result Scalars all = Ok []
dims_of_result OneArray all = if some_array (map length all) then Ok [] else Err E406

-- The least rule in the order E401, E404, E405, E406, E412.
abbrev pub least_rule : Judgement → Bool → Result (List Dim) Rule → Result Ty Rule
least_rule NoType ranks dims = Err E401
least_rule (Misused rule) ranks dims = Err (if ranks then E404 else rule)
least_rule (Element e) ranks dims = if ranks then Err E404 else typed e dims

abbrev pub elements_of : List Ty → List Elem
elements_of ts = map (λ t. t.elem) ts

abbrev pub dims_of : List Ty → List (List Dim)
dims_of ts = map (λ t. t.dims) ts

abbrev pub type_of : Op → List Ty → Result Ty Rule
type_of op args =
    least_rule (judged op (elements_of args)) (breaks_ranks (ranks_of op) (map length (dims_of args))) (dims_of_result (ranks_of op) (dims_of args))

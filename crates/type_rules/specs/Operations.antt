-- The table of operations on scalars: what each operator, conversion and intrinsic function gives, and when it traps
-- (ISO/IEC 1539-1:2018, 10.1.5, 10.1.9.3 and 16.9).
use Rattle.std.specs.Prelude.{ℕ, max, ◌==◌, ℤ, pos, ◌+ℤ◌, ◌-ℤ◌, ◌*ℤ◌, neg_ℤ, Bool, true, false, not, ◌&&◌, ◌||◌, if◌then◌else◌, List, [], ◌∷◌, length, Option, Some, None, Ok, nat_le}
use Rattle.std.specs.Int.{int_min, int_max}
use Rattle.std.specs.Ordering.{int_cmp}
use Rattle.std.specs.declared.cmp.Ordering.{Ordering}
use Rattle.std.specs.declared.cmp.Ordering.TheVariants.{Less, Equal, Greater}
use Rattle.type_rules.specs.Values.{Scalar, Integer, Logical, Characters, Evaluation, Gives, Traps, NoRule, fitted}
use Rattle.lf_base.specs.Operators.{operator_of}
use Rattle.type_rules.specs.Codes.{intrinsic_of}
use Rattle.type_rules.specs.Integers.{quotient, remainder, modulo, power, magnitude, sign}
use Rattle.type_rules.specs.Characters.{text_order, concatenated, trimmed, place_from, number_of_byte, byte_of_number}
use Rattle.lf_base.specs.declared.operator.Operator.{Operator}
use Rattle.lf_base.specs.declared.operator.Operator.TheVariants.{Add, Subtract, Multiply, Divide, Power, Concatenate, Eq, Ne, Lt, Le, Gt, Ge, And, Or, Eqv, Neqv, Not}
use Rattle.type_rules.specs.declared.code.Intrinsic.{Intrinsic}
use Rattle.type_rules.specs.declared.code.Intrinsic.TheVariants.{Abs, Mod, Modulo, Min, Max, Sign, Iachar, Achar, Len, LenTrim, Trim, Index}
use Rattle.type_rules.specs.declared.constant.Op.{Op}
use Rattle.type_rules.specs.declared.constant.Op.TheVariants.{Unary, Binary, Intrinsic as IntrinsicOf, Convert}

abbrev pub truth : Bool → Evaluation Scalar
truth t = Gives (Logical t)

-- The relational operators, by the order of the two operands.
abbrev pub is_less : Ordering → Bool
is_less Less = true
is_less Equal = false
is_less Greater = false

abbrev pub is_equal : Ordering → Bool
is_equal Less = false
is_equal Equal = true
is_equal Greater = false

abbrev pub relation : Operator → Ordering → Evaluation Scalar
relation Eq order = truth (is_equal order)
relation Ne order = truth (not (is_equal order))
relation Lt order = truth (is_less order)
relation Le order = truth (is_less order || is_equal order)
relation Gt order = truth (not (is_less order || is_equal order))
relation Ge order = truth (not (is_less order))
relation _ _ = NoRule

-- Two integers. The result of arithmetic has the kind of the greater range.
abbrev pub on_integers : Operator → ℕ → ℤ → ℤ → Evaluation Scalar
on_integers Add kind a b = fitted kind (Ok (a +ℤ b))
on_integers Subtract kind a b = fitted kind (Ok (a -ℤ b))
on_integers Multiply kind a b = fitted kind (Ok (a *ℤ b))
on_integers Divide kind a b = fitted kind (quotient a b)
on_integers Power kind a b = fitted kind (power a b)
on_integers op kind a b = relation op (int_cmp a b)

abbrev pub same_truth : Bool → Bool → Bool
same_truth true q = q
same_truth false q = not q

abbrev pub on_logicals : Operator → Bool → Bool → Evaluation Scalar
on_logicals And p q = truth (p && q)
on_logicals Or p q = truth (p || q)
on_logicals Eqv p q = truth (same_truth p q)
on_logicals Neqv p q = truth (not (same_truth p q))
on_logicals _ p q = NoRule

abbrev pub on_texts : Operator → List ℕ → List ℕ → Evaluation Scalar
on_texts Concatenate a b = concatenated a b
on_texts op a b = relation op (text_order a b)

abbrev pub binary : Operator → Scalar → Scalar → Evaluation Scalar
binary op (Integer j a) (Integer k b) = on_integers op (max j k) a b
binary op (Logical p) (Logical q) = on_logicals op p q
binary op (Characters a) (Characters b) = on_texts op a b
binary op _ _ = NoRule

abbrev pub on_integer : Operator → ℕ → ℤ → Evaluation Scalar
on_integer Add kind a = fitted kind (Ok a)
on_integer Subtract kind a = fitted kind (Ok (neg_ℤ a))
on_integer _ kind a = NoRule

abbrev pub on_logical : Operator → Bool → Evaluation Scalar
on_logical Not p = truth (not p)
on_logical _ p = NoRule

abbrev pub unary : Operator → Scalar → Evaluation Scalar
unary op (Integer kind a) = on_integer op kind a
unary op (Logical p) = on_logical op p
unary op (Characters a) = NoRule

-- A number of kind 4.
abbrev pub number : ℕ → Evaluation Scalar
number n = fitted 4 (Ok (pos n))

abbrev pub numbered : Evaluation ℕ → Evaluation Scalar
numbered (Gives n) = number n
numbered (Traps trap) = Traps trap
numbered NoRule = NoRule

-- The intrinsic functions of one argument.
abbrev pub of_integer : Intrinsic → ℕ → ℤ → Evaluation Scalar
of_integer Abs kind a = fitted kind (Ok (magnitude a))
of_integer Achar kind a = byte_of_number a
of_integer _ kind a = NoRule

abbrev pub of_text : Intrinsic → List ℕ → Evaluation Scalar
of_text Iachar text = numbered (number_of_byte text)
of_text Len text = number (length text)
of_text LenTrim text = number (length (trimmed text))
of_text Trim text = Gives (Characters (trimmed text))
of_text _ text = NoRule

abbrev pub of_one : Intrinsic → Scalar → Evaluation Scalar
of_one which (Integer kind a) = of_integer which kind a
of_one which (Characters text) = of_text which text
of_one which (Logical p) = NoRule

-- The intrinsic functions of two arguments, but for those of any number.
abbrev pub of_integers : Intrinsic → ℕ → ℤ → ℤ → Evaluation Scalar
of_integers Mod kind a b = fitted kind (remainder a b)
of_integers Modulo kind a b = fitted kind (modulo a b)
of_integers Sign kind a b = fitted kind (Ok (sign a b))
of_integers Min kind a b = fitted kind (Ok (int_min a b))
of_integers Max kind a b = fitted kind (Ok (int_max a b))
of_integers _ kind a b = NoRule

abbrev pub of_texts : Intrinsic → List ℕ → List ℕ → Evaluation Scalar
of_texts Index text part = number (place_from 1 part text)
of_texts _ text part = NoRule

abbrev pub of_two : Intrinsic → Scalar → Scalar → Evaluation Scalar
of_two which (Integer j a) (Integer k b) = of_integers which (max j k) a b
of_two which (Characters a) (Characters b) = of_texts which a b
of_two which _ _ = NoRule

-- The least or the greatest of this integer and what follows, in the kind of the greatest range.
abbrev pub extreme : (ℤ → ℤ → ℤ) → ℕ → ℤ → List Scalar → Evaluation Scalar
extreme pick kind a [] = fitted kind (Ok a)
extreme pick kind a (Integer k b ∷ rest) = extreme pick (max kind k) (pick a b) rest
extreme pick kind a (Logical _ ∷ rest) = NoRule
extreme pick kind a (Characters _ ∷ rest) = NoRule

abbrev pub extreme_of : (ℤ → ℤ → ℤ) → Scalar → List Scalar → Evaluation Scalar
extreme_of pick (Integer kind a) rest = extreme pick kind a rest
extreme_of pick (Logical _) rest = NoRule
extreme_of pick (Characters _) rest = NoRule

abbrev pub picked : Intrinsic → Scalar → List Scalar → Evaluation Scalar
picked Min a rest = extreme_of int_min a rest
picked Max a rest = extreme_of int_max a rest
picked _ a rest = NoRule

-- The intrinsic functions of three arguments and more. There are at most 31.
abbrev pub of_many : Intrinsic → Scalar → List Scalar → Evaluation Scalar
of_many which a rest = if nat_le (length rest) 30 then picked which a rest else NoRule

-- The functions on scalars. Those that reduce an array have no rule here.
abbrev pub intrinsic : Intrinsic → List Scalar → Evaluation Scalar
intrinsic which [] = NoRule
intrinsic which (a ∷ []) = of_one which a
intrinsic which (a ∷ b ∷ []) = of_two which a b
intrinsic which (a ∷ b ∷ c ∷ rest) = of_many which a (b ∷ c ∷ rest)

abbrev pub convert : ℕ → Scalar → Evaluation Scalar
convert kind (Integer k a) = if (kind == 4) || (kind == 8) then fitted kind (Ok a) else NoRule
convert kind _ = NoRule

abbrev pub where_known : {A : Type 0} → Option A → (A → Evaluation Scalar) → Evaluation Scalar
where_known None rule = NoRule
where_known (Some a) rule = rule a

-- What an operation gives for these operands.
abbrev pub operation : Op → List Scalar → Evaluation Scalar
operation (Unary code) (a ∷ []) = where_known (operator_of code) (λ op. unary op a)
operation (Binary code) (a ∷ b ∷ []) = where_known (operator_of code) (λ op. binary op a b)
operation (IntrinsicOf code) args = where_known (intrinsic_of code) (λ which. intrinsic which args)
operation (Convert kind) (a ∷ []) = convert kind a
operation _ _ = NoRule

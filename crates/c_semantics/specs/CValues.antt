-- The values of C expressions and what the operators give. They restate ISO/IEC 9899:1999, 6.2.5 and
-- 6.2.6.2 (types), 6.3.1 (conversions) and 6.5.3 to 6.5.14 (operators), where `int` has 32 bits. None is
-- what the standard leaves undefined.
use Rattle.std.specs.Prelude.{ℕ, Bool, true, false, ◌&&◌, not, if◌then◌else◌, List, Option, Some, None, pos, negsuc, ◌+ℤ◌, ◌-ℤ◌, ◌*ℤ◌, int_lt, int_le, int_div, int_rem}
use Rattle.std.specs.Int.{int_rem_euclid}
use Rattle.std.specs.Ordering.{int_eq}
use Rattle.std.proofs.Math.IntN.{ℤ, neg_ℤ}
use Rattle.c_nodes.specs.declared.tree.CType.{CType}
use Rattle.c_nodes.specs.declared.tree.CType.TheVariants.{Int64, Int32, Byte, Struct}
use Rattle.c_nodes.specs.declared.tree.CBinary.{CBinary}
use Rattle.c_nodes.specs.declared.tree.CBinary.TheVariants.{Add, Subtract, Multiply, Divide, Remainder, Less, AtMost, Equal, Differ, And, Or}

-- the types in which arithmetic is done: `int` and `int64_t` (6.3.1.1, 6.3.1.8)
pub data Width : Type 0 where
  W32 : Width
  W64 : Width

-- which object: one that a block or a parameter declares, by its number, which no other object ever has; a string
-- literal, which a byte 0 closes (6.4.5); one outside functions, by its name and, if it is static, by the number of
-- its file (6.2.2, 2 and 3); or a member of the structure that is this element of an object (6.5.2.3)
pub data Base : Type 0 where
  Local : (number : ℕ) → Base
  Text : (bytes : List ℕ) → Base
  Outside : (file : Option ℕ) (name : List ℕ) → Base
  Inside : (whole : Base) (offset : ℕ) (member : List ℕ) → Base

-- a number in the type that it has after promotion, a pointer to an element, the stream `stderr`, or a structure
-- with the numbers that its members hold, in order, each of them set or not
pub data CValue : Type 0 where
  Number : (width : Width) (value : ℤ) → CValue
  Pointer : (base : Base) (offset : ℕ) → CValue
  Errors : CValue
  Structure : (tag : List ℕ) (cells : List (Option ℤ)) → CValue

abbrev pub least32 : ℤ
least32 = negsuc 2147483647

abbrev pub greatest32 : ℤ
greatest32 = pos 2147483647

abbrev pub least64 : ℤ
least64 = negsuc 9223372036854775807

abbrev pub greatest64 : ℤ
greatest64 = pos 9223372036854775807

-- whether a number is one of the type
abbrev pub fits : Width → ℤ → Bool
fits W32 z = int_le least32 z && int_le z greatest32
fits W64 z = int_le least64 z && int_le z greatest64

-- the exact result, where it is one of the type: else the overflow is undefined (6.5, 5)
abbrev pub checked : Width → ℤ → Option CValue
checked w z = if fits w z then Some (Number w z) else None

-- the usual arithmetic conversions (6.3.1.8)
abbrev pub wider : Width → Width → Width
wider W32 W32 = W32
wider W32 W64 = W64
wider W64 w = W64

-- 1 or 0, as an `int` (6.5.8, 6.5.9, 6.5.13, 6.5.14)
abbrev pub truth : Bool → CValue
truth true = Number W32 (pos 1)
truth false = Number W32 (pos 0)

abbrev pub is_zero : ℤ → Bool
is_zero z = int_eq z (pos 0)

-- the quotient truncates toward zero, and is undefined by zero (6.5.5, 5 and 6)
abbrev pub quotient : Width → ℤ → ℤ → Option CValue
quotient w a b = if is_zero b then None else checked w (int_div a b)

-- the remainder is undefined where the quotient is
abbrev pub remainder : Width → ℤ → ℤ → Option CValue
remainder w a b = if is_zero b then None else (if fits w (int_div a b) then Some (Number w (int_rem a b)) else None)

-- the operators that take both operands' values
abbrev pub operated : CBinary → Width → ℤ → ℤ → Option CValue
operated Add w a b = checked w (a +ℤ b)
operated Subtract w a b = checked w (a -ℤ b)
operated Multiply w a b = checked w (a *ℤ b)
operated Divide w a b = quotient w a b
operated Remainder w a b = remainder w a b
operated Less w a b = Some (truth (int_lt a b))
operated AtMost w a b = Some (truth (int_le a b))
operated Equal w a b = Some (truth (int_eq a b))
operated Differ w a b = Some (truth (not (int_eq a b)))
operated And w a b = Some (truth (not (is_zero a) && not (is_zero b)))
operated Or w a b = Some (truth (not (is_zero a && is_zero b)))

abbrev pub binary : CBinary → Option CValue → Option CValue → Option CValue
binary operator (Some (Number v a)) (Some (Number w b)) = operated operator (wider v w) a b
binary operator a b = None

-- The right operand of `&&` and `||` is evaluated only where the left one does not decide (6.5.13, 4; 6.5.14, 4).
abbrev pub both : Option CValue → Option CValue → Option CValue
both (Some (Number v a)) b = if is_zero a then Some (truth false) else binary And (Some (Number v a)) b
both a b = None

abbrev pub either : Option CValue → Option CValue → Option CValue
either (Some (Number v a)) b = if is_zero a then binary Or (Some (Number v a)) b else Some (truth true)
either a b = None

abbrev pub negated : Option CValue → Option CValue
negated (Some (Number w z)) = checked w (neg_ℤ z)
negated v = None

abbrev pub denied : Option CValue → Option CValue
denied (Some (Number w z)) = Some (truth (is_zero z))
denied v = None

-- the value of a constant: an `int` where it fits, else of the macro for 64 bits (6.4.4.1, 5; 7.18.4.1)
abbrev pub constant : ℕ → Option CValue
constant n = if fits W32 (pos n) then Some (Number W32 (pos n)) else checked W64 (pos n)

-- a number as an object of the type holds it: an `unsigned char` counts modulo 256, and what does not fit
-- a signed type is taken as undefined (6.3.1.3)
abbrev pub held_as : CType → ℤ → Option ℤ
held_as Int64 z = if fits W64 z then Some z else None
held_as Int32 z = if fits W32 z then Some z else None
held_as Byte z = Some (int_rem_euclid z (pos 256))
held_as (Struct tag) z = None

-- the value of a number that an object of this type holds, after promotion (6.3.1.1, 2)
abbrev pub promoted : CType → ℤ → Option CValue
promoted Int64 z = Some (Number W64 z)
promoted Int32 z = Some (Number W32 z)
promoted Byte z = Some (Number W32 z)
promoted (Struct tag) z = None

abbrev pub promoted_from : CType → Option ℤ → Option CValue
promoted_from kind None = None
promoted_from kind (Some z) = promoted kind z

-- a cast (6.5.4)
abbrev pub cast_to : CType → Option CValue → Option CValue
cast_to kind (Some (Number w z)) = promoted_from kind (held_as kind z)
cast_to kind v = None

abbrev pub to_int : Option CValue → Option CValue
to_int (Some (Number w z)) = checked W32 z
to_int v = None

-- Scalar values, and what an operation on values gives (ISO/IEC 1539-1:2018, 7.1 and 7.4).
use Rattle.std.specs.Prelude.{◌≡◌, ℕ, ℤ, pos, negsuc, ◌==◌, Bool, true, not, ◌&&◌, ◌||◌, if◌then◌else◌, int_le, nat_le, length, List, [], ◌∷◌, Result, Ok, Err}
use Rattle.lf_base.specs.declared.trap.Trap.{Trap}
use Rattle.lf_base.specs.declared.trap.Trap.TheVariants.{IntegerOverflow}
use Rattle.type_rules.specs.declared.constant.Const.{Const}
use Rattle.type_rules.specs.declared.constant.Const.TheVariants.{IntConst, LogConst, CharConst}

-- An integer with its kind, which is its size in bytes; a logical; or characters, by their bytes.
pub data Scalar : Type 0 where
  Integer : (kind : ℕ) (value : ℤ) → Scalar
  Logical : (truth : Bool) → Scalar
  Characters : (bytes : List ℕ) → Scalar

-- An operation gives a value or ends by a trap, where it has a rule for its operands.
pub data Evaluation (A : Type 0) : Type 0 where
  Gives : (value : A) → Evaluation A
  Traps : (trap : Trap) → Evaluation A
  NoRule : Evaluation A

-- Goes on with the value.
abbrev pub and_then : {A B : Type 0} → Evaluation A → (A → Evaluation B) → Evaluation B
and_then (Gives value) go = go value
and_then (Traps trap) go = Traps trap
and_then NoRule go = NoRule

-- The greatest and the least integer of a kind.
abbrev pub greatest : ℕ → ℤ
greatest kind = if kind == 4 then pos 2147483647 else pos 9223372036854775807

abbrev pub least : ℕ → ℤ
least kind = if kind == 4 then negsuc 2147483647 else negsuc 9223372036854775807

abbrev pub is_in_kind : ℕ → ℤ → Bool
is_in_kind kind z = int_le (least kind) z && int_le z (greatest kind)

-- An exact integer, or the trap of the operation that has none.
abbrev pub Exact : Type 0
Exact = Result ℤ Trap

-- The exact result as an integer of this kind.
abbrev pub fitted : ℕ → Exact → Evaluation Scalar
fitted kind (Ok z) = if is_in_kind kind z then Gives (Integer kind z) else Traps IntegerOverflow
fitted kind (Err trap) = Traps trap

-- The value of a constant, and the constant of a value.
abbrev pub scalar_of : Const → Scalar
scalar_of (IntConst kind value) = Integer kind value
scalar_of (LogConst value) = Logical (not (value == 0))
scalar_of (CharConst bytes) = Characters bytes

abbrev pub constant_of : Scalar → Const
constant_of (Integer kind value) = IntConst kind value
constant_of (Logical truth) = LogConst (if truth then 1 else 0)
constant_of (Characters bytes) = CharConst bytes

-- A value that is an exact integer in its kind.
pub record IsExact (kind : ℕ) (exact : Exact) (value : Scalar) : Type 0 where
  pub number : ℤ
  pub is : exact ≡ Ok number
  pub as_value : value ≡ Integer kind number
  pub in_kind : is_in_kind kind number ≡ true

-- The kinds of integers.
abbrev pub is_kind : ℕ → Bool
is_kind kind = (kind == 4) || (kind == 8)

-- What a constant may be: an integer that fits its kind, a logical 0 or 1, or at most 65,535 bytes.
abbrev pub is_constant : Const → Bool
is_constant (IntConst kind value) = is_kind kind && is_in_kind kind value
is_constant (LogConst value) = (value == 0) || (value == 1)
is_constant (CharConst bytes) = nat_le (length bytes) 65535

abbrev pub are_constants : List Const → Bool
are_constants [] = true
are_constants (c ∷ cs) = is_constant c && are_constants cs

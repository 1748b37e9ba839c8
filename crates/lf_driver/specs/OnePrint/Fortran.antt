-- What a program of the profile does (ISO/IEC 1539-1:2018): its value is computed exactly, operation by
-- operation, each compared with the range of kind 4 (10.1.5.2, 7.4.3.1); a list-directed record begins with one
-- blank, which is written before the value is computed, and ends with a newline (13.10.4); an integer that does
-- not fit is the trap IntegerOverflow at the line of the statement. Integers print in their fewest digits. Names
-- of traps, their numbers and the blank's time are this compiler's own.
use Rattle.std.specs.Prelude.{ℕ, ◌≤◌, Bool, ◌&&◌, if◌then◌else◌, List, [], ◌++◌, codes, Option, Some, None, pos, negsuc, ◌+ℤ◌, ◌-ℤ◌, ◌*ℤ◌, int_le}
use Rattle.std.specs.Fmt.{signed_decimal}
use Rattle.std.proofs.Math.IntN.{ℤ}
use Rattle.lf_base.specs.Outcome.{Location, Meaning, written}
use Rattle.lf_base.specs.Acts.{Act, bind, give, print, trap_at, outcome_of}
use Rattle.lf_base.specs.declared.trap.Trap.TheVariants.{IntegerOverflow}
use Rattle.lf_driver.specs.declared.one_print.built.Operator.{Operator}
use Rattle.lf_driver.specs.declared.one_print.built.Operator.TheVariants.{Add, Subtract, Multiply}
use Rattle.lf_driver.specs.OnePrint.Source.{Tree, Literal, Binary, Source}

-- Each literal is one of kind 4.
abbrev pub IsSmall : Tree → Type 0
IsSmall (Literal value) = value ≤ 2147483647
IsSmall (Binary operator left right) = IsSmall left × IsSmall right

-- whether an integer is one of kind 4
abbrev pub is_kind4 : ℤ → Bool
is_kind4 z = int_le (negsuc 2147483647) z && int_le z (pos 2147483647)

-- the integer, where kind 4 has it
abbrev pub of_kind4 : ℤ → Option ℤ
of_kind4 z = if is_kind4 z then Some z else None

-- the exact result
abbrev pub exact : Operator → ℤ → ℤ → ℤ
exact Add a b = a +ℤ b
exact Subtract a b = a -ℤ b
exact Multiply a b = a *ℤ b

abbrev pub operated : Operator → Option ℤ → Option ℤ → Option ℤ
operated operator (Some a) (Some b) = of_kind4 (exact operator a b)
operated operator a b = None

-- the value of an expression; None is an integer overflow
abbrev pub value_of : Tree → Option ℤ
value_of (Literal value) = of_kind4 (pos value)
value_of (Binary operator left right) = operated operator (value_of left) (value_of right)

-- the value, or the trap at a location
abbrev pub value_or_trap : Location → Option ℤ → Act (List ℕ) ℤ
value_or_trap location None = trap_at IntegerOverflow location
value_or_trap location (Some z) = give z

-- The program with its one statement, which is at this location; it reads nothing, has no loop and calls nothing.
abbrev pub FortranMeaning : Location → Source → Meaning
FortranMeaning location source input n d =
    outcome_of (bind (print (codes " ")) (λ u. bind (value_or_trap location (value_of source.value)) (λ z. bind (print (signed_decimal z ++ codes "\n")) (λ v. give 0))) input (written [] []))

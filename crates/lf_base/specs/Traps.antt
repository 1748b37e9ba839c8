-- The traps: their numbers, their names, and the text on the error output of a program that ends by one. They are
-- this compiler's own; F2018 does not say what happens then (ISO/IEC 1539-1:2018, 4.2).
use Rattle.std.specs.Prelude.{ℕ, zero, suc, ◌+◌, List, [], ◌∷◌, codes}
use Rattle.std.specs.Fmt.{decimal}
use Rattle.lf_base.specs.Contents.{joined}
use Rattle.lf_base.specs.Outcome.{Location}
use Rattle.lf_base.specs.declared.trap.Trap.{Trap}
use Rattle.lf_base.specs.declared.trap.Trap.TheVariants.{IntegerOverflow, DivisionByZero, SubscriptOutOfRange, SubstringOutOfRange, ShapeMismatch, ZeroStep, EndOfFile, LengthLimit, BadCharacterCode}

abbrev pub trap_number : Trap → ℕ
trap_number IntegerOverflow = 1
trap_number DivisionByZero = 2
trap_number SubscriptOutOfRange = 3
trap_number SubstringOutOfRange = 4
trap_number ShapeMismatch = 5
trap_number ZeroStep = 6
trap_number EndOfFile = 7
trap_number LengthLimit = 8
trap_number BadCharacterCode = 9

abbrev pub trap_name : Trap → List ℕ
trap_name IntegerOverflow = codes "IntegerOverflow"
trap_name DivisionByZero = codes "DivisionByZero"
trap_name SubscriptOutOfRange = codes "SubscriptOutOfRange"
trap_name SubstringOutOfRange = codes "SubstringOutOfRange"
trap_name ShapeMismatch = codes "ShapeMismatch"
trap_name ZeroStep = codes "ZeroStep"
trap_name EndOfFile = codes "EndOfFile"
trap_name LengthLimit = codes "LengthLimit"
trap_name BadCharacterCode = codes "BadCharacterCode"

-- the status of a program that ends by a trap
abbrev pub trap_status : Trap → ℕ
trap_status trap = 100 + trap_number trap

-- The bytes up to the first 0, if there is one: what C reads of a text.
abbrev pub before_zero : List ℕ → List ℕ
before_zero [] = []
before_zero (zero ∷ bytes) = []
before_zero (suc byte ∷ bytes) = suc byte ∷ before_zero bytes

-- the text that names a trap with the source and the line of the statement that was being executed
abbrev pub trap_text : Trap → Location → List ℕ
trap_text trap location = joined (codes "lf: trap " ∷ trap_name trap ∷ codes " at " ∷ before_zero location.source ∷ codes ":" ∷ decimal location.line ∷ codes "\n" ∷ [])

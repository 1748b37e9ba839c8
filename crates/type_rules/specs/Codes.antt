-- The codes of the intrinsic functions, counted from 1 (ISO/IEC 1539-1:2018, 16.9).
use Rattle.std.specs.Prelude.{ℕ, Option, if◌then◌else◌, ◌==◌, Some, None}
use Rattle.type_rules.specs.declared.code.TheConstants.{ABS, MOD, MODULO, MIN, MAX, SIGN, IACHAR, ACHAR, LEN, LEN_TRIM, TRIM, INDEX, SUM, PRODUCT, MAXVAL, MINVAL, COUNT, ANY, ALL}
use Rattle.type_rules.specs.declared.code.Intrinsic.{Intrinsic}
use Rattle.type_rules.specs.declared.code.Intrinsic.TheVariants.{Abs, Mod, Modulo, Min, Max, Sign, Iachar, Achar, Len, LenTrim, Trim, Index, Sum, Product, Maxval, Minval, Count, Any, All}

abbrev pub intrinsic_of : ℕ → Option Intrinsic
intrinsic_of code =
    if code == ABS then Some Abs
    else if code == MOD then Some Mod
    else if code == MODULO then Some Modulo
    else if code == MIN then Some Min
    else if code == MAX then Some Max
    else if code == SIGN then Some Sign
    else if code == IACHAR then Some Iachar
    else if code == ACHAR then Some Achar
    else if code == LEN then Some Len
    else if code == LEN_TRIM then Some LenTrim
    else if code == TRIM then Some Trim
    else if code == INDEX then Some Index
    else if code == SUM then Some Sum
    else if code == PRODUCT then Some Product
    else if code == MAXVAL then Some Maxval
    else if code == MINVAL then Some Minval
    else if code == COUNT then Some Count
    else if code == ANY then Some Any
    else if code == ALL then Some All
    else None

abbrev pub code_of : Intrinsic → ℕ
code_of Abs = ABS
code_of Mod = MOD
code_of Modulo = MODULO
code_of Min = MIN
code_of Max = MAX
code_of Sign = SIGN
code_of Iachar = IACHAR
code_of Achar = ACHAR
code_of Len = LEN
code_of LenTrim = LEN_TRIM
code_of Trim = TRIM
code_of Index = INDEX
code_of Sum = SUM
code_of Product = PRODUCT
code_of Maxval = MAXVAL
code_of Minval = MINVAL
code_of Count = COUNT
code_of Any = ANY
code_of All = ALL

-- The functions of the prelude that compute values: their names, which of them may end the program by a trap, and whose
-- results have to fit kind 4.
use Rattle.std.specs.Prelude.{ℕ, Bool, true, false, List, codes}
use Rattle.c_printer.specs.declared.scalar.Helper.{Helper}
use Rattle.c_printer.specs.declared.scalar.Helper.TheVariants.{Add, Subtract, Multiply, Divide, Power, Remainder, Modulo, Least, Greatest, Sign, Fit, Count}

abbrev pub helper_name : Helper → List ℕ
helper_name Add = codes "lf_add"
helper_name Subtract = codes "lf_sub"
helper_name Multiply = codes "lf_mul"
helper_name Divide = codes "lf_div"
helper_name Power = codes "lf_pow"
helper_name Remainder = codes "lf_mod"
helper_name Modulo = codes "lf_modulo"
helper_name Least = codes "lf_min"
helper_name Greatest = codes "lf_max"
helper_name Sign = codes "lf_sign"
helper_name Fit = codes "lf_fit"
helper_name Count = codes "lf_count"

abbrev pub may_trap : Helper → Bool
may_trap Add = true
may_trap Subtract = true
may_trap Multiply = true
may_trap Divide = true
may_trap Power = true
may_trap Remainder = true
may_trap Modulo = true
may_trap Least = false
may_trap Greatest = false
may_trap Sign = true
may_trap Fit = true
may_trap Count = true

-- Its result of kind 4 may lie outside kind 4.
abbrev pub is_fitted : Helper → Bool
is_fitted Add = true
is_fitted Subtract = true
is_fitted Multiply = true
is_fitted Divide = true
is_fitted Power = true
is_fitted Remainder = false
is_fitted Modulo = false
is_fitted Least = false
is_fitted Greatest = false
is_fitted Sign = true
is_fitted Fit = false
is_fitted Count = false

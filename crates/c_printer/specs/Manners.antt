-- How operators and intrinsic functions of scalars are done in C (ISO/IEC 1539-1:2018, 10.1.5 and 16.9).
use Rattle.std.specs.Prelude.{ℕ, if◌then◌else◌, ◌==◌, Option, Some, None}
use Rattle.lf_base.specs.declared.operator.Operator.{Operator}
use Rattle.lf_base.specs.declared.operator.Operator.TheVariants as operator
use Rattle.type_rules.specs.declared.code.Intrinsic.{Intrinsic}
use Rattle.type_rules.specs.declared.code.Intrinsic.TheVariants as intrinsic
use Rattle.c_nodes.specs.declared.tree.CBinary.TheVariants.{Less, AtMost, Equal, Differ}
use Rattle.c_printer.specs.declared.scalar.ScalarType.{ScalarType}
use Rattle.c_printer.specs.declared.scalar.ScalarType.TheVariants.{Integer4, Integer8}
use Rattle.c_printer.specs.declared.scalar.Helper.{Helper}
use Rattle.c_printer.specs.declared.scalar.Helper.TheVariants as helper
use Rattle.c_printer.specs.declared.scalar.Manner.{Manner}
use Rattle.c_printer.specs.declared.scalar.Manner.TheVariants.{Helped, Plain, Swapped, WhereTrue, WhereFalse, Unbuilt}

-- the integers of a kind
abbrev pub kind_type : ℕ → ScalarType
kind_type kind = if kind == 8 then Integer8 else Integer4

abbrev pub operator_manner : Operator → Manner
operator_manner operator.Add = Helped helper.Add
operator_manner operator.Subtract = Helped helper.Subtract
operator_manner operator.Multiply = Helped helper.Multiply
operator_manner operator.Divide = Helped helper.Divide
operator_manner operator.Power = Helped helper.Power
operator_manner operator.Concatenate = Unbuilt
operator_manner operator.Eq = Plain Equal
operator_manner operator.Ne = Plain Differ
operator_manner operator.Lt = Plain Less
operator_manner operator.Le = Plain AtMost
operator_manner operator.Gt = Swapped Less
operator_manner operator.Ge = Swapped AtMost
operator_manner operator.And = WhereTrue
operator_manner operator.Or = WhereFalse
operator_manner operator.Eqv = Plain Equal
operator_manner operator.Neqv = Plain Differ
operator_manner operator.Not = Unbuilt

abbrev pub manner_of : Option Operator → Manner
manner_of None = Unbuilt
manner_of (Some op) = operator_manner op

-- the function of the prelude that computes an intrinsic function of two arguments, or of more from the left
abbrev pub intrinsic_helper : Intrinsic → Option Helper
intrinsic_helper intrinsic.Mod = Some helper.Remainder
intrinsic_helper intrinsic.Modulo = Some helper.Modulo
intrinsic_helper intrinsic.Min = Some helper.Least
intrinsic_helper intrinsic.Max = Some helper.Greatest
intrinsic_helper intrinsic.Sign = Some helper.Sign
intrinsic_helper _ = None

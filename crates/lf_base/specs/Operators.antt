-- The codes of the operators.
use Rattle.std.specs.Prelude.{ℕ, Option, if◌then◌else◌, ◌==◌, Some, None}
use Rattle.lf_base.specs.declared.operator.TheConstants.{ADD, SUBTRACT, MULTIPLY, DIVIDE, POWER, CONCATENATE, EQ, NE, LT, LE, GT, GE, AND, OR, EQV, NEQV, NOT}
use Rattle.lf_base.specs.declared.operator.Operator.{Operator}
use Rattle.lf_base.specs.declared.operator.Operator.TheVariants.{Add, Subtract, Multiply, Divide, Power, Concatenate, Eq, Ne, Lt, Le, Gt, Ge, And, Or, Eqv, Neqv, Not}

abbrev pub operator_of : ℕ → Option Operator
operator_of code =
    if code == ADD then Some Add
    else if code == SUBTRACT then Some Subtract
    else if code == MULTIPLY then Some Multiply
    else if code == DIVIDE then Some Divide
    else if code == POWER then Some Power
    else if code == CONCATENATE then Some Concatenate
    else if code == EQ then Some Eq
    else if code == NE then Some Ne
    else if code == LT then Some Lt
    else if code == LE then Some Le
    else if code == GT then Some Gt
    else if code == GE then Some Ge
    else if code == AND then Some And
    else if code == OR then Some Or
    else if code == EQV then Some Eqv
    else if code == NEQV then Some Neqv
    else if code == NOT then Some Not
    else None

abbrev pub code_of : Operator → ℕ
code_of Add = ADD
code_of Subtract = SUBTRACT
code_of Multiply = MULTIPLY
code_of Divide = DIVIDE
code_of Power = POWER
code_of Concatenate = CONCATENATE
code_of Eq = EQ
code_of Ne = NE
code_of Lt = LT
code_of Le = LE
code_of Gt = GT
code_of Ge = GE
code_of And = AND
code_of Or = OR
code_of Eqv = EQV
code_of Neqv = NEQV
code_of Not = NOT

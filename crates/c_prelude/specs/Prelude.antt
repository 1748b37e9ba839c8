-- The prelude: the functions in C that each printed file begins with, as trees, behind two static objects that hold the
-- source and the line of the statement that is executed. They restate what Fortran asks of integers, characters and their
-- intrinsic procedures (ISO/IEC 1539-1:2018, 10.1.5.2, 13.10.4, 16.9) within 64 bits.
use Rattle.std.specs.Prelude.{true, List, [], ◌∷◌, codes}
use Rattle.c_nodes.specs.declared.tree.CType.TheVariants.{Int64, Byte}
use Rattle.c_nodes.specs.declared.tree.CResult.TheVariants as gives
use Rattle.c_nodes.specs.declared.tree.CParameter.TheVariants.{Value, Pointer}
use Rattle.c_nodes.specs.declared.tree.CBinary.TheVariants.{Add, Subtract, Multiply, Divide, Remainder, Less, AtMost, Equal, Differ, And, Or}
use Rattle.c_nodes.specs.declared.tree.CExpr.TheVariants.{Variable, Index, Constant, Greatest, Least, Paren, Negate, Binary, ToInt, Literal}
use Rattle.c_nodes.specs.declared.tree.CStmt.TheVariants.{DeclareArray, DeclareValue, DeclarePointer, DeclareCall, Assign, AssignCall, Call, ReturnValue, ReturnCall, While, If, IfElse}
use Rattle.c_nodes.specs.declared.tree.CItem.{CItem}
use Rattle.c_nodes.specs.declared.tree.CItem.TheVariants.{StaticObject, StaticPointer, Function}
use Rattle.c_nodes.specs.declared.tree.CFile.{CFile}

-- the name of the source whose statement is being executed
abbrev pub lf_name : CItem
lf_name = StaticPointer Byte (codes "lf_name")

-- and its line
abbrev pub lf_line : CItem
lf_line = StaticObject Int64 (codes "lf_line")

-- writes the name of trap k with the source and the line, and ends with status 100 + k
abbrev pub lf_trap : CItem
lf_trap =
    Function true gives.Void (codes "lf_trap") (Value Int64 (codes "k") ∷ Pointer Byte (codes "s") ∷ [])
    (DeclareValue Int64 (codes "i") (Constant 0)
    ∷ DeclareValue Int64 (codes "d") (Constant 1)
    ∷ DeclarePointer Byte (codes "p") (Literal (codes "lf: trap "))
    ∷ While (Binary Differ (Index (Variable (codes "p")) (Variable (codes "i"))) (Constant 0))
    (Call (codes "fputc") (Index (Variable (codes "p")) (Variable (codes "i")) ∷ Variable (codes "stderr") ∷ [])
    ∷ Assign (Variable (codes "i")) (Binary Add (Variable (codes "i")) (Constant 1))
    ∷ [])
    ∷ Assign (Variable (codes "i")) (Constant 0)
    ∷ While (Binary Differ (Index (Variable (codes "s")) (Variable (codes "i"))) (Constant 0))
    (Call (codes "fputc") (Index (Variable (codes "s")) (Variable (codes "i")) ∷ Variable (codes "stderr") ∷ [])
    ∷ Assign (Variable (codes "i")) (Binary Add (Variable (codes "i")) (Constant 1))
    ∷ [])
    ∷ Call (codes "fputc") (Constant 32 ∷ Variable (codes "stderr") ∷ [])
    ∷ Call (codes "fputc") (Constant 97 ∷ Variable (codes "stderr") ∷ [])
    ∷ Call (codes "fputc") (Constant 116 ∷ Variable (codes "stderr") ∷ [])
    ∷ Call (codes "fputc") (Constant 32 ∷ Variable (codes "stderr") ∷ [])
    ∷ Assign (Variable (codes "i")) (Constant 0)
    ∷ While (Binary Differ (Index (Variable (codes "lf_name")) (Variable (codes "i"))) (Constant 0))
    (Call (codes "fputc") (Index (Variable (codes "lf_name")) (Variable (codes "i")) ∷ Variable (codes "stderr") ∷ [])
    ∷ Assign (Variable (codes "i")) (Binary Add (Variable (codes "i")) (Constant 1))
    ∷ [])
    ∷ Call (codes "fputc") (Constant 58 ∷ Variable (codes "stderr") ∷ [])
    ∷ While (Binary AtMost (Variable (codes "d")) (Paren (Binary Divide (Variable (codes "lf_line")) (Constant 10))))
    (Assign (Variable (codes "d")) (Binary Multiply (Variable (codes "d")) (Constant 10))
    ∷ [])
    ∷ While (Binary Less (Constant 0) (Variable (codes "d")))
    (Call (codes "fputc") (ToInt (Paren (Binary Add (Constant 48) (Paren (Binary Remainder (Paren (Binary Divide (Variable (codes "lf_line")) (Variable (codes "d")))) (Constant 10))))) ∷ Variable (codes "stderr") ∷ [])
    ∷ Assign (Variable (codes "d")) (Binary Divide (Variable (codes "d")) (Constant 10))
    ∷ [])
    ∷ Call (codes "fputc") (Constant 10 ∷ Variable (codes "stderr") ∷ [])
    ∷ Call (codes "exit") (ToInt (Paren (Binary Add (Constant 100) (Variable (codes "k")))) ∷ [])
    ∷ [])

-- the trap of a result that does not fit
abbrev pub lf_over : CItem
lf_over =
    Function true gives.Void (codes "lf_over") []
    (Call (codes "lf_trap") (Constant 1 ∷ Literal (codes "IntegerOverflow") ∷ [])
    ∷ [])

-- the trap of a divisor that is 0
abbrev pub lf_zero : CItem
lf_zero =
    Function true gives.Void (codes "lf_zero") (Value Int64 (codes "b") ∷ [])
    (If (Binary Equal (Variable (codes "b")) (Constant 0))
    (Call (codes "lf_trap") (Constant 2 ∷ Literal (codes "DivisionByZero") ∷ [])
    ∷ [])
    ∷ [])

-- the value, where kind 4 holds it
abbrev pub lf_fit : CItem
lf_fit =
    Function true gives.Int64 (codes "lf_fit") (Value Int64 (codes "a") ∷ [])
    (If (Binary Or (Paren (Binary Less (Variable (codes "a")) (Paren (Negate (Constant 2147483648))))) (Paren (Binary Less (Constant 2147483647) (Variable (codes "a")))))
    (Call (codes "lf_over") []
    ∷ [])
    ∷ ReturnValue (Variable (codes "a"))
    ∷ [])

-- the sum, where kind 8 holds it
abbrev pub lf_add : CItem
lf_add =
    Function true gives.Int64 (codes "lf_add") (Value Int64 (codes "a") ∷ Value Int64 (codes "b") ∷ [])
    (If (Binary Or (Paren (Binary And (Paren (Binary Less (Constant 0) (Variable (codes "b")))) (Paren (Binary Less (Paren (Binary Subtract Greatest (Variable (codes "b")))) (Variable (codes "a")))))) (Paren (Binary And (Paren (Binary Less (Variable (codes "b")) (Constant 0))) (Paren (Binary Less (Variable (codes "a")) (Paren (Binary Subtract Least (Variable (codes "b")))))))))
    (Call (codes "lf_over") []
    ∷ [])
    ∷ ReturnValue (Binary Add (Variable (codes "a")) (Variable (codes "b")))
    ∷ [])

-- the difference, where kind 8 holds it
abbrev pub lf_sub : CItem
lf_sub =
    Function true gives.Int64 (codes "lf_sub") (Value Int64 (codes "a") ∷ Value Int64 (codes "b") ∷ [])
    (If (Binary Or (Paren (Binary And (Paren (Binary Less (Variable (codes "b")) (Constant 0))) (Paren (Binary Less (Paren (Binary Add Greatest (Variable (codes "b")))) (Variable (codes "a")))))) (Paren (Binary And (Paren (Binary Less (Constant 0) (Variable (codes "b")))) (Paren (Binary Less (Variable (codes "a")) (Paren (Binary Add Least (Variable (codes "b")))))))))
    (Call (codes "lf_over") []
    ∷ [])
    ∷ ReturnValue (Binary Subtract (Variable (codes "a")) (Variable (codes "b")))
    ∷ [])

-- the product, where kind 8 holds it
abbrev pub lf_mul : CItem
lf_mul =
    Function true gives.Int64 (codes "lf_mul") (Value Int64 (codes "a") ∷ Value Int64 (codes "b") ∷ [])
    (DeclareValue Int64 (codes "bad") (Constant 0)
    ∷ IfElse (Binary Less (Constant 0) (Variable (codes "a")))
    (IfElse (Binary Less (Constant 0) (Variable (codes "b")))
    (Assign (Variable (codes "bad")) (Binary Less (Paren (Binary Divide Greatest (Variable (codes "b")))) (Variable (codes "a")))
    ∷ [])
    (Assign (Variable (codes "bad")) (Binary Less (Variable (codes "b")) (Paren (Binary Divide Least (Variable (codes "a")))))
    ∷ [])
    ∷ [])
    (IfElse (Binary Less (Constant 0) (Variable (codes "b")))
    (Assign (Variable (codes "bad")) (Binary Less (Variable (codes "a")) (Paren (Binary Divide Least (Variable (codes "b")))))
    ∷ [])
    (If (Binary Less (Variable (codes "b")) (Constant 0))
    (Assign (Variable (codes "bad")) (Binary Less (Variable (codes "a")) (Paren (Binary Divide Greatest (Variable (codes "b")))))
    ∷ [])
    ∷ [])
    ∷ [])
    ∷ If (Variable (codes "bad"))
    (Call (codes "lf_over") []
    ∷ [])
    ∷ ReturnValue (Binary Multiply (Variable (codes "a")) (Variable (codes "b")))
    ∷ [])

-- the quotient, truncated toward 0
abbrev pub lf_div : CItem
lf_div =
    Function true gives.Int64 (codes "lf_div") (Value Int64 (codes "a") ∷ Value Int64 (codes "b") ∷ [])
    (Call (codes "lf_zero") (Variable (codes "b") ∷ [])
    ∷ If (Binary And (Paren (Binary Equal (Variable (codes "a")) Least)) (Paren (Binary Equal (Variable (codes "b")) (Paren (Negate (Constant 1))))))
    (Call (codes "lf_over") []
    ∷ [])
    ∷ ReturnValue (Binary Divide (Variable (codes "a")) (Variable (codes "b")))
    ∷ [])

-- the remainder, with the sign of the dividend
abbrev pub lf_mod : CItem
lf_mod =
    Function true gives.Int64 (codes "lf_mod") (Value Int64 (codes "a") ∷ Value Int64 (codes "b") ∷ [])
    (Call (codes "lf_zero") (Variable (codes "b") ∷ [])
    ∷ If (Binary Equal (Variable (codes "b")) (Paren (Negate (Constant 1))))
    (ReturnValue (Constant 0)
    ∷ [])
    ∷ ReturnValue (Binary Remainder (Variable (codes "a")) (Variable (codes "b")))
    ∷ [])

-- the remainder, with the sign of the divisor
abbrev pub lf_modulo : CItem
lf_modulo =
    Function true gives.Int64 (codes "lf_modulo") (Value Int64 (codes "a") ∷ Value Int64 (codes "b") ∷ [])
    (DeclareCall Int64 (codes "r") (codes "lf_mod") (Variable (codes "a") ∷ Variable (codes "b") ∷ [])
    ∷ If (Binary And (Paren (Binary Differ (Variable (codes "r")) (Constant 0))) (Paren (Binary Differ (Paren (Binary Less (Variable (codes "r")) (Constant 0))) (Paren (Binary Less (Variable (codes "b")) (Constant 0))))))
    (Assign (Variable (codes "r")) (Binary Add (Variable (codes "r")) (Variable (codes "b")))
    ∷ [])
    ∷ ReturnValue (Variable (codes "r"))
    ∷ [])

-- the power
abbrev pub lf_pow : CItem
lf_pow =
    Function true gives.Int64 (codes "lf_pow") (Value Int64 (codes "a") ∷ Value Int64 (codes "b") ∷ [])
    (DeclareValue Int64 (codes "r") (Constant 1)
    ∷ If (Binary Or (Paren (Binary Equal (Variable (codes "a")) (Constant 1))) (Paren (Binary And (Paren (Binary Equal (Variable (codes "a")) (Paren (Negate (Constant 1))))) (Paren (Binary Equal (Paren (Binary Remainder (Variable (codes "b")) (Constant 2))) (Constant 0))))))
    (ReturnValue (Constant 1)
    ∷ [])
    ∷ If (Binary Equal (Variable (codes "a")) (Paren (Negate (Constant 1))))
    (ReturnValue (Variable (codes "a"))
    ∷ [])
    ∷ If (Binary Less (Variable (codes "b")) (Constant 0))
    (Call (codes "lf_zero") (Variable (codes "a") ∷ [])
    ∷ ReturnValue (Constant 0)
    ∷ [])
    ∷ If (Binary Equal (Variable (codes "a")) (Constant 0))
    (ReturnValue (Binary Equal (Variable (codes "b")) (Constant 0))
    ∷ [])
    ∷ While (Binary Less (Constant 0) (Variable (codes "b")))
    (AssignCall (Variable (codes "r")) (codes "lf_mul") (Variable (codes "r") ∷ Variable (codes "a") ∷ [])
    ∷ Assign (Variable (codes "b")) (Binary Subtract (Variable (codes "b")) (Constant 1))
    ∷ [])
    ∷ ReturnValue (Variable (codes "r"))
    ∷ [])

-- the magnitude of a with the sign of b
abbrev pub lf_sign : CItem
lf_sign =
    Function true gives.Int64 (codes "lf_sign") (Value Int64 (codes "a") ∷ Value Int64 (codes "b") ∷ [])
    (If (Binary Equal (Paren (Binary AtMost (Constant 0) (Variable (codes "a")))) (Paren (Binary AtMost (Constant 0) (Variable (codes "b")))))
    (ReturnValue (Variable (codes "a"))
    ∷ [])
    ∷ ReturnCall (codes "lf_sub") (Constant 0 ∷ Variable (codes "a") ∷ [])
    ∷ [])

-- the lesser
abbrev pub lf_min : CItem
lf_min =
    Function true gives.Int64 (codes "lf_min") (Value Int64 (codes "a") ∷ Value Int64 (codes "b") ∷ [])
    (If (Binary Less (Variable (codes "b")) (Variable (codes "a")))
    (ReturnValue (Variable (codes "b"))
    ∷ [])
    ∷ ReturnValue (Variable (codes "a"))
    ∷ [])

-- the greater
abbrev pub lf_max : CItem
lf_max =
    Function true gives.Int64 (codes "lf_max") (Value Int64 (codes "a") ∷ Value Int64 (codes "b") ∷ [])
    (If (Binary Less (Variable (codes "a")) (Variable (codes "b")))
    (ReturnValue (Variable (codes "b"))
    ∷ [])
    ∷ ReturnValue (Variable (codes "a"))
    ∷ [])

-- how many values a, a + s, .. stand up to b
abbrev pub lf_count : CItem
lf_count =
    Function true gives.Int64 (codes "lf_count") (Value Int64 (codes "a") ∷ Value Int64 (codes "b") ∷ Value Int64 (codes "s") ∷ [])
    (DeclareValue Int64 (codes "n") (Constant 0)
    ∷ If (Binary Equal (Variable (codes "s")) (Constant 0))
    (Call (codes "lf_trap") (Constant 6 ∷ Literal (codes "ZeroStep") ∷ [])
    ∷ [])
    ∷ Assign (Variable (codes "n")) (Binary Divide (Paren (Binary Add (Paren (Binary Subtract (Variable (codes "b")) (Variable (codes "a")))) (Variable (codes "s")))) (Variable (codes "s")))
    ∷ If (Binary Less (Variable (codes "n")) (Constant 0))
    (ReturnValue (Constant 0)
    ∷ [])
    ∷ ReturnValue (Variable (codes "n"))
    ∷ [])

-- the offset of subscript i between the bounds a and b
abbrev pub lf_at : CItem
lf_at =
    Function true gives.Int64 (codes "lf_at") (Value Int64 (codes "i") ∷ Value Int64 (codes "a") ∷ Value Int64 (codes "b") ∷ [])
    (If (Binary Or (Paren (Binary Less (Variable (codes "i")) (Variable (codes "a")))) (Paren (Binary Less (Variable (codes "b")) (Variable (codes "i")))))
    (Call (codes "lf_trap") (Constant 3 ∷ Literal (codes "SubscriptOutOfRange") ∷ [])
    ∷ [])
    ∷ ReturnValue (Binary Subtract (Variable (codes "i")) (Variable (codes "a")))
    ∷ [])

-- how many elements a section takes, where each of them is within the bounds
abbrev pub lf_sec : CItem
lf_sec =
    Function true gives.Int64 (codes "lf_sec") (Value Int64 (codes "l") ∷ Value Int64 (codes "u") ∷ Value Int64 (codes "s") ∷ Value Int64 (codes "a") ∷ Value Int64 (codes "b") ∷ [])
    (DeclareValue Int64 (codes "n") (Constant 0)
    ∷ Call (codes "lf_at") (Variable (codes "l") ∷ Negate (Constant 2147483648) ∷ Constant 2147483647 ∷ [])
    ∷ Call (codes "lf_at") (Variable (codes "u") ∷ Negate (Constant 2147483648) ∷ Constant 2147483647 ∷ [])
    ∷ Call (codes "lf_at") (Variable (codes "s") ∷ Negate (Constant 2147483648) ∷ Constant 2147483647 ∷ [])
    ∷ AssignCall (Variable (codes "n")) (codes "lf_count") (Variable (codes "l") ∷ Variable (codes "u") ∷ Variable (codes "s") ∷ [])
    ∷ If (Binary Less (Constant 0) (Variable (codes "n")))
    (Call (codes "lf_at") (Variable (codes "l") ∷ Variable (codes "a") ∷ Variable (codes "b") ∷ [])
    ∷ Call (codes "lf_at") (Binary Add (Variable (codes "l")) (Paren (Binary Multiply (Paren (Binary Subtract (Variable (codes "n")) (Constant 1))) (Variable (codes "s")))) ∷ Variable (codes "a") ∷ Variable (codes "b") ∷ [])
    ∷ [])
    ∷ ReturnValue (Variable (codes "n"))
    ∷ [])

-- the trap of shapes that differ
abbrev pub lf_same : CItem
lf_same =
    Function true gives.Void (codes "lf_same") (Value Int64 (codes "a") ∷ Value Int64 (codes "b") ∷ [])
    (If (Binary Differ (Variable (codes "a")) (Variable (codes "b")))
    (Call (codes "lf_trap") (Constant 5 ∷ Literal (codes "ShapeMismatch") ∷ [])
    ∷ [])
    ∷ [])

-- the trap of a substring out of its range
abbrev pub lf_need : CItem
lf_need =
    Function true gives.Void (codes "lf_need") (Value Int64 (codes "a") ∷ Value Int64 (codes "b") ∷ [])
    (If (Binary Less (Variable (codes "a")) (Variable (codes "b")))
    (Call (codes "lf_trap") (Constant 4 ∷ Literal (codes "SubstringOutOfRange") ∷ [])
    ∷ [])
    ∷ [])

-- the length of a substring
abbrev pub lf_part : CItem
lf_part =
    Function true gives.Int64 (codes "lf_part") (Value Int64 (codes "l") ∷ Value Int64 (codes "u") ∷ Value Int64 (codes "n") ∷ [])
    (If (Binary Less (Variable (codes "u")) (Variable (codes "l")))
    (ReturnValue (Constant 0)
    ∷ [])
    ∷ Call (codes "lf_need") (Variable (codes "l") ∷ Constant 1 ∷ [])
    ∷ Call (codes "lf_need") (Variable (codes "n") ∷ Variable (codes "u") ∷ [])
    ∷ ReturnValue (Binary Add (Paren (Binary Subtract (Variable (codes "u")) (Variable (codes "l")))) (Constant 1))
    ∷ [])

-- the length of a concatenation
abbrev pub lf_join : CItem
lf_join =
    Function true gives.Int64 (codes "lf_join") (Value Int64 (codes "a") ∷ Value Int64 (codes "b") ∷ [])
    (If (Binary Less (Constant 65535) (Paren (Binary Add (Variable (codes "a")) (Variable (codes "b")))))
    (Call (codes "lf_trap") (Constant 8 ∷ Literal (codes "LengthLimit") ∷ [])
    ∷ [])
    ∷ ReturnValue (Binary Add (Variable (codes "a")) (Variable (codes "b")))
    ∷ [])

-- the code of a character
abbrev pub lf_code : CItem
lf_code =
    Function true gives.Int64 (codes "lf_code") (Value Int64 (codes "a") ∷ [])
    (If (Binary Or (Paren (Binary Less (Variable (codes "a")) (Constant 0))) (Paren (Binary Less (Constant 255) (Variable (codes "a")))))
    (Call (codes "lf_trap") (Constant 9 ∷ Literal (codes "BadCharacterCode") ∷ [])
    ∷ [])
    ∷ ReturnValue (Variable (codes "a"))
    ∷ [])

-- copies m characters into n, and fills with blanks
abbrev pub lf_copy : CItem
lf_copy =
    Function true gives.Void (codes "lf_copy") (Pointer Byte (codes "d") ∷ Value Int64 (codes "n") ∷ Pointer Byte (codes "s") ∷ Value Int64 (codes "m") ∷ [])
    (DeclareValue Int64 (codes "i") (Constant 0)
    ∷ While (Binary Less (Variable (codes "i")) (Variable (codes "n")))
    (IfElse (Binary Less (Variable (codes "i")) (Variable (codes "m")))
    (Assign (Index (Variable (codes "d")) (Variable (codes "i"))) (Index (Variable (codes "s")) (Variable (codes "i")))
    ∷ [])
    (Assign (Index (Variable (codes "d")) (Variable (codes "i"))) (Constant 32)
    ∷ [])
    ∷ Assign (Variable (codes "i")) (Binary Add (Variable (codes "i")) (Constant 1))
    ∷ [])
    ∷ [])

-- compares n characters with m, the shorter filled with blanks
abbrev pub lf_cmp : CItem
lf_cmp =
    Function true gives.Int64 (codes "lf_cmp") (Pointer Byte (codes "a") ∷ Value Int64 (codes "n") ∷ Pointer Byte (codes "b") ∷ Value Int64 (codes "m") ∷ [])
    (DeclareValue Int64 (codes "i") (Constant 0)
    ∷ DeclareValue Int64 (codes "x") (Constant 0)
    ∷ DeclareValue Int64 (codes "y") (Constant 0)
    ∷ While (Binary Or (Paren (Binary Less (Variable (codes "i")) (Variable (codes "n")))) (Paren (Binary Less (Variable (codes "i")) (Variable (codes "m")))))
    (Assign (Variable (codes "x")) (Constant 32)
    ∷ Assign (Variable (codes "y")) (Constant 32)
    ∷ If (Binary Less (Variable (codes "i")) (Variable (codes "n")))
    (Assign (Variable (codes "x")) (Index (Variable (codes "a")) (Variable (codes "i")))
    ∷ [])
    ∷ If (Binary Less (Variable (codes "i")) (Variable (codes "m")))
    (Assign (Variable (codes "y")) (Index (Variable (codes "b")) (Variable (codes "i")))
    ∷ [])
    ∷ If (Binary Differ (Variable (codes "x")) (Variable (codes "y")))
    (ReturnValue (Binary Subtract (Variable (codes "x")) (Variable (codes "y")))
    ∷ [])
    ∷ Assign (Variable (codes "i")) (Binary Add (Variable (codes "i")) (Constant 1))
    ∷ [])
    ∷ ReturnValue (Constant 0)
    ∷ [])

-- the length without trailing blanks
abbrev pub lf_trim : CItem
lf_trim =
    Function true gives.Int64 (codes "lf_trim") (Pointer Byte (codes "a") ∷ Value Int64 (codes "n") ∷ [])
    (While (Binary And (Paren (Binary Less (Constant 0) (Variable (codes "n")))) (Paren (Binary Equal (Index (Variable (codes "a")) (Binary Subtract (Variable (codes "n")) (Constant 1))) (Constant 32))))
    (Assign (Variable (codes "n")) (Binary Subtract (Variable (codes "n")) (Constant 1))
    ∷ [])
    ∷ ReturnValue (Variable (codes "n"))
    ∷ [])

-- where the m characters first stand in the n
abbrev pub lf_index : CItem
lf_index =
    Function true gives.Int64 (codes "lf_index") (Pointer Byte (codes "a") ∷ Value Int64 (codes "n") ∷ Pointer Byte (codes "b") ∷ Value Int64 (codes "m") ∷ [])
    (DeclareValue Int64 (codes "i") (Constant 0)
    ∷ DeclareValue Int64 (codes "j") (Constant 0)
    ∷ While (Binary AtMost (Variable (codes "i")) (Paren (Binary Subtract (Variable (codes "n")) (Variable (codes "m")))))
    (Assign (Variable (codes "j")) (Constant 0)
    ∷ While (Binary And (Paren (Binary Less (Variable (codes "j")) (Variable (codes "m")))) (Paren (Binary Equal (Index (Variable (codes "a")) (Binary Add (Variable (codes "i")) (Variable (codes "j")))) (Index (Variable (codes "b")) (Variable (codes "j"))))))
    (Assign (Variable (codes "j")) (Binary Add (Variable (codes "j")) (Constant 1))
    ∷ [])
    ∷ If (Binary Equal (Variable (codes "j")) (Variable (codes "m")))
    (ReturnValue (Binary Add (Variable (codes "i")) (Constant 1))
    ∷ [])
    ∷ Assign (Variable (codes "i")) (Binary Add (Variable (codes "i")) (Constant 1))
    ∷ [])
    ∷ ReturnValue (Constant 0)
    ∷ [])

-- the blank before an item of a line
abbrev pub lf_gap : CItem
lf_gap =
    Function true gives.Void (codes "lf_gap") (Pointer Int64 (codes "s") ∷ Value Int64 (codes "k") ∷ [])
    (If (Binary And (Paren (Binary Differ (Index (Variable (codes "s")) (Constant 0)) (Constant 0))) (Paren (Binary Or (Paren (Binary Differ (Index (Variable (codes "s")) (Constant 0)) (Constant 2))) (Paren (Binary Differ (Variable (codes "k")) (Constant 2))))))
    (Call (codes "putchar") (Constant 32 ∷ [])
    ∷ [])
    ∷ Assign (Index (Variable (codes "s")) (Constant 0)) (Variable (codes "k"))
    ∷ [])

-- writes a number
abbrev pub lf_int : CItem
lf_int =
    Function true gives.Void (codes "lf_int") (Value Int64 (codes "a") ∷ [])
    (DeclareValue Int64 (codes "n") (Constant 0)
    ∷ DeclareValue Int64 (codes "d") (Constant 0)
    ∷ DeclareArray Byte (codes "b") (Constant 20)
    ∷ If (Binary Less (Variable (codes "a")) (Constant 0))
    (Call (codes "putchar") (Constant 45 ∷ [])
    ∷ [])
    ∷ While (Binary Or (Paren (Binary Equal (Variable (codes "n")) (Constant 0))) (Paren (Binary Differ (Variable (codes "a")) (Constant 0))))
    (Assign (Variable (codes "d")) (Binary Remainder (Variable (codes "a")) (Constant 10))
    ∷ If (Binary Less (Variable (codes "d")) (Constant 0))
    (Assign (Variable (codes "d")) (Binary Subtract (Constant 0) (Variable (codes "d")))
    ∷ [])
    ∷ Assign (Index (Variable (codes "b")) (Variable (codes "n"))) (Binary Add (Constant 48) (Variable (codes "d")))
    ∷ Assign (Variable (codes "a")) (Binary Divide (Variable (codes "a")) (Constant 10))
    ∷ Assign (Variable (codes "n")) (Binary Add (Variable (codes "n")) (Constant 1))
    ∷ [])
    ∷ While (Binary Less (Constant 0) (Variable (codes "n")))
    (Assign (Variable (codes "n")) (Binary Subtract (Variable (codes "n")) (Constant 1))
    ∷ Call (codes "putchar") (Index (Variable (codes "b")) (Variable (codes "n")) ∷ [])
    ∷ [])
    ∷ [])

-- writes n characters
abbrev pub lf_chars : CItem
lf_chars =
    Function true gives.Void (codes "lf_chars") (Pointer Byte (codes "s") ∷ Value Int64 (codes "n") ∷ [])
    (DeclareValue Int64 (codes "i") (Constant 0)
    ∷ While (Binary Less (Variable (codes "i")) (Variable (codes "n")))
    (Call (codes "putchar") (Index (Variable (codes "s")) (Variable (codes "i")) ∷ [])
    ∷ Assign (Variable (codes "i")) (Binary Add (Variable (codes "i")) (Constant 1))
    ∷ [])
    ∷ [])

-- reads a line into n characters
abbrev pub lf_read : CItem
lf_read =
    Function true gives.Int64 (codes "lf_read") (Pointer Byte (codes "d") ∷ Value Int64 (codes "n") ∷ [])
    (DeclareValue Int64 (codes "i") (Constant 0)
    ∷ DeclareCall Int64 (codes "c") (codes "getchar") []
    ∷ If (Binary Less (Variable (codes "c")) (Constant 0))
    (ReturnValue (Negate (Constant 1))
    ∷ [])
    ∷ While (Binary And (Paren (Binary AtMost (Constant 0) (Variable (codes "c")))) (Paren (Binary Differ (Variable (codes "c")) (Constant 10))))
    (If (Binary Less (Variable (codes "i")) (Variable (codes "n")))
    (Assign (Index (Variable (codes "d")) (Variable (codes "i"))) (Variable (codes "c"))
    ∷ [])
    ∷ Assign (Variable (codes "i")) (Binary Add (Variable (codes "i")) (Constant 1))
    ∷ AssignCall (Variable (codes "c")) (codes "getchar") []
    ∷ [])
    ∷ While (Binary Less (Variable (codes "i")) (Variable (codes "n")))
    (Assign (Index (Variable (codes "d")) (Variable (codes "i"))) (Constant 32)
    ∷ Assign (Variable (codes "i")) (Binary Add (Variable (codes "i")) (Constant 1))
    ∷ [])
    ∷ ReturnValue (Constant 0)
    ∷ [])

-- the trap of a read behind the end
abbrev pub lf_end : CItem
lf_end =
    Function true gives.Void (codes "lf_end") (Value Int64 (codes "a") ∷ [])
    (If (Binary Less (Variable (codes "a")) (Constant 0))
    (Call (codes "lf_trap") (Constant 7 ∷ Literal (codes "EndOfFile") ∷ [])
    ∷ [])
    ∷ [])

abbrev pub prelude_items : List CItem
prelude_items = lf_name ∷ lf_line ∷ lf_trap ∷ lf_over ∷ lf_zero ∷ lf_fit ∷ lf_add ∷ lf_sub ∷ lf_mul ∷ lf_div ∷ lf_mod ∷ lf_modulo ∷ lf_pow ∷ lf_sign ∷ lf_min ∷ lf_max ∷ lf_count ∷ lf_at ∷ lf_sec ∷ lf_same ∷ lf_need ∷ lf_part ∷ lf_join ∷ lf_code ∷ lf_copy ∷ lf_cmp ∷ lf_trim ∷ lf_index ∷ lf_gap ∷ lf_int ∷ lf_chars ∷ lf_read ∷ lf_end ∷ []

abbrev pub prelude_file : CFile
prelude_file = record { items = prelude_items }

-- Small main programs behind the passes, and the items of their C files as the format of the printed C has them, written
-- by hand.
use Rattle.std.specs.Prelude.{ℕ, pos, negsuc, false, List, [], ◌∷◌, ◌++◌, codes}
use Rattle.lf_base.specs.declared.operator.TheConstants.{ADD, SUBTRACT, MULTIPLY, DIVIDE, EQ, NE, LT, GT, AND, OR}
use Rattle.type_rules.specs.declared.code.TheConstants.{ABS, MOD, MAX}
use Rattle.c_nodes.specs.declared.tree.CBinary.TheVariants as c
use Rattle.c_nodes.specs.declared.tree.CType.TheVariants.{Int32, Int64}
use Rattle.c_nodes.specs.declared.tree.CObject.TheVariants.{Single}
use Rattle.c_nodes.specs.declared.tree.CResult.TheVariants.{Void, Int}
use Rattle.c_nodes.specs.declared.tree.CExpr.{CExpr}
use Rattle.c_nodes.specs.declared.tree.CExpr.TheVariants.{Variable, Constant, Literal, Negate, Not, Binary, Cast, Address}
use Rattle.c_nodes.specs.declared.tree.CStmt.{CStmt}
use Rattle.c_nodes.specs.declared.tree.CStmt.TheVariants.{DeclareValue, DeclareCall, Assign, Call, Return, ReturnValue, Goto, Label, Block, While, If, IfElse}
use Rattle.c_nodes.specs.declared.tree.CItem.{CItem}
use Rattle.c_nodes.specs.declared.tree.CItem.TheVariants.{Object, Prototype, Function}
use Rattle.asr_nodes.specs.declared.code.TheConstants.{PUBLIC, SAVED, PARAMETER, INTENT_NOT_SAID, FORMAT_INTEGER, FALSE, TRUE}
use Rattle.asr_nodes.specs.declared.tree.ElemTree.{ElemTree}
use Rattle.asr_nodes.specs.declared.tree.ElemTree.TheVariants.{Integer, Logical}
use Rattle.asr_nodes.specs.declared.tree.ExprTree.{ExprTree}
use Rattle.asr_nodes.specs.declared.tree.ExprTree.TheVariants as e
use Rattle.asr_nodes.specs.declared.tree.PrintItemTree.TheVariants as item
use Rattle.asr_nodes.specs.declared.tree.StmtTree.{StmtTree}
use Rattle.asr_nodes.specs.declared.tree.StmtTree.TheVariants as s
use Rattle.asr_nodes.specs.declared.tree.SymbolTree.{SymbolTree}
use Rattle.asr_nodes.specs.declared.tree.SymbolTree.TheVariants as symbol
use Rattle.asr_nodes.specs.declared.tree.UnitTree.{UnitTree}
use Rattle.asr_nodes.specs.declared.tree.UnitTree.TheVariants as unit

abbrev pub program : List SymbolTree → List StmtTree → UnitTree
program symbols body = unit.Program (codes "p") (codes "p.f90") [] symbols body

abbrev pub variable_with : List ℕ → ElemTree → List ExprTree → SymbolTree
variable_with name element init = symbol.Variable name PUBLIC (record { elem = element; dims = [] }) SAVED INTENT_NOT_SAID init

-- integer :: i; integer(8) :: k; logical :: l
abbrev pub i_symbol : SymbolTree
i_symbol = variable_with (codes "i") (Integer 4) []

abbrev pub k_symbol : SymbolTree
k_symbol = variable_with (codes "k") (Integer 8) []

abbrev pub l_symbol : SymbolTree
l_symbol = variable_with (codes "l") Logical []

abbrev pub var : List ℕ → ExprTree
var name = e.Var (codes "p" ∷ name ∷ [])

abbrev pub i : ExprTree
i = var (codes "i")

abbrev pub k : ExprTree
k = var (codes "k")

abbrev pub l : ExprTree
l = var (codes "l")

abbrev pub number : ℕ → ExprTree
number value = e.IntConst 4 (pos value)

-- print *, x; as the pass leaves it
abbrev pub print : ℕ → ℕ → ExprTree → StmtTree
print line record_number x = s.Block line (s.Begin line record_number ∷ s.Put line record_number x ∷ s.End line ∷ [])

-- print '(I0)', x
abbrev pub print_digits : ℕ → ℕ → ExprTree → StmtTree
print_digits line advance x = s.Print line FORMAT_INTEGER advance (item.Value x ∷ [])

-- C: `T tN = X;`, and a call whose trap shows on this line of p.f90
abbrev pub value : List ℕ → CExpr → CStmt
value name x = DeclareValue Int64 name x

abbrev pub holds : List ℕ → List ℕ → CStmt
holds name other = value name (Variable other)

abbrev pub call : List ℕ → List ℕ → List CExpr → CStmt
call name callee arguments = DeclareCall Int64 name callee arguments

abbrev pub shown : ℕ → List CStmt → List CStmt
shown line lines = Assign (Variable (codes "lf_name")) (Literal (codes "p.f90")) ∷ Assign (Variable (codes "lf_line")) (Constant line) ∷ lines

abbrev pub two : List ℕ → List ℕ → List CExpr
two a b = Variable a ∷ Variable b ∷ []

-- into a variable of 32 bits
abbrev pub store : List ℕ → List ℕ → CStmt
store name from = Assign (Variable name) (Cast Int32 (Variable from))

abbrev pub putchar : ℕ → CStmt
putchar code = Call (codes "putchar") (Constant code ∷ [])

abbrev pub gap : List ℕ → CStmt
gap record_name = Call (codes "lf_gap") (Address (Variable record_name) ∷ Constant 1 ∷ [])

abbrev pub write : List ℕ → CStmt
write name = Call (codes "lf_int") (Variable name ∷ [])

abbrev pub single_i : CItem
single_i = Object false (Single Int32 (codes "lf_1_p_1_i"))

abbrev pub single_k : CItem
single_k = Object false (Single Int64 (codes "lf_1_p_1_k"))

abbrev pub single_l : CItem
single_l = Object false (Single Int32 (codes "lf_1_p_1_l"))

abbrev pub zero_i : CStmt
zero_i = Assign (Variable (codes "lf_1_p_1_i")) (Constant 0)

abbrev pub zero_k : CStmt
zero_k = Assign (Variable (codes "lf_1_p_1_k")) (Constant 0)

abbrev pub zero_l : CStmt
zero_l = Assign (Variable (codes "lf_1_p_1_l")) (Constant 0)

-- the objects, `void lf_1_p_init(void);`, its definition, and `main`
abbrev pub items : List CItem → List CStmt → List CStmt → List CItem
items objects first_values body =
    objects
    ++ Prototype Void (codes "lf_1_p_init") []
    ∷ Function false Void (codes "lf_1_p_init") [] (first_values ++ Return ∷ [])
    ∷ Function false Int (codes "main") [] (Call (codes "lf_1_p_init") [] ∷ body ++ ReturnValue (Constant 0) ∷ [])
    ∷ []

-- print *, 2+3*4
abbrev pub prints_one : UnitTree
prints_one = program [] (print 2 1 (e.Binary ADD (number 2) (e.Binary MULTIPLY (number 3) (number 4))) ∷ [])

abbrev pub prints_one_c : List CItem
prints_one_c =
    items [] []
    (Block
    (value (codes "r1") (Constant 0)
    ∷ putchar 32
    ∷ value (codes "t1") (Constant 2)
    ∷ value (codes "t2") (Constant 3)
    ∷ value (codes "t3") (Constant 4)
    ∷ shown 2 (call (codes "t4") (codes "lf_mul") (two (codes "t2") (codes "t3"))
    ∷ shown 2 (call (codes "t5") (codes "lf_fit") (Variable (codes "t4") ∷ [])
    ∷ shown 2 (call (codes "t6") (codes "lf_add") (two (codes "t1") (codes "t5"))
    ∷ shown 2 (call (codes "t7") (codes "lf_fit") (Variable (codes "t6") ∷ [])
    ∷ gap (codes "r1")
    ∷ write (codes "t7")
    ∷ putchar 10
    ∷ [])))))
    ∷ [])

-- do i = 1, 3; print *, i; end do
abbrev pub counts : UnitTree
counts = program (i_symbol ∷ []) (s.Do 3 1 i (number 1) (number 3) (number 1) (print 4 1 i ∷ []) ∷ [])

abbrev pub counts_c : List CItem
counts_c =
    items (single_i ∷ []) (zero_i ∷ [])
    (Block
    (value (codes "t1") (Constant 1)
    ∷ value (codes "t2") (Constant 3)
    ∷ value (codes "t3") (Constant 1)
    ∷ shown 3 (call (codes "t4") (codes "lf_count") (Variable (codes "t1") ∷ Variable (codes "t2") ∷ Variable (codes "t3") ∷ [])
    ∷ store (codes "lf_1_p_1_i") (codes "t1")
    ∷ While (Binary c.Less (Constant 0) (Variable (codes "t4")))
    (Block
    (Block
    (Block
    (value (codes "r1") (Constant 0)
    ∷ putchar 32
    ∷ holds (codes "t5") (codes "lf_1_p_1_i")
    ∷ gap (codes "r1")
    ∷ write (codes "t5")
    ∷ putchar 10
    ∷ [])
    ∷ [])
    ∷ Label (codes "c1")
    ∷ [])
    ∷ holds (codes "t6") (codes "lf_1_p_1_i")
    ∷ shown 3 (call (codes "t7") (codes "lf_add") (two (codes "t6") (codes "t3"))
    ∷ shown 3 (call (codes "t8") (codes "lf_fit") (Variable (codes "t7") ∷ [])
    ∷ store (codes "lf_1_p_1_i") (codes "t8")
    ∷ Assign (Variable (codes "t4")) (Binary c.Subtract (Variable (codes "t4")) (Constant 1))
    ∷ [])))
    ∷ Label (codes "e1")
    ∷ []))
    ∷ [])

-- if (i == 1) then; i = 2; else if (i < 0) then; i = 3; else; i = 4; end if
abbrev pub chooses : UnitTree
chooses =
    program (i_symbol ∷ [])
    (s.If 3 (e.Binary EQ i (number 1)) (s.Assign 4 i (number 2) ∷ [])
    (s.If 5 (e.Binary LT i (number 0)) (s.Assign 6 i (number 3) ∷ []) (s.Assign 8 i (number 4) ∷ []) ∷ [])
    ∷ [])

abbrev pub chooses_c : List CItem
chooses_c =
    items (single_i ∷ []) (zero_i ∷ [])
    (Block
    (holds (codes "t1") (codes "lf_1_p_1_i")
    ∷ value (codes "t2") (Constant 1)
    ∷ value (codes "t3") (Binary c.Equal (Variable (codes "t1")) (Variable (codes "t2")))
    ∷ IfElse (Variable (codes "t3"))
    (value (codes "t4") (Constant 2) ∷ store (codes "lf_1_p_1_i") (codes "t4") ∷ [])
    (Block
    (holds (codes "t5") (codes "lf_1_p_1_i")
    ∷ value (codes "t6") (Constant 0)
    ∷ value (codes "t7") (Binary c.Less (Variable (codes "t5")) (Variable (codes "t6")))
    ∷ IfElse (Variable (codes "t7"))
    (value (codes "t8") (Constant 3) ∷ store (codes "lf_1_p_1_i") (codes "t8") ∷ [])
    (value (codes "t9") (Constant 4) ∷ store (codes "lf_1_p_1_i") (codes "t9") ∷ [])
    ∷ [])
    ∷ [])
    ∷ [])
    ∷ [])

-- l = i /= 0 .and. 6/i > 1; l = l .or. i == 1
abbrev pub stops_early : UnitTree
stops_early =
    program (i_symbol ∷ l_symbol ∷ [])
    (s.Assign 4 l (e.Binary AND (e.Binary NE i (number 0)) (e.Binary GT (e.Binary DIVIDE (number 6) i) (number 1)))
    ∷ s.Assign 5 l (e.Binary OR l (e.Binary EQ i (number 1)))
    ∷ [])

abbrev pub stops_early_c : List CItem
stops_early_c =
    items (single_i ∷ single_l ∷ []) (zero_i ∷ zero_l ∷ [])
    (holds (codes "t1") (codes "lf_1_p_1_i")
    ∷ value (codes "t2") (Constant 0)
    ∷ value (codes "t3") (Binary c.Differ (Variable (codes "t1")) (Variable (codes "t2")))
    ∷ holds (codes "t4") (codes "t3")
    ∷ If (Variable (codes "t4"))
    (value (codes "t5") (Constant 6)
    ∷ holds (codes "t6") (codes "lf_1_p_1_i")
    ∷ shown 4 (call (codes "t7") (codes "lf_div") (two (codes "t5") (codes "t6"))
    ∷ shown 4 (call (codes "t8") (codes "lf_fit") (Variable (codes "t7") ∷ [])
    ∷ value (codes "t9") (Constant 1)
    ∷ value (codes "t10") (Binary c.Less (Variable (codes "t9")) (Variable (codes "t8")))
    ∷ Assign (Variable (codes "t4")) (Variable (codes "t10"))
    ∷ [])))
    ∷ store (codes "lf_1_p_1_l") (codes "t4")
    ∷ holds (codes "t11") (codes "lf_1_p_1_l")
    ∷ holds (codes "t12") (codes "t11")
    ∷ If (Not (Variable (codes "t12")))
    (holds (codes "t13") (codes "lf_1_p_1_i")
    ∷ value (codes "t14") (Constant 1)
    ∷ value (codes "t15") (Binary c.Equal (Variable (codes "t13")) (Variable (codes "t14")))
    ∷ Assign (Variable (codes "t12")) (Variable (codes "t15"))
    ∷ [])
    ∷ store (codes "lf_1_p_1_l") (codes "t12")
    ∷ [])

-- k = k + 3; i = int(k - 5_8)
abbrev pub mixes_kinds : UnitTree
mixes_kinds =
    program (i_symbol ∷ k_symbol ∷ [])
    (s.Assign 4 k (e.Binary ADD k (e.Convert 8 (number 3)))
    ∷ s.Assign 5 i (e.Convert 4 (e.Binary SUBTRACT k (e.IntConst 8 (pos 5))))
    ∷ [])

abbrev pub mixes_kinds_c : List CItem
mixes_kinds_c =
    items (single_i ∷ single_k ∷ []) (zero_i ∷ zero_k ∷ [])
    (holds (codes "t1") (codes "lf_1_p_1_k")
    ∷ value (codes "t2") (Constant 3)
    ∷ shown 4 (call (codes "t3") (codes "lf_add") (two (codes "t1") (codes "t2"))
    ∷ Assign (Variable (codes "lf_1_p_1_k")) (Variable (codes "t3"))
    ∷ holds (codes "t4") (codes "lf_1_p_1_k")
    ∷ value (codes "t5") (Constant 5)
    ∷ shown 5 (call (codes "t6") (codes "lf_sub") (two (codes "t4") (codes "t5"))
    ∷ shown 5 (call (codes "t7") (codes "lf_fit") (Variable (codes "t6") ∷ [])
    ∷ store (codes "lf_1_p_1_i") (codes "t7")
    ∷ []))))

-- integer(8) :: k = 2147483648_8; integer, parameter :: m = 3; integer :: i = -7; logical :: l
abbrev pub begins : UnitTree
begins =
    program
    (variable_with (codes "k") (Integer 8) (e.IntConst 8 (pos 2147483648) ∷ [])
    ∷ symbol.Variable (codes "m") PUBLIC (record { elem = Integer 4; dims = [] }) PARAMETER INTENT_NOT_SAID (number 3 ∷ [])
    ∷ variable_with (codes "i") (Integer 4) (e.IntConst 4 (negsuc 6) ∷ [])
    ∷ l_symbol
    ∷ [])
    []

abbrev pub begins_c : List CItem
begins_c =
    items (single_k ∷ single_i ∷ single_l ∷ [])
    (value (codes "t1") (Constant 2147483648)
    ∷ Assign (Variable (codes "lf_1_p_1_k")) (Variable (codes "t1"))
    ∷ value (codes "t2") (Negate (Constant 7))
    ∷ store (codes "lf_1_p_1_i") (codes "t2")
    ∷ zero_l
    ∷ [])
    []

-- outer: do while (i < 9); do; if (i == 2) exit outer; cycle outer; end do; end do outer
abbrev pub leaves_outer : UnitTree
leaves_outer =
    program (i_symbol ∷ [])
    (s.While 3 1 (e.Binary LT i (number 9))
    (s.While 4 2 (e.LogConst TRUE) (s.If 5 (e.Binary EQ i (number 2)) (s.Exit 5 1 ∷ []) [] ∷ s.Cycle 6 1 ∷ []) ∷ [])
    ∷ [])

abbrev pub leaves_outer_c : List CItem
leaves_outer_c =
    items (single_i ∷ []) (zero_i ∷ [])
    (Block
    (While (Constant 1)
    (holds (codes "t1") (codes "lf_1_p_1_i")
    ∷ value (codes "t2") (Constant 9)
    ∷ value (codes "t3") (Binary c.Less (Variable (codes "t1")) (Variable (codes "t2")))
    ∷ If (Not (Variable (codes "t3"))) (Goto (codes "e1") ∷ [])
    ∷ Block
    (Block
    (Block
    (While (Constant 1)
    (value (codes "t4") (Constant 1)
    ∷ If (Not (Variable (codes "t4"))) (Goto (codes "e2") ∷ [])
    ∷ Block
    (Block
    (Block
    (holds (codes "t5") (codes "lf_1_p_1_i")
    ∷ value (codes "t6") (Constant 2)
    ∷ value (codes "t7") (Binary c.Equal (Variable (codes "t5")) (Variable (codes "t6")))
    ∷ If (Variable (codes "t7")) (Goto (codes "e1") ∷ [])
    ∷ [])
    ∷ Goto (codes "c1")
    ∷ [])
    ∷ Label (codes "c2")
    ∷ [])
    ∷ [])
    ∷ Label (codes "e2")
    ∷ [])
    ∷ [])
    ∷ Label (codes "c1")
    ∷ [])
    ∷ [])
    ∷ Label (codes "e1")
    ∷ [])
    ∷ [])

-- stop 3; error stop -1
abbrev pub ends : UnitTree
ends = program [] (s.Stop 2 FALSE (number 3) ∷ s.Stop 3 TRUE (e.IntConst 4 (negsuc 0)) ∷ [])

abbrev pub ends_c : List CItem
ends_c = items [] [] (Call (codes "exit") (Constant 3 ∷ []) ∷ Call (codes "exit") (Constant 255 ∷ []) ∷ [])

-- print '(I0)', max(i, 2, 3); write (*, '(I0)', advance='no') abs(-i); print '(I0)', mod(i, 3)
abbrev pub refers : UnitTree
refers =
    program (i_symbol ∷ [])
    (print_digits 3 FALSE (e.Intrinsic MAX (i ∷ number 2 ∷ number 3 ∷ []))
    ∷ print_digits 4 TRUE (e.Intrinsic ABS (e.Unary SUBTRACT i ∷ []))
    ∷ print_digits 5 FALSE (e.Intrinsic MOD (i ∷ number 3 ∷ []))
    ∷ [])

abbrev pub refers_c : List CItem
refers_c =
    items (single_i ∷ []) (zero_i ∷ [])
    (holds (codes "t1") (codes "lf_1_p_1_i")
    ∷ value (codes "t2") (Constant 2)
    ∷ value (codes "t3") (Constant 3)
    ∷ call (codes "t4") (codes "lf_max") (two (codes "t1") (codes "t2"))
    ∷ call (codes "t5") (codes "lf_max") (two (codes "t4") (codes "t3"))
    ∷ write (codes "t5")
    ∷ putchar 10
    ∷ holds (codes "t6") (codes "lf_1_p_1_i")
    ∷ shown 4 (call (codes "t7") (codes "lf_sub") (Constant 0 ∷ Variable (codes "t6") ∷ [])
    ∷ shown 4 (call (codes "t8") (codes "lf_fit") (Variable (codes "t7") ∷ [])
    ∷ shown 4 (call (codes "t9") (codes "lf_sign") (Variable (codes "t8") ∷ Constant 0 ∷ [])
    ∷ shown 4 (call (codes "t10") (codes "lf_fit") (Variable (codes "t9") ∷ [])
    ∷ write (codes "t10")
    ∷ holds (codes "t11") (codes "lf_1_p_1_i")
    ∷ value (codes "t12") (Constant 3)
    ∷ shown 5 (call (codes "t13") (codes "lf_mod") (two (codes "t11") (codes "t12"))
    ∷ write (codes "t13")
    ∷ putchar 10
    ∷ []))))))

-- Two temporaries of the tree: t1 = i, t1 = t1 + 1, t2 = l, and the second is printed.
abbrev pub keeps : UnitTree
keeps =
    program (i_symbol ∷ l_symbol ∷ [])
    (s.Block 4 (s.Let 4 1 i ∷ s.Assign 4 (e.Temp 1) (e.Binary ADD (e.Temp 1) (number 1)) ∷ s.Let 4 2 l ∷ s.Begin 4 3 ∷ s.Put 4 3 (e.Temp 2) ∷ [])
    ∷ [])

abbrev pub keeps_c : List CItem
keeps_c =
    items (single_i ∷ single_l ∷ []) (zero_i ∷ zero_l ∷ [])
    (Block
    (holds (codes "t1") (codes "lf_1_p_1_i")
    ∷ holds (codes "r1") (codes "t1")
    ∷ holds (codes "t2") (codes "r1")
    ∷ value (codes "t3") (Constant 1)
    ∷ shown 4 (call (codes "t4") (codes "lf_add") (two (codes "t2") (codes "t3"))
    ∷ shown 4 (call (codes "t5") (codes "lf_fit") (Variable (codes "t4") ∷ [])
    ∷ Assign (Variable (codes "r1")) (Variable (codes "t5"))
    ∷ holds (codes "t6") (codes "lf_1_p_1_l")
    ∷ holds (codes "r2") (codes "t6")
    ∷ value (codes "r3") (Constant 0)
    ∷ putchar 32
    ∷ holds (codes "t7") (codes "r2")
    ∷ gap (codes "r3")
    ∷ IfElse (Variable (codes "t7")) (putchar 84 ∷ []) (putchar 70 ∷ [])
    ∷ [])))
    ∷ [])

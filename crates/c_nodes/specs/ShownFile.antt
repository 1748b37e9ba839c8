-- A small C file with each shape, and its text (ISO/IEC 9899:1999, 6.5 to 6.9). It stands without the prelude.
use Rattle.std.specs.Prelude.{ℕ, false, true, List, [], ◌∷◌, codes}
use Rattle.c_nodes.specs.declared.tree.CType.TheVariants.{Int64, Int32, Byte}
use Rattle.c_nodes.specs.declared.tree.CType.TheVariants as type
use Rattle.c_nodes.specs.declared.tree.CResult.TheVariants as gives
use Rattle.c_nodes.specs.declared.tree.CObject.TheVariants.{Single, Array}
use Rattle.c_nodes.specs.declared.tree.CBinary.TheVariants.{Equal}
use Rattle.c_nodes.specs.declared.tree.CExpr.{CExpr}
use Rattle.c_nodes.specs.declared.tree.CExpr.TheVariants.{Variable, Index, Member, Constant, Binary}
use Rattle.c_nodes.specs.declared.tree.CStmt.{CStmt}
use Rattle.c_nodes.specs.declared.tree.CStmt.TheVariants.{Assign, ReturnValue, Goto, Label, Block, While, IfElse}
use Rattle.c_nodes.specs.declared.tree.CItem.{CItem}
use Rattle.c_nodes.specs.declared.tree.CItem.TheVariants.{Struct, Object, StaticObject, StaticPointer, Function}

abbrev pub main : List CStmt → CItem
main body = Function false gives.Int (codes "main") [] body

abbrev pub ends : CStmt
ends = ReturnValue (Constant 0)

-- struct P { int32_t x; unsigned char c[2]; };  (6.7.2.1)
abbrev pub p_type : CItem
p_type = Struct (codes "P") (Single Int32 (codes "x") ∷ Array Byte (codes "c") 2 ∷ [])

abbrev pub x_of : CExpr → CExpr
x_of e = Member e (codes "x")

abbrev pub c_of : CExpr → ℕ → CExpr
c_of e k = Index (Member e (codes "c")) (Constant k)

-- items with each shape that stands outside functions, and with members, jumps and labels
abbrev pub shown : List CItem
shown =
    p_type
    ∷ Object true (Single (type.Struct (codes "P")) (codes "s"))
    ∷ Object false (Array Int64 (codes "v") 3)
    ∷ StaticObject Int64 (codes "n")
    ∷ StaticPointer Byte (codes "q")
    ∷ main
    (Block
    (While (Constant 1)
    (Assign (x_of (Variable (codes "s"))) (Constant 1)
    ∷ IfElse (Binary Equal (c_of (Variable (codes "s")) 1) (Constant 3)) (Goto (codes "e1") ∷ []) (Assign (c_of (Variable (codes "s")) 1) (Constant 3) ∷ [])
    ∷ [])
    ∷ Label (codes "e1")
    ∷ [])
    ∷ ends
    ∷ [])
    ∷ []

abbrev pub shown_text : List ℕ
shown_text = codes "struct P {\nint32_t x;\nunsigned char c[2];\n};\nextern struct P s;\nint64_t v[3];\nstatic int64_t n;\nstatic unsigned char *q;\nint main(void) {\n{\nwhile (1) {\ns.x = 1;\nif (s.c[1] == 3) {\ngoto e1;\n} else {\ns.c[1] = 3;\n}\n}\ne1: ;\n}\nreturn 0;\n}\n"

-- no items of the profile: a label in front of another statement
abbrev pub early_label : List CItem
early_label = main (Label (codes "e1") ∷ ends ∷ []) ∷ []

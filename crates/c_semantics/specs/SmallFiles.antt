-- Small C files, and what ISO/IEC 9899:1999 says of them: what they write, what is undefined, and which are no program.
-- They stand without the prelude.
use Rattle.std.specs.Prelude.{◌≡◌, ℕ, false, true, List, [], ◌∷◌, ◌++◌, codes, None}
use Rattle.lf_base.specs.Outcome.{Ended, Cut, Wrong, Undefined, written}
use Rattle.c_nodes.specs.declared.tree.CType.TheVariants.{Int64, Int32, Byte}
use Rattle.c_nodes.specs.declared.tree.CType.TheVariants as type
use Rattle.c_nodes.specs.declared.tree.CResult.TheVariants as gives
use Rattle.c_nodes.specs.declared.tree.CParameter.TheVariants as parameter
use Rattle.c_nodes.specs.declared.tree.CObject.TheVariants.{Single, Array}
use Rattle.c_nodes.specs.declared.tree.CBinary.TheVariants.{Add, Divide, Less, Equal, And, Or}
use Rattle.c_nodes.specs.declared.tree.CExpr.{CExpr}
use Rattle.c_nodes.specs.declared.tree.CExpr.TheVariants.{Variable, Index, Member, Constant, Greatest, Least, Paren, Negate, Binary, Cast, ToInt, Address, Literal}
use Rattle.c_nodes.specs.declared.tree.CStmt.{CStmt}
use Rattle.c_nodes.specs.declared.tree.CStmt.TheVariants.{Declare, DeclareArray, DeclareValue, DeclarePointer, Assign, AssignCall, Call, Return, ReturnValue, Goto, Label, Block, While, If, IfElse}
use Rattle.c_nodes.specs.declared.tree.CItem.{CItem}
use Rattle.c_nodes.specs.declared.tree.CItem.TheVariants.{Object, StaticObject, StaticPointer, Prototype, Function}
use Rattle.c_nodes.specs.declared.tree.CFile.{CFile}
use Rattle.c_nodes.specs.ShownFile.{main, ends, p_type, x_of, c_of}
use Rattle.c_semantics.specs.CMeaning.{CMeaning}
use Rattle.c_semantics.specs.Program.{IsProgram}

abbrev pub file : List CItem → CFile
file items = record { items = items }

abbrev pub put : CExpr → CStmt
put e = Call (codes "putchar") (e ∷ [])

abbrev pub i : CExpr
i = Variable (codes "i")

-- With so many turns and calls, the file writes this and ends with status 0, whatever the input.
abbrev pub Writes : List CFile → List ℕ → Type 0
Writes files text = (input : List ℕ) → CMeaning files input 10 2 ≡ Ended (written text []) 0 None

-- What the file does is undefined, whatever the input.
abbrev pub IsUndefined : List CItem → Type 0
IsUndefined items = (input : List ℕ) → CMeaning (file items ∷ []) input 10 2 ≡ Wrong Undefined

-- int64_t i = 0; while (i < 3) { putchar(97); i = i + 1; } return 0;  (6.8.5.1)
abbrev pub turns : List CItem
turns =
    main
    (DeclareValue Int64 (codes "i") (Constant 0)
    ∷ While (Binary Less i (Constant 3))
    (put (Constant 97)
    ∷ Assign i (Binary Add i (Constant 1))
    ∷ [])
    ∷ ends
    ∷ [])
    ∷ []

-- A turn that goes to `c1` is followed by the next turn, and one that goes to `e1` leaves the loop and the blocks
-- around it (6.8.6.1, 2):
-- int64_t i = 0; { while (1) { { { i = i + 1; if (i == 2) { goto c1; } if (i == 3) { goto e1; } putchar(97); } c1: ; } } e1: ; }
-- putchar(98); return 0;
abbrev pub jumps : List CItem
jumps =
    main
    (DeclareValue Int64 (codes "i") (Constant 0)
    ∷ Block
    (While (Constant 1)
    (Block
    (Block
    (Assign i (Binary Add i (Constant 1))
    ∷ If (Binary Equal i (Constant 2)) (Goto (codes "c1") ∷ [])
    ∷ If (Binary Equal i (Constant 3)) (Goto (codes "e1") ∷ [])
    ∷ put (Constant 97)
    ∷ [])
    ∷ Label (codes "c1")
    ∷ [])
    ∷ [])
    ∷ Label (codes "e1")
    ∷ [])
    ∷ put (Constant 98)
    ∷ ends
    ∷ [])
    ∷ []

abbrev pub element : ℕ → CExpr
element k = Index (Variable (codes "a")) (Constant k)

-- A structure is copied whole, and a member that is not set stays so (6.5.2.3, 3; 6.5.16.1; 6.2.6.1, 6):
-- struct P a[2]; a[0].x = 65; a[0].c[1] = 66; a[1] = a[0]; a[0].x = 67; struct P b = a[1];
-- putchar(b.x); putchar(a[1].c[1]); putchar(a[0].x);
abbrev pub copies : List CStmt
copies =
    DeclareArray (type.Struct (codes "P")) (codes "a") (Constant 2)
    ∷ Assign (x_of (element 0)) (Constant 65)
    ∷ Assign (c_of (element 0) 1) (Constant 66)
    ∷ Assign (element 1) (element 0)
    ∷ Assign (x_of (element 0)) (Constant 67)
    ∷ DeclareValue (type.Struct (codes "P")) (codes "b") (element 1)
    ∷ put (x_of (Variable (codes "b")))
    ∷ put (c_of (element 1) 1)
    ∷ put (x_of (element 0))
    ∷ []

abbrev pub structures : List CItem
structures = p_type ∷ main (copies ++ ends ∷ []) ∷ []

-- the same, and a read of the member that was not set: putchar(b.c[0]);
abbrev pub unset_copy : List CItem
unset_copy = p_type ∷ main (copies ++ put (c_of (Variable (codes "b")) 0) ∷ ends ∷ []) ∷ []

-- An `unsigned char` counts modulo 256 (6.3.1.3, 2): unsigned char c; c = 321; putchar(c); return 0;
abbrev pub wraps : List CItem
wraps =
    main
    (Declare Byte (codes "c")
    ∷ Assign (Variable (codes "c")) (Constant 321)
    ∷ put (Variable (codes "c"))
    ∷ ends
    ∷ [])
    ∷ []

-- The right operand is not evaluated where the left one decides (6.5.13, 4; 6.5.14, 4):
-- int64_t i; if (0 && i) { putchar(97); } else { putchar(98); } if (1 || i) { putchar(99); } return 0;
abbrev pub stops_early : List CItem
stops_early =
    main
    (Declare Int64 (codes "i")
    ∷ IfElse (Binary And (Constant 0) i) (put (Constant 97) ∷ []) (put (Constant 98) ∷ [])
    ∷ If (Binary Or (Constant 1) i) (put (Constant 99) ∷ [])
    ∷ ends
    ∷ [])
    ∷ []

-- An object outside functions begins as zero, all members and elements of it (6.7.8, 10):
-- int64_t n; struct P s[2]; int main(void) { putchar(65 + n); putchar(66 + s[1].c[1]); return 0; }
abbrev pub zeros : List CItem
zeros =
    p_type
    ∷ Object false (Single Int64 (codes "n"))
    ∷ Object false (Array (type.Struct (codes "P")) (codes "s") 2)
    ∷ main
    (put (Binary Add (Constant 65) (Variable (codes "n")))
    ∷ put (Binary Add (Constant 66) (c_of (Index (Variable (codes "s")) (Constant 1)) 1))
    ∷ ends
    ∷ [])
    ∷ []

-- Files share an object outside functions, which is one (6.2.2, 2), and a function may change through a pointer what
-- its caller has: extern int64_t n; void f(int64_t *p) { n = 65; p[0] = 66; }
abbrev pub sets : List CItem
sets =
    Object true (Single Int64 (codes "n"))
    ∷ Function false gives.Void (codes "f") (parameter.Pointer Int64 (codes "p") ∷ [])
    (Assign (Variable (codes "n")) (Constant 65)
    ∷ Assign (Index (Variable (codes "p")) (Constant 0)) (Constant 66)
    ∷ [])
    ∷ []

-- int64_t n; void f(int64_t *p); int main(void) { int64_t i; f(&i); putchar(n); putchar(i); return 0; }
abbrev pub shares : List CItem
shares =
    Object false (Single Int64 (codes "n"))
    ∷ Prototype gives.Void (codes "f") (parameter.Pointer Int64 (codes "p") ∷ [])
    ∷ main
    (Declare Int64 (codes "i")
    ∷ Call (codes "f") (Address i ∷ [])
    ∷ put (Variable (codes "n"))
    ∷ put i
    ∷ ends
    ∷ [])
    ∷ []

-- int64_t i = e; return 0;
abbrev pub sets_i : CExpr → List CItem
sets_i e = main (DeclareValue Int64 (codes "i") e ∷ ends ∷ []) ∷ []

-- signed overflow (6.5, 5): INT64_MAX + 1
abbrev pub overflow : List CItem
overflow = sets_i (Binary Add Greatest (Constant 1))

-- the same of an `int`: 2147483647 + 1
abbrev pub int_overflow : List CItem
int_overflow = sets_i (Binary Add (Constant 2147483647) (Constant 1))

-- division by zero (6.5.5, 5): 1 / 0
abbrev pub by_zero : List CItem
by_zero = sets_i (Binary Divide (Constant 1) (Constant 0))

-- a quotient that does not fit (6.5.5, 6): INT64_MIN / (-1)
abbrev pub least_by_minus_one : List CItem
least_by_minus_one = sets_i (Binary Divide Least (Paren (Negate (Constant 1))))

-- a conversion that does not fit (6.3.1.3, 3): (int32_t)INT64_C(2147483648)
abbrev pub int32_cast : List CItem
int32_cast = sets_i (Cast Int32 (Constant 2147483648))

-- the same to `int`: (int)INT64_C(2147483648)
abbrev pub int_cast : List CItem
int_cast = sets_i (ToInt (Constant 2147483648))

-- the same by assignment (6.5.16.1, 2): int32_t k; k = INT64_C(2147483648);
abbrev pub int32_store : List CItem
int32_store = main (Declare Int32 (codes "k") ∷ Assign (Variable (codes "k")) (Constant 2147483648) ∷ ends ∷ []) ∷ []

-- an object that was not set (6.2.4, 5; 6.7.8, 10): int64_t i; putchar(i);
abbrev pub unset_read : List CItem
unset_read = main (Declare Int64 (codes "i") ∷ put i ∷ ends ∷ []) ∷ []

-- an index outside its object (6.5.6, 8): unsigned char b[2]; b[2] = 0;
abbrev pub outside : List CItem
outside = main (DeclareArray Byte (codes "b") (Constant 2) ∷ Assign (Index (Variable (codes "b")) (Constant 2)) (Constant 0) ∷ ends ∷ []) ∷ []

-- a pointer outside its object: int64_t *p = &b[3]; after int64_t b[2];
abbrev pub pointer_outside : List CItem
pointer_outside = main (DeclareArray Int64 (codes "b") (Constant 2) ∷ DeclarePointer Int64 (codes "p") (Address (Index (Variable (codes "b")) (Constant 3))) ∷ ends ∷ []) ∷ []

-- an index outside a member, though inside the structures: struct P a[2]; a[0].c[2] = 0;
abbrev pub outside_member : List CItem
outside_member = p_type ∷ main (DeclareArray (type.Struct (codes "P")) (codes "a") (Constant 2) ∷ Assign (c_of (element 0) 2) (Constant 0) ∷ ends ∷ []) ∷ []

-- an array of no elements (6.7.5.2, 5): int64_t i = 0; unsigned char b[i];
abbrev pub no_elements : List CItem
no_elements = main (DeclareValue Int64 (codes "i") (Constant 0) ∷ DeclareArray Byte (codes "b") i ∷ ends ∷ []) ∷ []

-- a write into a literal (6.4.5, 6): unsigned char *p = (unsigned char *)"a"; p[0] = 98;
abbrev pub literal_write : List CItem
literal_write = main (DeclarePointer Byte (codes "p") (Literal (codes "a")) ∷ Assign (Index (Variable (codes "p")) (Constant 0)) (Constant 98) ∷ ends ∷ []) ∷ []

-- One turn more than there are: while (1) { putchar(97); }
abbrev pub forever : List CItem
forever = main (While (Constant 1) (put (Constant 97) ∷ []) ∷ ends ∷ []) ∷ []

abbrev pub IsCut : List CItem → ℕ → List ℕ → Type 0
IsCut items n text = (input : List ℕ) → CMeaning (file items ∷ []) input n 2 ≡ Cut (written text [])

-- A status counts modulo 256: exit(263);  (7.20.4.3, 5)
abbrev pub leaves : List CItem
leaves = main (Call (codes "exit") (Constant 263 ∷ []) ∷ ends ∷ []) ∷ []

abbrev pub EndsWith : List CItem → ℕ → Type 0
EndsWith items status = (input : List ℕ) → CMeaning (file items ∷ []) input 10 2 ≡ Ended (written [] []) status None

-- What `main` returns is the status, modulo 256 (5.1.2.2.3): return 263;
abbrev pub returns_number : List CItem
returns_number = main (ReturnValue (Constant 263) ∷ []) ∷ []

-- `main` without a return gives 0 (5.1.2.2.3)
abbrev pub returns_nothing : List CItem
returns_nothing = main [] ∷ []

-- What `main` returns is converted to `int`, and this does not fit (6.8.6.4, 3; 6.3.1.3, 3): return INT64_C(2147483648);
abbrev pub returns_too_much : List CItem
returns_too_much = main (ReturnValue (Constant 2147483648) ∷ []) ∷ []

-- the first element of that to which `q` leads
abbrev pub q_first : CExpr
q_first = Index (Variable (codes "q")) (Constant 0)

-- int64_t i = 0; int64_t *q = &i; { int64_t j = 65; q = &j; inner } outer return 0;
abbrev pub pointer_to_block : List CStmt → List CStmt → List CItem
pointer_to_block inner outer =
    main
    (DeclareValue Int64 (codes "i") (Constant 0)
    ∷ DeclarePointer Int64 (codes "q") (Address i)
    ∷ Block
    (DeclareValue Int64 (codes "j") (Constant 65)
    ∷ Assign (Variable (codes "q")) (Address (Variable (codes "j")))
    ∷ inner)
    ∷ outer ++ ends ∷ [])
    ∷ []

-- a pointer to an object of the block that runs
abbrev pub pointer_in_block : List CItem
pointer_in_block = pointer_to_block (put q_first ∷ []) []

-- the same pointer behind the block, when it is no value (6.2.4, 2)
abbrev pub pointer_after_block : List CItem
pointer_after_block = pointer_to_block [] (put q_first ∷ [])

-- A static pointer holds what it is set to: static unsigned char *q; int main(void) { q = (unsigned char *)"A"; putchar(q[0]); return 0; }
abbrev pub sets_pointer : List CItem
sets_pointer = StaticPointer Byte (codes "q") ∷ main (Assign (Variable (codes "q")) (Literal (codes "A")) ∷ put q_first ∷ ends ∷ []) ∷ []

-- a static pointer that is not set leads to no object (6.7.8, 10): putchar(q[0]);
abbrev pub unset_pointer : List CItem
unset_pointer = StaticPointer Byte (codes "q") ∷ main (put q_first ∷ ends ∷ []) ∷ []

-- a static pointer to an object of a function that has ended (6.2.4, 2):
-- static int64_t *q; static void f(void) { int64_t j = 65; q = &j; } int main(void) { f(); putchar(q[0]); return 0; }
abbrev pub pointer_after_call : List CItem
pointer_after_call =
    StaticPointer Int64 (codes "q")
    ∷ Function true gives.Void (codes "f") []
    (DeclareValue Int64 (codes "j") (Constant 65)
    ∷ Assign (Variable (codes "q")) (Address (Variable (codes "j")))
    ∷ [])
    ∷ main (Call (codes "f") [] ∷ put q_first ∷ ends ∷ [])
    ∷ []

-- A static object is one of its file (6.2.2, 3): static int64_t n; void f(void) { n = 66; }
abbrev pub own_object : List CItem
own_object =
    StaticObject Int64 (codes "n")
    ∷ Function false gives.Void (codes "f") [] (Assign (Variable (codes "n")) (Constant 66) ∷ [])
    ∷ []

-- static int64_t n; void f(void); int main(void) { n = 65; f(); putchar(n); return 0; }
abbrev pub keeps_object : List CItem
keeps_object =
    StaticObject Int64 (codes "n")
    ∷ Prototype gives.Void (codes "f") []
    ∷ main
    (Assign (Variable (codes "n")) (Constant 65)
    ∷ Call (codes "f") []
    ∷ put (Variable (codes "n"))
    ∷ ends
    ∷ [])
    ∷ []

-- The files are no program.
abbrev pub Unlinked : List CFile → Type 0
Unlinked files = IsProgram files → ⊥

-- a label that stands in no block around the jump (6.8.6.1, 1; the profile's labels): { e1: ; } goto e1;
abbrev pub leads_nowhere : List CItem
leads_nowhere = main (Block (Label (codes "e1") ∷ []) ∷ Goto (codes "e1") ∷ ends ∷ []) ∷ []

-- a jump past the declaration of an array whose size is no constant (6.8.6.1, 1): int64_t i = 2; { goto e1; int64_t a[i]; e1: ; }
abbrev pub jumps_past_array : List CItem
jumps_past_array = main (DeclareValue Int64 (codes "i") (Constant 2) ∷ Block (Goto (codes "e1") ∷ DeclareArray Int64 (codes "a") i ∷ Label (codes "e1") ∷ []) ∷ ends ∷ []) ∷ []

-- two labels of one name (6.8.1, 3): { e1: ; } { e1: ; }
abbrev pub label_twice : List CItem
label_twice = main (Block (Label (codes "e1") ∷ []) ∷ Block (Label (codes "e1") ∷ []) ∷ ends ∷ []) ∷ []

-- no member of the structure (6.5.2.3, 1): struct P a[2]; a[0].y = 1;
abbrev pub no_member : List CItem
no_member = p_type ∷ main (DeclareArray (type.Struct (codes "P")) (codes "a") (Constant 2) ∷ Assign (Member (element 0) (codes "y")) (Constant 1) ∷ ends ∷ []) ∷ []

-- a structure that is not declared (6.7, 7): struct P b;
abbrev pub no_structure : List CItem
no_structure = main (Declare (type.Struct (codes "P")) (codes "b") ∷ ends ∷ []) ∷ []

-- a structure set to a number (6.5.16.1, 1): struct P b; b = 1;
abbrev pub number_as_structure : List CItem
number_as_structure = p_type ∷ main (Declare (type.Struct (codes "P")) (codes "b") ∷ Assign (Variable (codes "b")) (Constant 1) ∷ ends ∷ []) ∷ []

-- an object that is used and that no file defines (6.9, 5): extern int64_t i; putchar(i);
abbrev pub undefined_object : List CItem
undefined_object = Object true (Single Int64 (codes "i")) ∷ main (put i ∷ ends ∷ []) ∷ []

-- the same, not used: a program
abbrev pub unused_object : List CItem
unused_object = Object true (Single Int64 (codes "i")) ∷ main (Declare Int64 (codes "i") ∷ ends ∷ []) ∷ []

-- an array of no elements (6.7.5.2, 1): int64_t a[0];
abbrev pub empty_array : List CItem
empty_array = main (DeclareArray Int64 (codes "a") (Constant 0) ∷ ends ∷ []) ∷ []

-- what a call gives, set into an element: int64_t a[1]; a[0] = getchar();
abbrev pub call_into_element : List CItem
call_into_element = main (DeclareArray Int64 (codes "a") (Constant 1) ∷ AssignCall (Index (Variable (codes "a")) (Constant 0)) (codes "getchar") [] ∷ ends ∷ []) ∷ []

-- an object with this name in a block: int64_t N; return 0;
abbrev pub declares : List ℕ → List CItem
declares name = main (Declare Int64 name ∷ ends ∷ []) ∷ []

-- a function of the library that is declared, though it may be called (7.1.3): int64_t getchar(void);
abbrev pub declares_library : List CItem
declares_library = Prototype gives.Int64 (codes "getchar") [] ∷ main (ends ∷ []) ∷ []

-- a name that begins with an underscore (7.1.3), outside functions: int64_t _n;
abbrev pub low_name : List CItem
low_name = Object false (Single Int64 (codes "_n")) ∷ main (ends ∷ []) ∷ []

-- a static object with the name of another object (6.7, 3): int64_t n; static int64_t n;
abbrev pub static_twice : List CItem
static_twice = Object false (Single Int64 (codes "n")) ∷ StaticObject Int64 (codes "n") ∷ main (ends ∷ []) ∷ []

-- an object of one file, and of another type in the other (6.2.7, 2): extern int32_t n;
abbrev pub other_type : List CItem
other_type = Object true (Single Int32 (codes "n")) ∷ Function false gives.Void (codes "f") (parameter.Pointer Int64 (codes "p") ∷ []) (Return ∷ []) ∷ []

-- an object that two files define (6.9, 5): int64_t n;
abbrev pub defines_again : List CItem
defines_again = Object false (Single Int64 (codes "n")) ∷ Function false gives.Void (codes "f") (parameter.Pointer Int64 (codes "p") ∷ []) (Return ∷ []) ∷ []

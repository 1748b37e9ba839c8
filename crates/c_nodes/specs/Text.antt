-- The text of a C file, shape by shape: expressions, declarations, statements and external definitions
-- (ISO/IEC 9899:1999, 6.5, 6.7, 6.8, 6.9), each line without indentation.
use Rattle.std.specs.Prelude.{ℕ, ◌+◌, ◌/◌, ◌%◌, Bool, true, false, if◌then◌else◌, ◌&&◌, ◌==◌, not, nat_le, List, [], ◌∷◌, codes, map}
use Rattle.std.specs.Fmt.{decimal}
use Rattle.lf_base.specs.Contents.{joined}
use Rattle.c_nodes.specs.declared.tree.CType.{CType}
use Rattle.c_nodes.specs.declared.tree.CType.TheVariants.{Int64, Int32, Byte}
use Rattle.c_nodes.specs.declared.tree.CType.TheVariants as type
use Rattle.c_nodes.specs.declared.tree.CResult.{CResult}
use Rattle.c_nodes.specs.declared.tree.CResult.TheVariants as of_function
use Rattle.c_nodes.specs.declared.tree.CParameter.{CParameter}
use Rattle.c_nodes.specs.declared.tree.CParameter.TheVariants.{Value, Pointer}
use Rattle.c_nodes.specs.declared.tree.CObject.{CObject}
use Rattle.c_nodes.specs.declared.tree.CObject.TheVariants.{Single, Array}
use Rattle.c_nodes.specs.declared.tree.CBinary.{CBinary}
use Rattle.c_nodes.specs.declared.tree.CBinary.TheVariants.{Add, Subtract, Multiply, Divide, Remainder, Less, AtMost, Equal, Differ, And, Or}
use Rattle.c_nodes.specs.declared.tree.CExpr.{CExpr}
use Rattle.c_nodes.specs.declared.tree.CExpr.TheOpen.{CExpr-F}
use Rattle.c_nodes.specs.declared.tree.CExpr.TheFolds.{fold-CExpr}
use Rattle.c_nodes.specs.declared.tree.CStmt.{CStmt}
use Rattle.c_nodes.specs.declared.tree.CStmt.TheOpen.{CStmt-F}
use Rattle.c_nodes.specs.declared.tree.CStmt.TheFolds.{fold-CStmt}
use Rattle.c_nodes.specs.declared.tree.CItem.{CItem}
use Rattle.c_nodes.specs.declared.tree.CItem.TheVariants.{Struct, Object, StaticObject, StaticPointer, Prototype, Function}
use Rattle.c_nodes.specs.declared.tree.CFile.{CFile}

abbrev pub type_text : CType → List ℕ
type_text Int64 = codes "int64_t"
type_text Int32 = codes "int32_t"
type_text Byte = codes "unsigned char"
type_text (type.Struct name) = joined (codes "struct " ∷ name ∷ [])

abbrev pub result_text : CResult → List ℕ
result_text of_function.Void = codes "void"
result_text of_function.Int64 = codes "int64_t"
result_text of_function.Int = codes "int"

-- an operator between the blanks around it
abbrev pub operator_text : CBinary → List ℕ
operator_text Add = codes " + "
operator_text Subtract = codes " - "
operator_text Multiply = codes " * "
operator_text Divide = codes " / "
operator_text Remainder = codes " % "
operator_text Less = codes " < "
operator_text AtMost = codes " <= "
operator_text Equal = codes " == "
operator_text Differ = codes " != "
operator_text And = codes " && "
operator_text Or = codes " || "

-- a constant of type `int64_t` (ISO/IEC 9899:1999, 7.18.4.1)
abbrev pub wide_text : ℕ → List ℕ
wide_text value = joined (codes "INT64_C(" ∷ decimal value ∷ codes ")" ∷ [])

-- a constant that an `int` of 32 bits holds is its digits alone
abbrev pub constant_text : ℕ → List ℕ
constant_text value = if nat_le value 2147483647 then decimal value else wide_text value

-- a printing character of ASCII that is no quote, no backslash and no question mark stands for itself
abbrev pub is_plain : ℕ → Bool
is_plain byte = nat_le 32 byte && nat_le byte 126 && not (byte == 34) && not (byte == 92) && not (byte == 63)

-- a byte in a literal: itself, or a backslash and three octal digits
abbrev pub byte_text : ℕ → List ℕ
byte_text byte = if is_plain byte then byte ∷ [] else 92 ∷ (48 + byte / 64) ∷ (48 + byte / 8 % 8) ∷ (48 + byte % 8) ∷ []

abbrev pub byte_texts : List ℕ → List (List ℕ)
byte_texts = map byte_text

-- a text behind a comma
abbrev pub behind_comma : List ℕ → List ℕ
behind_comma text = joined (codes ", " ∷ text ∷ [])

abbrev pub behind_commas : List (List ℕ) → List (List ℕ)
behind_commas = map behind_comma

-- texts, with commas between them
abbrev pub separated : List (List ℕ) → List (List ℕ)
separated [] = []
separated (text ∷ texts) = text ∷ behind_commas texts

abbrev pub listed : List (List ℕ) → List ℕ
listed texts = joined (separated texts)

abbrev pub literal_text : List ℕ → List ℕ
literal_text bytes = joined (codes "(unsigned char *)\"" ∷ joined (byte_texts bytes) ∷ codes "\"" ∷ [])

abbrev pub subscript_text : List ℕ → List ℕ
subscript_text subscript = joined (codes "[" ∷ subscript ∷ codes "]" ∷ [])

abbrev pub member_text : List ℕ → List ℕ
member_text name = joined (codes "." ∷ name ∷ [])

abbrev pub cast_text : CType → List ℕ → List ℕ
cast_text kind operand = joined (codes "(" ∷ type_text kind ∷ codes ")" ∷ operand ∷ [])

-- one shape of an expression, with the texts of its parts
abbrev pub expr_layer : CExpr-F (List ℕ) → List ℕ
expr_layer (CExpr-F.Variable name) = name
expr_layer (CExpr-F.Index base subscript) = joined (base ∷ subscript_text subscript ∷ [])
expr_layer (CExpr-F.Member base name) = joined (base ∷ member_text name ∷ [])
expr_layer (CExpr-F.Constant value) = constant_text value
expr_layer CExpr-F.Greatest = codes "INT64_MAX"
expr_layer CExpr-F.Least = codes "INT64_MIN"
expr_layer (CExpr-F.Paren inner) = joined (joined (codes "(" ∷ inner ∷ []) ∷ codes ")" ∷ [])
expr_layer (CExpr-F.Negate operand) = joined (codes "-" ∷ operand ∷ [])
expr_layer (CExpr-F.Not operand) = joined (codes "!" ∷ operand ∷ [])
expr_layer (CExpr-F.Binary operator left right) = joined (left ∷ operator_text operator ∷ right ∷ [])
expr_layer (CExpr-F.Cast kind operand) = cast_text kind operand
expr_layer (CExpr-F.ToInt operand) = joined (codes "(int)" ∷ operand ∷ [])
expr_layer (CExpr-F.Address place) = joined (codes "&" ∷ place ∷ [])
expr_layer (CExpr-F.Literal bytes) = literal_text bytes

abbrev pub expr_text : CExpr → List ℕ
expr_text = fold-CExpr (List ℕ) expr_layer

abbrev pub expr_texts : List CExpr → List (List ℕ)
expr_texts = map expr_text

-- a type and a name, as of a variable or a parameter
abbrev pub declared_text : CType → List ℕ → List ℕ
declared_text kind name = joined (type_text kind ∷ codes " " ∷ name ∷ [])

abbrev pub pointer_text : CType → List ℕ → List ℕ
pointer_text kind name = joined (type_text kind ∷ codes " *" ∷ name ∷ [])

abbrev pub call_text : List ℕ → List CExpr → List ℕ
call_text callee arguments = joined (callee ∷ codes "(" ∷ listed (expr_texts arguments) ∷ codes ")" ∷ [])

-- what is stored, up to the end of the line
abbrev pub stored_text : CExpr → List ℕ
stored_text value = joined (codes " = " ∷ expr_text value ∷ codes ";\n" ∷ [])

abbrev pub received_text : List ℕ → List CExpr → List ℕ
received_text callee arguments = joined (codes " = " ∷ call_text callee arguments ∷ codes ";\n" ∷ [])

abbrev pub array_text : CType → List ℕ → CExpr → List ℕ
array_text kind name size = joined (declared_text kind name ∷ codes "[" ∷ expr_text size ∷ codes "];\n" ∷ [])

abbrev pub returned_text : CExpr → List ℕ
returned_text value = joined (codes "return " ∷ expr_text value ∷ codes ";\n" ∷ [])

abbrev pub returned_call_text : List ℕ → List CExpr → List ℕ
returned_call_text callee arguments = joined (codes "return " ∷ call_text callee arguments ∷ codes ";\n" ∷ [])

abbrev pub plain_text : CType → List ℕ → List ℕ
plain_text kind name = joined (declared_text kind name ∷ codes ";\n" ∷ [])

abbrev pub initialized_text : CType → List ℕ → CExpr → List ℕ
initialized_text kind name value = joined (declared_text kind name ∷ stored_text value ∷ [])

abbrev pub initialized_pointer_text : CType → List ℕ → CExpr → List ℕ
initialized_pointer_text kind name value = joined (pointer_text kind name ∷ stored_text value ∷ [])

abbrev pub initialized_by_text : CType → List ℕ → List ℕ → List CExpr → List ℕ
initialized_by_text kind name callee arguments = joined (declared_text kind name ∷ received_text callee arguments ∷ [])

abbrev pub assigned_text : CExpr → CExpr → List ℕ
assigned_text target value = joined (expr_text target ∷ stored_text value ∷ [])

abbrev pub assigned_by_text : CExpr → List ℕ → List CExpr → List ℕ
assigned_by_text target callee arguments = joined (expr_text target ∷ received_text callee arguments ∷ [])

abbrev pub called_text : List ℕ → List CExpr → List ℕ
called_text callee arguments = joined (call_text callee arguments ∷ codes ";\n" ∷ [])

abbrev pub goto_text : List ℕ → List ℕ
goto_text label = joined (codes "goto " ∷ label ∷ codes ";\n" ∷ [])

-- a label before an empty statement
abbrev pub label_text : List ℕ → List ℕ
label_text name = joined (name ∷ codes ": ;\n" ∷ [])

-- a word, a condition behind it, and the brace that opens a block
abbrev pub opened_text : List ℕ → CExpr → List ℕ
opened_text word test = joined (word ∷ expr_text test ∷ codes ") {\n" ∷ [])

-- the lines of a block, and the brace that closes it
abbrev pub closed_text : List (List ℕ) → List ℕ
closed_text body = joined (joined body ∷ codes "}\n" ∷ [])

-- a block behind a word and a condition
abbrev pub guarded_text : List ℕ → CExpr → List (List ℕ) → List ℕ
guarded_text word test body = joined (opened_text word test ∷ closed_text body ∷ [])

abbrev pub else_text : List (List ℕ) → List ℕ
else_text body = joined (codes "} else {\n" ∷ closed_text body ∷ [])

-- one shape of a statement, with the texts of the statements in it
abbrev pub stmt_layer : CStmt-F (List ℕ) → List ℕ
stmt_layer (CStmt-F.Declare kind name) = plain_text kind name
stmt_layer (CStmt-F.DeclareArray kind name size) = array_text kind name size
stmt_layer (CStmt-F.DeclareValue kind name value) = initialized_text kind name value
stmt_layer (CStmt-F.DeclarePointer kind name value) = initialized_pointer_text kind name value
stmt_layer (CStmt-F.DeclareCall kind name callee arguments) = initialized_by_text kind name callee arguments
stmt_layer (CStmt-F.Assign target value) = assigned_text target value
stmt_layer (CStmt-F.AssignCall target callee arguments) = assigned_by_text target callee arguments
stmt_layer (CStmt-F.Call callee arguments) = called_text callee arguments
stmt_layer CStmt-F.Return = codes "return;\n"
stmt_layer (CStmt-F.ReturnValue value) = returned_text value
stmt_layer (CStmt-F.ReturnCall callee arguments) = returned_call_text callee arguments
stmt_layer (CStmt-F.Goto label) = goto_text label
stmt_layer (CStmt-F.Label name) = label_text name
stmt_layer (CStmt-F.Block body) = joined (codes "{\n" ∷ closed_text body ∷ [])
stmt_layer (CStmt-F.While test body) = guarded_text (codes "while (") test body
stmt_layer (CStmt-F.If test then_body) = guarded_text (codes "if (") test then_body
stmt_layer (CStmt-F.IfElse test then_body else_body) = joined (opened_text (codes "if (") test ∷ joined then_body ∷ else_text else_body ∷ [])

abbrev pub stmt_text : CStmt → List ℕ
stmt_text = fold-CStmt (List ℕ) stmt_layer

abbrev pub stmt_texts : List CStmt → List (List ℕ)
stmt_texts = map stmt_text

abbrev pub parameter_text : CParameter → List ℕ
parameter_text (Value kind name) = declared_text kind name
parameter_text (Pointer kind name) = pointer_text kind name

abbrev pub parameter_texts : List CParameter → List (List ℕ)
parameter_texts = map parameter_text

abbrev pub enclosed_text : List CParameter → List ℕ
enclosed_text parameters = joined (codes "(" ∷ listed (parameter_texts parameters) ∷ codes ")" ∷ [])

-- a function without parameters has the word void in their place
abbrev pub parameters_text : List CParameter → List ℕ
parameters_text [] = codes "(void)"
parameters_text (parameter ∷ parameters) = enclosed_text (parameter ∷ parameters)

-- what a prototype and a definition have in common
abbrev pub head_text : CResult → List ℕ → List CParameter → List ℕ
head_text result name parameters = joined (result_text result ∷ codes " " ∷ name ∷ parameters_text parameters ∷ [])

abbrev pub static_text : Bool → List ℕ
static_text true = codes "static "
static_text false = joined []

-- an array of constant size
abbrev pub sized_text : CType → List ℕ → ℕ → List ℕ
sized_text kind name size = joined (declared_text kind name ∷ codes "[" ∷ constant_text size ∷ codes "];\n" ∷ [])

-- the line of a member, or of an object outside functions
abbrev pub object_text : CObject → List ℕ
object_text (Single kind name) = plain_text kind name
object_text (Array kind name size) = sized_text kind name size

abbrev pub object_texts : List CObject → List (List ℕ)
object_texts = map object_text

abbrev pub extern_text : Bool → List ℕ
extern_text true = codes "extern "
extern_text false = joined []

abbrev pub structure_text : List ℕ → List CObject → List ℕ
structure_text name members = joined (codes "struct " ∷ name ∷ codes " {\n" ∷ joined (object_texts members) ∷ codes "};\n" ∷ [])

abbrev pub static_pointer_text : CType → List ℕ → List ℕ
static_pointer_text kind name = joined (codes "static " ∷ pointer_text kind name ∷ codes ";\n" ∷ [])

abbrev pub item_text : CItem → List ℕ
item_text (Struct name members) = structure_text name members
item_text (Object is_extern object) = joined (extern_text is_extern ∷ object_text object ∷ [])
item_text (StaticObject kind name) = joined (codes "static " ∷ plain_text kind name ∷ [])
item_text (StaticPointer kind name) = static_pointer_text kind name
item_text (Prototype result name parameters) = joined (head_text result name parameters ∷ codes ";\n" ∷ [])
item_text (Function is_static result name parameters body) = joined (static_text is_static ∷ head_text result name parameters ∷ codes " {\n" ∷ closed_text (stmt_texts body) ∷ [])

abbrev pub item_texts : List CItem → List (List ℕ)
item_texts = map item_text

-- the headers that each file includes (ISO/IEC 9899:1999, 6.10.2)
abbrev pub headers_text : List ℕ
headers_text = codes "#include <stdint.h>\n#include <stdio.h>\n#include <stdlib.h>\n"

abbrev pub file_text : CFile → List ℕ
file_text file = joined (headers_text ∷ joined (item_texts file.items) ∷ [])
